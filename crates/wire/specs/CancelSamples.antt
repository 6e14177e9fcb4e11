-- Messages as bytes written out by hand: what is read in them, and why others are refused.
use Rattle.std.specs.Prelude.{◌≡◌, true, List, [], ◌∷◌, ◌++◌, ℕ, suc, zero, ◌+◌, ◌*◌, ◌^◌, Ok}
use Rattle.rules.specs.Reply.{Row}
use Rattle.rules.specs.Refusals.{verdict_number}
use Rattle.formats.specs.Format.{found}
use Rattle.aper.specs.Elements.{Element}
use Rattle.wire.specs.Frame.{Frame}
use Rattle.wire.specs.Cells.{Entry, listed}
use Rattle.wire.specs.MessageTree as tree
use Rattle.wire.specs.MessageTree.{transaction, requested, cells, cancel_all, notification, other, Elements}
use Rattle.wire.specs.MessageSaid.{said}
use Rattle.wire.specs.MessagePromises.{bare}
use Rattle.wire.specs.CancelRead.{cancel_verdict, cancel_read}
use Rattle.wire.specs.declared.Message.TheVariants.{CancelRequest}

abbrev one : {C : Type 0} → ℕ → ℕ → C → Element C
one id criticality c = record { id = id; criticality = criticality; contents = c }

abbrev whole : Elements → Frame Elements
whole es = record { choice = 0; code = 21; criticality = 0; value = es }

-- ---- elements as bytes

abbrev transaction7 : List ℕ
transaction7 = 0x00 ∷ 0x4e ∷ 0x00 ∷ 0x02 ∷ 0x00 ∷ 0x07 ∷ []

abbrev requested0 : List ℕ
requested0 = 0x00 ∷ 0x8e ∷ 0x00 ∷ 0x02 ∷ 0x00 ∷ 0x00 ∷ []

abbrev indicator : List ℕ
indicator = 0x00 ∷ 0x9d ∷ 0x00 ∷ 0x01 ∷ 0x00 ∷ []

abbrev note1112 : List ℕ
note1112 = 0x00 ∷ 0xdc ∷ 0x00 ∷ 0x05 ∷ 0x04 ∷ 0x44 ∷ 0x80 ∷ 0x04 ∷ 0x00 ∷ []

abbrev cell : ℕ → List ℕ
cell n = 0x00 ∷ 0x95 ∷ 0x00 ∷ 0x09 ∷ 0x00 ∷ 0x00 ∷ 0xf1 ∷ 0x10 ∷ 0x00 ∷ 0x00 ∷ 0x00 ∷ n ∷ 0x00 ∷ []

-- a message whose length and number of elements are below 128
abbrev message : ℕ → ℕ → List ℕ → List ℕ
message length count es = 0x00 ∷ 0x15 ∷ 0x00 ∷ length ∷ 0x00 ∷ 0x00 ∷ count ∷ es

abbrev pub opening : List ℕ
opening = transaction7 ++ requested0

-- ---- cancel-all, nothing else

abbrev pub c1 : List ℕ
c1 = message 0x14 3 (opening ++ indicator)

abbrev pub t1 : Elements
t1 = one 78 0 (transaction 7) ∷ one 142 0 (requested 0) ∷ one 157 0 cancel_all ∷ []

-- a notification
abbrev pub c2 : List ℕ
c2 = message 0x18 3 (opening ++ note1112)

abbrev pub t2 : Elements
t2 = one 78 0 (transaction 7) ∷ one 142 0 (requested 0) ∷ one 220 0 (notification (record { identifier = 0x1112; serial = 0x0010; extensions = [] })) ∷ []

-- a list of one cell, cancel-all
abbrev pub c3 : List ℕ
c3 = message 0x27 4 (opening ++ (0x00 ∷ 0x94 ∷ 0x00 ∷ 0x0f ∷ 0x00 ∷ 0x00 ∷ (cell 1 ++ indicator)))

abbrev plain : ℕ → Element Entry
plain n = one 149 0 (listed (record { plmn = 0x00f110; cell = n; cell_extensions = []; count = 0; extensions = [] }))

abbrev pub t3 : Elements
t3 = one 78 0 (transaction 7) ∷ one 142 0 (requested 0) ∷ one 148 0 (cells (plain 0x10 ∷ [])) ∷ one 157 0 cancel_all ∷ []

-- a list of two cells, both indicators
abbrev pub c4 : List ℕ
c4 = message 0x3d 5 (opening ++ (0x00 ∷ 0x94 ∷ 0x00 ∷ 0x1c ∷ 0x00 ∷ 0x01 ∷ (cell 1 ++ (cell 2 ++ (indicator ++ note1112)))))

abbrev pub t4 : Elements
t4 =
    one 78 0 (transaction 7) ∷ one 142 0 (requested 0) ∷ one 148 0 (cells (plain 0x10 ∷ plain 0x20 ∷ [])) ∷ one 157 0 cancel_all
    ∷ one 220 0 (notification (record { identifier = 0x1112; serial = 0x0010; extensions = [] })) ∷ []

-- 512 cells: lengths in two bytes
unfoldable pub again : {A : Type 0} → ℕ → List A → List A
again zero xs = []
again (suc n) xs = xs ++ again n xs

abbrev pub c5 : List ℕ
c5 = 0x00 ∷ 0x15 ∷ 0x00 ∷ 0x9a ∷ 0x1b ∷ 0x00 ∷ 0x00 ∷ 0x04 ∷ (opening ++ (0x00 ∷ 0x94 ∷ 0x00 ∷ 0x9a ∷ 0x02 ∷ 0x01 ∷ 0xff ∷ (again 512 (cell 1) ++ indicator)))

abbrev pub t5 : Elements
t5 = one 78 0 (transaction 7) ∷ one 142 0 (requested 0) ∷ one 148 0 (cells (again 512 (plain 0x10 ∷ []))) ∷ one 157 0 cancel_all ∷ []

-- unknown elements marked ignore and notify
abbrev pub c6 : List ℕ
c6 = message 0x1f 5 (0x03 ∷ 0xe7 ∷ 0x40 ∷ 0x02 ∷ 0x01 ∷ 0x02 ∷ (opening ++ (0xff ∷ 0xff ∷ 0x80 ∷ 0x01 ∷ 0x00 ∷ indicator)))

abbrev pub t6 : Elements
t6 = one 999 1 (other (1 ∷ 2 ∷ [])) ∷ one 78 0 (transaction 7) ∷ one 142 0 (requested 0) ∷ one 65535 2 (other (0 ∷ [])) ∷ one 157 0 cancel_all ∷ []

-- unknown extensions of an item, of its NR CGI and of a notification
abbrev pub c8 : List ℕ
c8 =
    message 0x41 4 (opening ++ (0x00 ∷ 0x94 ∷ 0x00 ∷ 0x1e ∷ 0x00 ∷ 0x00
    ∷ 0x00 ∷ 0x95 ∷ 0x00 ∷ 0x18 ∷ 0x50 ∷ 0x00 ∷ 0xf1 ∷ 0x10 ∷ 0x00 ∷ 0x00 ∷ 0x00 ∷ 0x01 ∷ 0x00
    ∷ 0x00 ∷ 0x00 ∷ 0x01 ∷ 0xf5 ∷ 0x80 ∷ 0x02 ∷ 0xaa ∷ 0xbb ∷ 0x00 ∷ 0x00 ∷ 0x01 ∷ 0xf4 ∷ 0x40 ∷ 0x01 ∷ 0x55
    ∷ 0x00 ∷ 0xdc ∷ 0x00 ∷ 0x0c ∷ 0x44 ∷ 0x44 ∷ 0x80 ∷ 0x04 ∷ 0x00 ∷ 0x00 ∷ 0x00 ∷ 0x01 ∷ 0xf4 ∷ 0x40 ∷ 0x01 ∷ 0xff ∷ []))

abbrev pub t8 : Elements
t8 =
    one 78 0 (transaction 7) ∷ one 142 0 (requested 0)
    ∷ one 148 0 (cells (one 149 0 (listed (record { plmn = 0x00f110; cell = 0x10; cell_extensions = one 501 2 (0xaa ∷ 0xbb ∷ []) ∷ []; count = 0; extensions = one 500 1 (0x55 ∷ []) ∷ [] })) ∷ []))
    ∷ one 220 0 (notification (record { identifier = 0x1112; serial = 0x0010; extensions = one 500 1 (0xff ∷ []) ∷ [] })) ∷ []

-- an unknown extension marked reject; an item with it, in its own extensions or in those of its NR CGI, by its first byte
abbrev rejecting500 : List ℕ
rejecting500 = 0x00 ∷ 0x00 ∷ 0x01 ∷ 0xf4 ∷ 0x00 ∷ 0x01 ∷ 0x55 ∷ []

abbrev extended_item : ℕ → List ℕ
extended_item flags = 0x00 ∷ 0x95 ∷ 0x00 ∷ 0x10 ∷ flags ∷ 0x00 ∷ 0xf1 ∷ 0x10 ∷ 0x00 ∷ 0x00 ∷ 0x00 ∷ 0x01 ∷ 0x00 ∷ rejecting500

-- two cells, both indicators, 772 broadcasts; and its record
abbrev pub counted : List ℕ
counted =
    message 0x3d 5 (transaction7 ++ (0x00 ∷ 0x8e ∷ 0x00 ∷ 0x02 ∷ 0x03 ∷ 0x04 ∷ 0x00 ∷ 0x94 ∷ 0x00 ∷ 0x1c ∷ 0x00 ∷ 0x01 ∷ (cell 1 ++ (cell 2 ++ (indicator ++ note1112)))))

abbrev pub counted_record : List ℕ
counted_record =
    0x50 ∷ 0x57 ∷ 0x52 ∷ 0x00 ∷ 0x02 ∷ 0x02 ∷ 0x06 ∷ 0x01 ∷ 0x11 ∷ 0x12 ∷ 0x00 ∷ 0x10 ∷ 0x00 ∷ 0x00 ∷ 0x00 ∷ 0x00 ∷ 0x00 ∷ 0x00 ∷ 0x00 ∷ 0x00 ∷ 0x03 ∷ 0x04 ∷ 0x00 ∷ 0x00 ∷ 0x00 ∷ 0x02
    ∷ 0x00 ∷ 0x0f ∷ 0x11 ∷ 0x00 ∷ 0x00 ∷ 0x00 ∷ 0x00 ∷ 0x10 ∷ 0x00 ∷ 0x0f ∷ 0x11 ∷ 0x00 ∷ 0x00 ∷ 0x00 ∷ 0x00 ∷ 0x20 ∷ []

abbrev pub Reads : List ℕ → Elements → Type 0
Reads b t = ((tree.message CancelRequest).parse b ≡ found (whole t) []) × ((tree.message CancelRequest).encode (whole t) ≡ b) × (cancel_verdict b 4122 ≡ Ok tt)

-- a cell of a list without counts
abbrev uncounted : ℕ → Row
uncounted n = record { identity = n; count = 0; content = 0 }

-- the number that a message gets
abbrev pub refusal : List ℕ → ℕ
refusal b = verdict_number (cancel_verdict b 4122)

pub record CancelSamples : Type 0 where
  pub minimal : Reads c1 t1
  pub noted : Reads c2 t2
  pub one_cell : Reads c3 t3
  pub two_cells : Reads c4 t4
  pub most-cells : Reads c5 t5
  pub unknown : Reads c6 t6
  pub extended : Reads c8 t8
  pub same : said t6 ≡ said t1
  pub bare-same : bare t6 ≡ bare t1
  pub told : said t4 ≡ record { transaction = 7; requested = 0; cells = uncounted (0xf110 * 2 ^ 36 + 0x10) ∷ uncounted (0xf110 * 2 ^ 36 + 0x20) ∷ []; cancels_all = true; notifies = true; identifier = 0x1112; serial = 0x0010 }
  -- 13: the padding and the extension bit of the message, of an element, of an indicator; a byte behind, a byte too few
  pub padding : refusal (0x00 ∷ 0x15 ∷ 0x00 ∷ 0x14 ∷ 0x01 ∷ 0x00 ∷ 0x03 ∷ (opening ++ indicator)) ≡ 13
  pub extension_bit : refusal (message 0x14 3 (opening ++ (0x00 ∷ 0x9d ∷ 0x00 ∷ 0x01 ∷ 0x80 ∷ []))) ≡ 13
  pub known-padding : refusal (message 0x14 3 (opening ++ (0x00 ∷ 0x9d ∷ 0x01 ∷ 0x01 ∷ 0x00 ∷ []))) ≡ 13
  pub byte_behind : refusal (c1 ++ (0x00 ∷ [])) ≡ 13
  pub element-behind : refusal (message 0x19 3 (opening ++ (indicator ++ indicator))) ≡ 13
  pub cut_short : refusal (message 0x14 3 opening) ≡ 13
  pub empty : refusal [] ≡ 13
  -- 13: a length below 128 in two bytes, a fragmented one, an empty value; criticality 3 in the frame and in an unknown element; 513 cells
  pub not_shortest : refusal (0x00 ∷ 0x14 ∷ 0x00 ∷ 0x80 ∷ 0x01 ∷ 0xff ∷ []) ≡ 13
  pub fragmented : refusal (0x00 ∷ 0x14 ∷ 0x00 ∷ 0xc1 ∷ 0xff ∷ []) ≡ 13
  pub no_value : refusal (0x00 ∷ 0x14 ∷ 0x00 ∷ 0x00 ∷ []) ≡ 13
  pub frame-criticality : refusal (0x00 ∷ 0x15 ∷ 0xc0 ∷ 0x14 ∷ 0x00 ∷ 0x00 ∷ 0x03 ∷ (opening ++ indicator)) ≡ 13
  pub no-criticality : refusal (message 0x19 4 (opening ++ (0x03 ∷ 0xe7 ∷ 0xc0 ∷ 0x01 ∷ 0x00 ∷ indicator))) ≡ 13
  pub too_many : refusal (message 0x22 3 (opening ++ (0x00 ∷ 0x94 ∷ 0x00 ∷ 0x0f ∷ 0x02 ∷ 0x00 ∷ cell 1))) ≡ 13
  -- a known element's criticality is not read, 3 is taken too; the frame may be marked notify
  pub criticality-unread : refusal (message 0x14 3 (opening ++ (0x00 ∷ 0x9d ∷ 0xc0 ∷ 0x01 ∷ 0x00 ∷ []))) ≡ 0
  pub frame_notify : refusal (0x00 ∷ 0x15 ∷ 0x80 ∷ 0x14 ∷ 0x00 ∷ 0x00 ∷ 0x03 ∷ (opening ++ indicator)) ≡ 0
  -- 14: another procedure, another choice, a choice-extension with its two bytes; the outer frame alone is judged
  pub another : refusal (0x00 ∷ 0x14 ∷ 0x00 ∷ 0x01 ∷ 0xff ∷ []) ≡ 14
  pub outcome : refusal (0x40 ∷ 0x15 ∷ 0x00 ∷ 0x01 ∷ 0xff ∷ []) ≡ 14
  pub extension : refusal (0xc0 ∷ 0x00 ∷ 0x15 ∷ 0x00 ∷ 0x01 ∷ 0xff ∷ []) ≡ 14
  -- 15: an unknown element marked reject, in the message, as an item and in an item's extensions; a padding bit behind it is lower
  pub rejected : refusal (message 0x08 1 (0x03 ∷ 0xe7 ∷ 0x00 ∷ 0x01 ∷ 0x00 ∷ [])) ≡ 15
  pub rejected-item : refusal (message 0x1a 3 (opening ++ (0x00 ∷ 0x94 ∷ 0x00 ∷ 0x07 ∷ 0x00 ∷ 0x00 ∷ 0x00 ∷ 0x96 ∷ 0x00 ∷ 0x01 ∷ 0x00 ∷ []))) ≡ 15
  pub private_network : refusal (message 0x33 4 (opening ++ (0x00 ∷ 0x94 ∷ 0x00 ∷ 0x1b ∷ 0x00 ∷ 0x00 ∷ 0x00 ∷ 0x95 ∷ 0x00 ∷ 0x15 ∷ 0x40 ∷ 0x00 ∷ 0xf1 ∷ 0x10 ∷ 0x00 ∷ 0x00 ∷ 0x00 ∷ 0x01 ∷ 0x00
      ∷ 0x00 ∷ 0x00 ∷ 0x01 ∷ 0x81 ∷ 0x00 ∷ 0x06 ∷ 0x12 ∷ 0x34 ∷ 0x56 ∷ 0x78 ∷ 0x9a ∷ 0xb0 ∷ indicator))) ≡ 15
  pub lowest : refusal (message 0x0d 2 (0x03 ∷ 0xe7 ∷ 0x00 ∷ 0x01 ∷ 0x00 ∷ 0x00 ∷ 0x9d ∷ 0x01 ∷ 0x01 ∷ 0x00 ∷ [])) ≡ 13
  -- a byte behind the message is lower too, and so is another message's code
  pub behind-rejected : refusal (message 0x08 1 (0x03 ∷ 0xe7 ∷ 0x00 ∷ 0x01 ∷ 0x00 ∷ []) ++ (0x00 ∷ [])) ≡ 13
  pub another-rejected : refusal (0x00 ∷ 0x14 ∷ 0x00 ∷ 0x08 ∷ 0x00 ∷ 0x00 ∷ 0x01 ∷ 0x03 ∷ 0xe7 ∷ 0x00 ∷ 0x01 ∷ 0x00 ∷ []) ≡ 14
  -- in the extensions of a NR CGI and of a notification; in a list that comes twice, which is 16 otherwise
  pub rejected-identity : refusal (message 0x29 3 (opening ++ (0x00 ∷ 0x94 ∷ 0x00 ∷ 0x16 ∷ 0x00 ∷ 0x00 ∷ extended_item 0x10))) ≡ 15
  pub rejected-note : refusal (message 0x1f 3 (opening ++ (0x00 ∷ 0xdc ∷ 0x00 ∷ 0x0c ∷ 0x44 ∷ 0x44 ∷ 0x80 ∷ 0x04 ∷ 0x00 ∷ rejecting500))) ≡ 15
  pub rejected-twice : refusal (message 0x3c 4 (opening ++ (0x00 ∷ 0x94 ∷ 0x00 ∷ 0x0f ∷ 0x00 ∷ 0x00 ∷ (cell 1 ++ (0x00 ∷ 0x94 ∷ 0x00 ∷ 0x16 ∷ 0x00 ∷ 0x00 ∷ extended_item 0x40))))) ≡ 15
  pub list-twice : refusal (message 0x35 4 (opening ++ (0x00 ∷ 0x94 ∷ 0x00 ∷ 0x0f ∷ 0x00 ∷ 0x00 ∷ (cell 1 ++ (0x00 ∷ 0x94 ∷ 0x00 ∷ 0x0f ∷ 0x00 ∷ 0x00 ∷ cell 1))))) ≡ 16
  -- an id is known at its own place alone: an item's among the elements is skipped, an element's among the items is none
  pub item_elsewhere : refusal (message 0x19 4 (opening ++ (0x00 ∷ 0x95 ∷ 0x40 ∷ 0x01 ∷ 0x00 ∷ indicator))) ≡ 0
  pub element_elsewhere : refusal (message 0x20 4 (opening ++ (0x00 ∷ 0x94 ∷ 0x00 ∷ 0x08 ∷ 0x00 ∷ 0x00 ∷ 0x00 ∷ 0x4e ∷ 0x40 ∷ 0x02 ∷ 0x00 ∷ 0x07 ∷ indicator))) ≡ 16
  pub item-criticality-unread : refusal (message 0x27 4 (opening ++ (0x00 ∷ 0x94 ∷ 0x00 ∷ 0x0f ∷ 0x00 ∷ 0x00 ∷ 0x00 ∷ 0x95 ∷ 0xc0 ∷ 0x09 ∷ 0x00 ∷ 0x00 ∷ 0xf1 ∷ 0x10 ∷ 0x00 ∷ 0x00 ∷ 0x00 ∷ 0x01 ∷ 0x00 ∷ indicator))) ≡ 0
  -- 16: no element at all, one of the two missing, one twice, out of order, an item that is not a cell's
  pub none : refusal (message 0x03 0 []) ≡ 16
  pub no-transaction : refusal (message 0x0e 2 (requested0 ++ indicator)) ≡ 16
  pub no-request : refusal (message 0x0e 2 (transaction7 ++ indicator)) ≡ 16
  pub twice : refusal (message 0x19 4 (opening ++ (indicator ++ indicator))) ≡ 16
  pub out_of_order : refusal (message 0x14 3 (requested0 ++ (transaction7 ++ indicator))) ≡ 16
  pub foreign-item : refusal (message 0x1f 4 (opening ++ (0x00 ∷ 0x94 ∷ 0x00 ∷ 0x07 ∷ 0x00 ∷ 0x00 ∷ 0x00 ∷ 0x96 ∷ 0x40 ∷ 0x01 ∷ 0x00 ∷ indicator))) ≡ 16
  -- 7: neither indicator; 8: one byte too few
  pub neither : refusal (message 0x0f 2 opening) ≡ 7
  pub short : verdict_number (cancel_verdict c1 25) ≡ 8
  pub fits : verdict_number (cancel_verdict c1 26) ≡ 0
  -- 13 to 16 come before 7 and 8
  pub sixteen_first : verdict_number (cancel_verdict (message 0x03 0 []) 0) ≡ 16
  -- all that is left: the record of two cells, both indicators and 772 broadcasts, and two bytes behind it as they were
  pub left : cancel_read counted (again 44 (0xff ∷ [])) ≡ record { number = 0; transaction = 7; length = 42; buffer = counted_record ++ (0xff ∷ 0xff ∷ []) }
