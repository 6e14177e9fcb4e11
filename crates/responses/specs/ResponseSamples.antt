-- Responses as bytes written out by hand: the answers that they are written from and that reading them leaves, and why others are refused.
use Rattle.std.specs.Prelude.{◌≡◌, List, [], ◌∷◌, ◌++◌, ℕ, ◌+◌, ◌*◌, ◌^◌, length}
use Rattle.rules.specs.Reply.{Row}
use Rattle.rules.specs.Refusals.{verdict_number}
use Rattle.formats.specs.Format.{found}
use Rattle.aper.specs.Elements.{Element}
use Rattle.wire.specs.Frame.{Frame}
use Rattle.wire.specs.Cells.{Entry, listed}
use Rattle.wire.specs.MessageTree.{transaction, cells, Elements, message}
use Rattle.wire.specs.CancelSamples.{again}
use Rattle.wire.specs.declared.Message.{Message}
use Rattle.wire.specs.declared.Message.TheVariants.{CancelResponse, WriteReplaceResponse}
use Rattle.responses.specs.Response.{response_bytes, response_verdict, response_written}
use Rattle.responses.specs.ResponseSize.{response_size}
use Rattle.responses.specs.ResponseRead.{read_verdict, response_read}

-- ---- messages as bytes

-- one whose length and number of elements are below 128
abbrev outcome : (code length count : ℕ) → List ℕ → List ℕ
outcome code length count es = 0x40 ∷ code ∷ 0x00 ∷ length ∷ 0x00 ∷ 0x00 ∷ count ∷ es

abbrev numbered : ℕ → List ℕ
numbered t = 0x00 ∷ 0x4e ∷ 0x00 ∷ 0x02 ∷ 0x00 ∷ t ∷ []

-- an item by the byte that tells its cell, with its count
abbrev stopped : (cell high low : ℕ) → List ℕ
stopped cell high low = 0x00 ∷ 0x97 ∷ 0x00 ∷ 0x0b ∷ 0x00 ∷ 0x00 ∷ 0xf1 ∷ 0x10 ∷ 0x00 ∷ 0x00 ∷ 0x00 ∷ cell ∷ 0x00 ∷ high ∷ low ∷ []

abbrev started : ℕ → List ℕ
started cell = 0x00 ∷ 0x93 ∷ 0x00 ∷ 0x09 ∷ 0x00 ∷ 0x00 ∷ 0xf1 ∷ 0x10 ∷ 0x00 ∷ 0x00 ∷ 0x00 ∷ cell ∷ 0x00 ∷ []

-- a list's head: its length, and its number of items less one
abbrev stops : (length more : ℕ) → List ℕ
stops length more = 0x00 ∷ 0x96 ∷ 0x00 ∷ length ∷ 0x00 ∷ more ∷ []

abbrev starts : (length more : ℕ) → List ℕ
starts length more = 0x00 ∷ 0x92 ∷ 0x00 ∷ length ∷ 0x00 ∷ more ∷ []

-- ---- answers as bytes

abbrev answer : (kind : ℕ) (names : List ℕ) (rows : ℕ) → List ℕ → List ℕ
answer kind names rows ws = 0x50 ∷ 0x57 ∷ 0x41 ∷ 0x00 ∷ 0x01 ∷ kind ∷ (names ++ (0x00 ∷ rows ∷ ws))

abbrev named : List ℕ
named = 0x11 ∷ 0x12 ∷ 0x00 ∷ 0x10 ∷ []

abbrev unnamed : List ℕ
unnamed = 0x00 ∷ 0x00 ∷ 0x00 ∷ 0x00 ∷ []

abbrev row : (cell high low : ℕ) → List ℕ
row cell high low = 0x00 ∷ 0x0f ∷ 0x11 ∷ 0x00 ∷ 0x00 ∷ 0x00 ∷ 0x00 ∷ cell ∷ high ∷ low ∷ 0x00 ∷ 0x00 ∷ 0x00 ∷ 0x00 ∷ []

-- ---- both ways

abbrev one : {C : Type 0} → ℕ → C → Element C
one id c = record { id = id; criticality = 0; contents = c }

abbrev entry : (id cell count : ℕ) → Element Entry
entry id cell count = one id (listed (record { plmn = 0x00f110; cell = cell; cell_extensions = []; count = count; extensions = [] }))

abbrev spare : List ℕ
spare = 0xff ∷ 0xff ∷ []

-- a buffer with two bytes to spare
abbrev room : List ℕ → List ℕ
room xs = again (length xs + 2) (0xff ∷ [])

-- the tree from the bytes and the bytes from the tree; the message from an answer with names, and the answer without them from the message
abbrev pub Trip : (m : Message) (code kind : ℕ) (b : List ℕ) (es : Elements) (rows : ℕ) → List ℕ → Type 0
Trip m code kind b es rows ws =
    let tree : Frame Elements = record { choice = 1; code = code; criticality = 0; value = es } in
    let back = answer kind unnamed rows ws in
    ((message m).parse b ≡ found tree [])
    × ((message m).encode tree ≡ b)
    × (response_written (answer kind named rows ws) 7 (room b) ≡ record { number = 0; length = length b; buffer = b ++ spare })
    × (response_read b (room back) ≡ record { number = 0; transaction = 7; length = length back; buffer = back ++ spare })

-- PWS CANCEL RESPONSE without a list, and with two cells
abbrev pub r1 : List ℕ
r1 = outcome 0x15 0x09 1 (numbered 7)

abbrev pub r2 : List ℕ
r2 = outcome 0x15 0x2d 2 (numbered 7 ++ (stops 0x20 1 ++ (stopped 1 0x00 0x02 ++ stopped 2 0xff 0xff)))

-- WRITE-REPLACE WARNING RESPONSE without a list, and with one cell
abbrev pub r3 : List ℕ
r3 = outcome 0x14 0x09 1 (numbered 7)

abbrev pub r4 : List ℕ
r4 = outcome 0x14 0x1c 2 (numbered 7 ++ (starts 0x0f 0 ++ started 1))

-- 512 rows: lengths in two bytes
abbrev told : ℕ → Row
told count = record { identity = 0x00f110 * 2 ^ 36 + 0x10; count = count; content = 0 }

abbrev most : (m : Message) (count : ℕ) → List ℕ
most m count = response_bytes m 7 (again 512 (told count ∷ []))

-- ---- refusals

-- the number that a message gets, with room for 512 rows
abbrev pub refusal : List ℕ → ℕ
refusal b = verdict_number (read_verdict b 7180)

-- and that an answer gets, with room for them too
abbrev pub unsent : List ℕ → ℕ
unsent b = verdict_number (response_verdict b 7 7701)

pub record ResponseSamples : Type 0 where
  pub stopped_nowhere : Trip CancelResponse 21 2 r1 (one 78 (transaction 7) ∷ []) 0 []
  pub stopped-twice : Trip CancelResponse 21 2 r2 (one 78 (transaction 7) ∷ one 150 (cells (entry 151 0x10 2 ∷ entry 151 0x20 65535 ∷ [])) ∷ []) 2 (row 0x10 0x00 0x02 ++ row 0x20 0xff 0xff)
  pub started_nowhere : Trip WriteReplaceResponse 20 1 r3 (one 78 (transaction 7) ∷ []) 0 []
  pub started_once : Trip WriteReplaceResponse 20 1 r4 (one 78 (transaction 7) ∷ one 146 (cells (entry 147 0x10 0 ∷ [])) ∷ []) 1 (row 0x10 0x00 0x00)
  pub most-stopped : most CancelResponse 2
      ≡ 0x40 ∷ 0x15 ∷ 0x00 ∷ 0x9e ∷ 0x10 ∷ 0x00 ∷ 0x00 ∷ 0x02 ∷ (numbered 7 ++ (0x00 ∷ 0x96 ∷ 0x00 ∷ 0x9e ∷ 0x02 ∷ 0x01 ∷ 0xff ∷ again 512 (stopped 1 0x00 0x02)))
  pub most-started : most WriteReplaceResponse 0
      ≡ 0x40 ∷ 0x14 ∷ 0x00 ∷ 0x9a ∷ 0x10 ∷ 0x00 ∷ 0x00 ∷ 0x02 ∷ (numbered 7 ++ (0x00 ∷ 0x92 ∷ 0x00 ∷ 0x9a ∷ 0x02 ∷ 0x01 ∷ 0xff ∷ again 512 (started 1)))
  pub sizes : response_size CancelResponse 512 ∷ response_size WriteReplaceResponse 512 ∷ response_size CancelResponse 0 ∷ response_size WriteReplaceResponse 1 ∷ [] ≡ 7701 ∷ 6677 ∷ 13 ∷ 32 ∷ []
  -- skipped: diagnostics behind the transaction identifier and before it, the dedicated list, and the list of the other response
  pub diagnostics : refusal (outcome 0x15 0x0e 2 (numbered 7 ++ (0x00 ∷ 0x07 ∷ 0x40 ∷ 0x01 ∷ 0x00 ∷ []))) ≡ 0
  pub diagnostics-first : refusal (outcome 0x14 0x0e 2 (0x00 ∷ 0x07 ∷ 0x40 ∷ 0x01 ∷ 0x00 ∷ numbered 7)) ≡ 0
  pub dedicated : refusal (outcome 0x14 0x0e 2 (numbered 7 ++ (0x00 ∷ 0xbd ∷ 0x40 ∷ 0x01 ∷ 0x00 ∷ []))) ≡ 0
  pub other-list : response_read (outcome 0x15 0x0e 2 (numbered 9 ++ (0x00 ∷ 0x92 ∷ 0x80 ∷ 0x01 ∷ 0xff ∷ []))) (room (answer 2 unnamed 0 []))
      ≡ record { number = 0; transaction = 9; length = 12; buffer = answer 2 unnamed 0 [] ++ spare }
  -- 13: a padding bit, a byte behind, nothing at all; an item with a count where none is, and one without where one is
  pub padding : refusal (0x40 ∷ 0x15 ∷ 0x00 ∷ 0x09 ∷ 0x01 ∷ 0x00 ∷ 0x01 ∷ numbered 7) ≡ 13
  pub byte_behind : refusal (r4 ++ (0x00 ∷ [])) ≡ 13
  pub empty : refusal [] ≡ 13
  pub count-given : refusal (outcome 0x14 0x1e 2 (numbered 7 ++ (starts 0x11 0 ++ (0x00 ∷ 0x93 ∷ 0x00 ∷ 0x0b ∷ 0x00 ∷ 0x00 ∷ 0xf1 ∷ 0x10 ∷ 0x00 ∷ 0x00 ∷ 0x00 ∷ 0x01 ∷ 0x00 ∷ 0x00 ∷ 0x02 ∷ [])))) ≡ 13
  pub no-count : refusal (outcome 0x15 0x1c 2 (numbered 7 ++ (stops 0x0f 0 ++ (0x00 ∷ 0x97 ∷ 0x00 ∷ 0x09 ∷ 0x00 ∷ 0x00 ∷ 0xf1 ∷ 0x10 ∷ 0x00 ∷ 0x00 ∷ 0x00 ∷ 0x01 ∷ 0x00 ∷ [])))) ≡ 13
  -- 14: a request, an unsuccessful outcome, another procedure; the outer frame alone is judged
  pub request : refusal (0x00 ∷ 0x15 ∷ 0x00 ∷ 0x01 ∷ 0xff ∷ []) ≡ 14
  pub unsuccessful : refusal (0x80 ∷ 0x14 ∷ 0x00 ∷ 0x01 ∷ 0xff ∷ []) ≡ 14
  pub another : refusal (0x40 ∷ 0x16 ∷ 0x00 ∷ 0x01 ∷ 0xff ∷ []) ≡ 14
  -- 15: diagnostics and the list of the other response, marked reject
  pub rejected : refusal (outcome 0x15 0x0e 2 (numbered 7 ++ (0x00 ∷ 0x07 ∷ 0x00 ∷ 0x01 ∷ 0x00 ∷ []))) ≡ 15
  pub other-rejected : refusal (outcome 0x15 0x1c 2 (numbered 7 ++ (starts 0x0f 0 ++ started 1))) ≡ 15
  -- 16: no transaction identifier, the list before it or twice, an item that is not this list's
  pub no-transaction : refusal (outcome 0x14 0x03 0 []) ≡ 16
  pub out_of_order : refusal (outcome 0x14 0x1c 2 (starts 0x0f 0 ++ (started 1 ++ numbered 7))) ≡ 16
  pub list-twice : refusal (outcome 0x14 0x2f 3 (numbered 7 ++ (starts 0x0f 0 ++ (started 1 ++ (starts 0x0f 0 ++ started 2))))) ≡ 16
  pub foreign-item : refusal (outcome 0x15 0x14 2 (numbered 7 ++ (stops 0x07 0 ++ (0x00 ∷ 0x93 ∷ 0x40 ∷ 0x01 ∷ 0x00 ∷ [])))) ≡ 16
  -- 17: a cell twice, cells that descend; 16 comes before it
  pub cell-twice : refusal (outcome 0x14 0x29 2 (numbered 7 ++ (starts 0x1c 1 ++ (started 1 ++ started 1)))) ≡ 17
  pub descending : refusal (outcome 0x14 0x29 2 (numbered 7 ++ (starts 0x1c 1 ++ (started 2 ++ started 1)))) ≡ 17
  pub sixteen_first : refusal (outcome 0x14 0x23 1 (starts 0x1c 1 ++ (started 1 ++ started 1))) ≡ 16
  -- 8: one byte too few; 17 comes before it
  pub short : verdict_number (read_verdict r2 39) ≡ 8
  pub fits : verdict_number (read_verdict r2 40) ≡ 0
  pub seventeen_first : verdict_number (read_verdict (outcome 0x14 0x29 2 (numbered 7 ++ (starts 0x1c 1 ++ (started 1 ++ started 1)))) 0) ≡ 17
  pub left : response_read r2 (again 39 (0xff ∷ [])) ≡ record { number = 8; transaction = 0; length = 0; buffer = again 39 (0xff ∷ []) }
  -- 17, writing: each kind that is not wired and one that there is not, cells that descend, a cell twice
  pub wrong-kind : unsent (answer 3 named 0 []) ≡ 17
  pub failed : unsent (answer 4 named 0 []) ≡ 17
  pub one-second : unsent (answer 5 named 0 []) ≡ 17
  pub no_kind : unsent (answer 0 named 0 []) ≡ 17
  pub falling : unsent (answer 2 named 2 (row 0x20 0x00 0x00 ++ row 0x10 0x00 0x00)) ≡ 17
  pub row-twice : unsent (answer 2 named 2 (row 0x10 0x00 0x00 ++ row 0x10 0x00 0x01)) ≡ 17
  -- a count of a text that starts, contents, an NR CGI of 2^60, a row fewer than the head says
  pub start-counted : unsent (answer 1 named 1 (row 0x10 0x00 0x01)) ≡ 17
  pub with-contents : unsent (answer 2 named 1 (0x00 ∷ 0x0f ∷ 0x11 ∷ 0x00 ∷ 0x00 ∷ 0x00 ∷ 0x00 ∷ 0x10 ∷ 0x00 ∷ 0x00 ∷ 0x00 ∷ 0x00 ∷ 0x00 ∷ 0x01 ∷ [])) ≡ 17
  pub no_cell : unsent (answer 2 named 1 (0x10 ∷ 0x00 ∷ 0x00 ∷ 0x00 ∷ 0x00 ∷ 0x00 ∷ 0x00 ∷ 0x00 ∷ 0x00 ∷ 0x00 ∷ 0x00 ∷ 0x00 ∷ 0x00 ∷ 0x00 ∷ [])) ≡ 17
  pub row_missing : unsent (answer 2 named 2 (row 0x10 0x00 0x00)) ≡ 17
  pub nothing : unsent [] ≡ 17
  -- 8, writing: one byte too few; 17 comes before it
  pub short-message : verdict_number (response_verdict (answer 1 named 1 (row 0x10 0x00 0x00)) 7 31) ≡ 8
  pub message-fits : verdict_number (response_verdict (answer 1 named 1 (row 0x10 0x00 0x00)) 7 32) ≡ 0
  pub wrong_first : verdict_number (response_verdict (answer 3 named 0 []) 7 0) ≡ 17
  pub unwritten : response_written (answer 3 named 0 []) 7 spare ≡ record { number = 17; length = 0; buffer = spare }
