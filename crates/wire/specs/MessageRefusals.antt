-- What a message is refused for: 13 to 16, each a test over the tree, the lowest over the whole message.
use Rattle.std.specs.Prelude.{Bool, true, false, cond, not, ◌&&◌, ◌||◌, List, [], ◌∷◌, map, ℕ, eqb}
use Rattle.rules.specs.Lists.{any, every, those, one_of, above}
use Rattle.rules.specs.Refusals.{Test, test, first_of, Verdict}
use Rattle.rules.specs.declared.Refusal.TheVariants.{BadEncoding, OtherMessage, UnknownElement, ElementsWrong}
use Rattle.formats.specs.Format.{Found, nothing, found}
use Rattle.aper.specs.Elements.{Element, marked}
use Rattle.wire.specs.Frame.{Frame, outer}
use Rattle.wire.specs.Messages.{choice_of, code_of, mandatory}
use Rattle.wire.specs.Cells.{Item, Entry, listed, foreign}
use Rattle.wire.specs.MessageTree.{Contents, transaction, requested, cells, cancel_all, notification, other, Elements, message}
use Rattle.wire.specs.declared.Message.{Message}

-- ---- which message it is: the outer frame says

abbrev pub is_of : {C : Type 0} → Message → Frame C → Bool
is_of m f = eqb f.choice (choice_of m) && eqb f.code (code_of m)

abbrev pub frames_of : Message → Found (Frame (List ℕ)) → Bool
frames_of m nothing = false
frames_of m (found f rest) = is_of m f

-- 14
unfoldable pub is_this : Message → List ℕ → Bool
is_this m b = frames_of m (outer.parse b)

-- ---- 13: bytes that are no encoding of any tree; of another message the outer frame alone is judged

abbrev pub whole : {A : Type 0} → Found A → Bool
whole nothing = false
whole (found a []) = true
whole (found a (b ∷ bs)) = false

unfoldable pub well_encoded : Message → List ℕ → Bool
well_encoded m b = cond (is_this m b) (whole ((message m).parse b)) (whole (outer.parse b))

-- the elements of a well-encoded message
abbrev pub value_in : Found (Frame Elements) → Elements
value_in nothing = []
value_in (found f rest) = f.value

unfoldable pub message_elements : Message → List ℕ → Elements
message_elements m b = value_in ((message m).parse b)

-- ---- 15: an unknown element marked reject, at whatever depth

abbrev pub rejecting_item : Item → Bool
rejecting_item i = any marked i.cell_extensions || any marked i.extensions

abbrev pub rejecting_entry : Element Entry → Entry → Bool
rejecting_entry e (listed i) = rejecting_item i
rejecting_entry e (foreign s) = marked e

abbrev pub rejects_entry : Element Entry → Bool
rejects_entry e = rejecting_entry e e.contents

abbrev pub rejecting_contents : Element Contents → Contents → Bool
rejecting_contents e (transaction t) = false
rejecting_contents e (requested n) = false
rejecting_contents e (cells es) = any rejects_entry es
rejecting_contents e cancel_all = false
rejecting_contents e (notification n) = any marked n.extensions
rejecting_contents e (other s) = marked e

abbrev pub rejecting : Element Contents → Bool
rejecting e = rejecting_contents e e.contents

-- ---- 16: each mandatory element, every known one once and in order, and every item of the list its own

abbrev pub is_foreign : Entry → Bool
is_foreign (listed i) = false
is_foreign (foreign s) = true

abbrev pub foreign_entry : Element Entry → Bool
foreign_entry e = is_foreign e.contents

abbrev pub lacking_contents : Contents → Bool
lacking_contents (transaction t) = false
lacking_contents (requested n) = false
lacking_contents (cells es) = any foreign_entry es
lacking_contents cancel_all = false
lacking_contents (notification n) = false
lacking_contents (other s) = false

-- an item of its list is missing
abbrev pub lacking : Element Contents → Bool
lacking e = lacking_contents e.contents

abbrev pub known_contents : Contents → Bool
known_contents (transaction t) = true
known_contents (requested n) = true
known_contents (cells es) = true
known_contents cancel_all = true
known_contents (notification n) = true
known_contents (other s) = false

abbrev pub is_known : Element Contents → Bool
is_known e = known_contents e.contents

unfoldable pub known_ids : Elements → List ℕ
known_ids es = map (λ e. e.id) (those is_known es)

-- in the order of TS 38.473 the ids ascend: each is above the one before it, none is repeated; the mandatory ones are among them
unfoldable pub in_order : Message → List ℕ → Bool
in_order m ids = above 0 ids && every (λ id. one_of id ids) (mandatory m)

unfoldable pub complete : Message → Elements → Bool
complete m es = in_order m (known_ids es) && not (any lacking es)

-- ---- all of them, in order

abbrev pub message_tests : Message → List ℕ → List Test
message_tests m b =
    test (well_encoded m b) BadEncoding
    ∷ test (is_this m b) OtherMessage
    ∷ test (not (any rejecting (message_elements m b))) UnknownElement
    ∷ test (complete m (message_elements m b)) ElementsWrong
    ∷ []

unfoldable pub message_verdict : Message → List ℕ → Verdict
message_verdict m b = first_of (message_tests m b)
