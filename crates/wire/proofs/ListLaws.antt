-- The list of cells: where the walk over its entries starts, and what its end tells. What is gathered is told of the whole list.
use Rattle.std.specs.Prelude.{Option, Some, None}
use mathlib.Core.Path.{◌≡◌, refl, sym, ap, ◌∙◌}
use mathlib.Core.Bool.{Bool, true, false, not, ◌&&◌, ◌||◌}
use mathlib.Core.List.{List, [], ◌∷◌}
use Prim.Native.Nat.{ℕ, ◌+◌, ◌-◌, ◌<◌, ◌≤◌}
use native.Mathlib.Omega.{arith}
use lib.ListN.{length, drop, drop_of_length-le}
use lib.Seq.{drop-cons}
use borrow.Author.Tests.{lt-ltb, le-ltb, ltb-true, ltb-false, le-leb, lt-leb}
use Rattle.octets.specs.Runs.{gets}
use Rattle.octets.specs.Numbers.{be}
use lib.Dec.{eqb, ltb, leb}
use Rattle.rules.specs.Layout.{cell_end}
use Rattle.rules.specs.Lists.{any, above, ascending}
use Rattle.rules.proofs.TestLaws.{or_assoc, or-false, and_assoc, and_with-true, by_test}
use Rattle.formats.specs.Summary.{summed, gathered}
use Rattle.formats.specs.Format.{Found, nothing, found, after, all_of, behind, only, as_if, several, times}
use Rattle.formats.proofs.ReadLaws.{number_cut, number-found}
use Rattle.formats.proofs.WalkLaws.{Walking, counted_starts, counted_breaks, counted-goes, counted_ends}
use Rattle.aper.specs.Elements.{Element, from_one}
use Rattle.wire.specs.Cells.{Entry, entry_element, most_listed, list}
use Rattle.wire.specs.Messages.{the_cells}
use Rattle.wire.specs.MessageTree.{cells, contents_by}
use Rattle.wire.specs.MessageRefusals.{rejects_entry, foreign_entry}
use Rattle.wire.specs.Readers.{kept, number_of_entry, entry_numbers, marks_of, entry_by, list_heard, EntriesCounted, EntryAt, Tells, ListedAt, PlainList, WalkedBy}
use Rattle.wire.specs.declared.Message.{Message}
use Rattle.wire.specs.declared.list.Listed.{Listed}
use Rattle.wire.specs.declared.Marks.{Marks}
use Rattle.wire.specs.declared.Heard.{Heard}
use Rattle.wire.specs.declared.Heard.TheVariants.{Cells}

-- ---- cells that ascend

-- none is below the least that may follow those before
from_least : ℕ → List ℕ → Bool
from_least least [] = true
from_least least (n ∷ ns) = leb least n && from_least (n + 1) ns

above-least : (n : ℕ) (ns : List ℕ) → from_least (n + 1) ns ≡ above n ns
unfolding above from_least
above-least n [] = refl
above-least n (k ∷ ks) =
    by_test (ltb n k)
    (λ t. let over : n < k = ltb-true n k t in rw (t, le-leb (n + 1) k (omega arith)) (above-least k ks))
    (λ t. let under : k ≤ n = ltb-false n k t in rw (t, lt-leb (n + 1) k (omega arith)))

least-ascending : (ns : List ℕ) → from_least 0 ns ≡ ascending ns
unfolding ascending from_least
least-ascending [] = refl
least-ascending (n ∷ ns) = rw (le-leb 0 n (omega arith)) (above-least n ns)

-- ---- what is gathered of all entries

-- whether one was marked reject, whether one was not a cell's, whether they ascend so far, and the least number that may follow
abbrev pub Gathered : Type 0
Gathered = Bool × (Bool × (Bool × ℕ))

abbrev pub at_first : Gathered
at_first = (false, (false, (true, 0)))

abbrev with_marks : Gathered → Bool × (Bool × ℕ) → Gathered
with_marks s k = (s.0 || k.0, (s.1.0 || k.1.0, (s.1.1.0 && leb s.1.1.1 k.1.1, k.1.1 + 1)))

abbrev with_entry : Gathered → Element Entry → Gathered
with_entry s e = with_marks s (marks_of e)

abbrev as_cells : Gathered → Heard
as_cells s = Cells (record { rejected = s.0; foreign = s.1.0; ascends = s.1.1.0 })

gathered_entries : (s : Gathered) (es : List (Element Entry))
    → as_cells (gathered with_entry s es) ≡ Cells (record { rejected = s.0 || any rejects_entry es; foreign = s.1.0 || any foreign_entry es; ascends = s.1.1.0 && from_least s.1.1.1 (entry_numbers es) })
unfolding gathered any from_least
gathered_entries s [] = rw (or-false s.0, or-false s.1.0, and_with-true s.1.1.0)
gathered_entries s (e ∷ es) =
    gathered_entries (with_entry s e) es
    ∙ rw (or_assoc s.0 (rejects_entry e) (any rejects_entry es), or_assoc s.1.0 (foreign_entry e) (any foreign_entry es), and_assoc s.1.1.0 (leb s.1.1.1 (number_of_entry e.contents)) (from_least (number_of_entry e.contents + 1) (entry_numbers es)))

-- an entry more
joined : (s : Gathered) (x : Found (Element Entry)) → summed (with_entry s) x ≡ summed (with_marks s) (summed marks_of x)
joined s nothing = refl
joined s (found e r) = refl

-- ---- how many entries there are

module _ (l : List ℕ) where
  pub count_cut_lem : length l < 2 → EntriesCounted l None
  count_cut_lem h = record { says = sym (none h); lies = tt }
    where
      none : length l < 2 → (from_one most_listed).parse l ≡ nothing
      none h = unfold from_one as_if only in rw (number_cut l 0 2 2 refl (omega arith) h)

  module _ (n : ℕ) (long : 2 ≤ length l) (here : n ≡ be (gets l 0 2)) where
    pub count_many : 512 ≤ n → EntriesCounted l None
    count_many h = record { says = sym (none h); lies = tt }
      where
        none : 512 ≤ n → (from_one most_listed).parse l ≡ nothing
        none h = unfold from_one as_if only in rw (number-found l 0 2 2 refl long, ← here, le-ltb n 512 h)

    pub count_there : n < 512 → EntriesCounted l (Some (n + 1))
    count_there h = record { says = sym (some h); lies = long }
      where
        some : n < 512 → (from_one most_listed).parse l ≡ found (n + 1) (drop 2 l)
        some h = unfold from_one as_if only in rw (number-found l 0 2 2 refl long, ← here, lt-ltb n 512 h)

-- ---- what the list tells

marks-told : (x : Found (List (Element Entry))) → all_of (summed kept (after x (λ es r. found (cells es) r))) [] ≡ summed as_cells (all_of (summed (gathered with_entry at_first) x) [])
marks-told nothing = refl
marks-told (found es []) =
    ap (λ (h : Heard). found h []) (sym (gathered_entries at_first es ∙ ap (λ (a : Bool). Cells (record { rejected = any rejects_entry es; foreign = any foreign_entry es; ascends = a })) (least-ascending (entry_numbers es))))
marks-told (found es (b ∷ bs)) = refl

module _ (m : Message) (l : List ℕ) where
  abbrev pub ListGoal : Found Gathered
  ListGoal = summed (gathered with_entry at_first) ((list m).parse l)

  -- of n entries k were read, up to an index, and these marks were gathered of them
  abbrev pub ListWalk : ℕ → ℕ → ℕ → Gathered → Type 0
  ListWalk n k at s = Walking (entry_element m) with_entry ListGoal l (n - k) at s

  tells : (r : Found Gathered) → ListGoal ≡ r → all_of (summed kept ((contents_by m the_cells).parse l)) [] ≡ summed as_cells (all_of r [])
  unfolding contents_by as_if
  tells r e = marks-told ((list m).parse l) ∙ ap (λ (x : Found Gathered). summed as_cells (all_of x [])) e

  pub list-none : ListGoal ≡ nothing → Tells (contents_by m the_cells) l None
  list-none e = sym (tells nothing e)

  uncounted : EntriesCounted l None → ListGoal ≡ nothing
  uncounted read = none (sym read.says)
    where
      none : (from_one most_listed).parse l ≡ nothing → ListGoal ≡ nothing
      none e = unfold list behind in rw e

  pub list-cut : length l < 2 → ListGoal ≡ nothing
  list-cut h = uncounted (count_cut_lem l h)

  pub list-many : (n : ℕ) → 2 ≤ length l → n ≡ be (gets l 0 2) → 512 ≤ n → ListGoal ≡ nothing
  list-many n long here h = uncounted (count_many l n long here h)

  pub list-uncounted : EntriesCounted l None → Tells (contents_by m the_cells) l None
  list-uncounted read = list-none (uncounted read)

  pub list-start : (n : ℕ) → EntriesCounted l (Some n) → ListWalk n 0 2 at_first
  list-start n read = counted_starts (record { within = read.lies; comes = begins (sym read.says) })
    where
      begins : (from_one most_listed).parse l ≡ found n (drop 2 l) → ListGoal ≡ summed (gathered with_entry at_first) (several (entry_element m) n (drop 2 l))
      begins e = unfold list behind times in rw e

  module _ {n k at : ℕ} {s : Gathered} (w : ListWalk n k at s) (some : k < n) where
    next : (r : Option Listed) → EntryAt m l at r → summed (with_entry s) ((entry_element m).parse (drop at l)) ≡ summed (with_marks s) (entry_by l r)
    next r read = joined s ((entry_element m).parse (drop at l)) ∙ ap (summed (with_marks s)) (sym read.says)

    pub list_breaks : EntryAt m l at None → Tells (contents_by m the_cells) l None
    list_breaks read = list-none (counted_breaks w some (next None read))

    pub list-goes : (r : Listed) → EntryAt m l at (Some r) → ListWalk n (k + 1) r.end (with_marks s (r.rejected, (r.foreign, r.identity)))
    list-goes r read = counted-goes w some (with_marks s (r.rejected, (r.foreign, r.identity))) r.end (next (Some r) read) read.lies.0

  module _ (s : Gathered) (at : ℕ) (e : ListGoal ≡ found s (drop at l)) where
    pub list-behind : at ≤ length l → (at ≡ length l → ⊥) → Tells (contents_by m the_cells) l None
    list-behind h other =
        let more : at < length l = omega (arith, other) in
        sym (tells (found s (drop at l)) e ∙ ap (λ (r : List ℕ). summed as_cells (all_of (found s r) [])) (drop-cons l at 0 more))

    pub list_fine : at ≡ length l → Tells (contents_by m the_cells) l (Some (as_cells s))
    list_fine h =
        let all : length l ≤ at = omega arith in
        sym (tells (found s (drop at l)) e ∙ ap (λ (r : List ℕ). summed as_cells (all_of (found s r) [])) (drop_of_length-le l all))

-- as its marks
pub list_told_lem : (m : Message) (l : List ℕ) (r f a : Bool) (least at : ℕ) → ListGoal m l ≡ found (r, (f, (a, least))) (drop at l) → at ≡ length l
    → Tells (contents_by m the_cells) l (list_heard (Some (record { rejected = r; foreign = f; ascends = a })))
list_told_lem m l r f a least at e h = list_fine m l (r, (f, (a, least))) at e h

-- ---- a list of items without extensions: none is marked reject, and each is a cell's

pub plain_unsaid : (m : Message) (l : List ℕ) → PlainList m l None
plain_unsaid m l = tt

pub plain-told : (m : Message) (l : List ℕ) (a : Bool) (least at : ℕ) → ListGoal m l ≡ found (false, (false, (a, least))) (drop at l) → at ≡ length l
    → PlainList m l (Some (record { rejected = false; foreign = false; ascends = a }))
plain-told m l a least at e h = (list_told_lem m l false false a least at e h, refl, refl)

pub plain-heard : (m : Message) (l : List ℕ) (r : Marks) → PlainList m l (Some r) → list_heard (Some r) ≡ Some (Cells (record { rejected = false; foreign = false; ascends = r.ascends }))
plain-heard m l r p = rw (p.1, p.2)

-- ---- the same where each entry is to be an item without extensions: none is marked reject then, and each is a cell's

-- a const parameter as it stands in clauses
abbrev pub switch : ℕ → Bool
switch n = not (eqb n 0)

module _ (plain : Bool) (m : Message) (l : List ℕ) (at : ℕ) where
  pub listed_plain : {end identity : ℕ} → (let r : Option Listed = Some (record { end = end; rejected = false; foreign = false; identity = identity }) in EntryAt m l at r → ListedAt plain m l at r)
  listed_plain {end} {identity} read = both plain
    where
      both : (p : Bool) → ListedAt p m l at (Some (record { end = end; rejected = false; foreign = false; identity = identity }))
      both true = (read, refl, refl)
      both false = read

pub listed_any : (n : ℕ) (m : Message) (l : List ℕ) (at : ℕ) (r : Option Listed) → n ≡ 0 → EntryAt m l at r → ListedAt (switch n) m l at r
listed_any n m l at r e read = rw e read

abbrev pub Unmarked : Bool → Marks → Type 0
Unmarked true r = (r.rejected ≡ false) × (r.foreign ≡ false)
Unmarked false r = Unit {0}

module _ (m : Message) (l : List ℕ) where
  -- of n entries k were read, up to an index, and these marks were gathered of them
  pub record PlainWalk (plain : Bool) (n k at : ℕ) (r : Marks) (least : ℕ) : Type 0 where
    pub walk : ListWalk m l n k at (r.rejected, (r.foreign, (r.ascends, least)))
    pub unmarked : Unmarked plain r

  unmarked_first : (plain : Bool) → Unmarked plain (record { rejected = false; foreign = false; ascends = true })
  unmarked_first true = (refl, refl)
  unmarked_first false = tt

  pub walk_starts : (plain : Bool) (n : ℕ) → EntriesCounted l (Some n) → PlainWalk plain n 0 2 (record { rejected = false; foreign = false; ascends = true }) 0
  walk_starts plain n read = record { walk = list-start m l n read; unmarked = unmarked_first plain }

  -- of what is no list, or is not looked for, it tells nothing
  pub nothing_told : (plain : Bool) → Tells (contents_by m the_cells) l None → WalkedBy plain m l None
  nothing_told true t = plain_unsaid m l
  nothing_told false t = t

  entry_read : (plain : Bool) (at : ℕ) (r : Listed) → ListedAt plain m l at (Some r) → EntryAt m l at (Some r)
  entry_read true at r read = read.0
  entry_read false at r read = read

  pub entry_small : (plain : Bool) (at : ℕ) (r : Listed) → ListedAt plain m l at (Some r) → r.identity < cell_end
  entry_small plain at r read = (entry_read plain at r read).lies.1

  unmarked_next : (plain : Bool) (at : ℕ) (s : Marks) (r : Listed) (a : Bool) → Unmarked plain s → ListedAt plain m l at (Some r)
      → Unmarked plain (record { rejected = s.rejected || r.rejected; foreign = s.foreign || r.foreign; ascends = a })
  unmarked_next true at s r a u read = (rw (u.0, read.1) refl, rw (u.1, read.2) refl)
  unmarked_next false at s r a u read = tt

  module _ {plain : Bool} {n k at least : ℕ} {s : Marks} (w : PlainWalk plain n k at s least) where
    pub walk_breaks_lem : k < n → ListedAt plain m l at None → WalkedBy plain m l None
    walk_breaks_lem some read = broken plain read
      where
        broken : (p : Bool) → ListedAt p m l at None → WalkedBy p m l None
        broken true read = plain_unsaid m l
        broken false read = list_breaks m l w.walk some read

    pub walk_next : k < n → (r : Listed) → ListedAt plain m l at (Some r) → {next : ℕ} → next ≡ r.identity + 1
        → PlainWalk plain n (k + 1) r.end (record { rejected = s.rejected || r.rejected; foreign = s.foreign || r.foreign; ascends = s.ascends && leb least r.identity }) next
    walk_next some r read follows =
        rw follows
        (record { walk = list-goes m l w.walk some r (entry_read plain at r read); unmarked = unmarked_next plain at s r (s.ascends && leb least r.identity) w.unmarked read })

    pub walk_behind : n ≤ k → (at ≡ length l → ⊥) → WalkedBy plain m l None
    walk_behind done other = nothing_told plain (list-behind m l _ at (counted_ends w.walk done) w.walk.within other)

    pub walk_whole : n ≤ k → at ≡ length l → WalkedBy plain m l (Some s)
    walk_whole done e = whole plain (list_fine m l _ at (counted_ends w.walk done) e) w.unmarked
      where
        whole : (p : Bool) → Tells (contents_by m the_cells) l (Some (Cells s)) → Unmarked p s → WalkedBy p m l (Some s)
        whole true t u = (t, u.0, u.1)
        whole false t u = t
