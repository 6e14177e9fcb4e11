-- An element at an index, on top of what was seen before it: the account that code keeps is the account of the tree.
-- By what the contents were read as; an id belongs to its contents.
use Rattle.std.specs.Prelude.{Option, Some, None}
use mathlib.Core.Path.{◌≡◌, refl, sym, ap, ◌∙◌}
use mathlib.Core.Bool.{Bool, true, false, cond, ◌||◌, false≢true}
use mathlib.Core.List.{List, [], ◌∷◌, ◌++◌, flat_map}
use Prim.Native.Nat.{ℕ, ◌-◌}
use lib.Dec.{eqb, ltb}
use lib.ListN.{take, drop}
use Rattle.rules.specs.Lists.{any, ascending}
use Rattle.rules.specs.Identity.{identity_of}
use Rattle.rules.specs.Reply.{identities}
use Rattle.rules.proofs.TestLaws.{or-false, or_true, by_test, neither}
use Rattle.formats.specs.Format.{Found, nothing, found, after, all_of, only, as_if}
use Rattle.formats.specs.Summary.{summed}
use Rattle.formats.proofs.SummaryLaws.{nothing-found, found-value, found-rest}
use Rattle.aper.specs.Elements.{Element, proper, element_of}
use Rattle.aper.specs.Readers.{ElementAt}
use Rattle.aper.proofs.ElementLaws.{looked_into_lem}
use Rattle.wire.specs.Cells.{Entry, listed, foreign, list}
use Rattle.wire.specs.Messages.{the_cells, name_of, known, transaction_id, requested_id, cells_id}
use Rattle.wire.specs.MessageTree.{Contents, transaction, requested, cells, cancel_all, notification, other, contents_by, contents, element}
use Rattle.wire.specs.MessageSaid.{row_in, rows_in, said_by}
use Rattle.wire.specs.MessageRefusals.{is_foreign, foreign_entry}
use Rattle.wire.specs.Readers.{number_of_entry, entry_numbers, kept, heard_by, Tells}
use Rattle.wire.specs.declared.Message.{Message}
use Rattle.wire.specs.declared.Message.TheVariants.{CancelRequest, CancelResponse, WriteReplaceResponse}
use Rattle.wire.specs.declared.Heard.{Heard}
use Rattle.wire.proofs.HeardLaws.{heard-is, heard-none}
use Rattle.wire_judge.specs.Account.{Account, entered, accounted, list_at, account_by, Lies}
use Rattle.wire_judge.specs.Readers.{past_of, turn_of, turn_with, TurnAt}
use Rattle.wire_judge.specs.declared.Seen.{Seen}
use Rattle.wire_judge.proofs.NameLaws.{named, id_of, is_known_lem}

-- a list that was read as cells
list-found : (m : Message) (l : List ℕ) (id : ℕ) (es : List (Element Entry)) → name_of m id ≡ the_cells → (contents m id).parse l ≡ found (cells es) [] → (list m).parse l ≡ found es []
unfolding contents contents_by as_if
list-found m l id es i e = inner ((list m).parse l) (rw i at e)
  where
    cells_of : Contents → List (Element Entry)
    cells_of (transaction t) = []
    cells_of (requested n) = []
    cells_of (cells xs) = xs
    cells_of cancel_all = []
    cells_of (notification n) = []
    cells_of (other s) = []

    inner : (x : Found (List (Element Entry))) → after x (λ a s. found (cells a) s) ≡ found (cells es) [] → x ≡ found es []
    inner nothing q = absurd (nothing-found (cells es) [] q)
    inner (found a s) q =
        let same : a ≡ es = ap cells_of (found-value (cells a) (cells es) s [] q) in
        let none : s ≡ [] = found-rest (cells a) (cells es) s [] q in
        rw (same, none)

-- where every item is a cell's, the cells' numbers are those of the rows
own-numbers : (es : List (Element Entry)) → any foreign_entry es ≡ false → entry_numbers es ≡ identities (rows_in es)
unfolding any rows_in flat_map
own-numbers [] h = refl
own-numbers (e ∷ es) h = more e.contents (neither (foreign_entry e) (any foreign_entry es) h).0 (own-numbers es (neither (foreign_entry e) (any foreign_entry es) h).1)
  where
    more : (x : Entry) → is_foreign x ≡ false → entry_numbers es ≡ identities (rows_in es) → number_of_entry x ∷ entry_numbers es ≡ identities (row_in x ++ rows_in es)
    more (listed i) f k = ap (λ (ns : List ℕ). identity_of i.plmn i.cell ∷ ns) k
    more (foreign b) f k = absurd (false≢true (sym f))

-- the list is neither of the mandatory elements
not-transaction : (m : Message) → eqb transaction_id (cells_id m) ≡ false
not-transaction CancelRequest = refl
not-transaction CancelResponse = refl
not-transaction WriteReplaceResponse = refl

not-requested : (m : Message) → eqb requested_id (cells_id m) ≡ false
not-requested CancelRequest = refl
not-requested CancelResponse = refl
not-requested WriteReplaceResponse = refl

module _ (m : Message) (l : List ℕ) (at : ℕ) (s : Seen) (lies : Lies m l s) where
  abbrev Kept : Found Account
  Kept = summed (accounted (account_by m l s)) ((element m).parse (drop at l))

  pub turn-none : ElementAt l at None → (end : ℕ) → TurnAt m l at s end None
  turn-none read end = record { says = sym none; lies = tt }
    where
      none : Kept ≡ nothing
      none = unfold element_of only in rw (looked_into_lem (contents m) (drop at l), sym read.says)

  module _ (id criticality start end : ℕ) (read : ElementAt l at (Some (record { id = id; criticality = criticality; start = start; end = end }))) where
    abbrev held : List ℕ
    held = take (end - start) (drop start l)

    abbrev this : Contents → Element Contents
    this x = record { id = id; criticality = criticality; contents = x }

    looked : Found Contents → Found (Element Contents)
    looked x = after (after x (λ c r. found (this c) r)) (λ e r. cond (proper (known m) e) (found e r) nothing)

    seen : (element m).parse (drop at l) ≡ looked (all_of ((contents m id).parse held) (drop end l))
    unfolding element_of only looked
    seen = rw (looked_into_lem (contents m) (drop at l), sym read.says)

    step : (x : Contents) → (contents m id).parse held ≡ found x [] → (element m).parse (drop at l) ≡ cond (known m id || ltb criticality 3) (found (this x) (drop end l)) nothing
    unfolding looked proper
    step x e = seen ∙ ap (λ (y : Found Contents). looked (all_of y (drop end l))) e

    broken : (x : Found Contents) → (contents m id).parse held ≡ x → all_of x (drop end l) ≡ nothing → TurnAt m l at s end None
    broken x e n = record { says = sym (ap (summed (accounted (account_by m l s))) none); lies = tt }
      where
        none : (element m).parse (drop at l) ≡ nothing
        none = unfold looked in seen ∙ ap (λ (y : Found Contents). looked (all_of y (drop end l))) e ∙ ap looked n

    -- a known element: its account is that of the tree
    kept-known : (x : Contents) (t : Seen) → (contents m id).parse held ≡ found x [] → known m id ≡ true → account_by m l t ≡ accounted (account_by m l s) (this x) → Lies m l t
        → TurnAt m l at s end (Some t)
    kept-known x t e k a there = record { says = sym whole; lies = (read.lies.1, there) }
      where
        taken : (element m).parse (drop at l) ≡ found (this x) (drop end l)
        taken = step x e ∙ ap (λ (b : Bool). cond (b || ltb criticality 3) (found (this x) (drop end l)) nothing) k

        whole : summed (accounted (account_by m l s)) ((element m).parse (drop at l)) ≡ found (account_by m l t) (drop end l)
        whole = ap (summed (accounted (account_by m l s))) taken ∙ ap (λ (b : Account). found b (drop end l)) (sym a)

    list-there : (es : List (Element Entry)) → (contents m id).parse held ≡ found (cells es) [] → list_at m l start end ≡ found es []
    unfolding list_at
    list-there es e = list-found m held id es (unfold contents in sym (named m (name_of m id) held (cells es) [] e)) e

    -- the list lies where it lay
    moved : (t : Seen) → t.start ≡ s.start → t.end ≡ s.end → t.lacks ≡ s.lacks → t.ascends ≡ s.ascends → Lies m l t
    moved t a b k o = record { begins = rw (a, b) lies.begins; ends = rw b lies.ends; list = rw (a, b, k, o) lies.list }

    skip_kept : (x : List ℕ) → (element m).parse (drop at l) ≡ found (this (other x)) (drop end l)
        → TurnAt m l at s end (Some (record { rejects = s.rejects || eqb criticality 0; lacks = s.lacks; ascends = s.ascends; ordered = s.ordered; last = s.last; identified = s.identified; counted = s.counted; transaction = s.transaction; requested = s.requested; all = s.all; noted = s.noted; identifier = s.identifier; serial = s.serial; start = s.start; end = s.end }))
    unfolding accounted entered account_by said_by
    skip_kept x e =
        record {
          says = sym (ap (summed (accounted (account_by m l s))) e ∙ rw (or-false s.lacks));
          lies = (read.lies.1, moved _ refl refl refl refl);
        }

    -- an unknown one is skipped, or counts as marked reject, or has no criticality
    other-kept : (x : List ℕ) → (contents m id).parse held ≡ found (other x) [] → TurnAt m l at s end (turn_of s id criticality start end (kept (other x)))
    other-kept x e = by_test (ltb criticality 3) proper-one improper
      where
        no_name : known m id ≡ false
        no_name = id_of m id held (other x) [] e

        left : (t : Bool) → ltb criticality 3 ≡ t → (element m).parse (drop at l) ≡ cond t (found (this (other x)) (drop end l)) nothing
        left t f = step (other x) e ∙ ap (λ (b : Bool). cond (b || ltb criticality 3) (found (this (other x)) (drop end l)) nothing) no_name ∙ ap (λ (b : Bool). cond b (found (this (other x)) (drop end l)) nothing) f

        improper : ltb criticality 3 ≡ false → TurnAt m l at s end (turn_of s id criticality start end (kept (other x)))
        improper t = unfold turn_of past_of in rw t (record { says = sym (ap (summed (accounted (account_by m l s))) (left false t)); lies = tt })

        proper-one : ltb criticality 3 ≡ true → TurnAt m l at s end (turn_of s id criticality start end (kept (other x)))
        proper-one t = unfold turn_of past_of in rw t (skip_kept x (left true t))

    by_element : (x : Contents) → (contents m id).parse held ≡ found x [] → TurnAt m l at s end (turn_of s id criticality start end (kept x))
    unfolding turn_of accounted entered account_by said_by known
    by_element (transaction t) e =
        let i : id ≡ 78 = id_of m id held (transaction t) [] e in
        kept-known (transaction t) _ e (is_known_lem m id held (transaction t) [] e) (rw (i, or-false s.rejects, or-false s.lacks, or_true s.identified, or-false s.counted)) (moved _ refl refl refl refl)
    by_element (requested n) e =
        let i : id ≡ 142 = id_of m id held (requested n) [] e in
        kept-known (requested n) _ e (is_known_lem m id held (requested n) [] e) (rw (i, or-false s.rejects, or-false s.lacks, or-false s.identified, or_true s.counted)) (moved _ refl refl refl refl)
    by_element (cells es) e =
        let i : id ≡ cells_id m = id_of m id held (cells es) [] e in
        let there : list_at m l start end ≡ found es [] = list-there es e in
        kept-known (cells es) _ e (is_known_lem m id held (cells es) [] e) (rw (i, there, not-transaction m, not-requested m, or-false s.identified, or-false s.counted))
        (record { begins = read.lies.2; ends = read.lies.1; list = rw there (λ n. let none = (neither s.lacks (any foreign_entry es) n).1 in (none, ap ascending (own-numbers es none))) })
    by_element cancel_all e =
        let i : id ≡ 157 = id_of m id held cancel_all [] e in
        kept-known cancel_all _ e (is_known_lem m id held cancel_all [] e) (rw (i, or-false s.rejects, or-false s.lacks, or-false s.identified, or-false s.counted)) (moved _ refl refl refl refl)
    by_element (notification n) e =
        let i : id ≡ 220 = id_of m id held (notification n) [] e in
        kept-known (notification n) _ e (is_known_lem m id held (notification n) [] e) (rw (i, or-false s.lacks, or-false s.identified, or-false s.counted)) (moved _ refl refl refl refl)
    by_element (other x) e = other-kept x e

    by_contents : (x : Found Contents) → (contents m id).parse held ≡ x → (h : Option Heard) → heard_by h ≡ all_of (summed kept x) [] → TurnAt m l at s end (turn_with s id criticality start end h)
    by_contents nothing e h t = rw (heard-none h t) (broken nothing e refl)
    by_contents (found x []) e h t = rw (heard-is h (kept x) t) (by_element x e)
    by_contents (found x (b ∷ bs)) e h t = rw (heard-none h t) (broken (found x (b ∷ bs)) e refl)

    pub turn-kept : (h : Option Heard) → Tells (contents m id) held h → TurnAt m l at s end (turn_with s id criticality start end h)
    turn-kept h t = by_contents ((contents m id).parse held) refl h t
