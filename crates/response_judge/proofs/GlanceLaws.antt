-- A response that is a transaction identifier alone, or it and a list of items without extensions: where its bytes say so, its elements are walked over in one or
-- two turns, and nothing is behind them.
use Rattle.std.specs.Prelude.{Some}
use mathlib.Core.Path.{◌≡◌, refl, sym, ap, ◌∙◌}
use mathlib.Core.Bool.{Bool, true, false, ◌&&◌}
use mathlib.Core.List.{List}
use Prim.Native.Nat.{ℕ, ◌+◌, ◌-◌, ◌*◌, ◌/◌, ◌%◌, ◌<◌, ◌≤◌}
use native.Mathlib.Omega.{arith}
use lib.Dec.{eqb, ltb}
use lib.ListN.{length, take, drop, length-drop}
use lib.Seq.{length-take-le}
use borrow.Author.Tests.{eqb-true}
use Rattle.octets.specs.Runs.{gets, Bytes}
use Rattle.octets.specs.Numbers.{be}
use Rattle.octets.proofs.RunsLaws.{gets_eq, gets-gets}
use Rattle.octets.proofs.NumbersLaws.{be-gets_lt}
use Rattle.rules.proofs.TestLaws.{both}
use Rattle.aper.specs.Readers.{ElementAt}
use Rattle.aper.proofs.HeadLaws.{short-element}
use Rattle.wire.specs.Messages.{the_transaction, transaction_id, cells_id}
use Rattle.wire.specs.MessageTree.{contents_by}
use Rattle.wire.specs.Readers.{Tells, PlainList}
use Rattle.wire.specs.declared.Message.{Message}
use Rattle.wire.specs.declared.Message.TheVariants.{CancelRequest, CancelResponse, WriteReplaceResponse}
use Rattle.wire.specs.declared.Heard.TheVariants.{Transaction, Cells}
use Rattle.wire.specs.declared.Marks.{Marks}
use Rattle.wire.proofs.FixedLaws.{transaction-there}
use Rattle.wire.proofs.HearLaws.{transaction-tells, beside_tells, cells_tell}
use Rattle.wire_judge.specs.Readers.{nothing_seen, turn_of, TurnAt, WalkedOver}
use Rattle.wire_judge.proofs.TurnLaws.{turn-kept}
use Rattle.wire_judge.proofs.ElementsLaws.{Going, walk_start, turn_on, walk-whole}
use Rattle.response_judge.specs.Met.{seen_of, alone_by, FrontAt, Fronted}

-- ---- the front

-- the two bytes of a transaction identifier behind its head
number-told : (l : List ℕ) → Bytes l → 9 ≤ length l → be (gets l 7 1) ≡ 0 → Tells (contents_by CancelRequest the_transaction) (take 2 (drop 7 l)) (Some (Transaction (be (gets l 8 1))))
number-told l bytes long zero = transaction-there (take 2 (drop 7 l)) two 0 (sym zero ∙ held_at 0 (omega arith)) refl (be (gets l 8 1)) (held_at 1 (omega arith)) (be-gets_lt 1 8 l bytes)
  where
    two : length (take 2 (drop 7 l)) ≡ 2
    two = length-take-le 2 (drop 7 l) (rw length-drop (omega arith))

    held_at : (i : ℕ) → i + 1 ≤ 2 → be (gets l (7 + i) 1) ≡ be (gets (take 2 (drop 7 l)) i 1)
    held_at i h = ap be (sym (ap (λ (s : List ℕ). gets s i 1) (sym (gets_eq 2 l 7 long)) ∙ gets-gets 1 2 l 7 i h))

pub front_there : (l : List ℕ) → Bytes l → 9 ≤ length l → (blank head padding : ℕ) → blank ≡ be (gets l 0 1) → head ≡ be (gets l 3 4) → padding ≡ be (gets l 7 1)
    → Fronted l ((eqb blank 0 && eqb (head / 65536 * 65536 + head % 16384) (transaction_id * 65536 + 2)) && eqb padding 0)
front_there l bytes long blank head padding first here seventh = tested ((eqb blank 0 && eqb (head / 65536 * 65536 + head % 16384) (transaction_id * 65536 + 2)) && eqb padding 0) refl
  where
    tested : (t : Bool) → ((eqb blank 0 && eqb (head / 65536 * 65536 + head % 16384) (transaction_id * 65536 + 2)) && eqb padding 0) ≡ t → Fronted l t
    tested false e = tt
    tested true e =
        let two = both (eqb blank 0 && eqb (head / 65536 * 65536 + head % 16384) (transaction_id * 65536 + 2)) (eqb padding 0) e in
        let one = both (eqb blank 0) (eqb (head / 65536 * 65536 + head % 16384) (transaction_id * 65536 + 2)) two.0 in
        record {
          long = long;
          blank = sym first ∙ eqb-true blank 0 one.0;
          criticality = be (gets l 5 1) / 64;
          read = short-element l 3 transaction_id 2 bytes long (omega arith) (omega arith) (λ z. omega (arith, z)) head here (eqb-true (head / 65536 * 65536 + head % 16384) (transaction_id * 65536 + 2) one.1);
          tells = number-told l bytes long (sym seventh ∙ eqb-true padding 0 two.1);
        }

-- ---- one turn, or two

-- in each message the list stands behind the transaction identifier
behind-it : (m : Message) → ltb transaction_id (cells_id m) ≡ true
behind-it CancelRequest = refl
behind-it CancelResponse = refl
behind-it WriteReplaceResponse = refl

not-it : (m : Message) → cells_id m ≡ transaction_id → ⊥
not-it CancelRequest e = omega arith
not-it CancelResponse e = omega arith
not-it WriteReplaceResponse e = omega arith

module _ (m : Message) (l : List ℕ) (front : FrontAt l) (number : ℕ) (here : number ≡ be (gets l 8 1)) (elements : ℕ) (many : elements ≡ be (gets l 1 2)) where
  begun : Going m l elements 3 nothing_seen
  begun = walk_start m l (be (gets l 0 1)) (omega (arith, front.long)) refl front.blank elements many

  first_met : TurnAt m l 3 nothing_seen 9 (Some (seen_of (alone_by number transaction_id 0 0 true)))
  unfolding alone_by nothing_seen turn_of
  first_met = rw here (turn-kept m l 3 nothing_seen begun.lies transaction_id front.criticality 7 9 front.read (Some (Transaction (be (gets l 8 1)))) (transaction-tells m (take 2 (drop 7 l)) transaction_id (Some (Transaction (be (gets l 8 1)))) refl front.tells))

  then : 0 < elements → Going m l (elements - 1) 9 (seen_of (alone_by number transaction_id 0 0 true))
  then some = turn_on m l begun some refl _ 9 first_met

  pub identifier-alone : elements ≡ 1 → length l ≡ 9 → WalkedOver m l (Some (seen_of (alone_by number transaction_id 0 0 true)))
  identifier-alone one all = walk-whole m l (then (omega arith)) (omega arith) (sym all)

  module _ (two : elements ≡ 2) (id criticality start end : ℕ) (read : ElementAt l 9 (Some (record { id = id; criticality = criticality; start = start; end = end }))) (is : id ≡ cells_id m) (r : Marks) (list : PlainList m (take (end - start) (drop start l)) (Some r)) where
    abbrev held : List ℕ
    held = take (end - start) (drop start l)

    second_met : TurnAt m l 9 (seen_of (alone_by number transaction_id 0 0 true)) end (Some (seen_of (alone_by number id start end r.ascends)))
    unfolding alone_by turn_of
    second_met =
        let turn = turn-kept m l 9 (seen_of (alone_by number transaction_id 0 0 true)) (then (omega arith)).lies id criticality start end read (Some (Cells r)) (beside_tells m held id (Some (Cells r)) (λ e. not-it m (sym is ∙ e)) (cells_tell m held id (Some (Cells r)) is list.0)) in
        rw (ap (ltb transaction_id) is ∙ behind-it m, list.1, list.2) at turn

    pub list-alone : end ≡ length l → WalkedOver m l (Some (seen_of (alone_by number id start end r.ascends)))
    list-alone all = walk-whole m l (turn_on m l (then (omega arith)) (omega arith) refl _ end second_met) (omega arith) all
