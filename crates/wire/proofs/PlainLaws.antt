-- An item as most are: bytes whose tests say that it is an element with an item's id, contents of an item's fixed size and no extensions.
use Rattle.std.specs.Prelude.{Some}
use mathlib.Core.Path.{◌≡◌, refl, sym, ap, ◌∙◌}
use mathlib.Core.Bool.{Bool, true, false, ◌&&◌}
use mathlib.Core.List.{List}
use Prim.Native.Nat.{ℕ, ◌+◌, ◌-◌, ◌*◌, ◌/◌, ◌%◌, ◌<◌, ◌≤◌}
use native.Mathlib.Omega.{arith}
use lib.Dec.{eqb}
use lib.ListN.{length, take, drop, length-drop}
use lib.Seq.{length-take-le}
use borrow.Author.Tests.{eqb-true, eq-eqb}
use Rattle.octets.specs.Runs.{gets, Bytes}
use Rattle.octets.specs.Numbers.{be}
use Rattle.octets.proofs.RunsLaws.{gets_eq, gets-gets}
use Rattle.rules.proofs.TestLaws.{both}
use Rattle.aper.proofs.HeadLaws.{short-element}
use Rattle.aper.proofs.GivenLaws.{given-none}
use Rattle.wire.specs.Messages.{item_id, count_size}
use Rattle.wire.specs.Readers.{ItemGraded, plain_size, plain_head, PlainItem}
use Rattle.wire.specs.declared.Message.{Message}
use Rattle.wire.specs.declared.Message.TheVariants.{CancelRequest, CancelResponse, WriteReplaceResponse}
use Rattle.wire.proofs.ItemLaws.{item_fine}

-- a count has two bytes at most
pub count-few : (m : Message) → count_size m ≤ 2
count-few CancelRequest = omega arith
count-few CancelResponse = omega arith
count-few WriteReplaceResponse = omega arith

pub item-small : (m : Message) → item_id m < 256
item-small CancelRequest = omega arith
item-small CancelResponse = omega arith
item-small WriteReplaceResponse = omega arith

module _ (m : Message) (l : List ℕ) (at : ℕ) (bytes : Bytes l) (long : at + (4 + plain_size m) ≤ length l) where
  -- ---- contents without extensions

  module _ (flags last : ℕ) (first : flags ≡ be (gets l (at + 4) 1)) (eighth : last ≡ be (gets l (at + 12) 1)) (none : flags ≡ 0) (padded : last % 16 ≡ 0) where
    held : List ℕ
    held = take (at + (4 + plain_size m) - (at + 4)) (drop (at + 4) l)

    so_many : at + (4 + plain_size m) - (at + 4) ≡ plain_size m
    so_many = omega arith

    held-run : held ≡ gets l (at + 4) (plain_size m)
    unfolding held
    held-run = rw so_many (sym (gets_eq (plain_size m) l (at + 4) (omega arith)))

    held-long : length held ≡ plain_size m
    unfolding held
    held-long = let inside : plain_size m ≤ length (drop (at + 4) l) = rw length-drop (omega arith) in rw so_many (length-take-le (plain_size m) (drop (at + 4) l) inside)

    -- what is read in the item's own bytes is read in the list's
    held_at : (i w j : ℕ) → i + w ≤ plain_size m → at + 4 + i ≡ j → be (gets l j w) ≡ be (gets held i w)
    held_at i w j h e = ap be (sym (ap (λ (s : List ℕ). gets s i w) held-run ∙ gets-gets w (plain_size m) l (at + 4) i h ∙ ap (λ (k : ℕ). gets l k w) e))

    plain-graded : ItemGraded m held (Some (record { rejected = false; identity = be (gets l (at + 5) 8) / 16 }))
    plain-graded =
        let nine : 9 ≤ length held = omega (arith, held-long) in
        let counted : 9 + count_size m ≤ length held = omega (arith, held-long) in
        let fits : count_size m ≤ length held - 9 = omega (arith, held-long) in
        item_fine m held 0 last nine (sym none ∙ first ∙ held_at 0 1 (at + 4) (omega arith) (omega arith)) (eighth ∙ held_at 8 1 (at + 12) (omega arith) (omega arith))
        (rw (eq-eqb (last % 16) 0 padded)) (record { end = 9; rejected = false }) (given-none held 9 nine 0 refl) fits (record { end = 9 + count_size m; rejected = false }) (given-none held (9 + count_size m) counted 0 refl) (sym held-long)
        (be (gets l (at + 5) 8) / 16) (ap (λ (n : ℕ). n / 16) (held_at 1 8 (at + 5) (omega arith) (omega arith)))

  -- ---- and its tests

  pub plain-there : (head flags last : ℕ) → head ≡ be (gets l at 4) → flags ≡ be (gets l (at + 4) 1) → last ≡ be (gets l (at + 12) 1)
      → PlainItem m l at ((eqb (head / 65536 * 65536 + head % 16384) (plain_head m) && eqb flags 0) && eqb (last % 16) 0)
  unfolding held
  plain-there head flags last here first eighth = tested ((eqb (head / 65536 * 65536 + head % 16384) (plain_head m) && eqb flags 0) && eqb (last % 16) 0) refl
    where
      tested : (t : Bool) → ((eqb (head / 65536 * 65536 + head % 16384) (plain_head m) && eqb flags 0) && eqb (last % 16) 0) ≡ t → PlainItem m l at t
      tested false e = tt
      tested true e =
          let three = both (eqb (head / 65536 * 65536 + head % 16384) (plain_head m) && eqb flags 0) (eqb (last % 16) 0) e in
          let two = both (eqb (head / 65536 * 65536 + head % 16384) (plain_head m)) (eqb flags 0) three.0 in
          record {
            criticality = be (gets l (at + 2) 1) / 64;
            read = short-element l at (item_id m) (plain_size m) bytes long (omega (arith, item-small m)) (omega (arith, count-few m)) (λ z. omega (arith, z)) head here (eqb-true (head / 65536 * 65536 + head % 16384) (plain_head m) two.0);
            graded = plain-graded flags last first eighth (eqb-true flags 0 two.1) (eqb-true (last % 16) 0 three.1);
          }
