-- The verdict of a packing and its outcome: each refusal by the test that fails, and what an accepted one says.
-- The tests stand in the order of the definition, so each is settled by those before it.
use Rattle.std.specs.Prelude.{Ok, Err}
use mathlib.Core.Path.{◌≡◌, sym}
use mathlib.Core.Bool.{true, false}
use mathlib.Core.List.{List}
use Prim.Native.Nat.{ℕ, ◌+◌, ◌*◌, ◌<◌, ◌≤◌}
use native.Mathlib.Omega.{arith}
use lib.Dec.{leb}
use lib.ListN.{length}
use lib.Seq.{sets}
use borrow.Author.Tests.{le-leb, lt-leb, leb-true}
use Rattle.rules.specs.Refusals.{refuse_unless, ◌then◌}
use Rattle.rules.specs.Applied.{fill, filled_by}
use Rattle.rules.specs.declared.Refusal.TheVariants.{ListDamaged, TooManySegments, ShortBuffer}
use Rattle.rules.specs.declared.Refusal.{Refusal}
use Rattle.rules.proofs.VerdictLaws.{then_accepted, unless_accepted}
use Rattle.segments.specs.Segments.{length_size, most_segments, list_bytes, cut_at, lengths_fit, pack_verdict, packed}
use Rattle.segments.specs.Within.{ToPack}
use Rattle.segments.proofs.CutLaws.{length_cut}

-- ---- the tests in their order

module _ (bytes lengths : List ℕ) (room : ℕ) where
  pub pack_damaged : lengths_fit lengths (length bytes) ≡ false → Err ListDamaged ≡ pack_verdict bytes lengths room
  unfolding pack_verdict
  pack_damaged h = rw h

  module _ (fit : lengths_fit lengths (length bytes) ≡ true) where
    pub pack-too_many : most_segments < length lengths → Err TooManySegments ≡ pack_verdict bytes lengths room
    unfolding pack_verdict
    pack-too_many h = rw (fit, lt-leb (length lengths) most_segments h)

    pub pack-short : length lengths ≤ most_segments → room < length_size * length lengths + length bytes → Err ShortBuffer ≡ pack_verdict bytes lengths room
    unfolding pack_verdict
    pack-short few h = rw (fit, le-leb (length lengths) most_segments few, length_cut lengths bytes fit, lt-leb (length_size * length lengths + length bytes) room h)

    pub pack-accepted : length lengths ≤ most_segments → length_size * length lengths + length bytes ≤ room → (Ok tt) ≡ pack_verdict bytes lengths room
    unfolding pack_verdict
    pack-accepted few h = rw (fit, le-leb (length lengths) most_segments few, length_cut lengths bytes fit, le-leb (length_size * length lengths + length bytes) room h)

-- ---- what an accepted packing says

pub record AcceptedPack (bytes lengths : List ℕ) (room : ℕ) : Type 0 where
  pub fit : lengths_fit lengths (length bytes) ≡ true
  pub few : length lengths ≤ most_segments
  pub holds : length (list_bytes (cut_at lengths bytes)) ≤ room

module _ (bytes lengths : List ℕ) (room : ℕ) (v : pack_verdict bytes lengths room ≡ Ok tt) where
  pub pack-says : AcceptedPack bytes lengths room
  unfolding pack_verdict
  pack-says =
      let few = refuse_unless (leb (length lengths) most_segments) TooManySegments in
      let holds = refuse_unless (leb (length (list_bytes (cut_at lengths bytes))) room) ShortBuffer in
      let a = then_accepted (refuse_unless (lengths_fit lengths (length bytes)) ListDamaged) (few then holds) v in
      let b = then_accepted few holds a.1 in
      record {
        fit = unless_accepted (lengths_fit lengths (length bytes)) ListDamaged a.0;
        few = leb-true (length lengths) most_segments (unless_accepted (leb (length lengths) most_segments) TooManySegments b.0);
        holds = leb-true (length (list_bytes (cut_at lengths bytes))) room (unless_accepted (leb (length (list_bytes (cut_at lengths bytes))) room) ShortBuffer b.1);
      }

  pack-size : length (list_bytes (cut_at lengths bytes)) ≡ length_size * length lengths + length bytes
  pack-size = length_cut lengths bytes pack-says.fit

  pub pack_ready : ToPack bytes lengths room
  pack_ready = record { fit = pack-says.fit; holds = omega (arith, pack-says.holds, pack-size) }

pub accepted-pack : (bytes lengths : List ℕ) (room : ℕ) → AcceptedPack bytes lengths room → pack_verdict bytes lengths room ≡ Ok tt
unfolding pack_verdict
accepted-pack bytes lengths room a =
    rw (a.fit, le-leb (length lengths) most_segments a.few, le-leb (length (list_bytes (cut_at lengths bytes))) room a.holds)

-- ---- the outcome

module _ (bytes lengths list list' : List ℕ) where
  pub pack-done : pack_verdict bytes lengths (length list) ≡ Ok tt → list' ≡ sets list 0 (list_bytes (cut_at lengths bytes))
      → filled_by (Ok (length_size * length lengths + length bytes)) list' ≡ packed bytes lengths list
  unfolding packed fill
  pack-done v e = rw (v, e, sym (pack-size bytes lengths (length list) v))

  pub pack-refused : (x : Refusal) → pack_verdict bytes lengths (length list) ≡ Err x → list' ≡ list → filled_by (Err x) list' ≡ packed bytes lengths list
  unfolding packed fill
  pack-refused x v e = rw (v, e)
