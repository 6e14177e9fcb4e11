-- The walk over a message's elements: where it starts, what it keeps between two of them, and what its end says.
use Rattle.std.specs.Prelude.{Some, None}
use mathlib.Core.Path.{◌≡◌, refl, sym, ap, ◌∙◌}
use mathlib.Core.List.{List, [], flat_map}
use Prim.Native.Nat.{ℕ, ◌-◌, ◌<◌, ◌≤◌}
use native.Mathlib.Omega.{arith}
use lib.ListN.{length, drop, length-append, drop_of_length-le}
use lib.Seq.{drop-cons}
use Rattle.octets.specs.Runs.{gets, Bytes}
use Rattle.octets.specs.Numbers.{be}
use Rattle.octets.proofs.NumbersLaws.{length-to_be}
use Rattle.formats.specs.Format.{Found, nothing, found, after, all_of, number, pair, behind, only, as_if, several, times}
use Rattle.formats.specs.Bits.{cut, bits}
use Rattle.formats.specs.Summary.{summed, gathered}
use Rattle.formats.proofs.FormatLaws.{too_short}
use Rattle.formats.proofs.ReadLaws.{number-found, bits-set, bits-found}
use Rattle.formats.proofs.WalkLaws.{Walking, walk_breaks, walk-goes, walk_ends}
use Rattle.aper.specs.Elements.{from_one, elements_of}
use Rattle.wire.specs.Frame.{blank_fields}
use Rattle.wire.specs.Cells.{list}
use Rattle.wire.specs.MessageTree.{Elements, element, value}
use Rattle.wire.specs.MessageSaid.{rows_in, nothing_said}
use Rattle.wire.proofs.FixedLaws.{blank-padded, blank-set}
use Rattle.wire.proofs.MessageFormat.{value_lawful}
use Rattle.wire.specs.declared.Message.{Message}
use Rattle.wire_judge.specs.Account.{Account, open_account, accounted, list_at, account_by, Lies}
use Rattle.wire_judge.specs.Readers.{nothing_seen, TurnAt, WalkedOver}
use Rattle.wire_judge.specs.declared.Seen.{Seen}

-- ---- before the first

no-list : (m : Message) (l : List ℕ) → list_at m l 0 0 ≡ nothing
unfolding list_at list behind from_one as_if only number
no-list m l = refl

opens : (m : Message) (l : List ℕ) → account_by m l nothing_seen ≡ open_account
unfolding account_by nothing_seen open_account nothing_said rows_in flat_map
opens m l = rw (no-list m l)

nothing-lies : (m : Message) (l : List ℕ) → Lies m l nothing_seen
unfolding nothing_seen
nothing-lies m l = record { begins = omega arith; ends = omega arith; list = rw (no-list m l) (refl, refl) }

module _ (m : Message) (l : List ℕ) where
  abbrev Goal : Found Account
  Goal = summed (gathered accounted open_account) ((value m).parse l)

  -- between two elements
  pub record Going (left at : ℕ) (s : Seen) : Type 0 where
    pub walking : Walking (element m) accounted Goal l left at (account_by m l s)
    pub lies : Lies m l s

  walk_none : Goal ≡ nothing → WalkedOver m l None
  walk_none e = record { says = ap (λ (x : Found Account). all_of x []) (sym e); lies = tt }

  value-long : (es : Elements) → 3 ≤ length ((value m).encode es)
  unfolding value as_if pair bits only number elements_of behind
  value-long es = simp (length-append, length-to_be) (omega arith)

  pub walk-short : Bytes l → length l < 3 → WalkedOver m l None
  walk-short bytes h = walk_none (ap (summed (gathered accounted open_account)) (too_short (value m) (value_lawful m) 3 value-long l bytes h))

  module _ (b : ℕ) (long : 3 ≤ length l) (first : b ≡ be (gets l 0 1)) where
    pub walk-extended : (b ≡ 0 → ⊥) → WalkedOver m l None
    walk-extended other = walk_none (ap (summed (gathered accounted open_account)) bad)
      where
        bad : (value m).parse l ≡ nothing
        bad = unfold value as_if pair in rw (bits-set l 0 1 1 refl blank_fields b (omega arith) first (blank-set b other))

    counted : (n : ℕ) → b ≡ 0 → n ≡ be (gets l 1 2) → (value m).parse l ≡ several (element m) n (drop 3 l)
    unfolding value as_if pair elements_of behind times
    counted n e here =
        rw (bits-found l 0 1 1 refl blank_fields b (omega arith) first (blank-padded b e), number-found l 1 2 3 refl long, ← here) (second (cut blank_fields b) (several (element m) n (drop 3 l)))
      where
        second : (a : List ℕ) (x : Found Elements) → after {A = List ℕ × Elements} (after x (λ es r. found (a, es) r)) (λ p r. found p.1 r) ≡ x
        second a nothing = refl
        second a (found es r) = refl

    pub walk_start : b ≡ 0 → (n : ℕ) → n ≡ be (gets l 1 2) → Going n 3 nothing_seen
    walk_start e n here =
        record {
          walking = rw (opens m l) (record { within = long; comes = ap (summed (gathered accounted open_account)) (counted n e here) });
          lies = nothing-lies m l;
        }

  module _ {left at : ℕ} {s : Seen} (going : Going left at s) where
    pub turn_broken : 0 < left → {end : ℕ} → TurnAt m l at s end None → WalkedOver m l None
    turn_broken some turn = walk_none (walk_breaks going.walking some (sym turn.says))

    pub turn_on : 0 < left → {later : ℕ} → later ≡ left - 1 → (t : Seen) (end : ℕ) → TurnAt m l at s end (Some t) → Going later end t
    turn_on some less t end turn = rw less (record { walking = walk-goes going.walking some (account_by m l t) end (sym turn.says) turn.lies.0; lies = turn.lies.1 })

    pub walk-behind : left ≤ 0 → (at ≡ length l → ⊥) → WalkedOver m l None
    walk-behind none other =
        let more : at < length l = omega (arith, other, going.walking.within) in
        record { says = sym (ap (λ (x : Found Account). all_of x []) (walk_ends going.walking none ∙ ap (found (account_by m l s)) (drop-cons l at 0 more))); lies = tt }

    pub walk-whole : left ≤ 0 → at ≡ length l → WalkedOver m l (Some s)
    walk-whole none end =
        let all : length l ≤ at = omega arith in
        record { says = sym (ap (λ (x : Found Account). all_of x []) (walk_ends going.walking none ∙ ap (found (account_by m l s)) (drop_of_length-le l all))); lies = going.lies }
