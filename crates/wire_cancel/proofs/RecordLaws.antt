-- The record of what a message says: which list lies in its bytes, which request it makes, and what is written for it, by the two tests.
use Rattle.std.specs.Prelude.{Ok, Err}
use mathlib.Core.Path.{◌≡◌, refl, ap}
use mathlib.Core.Bool.{Bool, true, false, not, ◌&&◌, ◌||◌}
use mathlib.Core.List.{List, [], ◌∷◌, flat_map}
use Prim.Native.Nat.{ℕ, ◌+◌, ◌*◌, ◌/◌, ◌%◌, ◌<◌, ◌≤◌}
use native.Mathlib.Omega.{arith}
use lib.Dec.{eqb}
use lib.ListN.{length}
use lib.Seq.{sets}
use borrow.Author.Tests.{le-leb, lt-leb, ne_eqb}
use Rattle.octets.specs.Numbers.{to_be}
use Rattle.octets.specs.Fields.{bytes_of}
use Rattle.rules.specs.Layout.{current, record_fields, record_size, item_size}
use Rattle.rules.specs.Reply.{identities}
use Rattle.rules.specs.Record.{cancel_or_kill, cancels_nothing, request_numbers}
use Rattle.rules.specs.Refusals.{cancels_some}
use Rattle.rules.specs.Applied.{fill, filled_by}
use Rattle.rules.specs.declared.Refusal.TheVariants.{CancelsNothing, ShortBuffer}
use Rattle.rules.specs.declared.Request.{Request}
use Rattle.record_write.proofs.WriteLaws.{bytes-size, one_store}
use Rattle.wire.specs.MessageSaid.{Said}
use Rattle.wire.specs.declared.Message.TheVariants.{CancelRequest}
use Rattle.wire.specs.CancelRead.{named, flags_of, area_named, cancel_request, record_room, record_of}
use Rattle.wire_judge.specs.Account.{list_at, account_by}
use Rattle.wire_judge.specs.declared.Seen.{Seen}
use Rattle.wire_cells.specs.Listed.{rows_listed}
use Rattle.wire_cells.proofs.WholeListLaws.{part, rows-said}
use Rattle.wire_cancel.specs.Taken.{cells_listed, area_by, request_by, recorded}

-- ---- what was seen

flags-some : (all noted : Bool) → not (eqb cancel_or_kill cancel_or_kill && not (eqb (flags_of all noted / 2 % 2) 1) && not (eqb (flags_of all noted / 4 % 2) 1)) ≡ (all || noted)
flags-some true true = refl
flags-some true false = refl
flags-some false true = refl
flags-some false false = refl

area-named : (cells : List ℕ) → area_by (length cells) ≡ area_named cells
area-named [] = refl
area-named (x ∷ xs) = rw (ne_eqb (length (x ∷ xs)) 0 (λ e. omega arith))

module _ (l : List ℕ) (s : Seen) where
  abbrev pub Says : Said
  Says = (account_by CancelRequest l s).says

  pub cells-said : cells_listed (part CancelRequest l s) ≡ named Says
  cells-said = ap identities (rows-said CancelRequest l s)

  pub some-said : cancels_some (cancel_request Says) ≡ (s.all || s.noted)
  unfolding cancels_nothing cancel_request account_by
  some-said = flags-some s.all s.noted

  pub request-said : {n : ℕ} → n ≡ length (cells_listed (part CancelRequest l s)) → request_by s n ≡ cancel_request Says
  unfolding request_by cancel_request account_by list_at rows_listed
  request-said e = rw (e, area-named (cells_listed (part CancelRequest l s)))

-- ---- what is written

module _ (c : Said) (buffer : List ℕ) where
  pub none_put : cancels_some (cancel_request c) ≡ false → filled_by (Err CancelsNothing) buffer ≡ recorded c buffer
  unfolding recorded fill
  none_put t = rw t

  module _ (some : cancels_some (cancel_request c) ≡ true) where
    pub short_put : length buffer < record_room c → filled_by (Err ShortBuffer) buffer ≡ recorded c buffer
    unfolding recorded fill
    short_put h = rw (some, lt-leb (record_room c) (length buffer) h)

    pub record_put : record_room c ≤ length buffer → {n : ℕ} {q : Request} {a b : List ℕ} → n ≡ length (named c) → q ≡ cancel_request c
        → a ≡ sets buffer 0 (bytes_of record_fields (request_numbers q n)) → b ≡ sets a record_size (flat_map (to_be (item_size current)) (named c))
        → filled_by (Ok (record_size + item_size current * n)) b ≡ recorded c buffer
    unfolding recorded fill record_of
    record_put h e q p₁ p₂ =
        rw (some, le-leb (record_room c) (length buffer) h, p₂, p₁, q, e, one_store (cancel_request c) (named c) buffer, bytes-size (cancel_request c) (named c))
