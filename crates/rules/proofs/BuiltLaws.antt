-- What the builder accepts leaves a legal table at the start of its buffer, with the heads that it was given and no live place.
-- Legal heads make sound cells, and sound cells encode to a legal table.
use Rattle.std.specs.Prelude.{Ok}
use mathlib.Core.Path.{◌≡◌}
use mathlib.Core.Bool.{true}
use mathlib.Core.List.{List, map}
use Prim.Native.Nat.{ℕ, ◌+◌, ◌*◌, ◌≤◌}
use native.Mathlib.Omega.{arith}
use lib.ListN.{length, take, length-map}
use Rattle.octets.specs.Runs.{Bytes}
use Rattle.octets.proofs.RunsLaws.{take-sets_front}
use Rattle.octets.proofs.PiecesLaws.{length-pieces}
use Rattle.rules.specs.Layout.{current, header_size, head_size, cell_size}
use Rattle.rules.specs.Table.{cells_of, table_bytes}
use Rattle.rules.specs.Refusals.{table_verdict, head_count, head_runs, legal_heads, build_tests, build_verdict}
use Rattle.rules.specs.Applied.{fill, empty_cell, built}
use borrow.Author.Tests.{leb-true}
use Rattle.rules.proofs.VerdictLaws.{all_held}
use Rattle.rules.proofs.OutcomeLaws.{built-accepted}
use Rattle.rules.proofs.TableCodec.{table-legal, table-again, length-table_bytes}
use Rattle.rules.proofs.HeadsCodec.{heads-sound}

pub record AcceptedHeads (heads : List ℕ) (room : ℕ) : Type 0 where
  pub legal : legal_heads heads ≡ true
  pub enough : header_size + cell_size current * head_count heads ≤ room

pub heads-accepted : (heads : List ℕ) (room : ℕ) → build_verdict heads room ≡ Ok tt → AcceptedHeads heads room
unfolding build_verdict
heads-accepted heads room e =
    let h = all_held (build_tests heads room) e in
    record {
      legal = h.0;
      enough = leb-true (header_size + cell_size current * head_count heads) room h.1.0;
    }

length-built : (heads : List ℕ) → length (table_bytes current (map empty_cell (head_runs heads))) ≡ header_size + cell_size current * head_count heads
length-built heads =
    rw (length-table_bytes current (map empty_cell (head_runs heads)), length-map (head_runs heads) empty_cell, length-pieces (head_size current) (head_count heads) heads)

module _ (heads buffer : List ℕ) (b : Bytes heads) (e : (built heads buffer).number ≡ 0) where
  accepted : AcceptedHeads heads (length buffer)
  accepted = heads-accepted heads (length buffer) (built-accepted heads buffer e)

  built-bytes : take (built heads buffer).length (built heads buffer).buffer ≡ table_bytes current (map empty_cell (head_runs heads))
  unfolding built fill
  built-bytes =
      rw (built-accepted heads buffer e)
      (take-sets_front buffer (table_bytes current (map empty_cell (head_runs heads))) (omega (arith, length-built heads, accepted.enough)))

  pub built-legal : table_verdict current (take (built heads buffer).length (built heads buffer).buffer) ≡ Ok tt
  built-legal = rw built-bytes (table-legal current _ (heads-sound heads b accepted.legal))

  pub built-cells : cells_of current (take (built heads buffer).length (built heads buffer).buffer) ≡ map empty_cell (head_runs heads)
  built-cells = rw built-bytes (table-again current _ (heads-sound heads b accepted.legal))
