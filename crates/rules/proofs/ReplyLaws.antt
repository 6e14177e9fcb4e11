-- The reply of a table in two parts is the reply of the first part, then that of the second.
-- Each cell tells its own rows, whatever stands around it.
use mathlib.Core.Path.{◌≡◌, ap}
use mathlib.Core.List.{List, ◌++◌}
use Prim.Native.Nat.{ℕ}
use Rattle.rules.specs.Table.{Cell}
use Rattle.rules.specs.Reply.{Row, cell_rows, reply_of, in_turn}
use Rattle.rules.specs.declared.Request.{Request}
use Rattle.rules.proofs.MapLaws.{flat_map_append}

pub reply_parts : (q : Request) (items : List ℕ) (xs ys : List Cell) → reply_of q items (xs ++ ys) ≡ in_turn (reply_of q items xs) (reply_of q items ys)
unfolding reply_of in_turn
reply_parts q items xs ys = ap (λ (rows : List Row). record { rows = rows }) (flat_map_append (cell_rows q items) xs ys)
