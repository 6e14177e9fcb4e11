-- What a request tells, decoded: the rows of every cell that it reaches, in the order of the cells. Bytes enter with the answer.
use Rattle.std.specs.Prelude.{cond, ℕ}
use mathlib.Core.List.{List, [], ◌++◌, map, flat_map}
use Rattle.rules.specs.Table.{Cell}
use Rattle.rules.specs.Reach.{reaches}
use Rattle.rules.specs.InCell.{Told, in_cell}
use Rattle.rules.specs.declared.Request.{Request}

pub record Row : Type 0 where
  -- the number by which the cell is known and ordered
  pub identity : ℕ
  pub count : ℕ
  pub content : ℕ

pub record Reply : Type 0 where
  pub rows : List Row

-- the cells of rows, in their order
abbrev pub identities : List Row → List ℕ
identities rows = map (λ w. w.identity) rows

abbrev pub row_by : Cell → Told → Row
row_by c x = record { identity = c.head.identity; count = x.count; content = x.content }

-- only a reached cell is reported
unfoldable pub cell_rows : Request → List ℕ → Cell → List Row
cell_rows q items c = cond (reaches q.area items c.head) (map (row_by c) (in_cell q c.places).rows) []

-- what the cells tell, one behind the other
unfoldable pub reply_of : Request → List ℕ → List Cell → Reply
reply_of q items cells = record { rows = flat_map (cell_rows q items) cells }

-- one reply, then another
unfoldable pub in_turn : Reply → Reply → Reply
in_turn a b = record { rows = a.rows ++ b.rows }
