-- What the functions of this crate promise and ask one another.
use Rattle.std.specs.Prelude.{◌≡◌, true, List, [], ℕ, ◌+◌, ◌*◌, ◌<◌, ◌≤◌, ◌-◌, length, get_or}
use Rattle.segments.specs.Segments.{length_size, list_bytes, segments_of, start_in, lengths_fit}
use Rattle.segments.specs.declared.read.Pass.{Pass}

-- one pass over the list l in search of segment k
pub record Scanned (l : List ℕ) (k : ℕ) (r : Pass) : Type 0 where
  pub counted : r.count ≡ length (segments_of l)
  pub ended : r.end ≡ length (list_bytes (segments_of l))
  pub started : 0 < k → k ≤ r.count → r.start ≡ start_in (segments_of l) (k - 1)
  pub sized : 0 < k → k ≤ r.count → r.length ≡ length (get_or (segments_of l) (k - 1) [])

-- the lengths are those of the bytes, and there is room for the list
pub record ToPack (bytes lengths : List ℕ) (room : ℕ) : Type 0 where
  pub fit : lengths_fit lengths (length bytes) ≡ true
  pub holds : length_size * length lengths + length bytes ≤ room
