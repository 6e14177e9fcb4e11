-- Where the segments of a list lie in its bytes.
-- A list is the segments before the j-th, that one, and those behind it.
use mathlib.Core.Path.{◌≡◌, ap, ◌∙◌}
use mathlib.Core.List.{List, [], ◌∷◌, ◌++◌}
use Prim.Native.Nat.{ℕ, suc, ◌+◌, ◌<◌, ◌≤◌}
use native.Mathlib.Omega.{arith}
use lib.ListN.{length, get_or, take, drop, length-append}
use lib.Seq.{split_at, drop-append-add}
use Rattle.segments.specs.Segments.{length_size, segment_bytes, list_bytes, start_in}
use Rattle.segments.proofs.ListLaws.{length-segment, list_cons, list_append, behind-length}

module _ (ss : List (List ℕ)) (j : ℕ) (among : j < length ss) where
  abbrev before : List ℕ
  before = list_bytes (take j ss)

  abbrev own : List ℕ
  own = get_or ss j []

  abbrev behind : List ℕ
  behind = list_bytes (drop (suc j) ss)

  three : list_bytes ss ≡ before ++ (segment_bytes own ++ behind)
  three =
      ap list_bytes (split_at ss j [] among) ∙ list_append (take j ss) (own ∷ drop (suc j) ss)
      ∙ ap (λ (b : List ℕ). before ++ b) (list_cons own (drop (suc j) ss))

  pub lies_within : start_in ss j + length (get_or ss j []) ≤ length (list_bytes ss)
  unfolding start_in
  lies_within =
      rw (three, length-append before (segment_bytes own ++ behind), length-append (segment_bytes own) behind, length-segment own)
      (omega arith)

  pub lies-there : take (length (get_or ss j [])) (drop (start_in ss j) (list_bytes ss)) ≡ get_or ss j []
  unfolding start_in
  lies-there =
      ap (λ (b : List ℕ). take (length own) (drop (start_in ss j) b)) three
      ∙ ap (take (length own)) (drop-append-add before (segment_bytes own ++ behind) length_size)
      ∙ behind-length own behind
