-- Texts in segments, as bytes written out by hand, and what is claimed of each.
use Rattle.std.specs.Prelude.{◌≡◌, List, [], ◌∷◌, ◌++◌, ℕ, ◌*◌, replicate}
use Rattle.rules.specs.Applied.{Filled}
use Rattle.segments.specs.Segments.{segment_of, lies_at, packed}

-- the first SIB message of every sample
abbrev first : List ℕ
first = 1 ∷ 2 ∷ 3 ∷ []

-- three more: two bytes, none, one
abbrev three : List ℕ
three = 0 ∷ 2 ∷ 10 ∷ 20 ∷ 0 ∷ 0 ∷ 0 ∷ 1 ∷ 30 ∷ []

-- n segments without bytes
abbrev empty : ℕ → List ℕ
empty n = replicate (2 * n) 0

-- ---- asked for a segment: the list, k, the number and the bytes that are handed back

record Asked : Type 0 where
  pub list : List ℕ
  pub k : ℕ
  pub number : ℕ
  pub part : List ℕ

abbrev asked : List ℕ → ℕ → ℕ → List ℕ → Asked
asked list k number part = record { list = list; k = k; number = number; part = part }

abbrev AllRead : List Asked → Type 0
AllRead [] = Unit {0}
AllRead (x ∷ xs) = (((lies_at first x.list x.k).number ≡ x.number) × (segment_of first x.list x.k ≡ x.part)) × AllRead xs

abbrev reads : List Asked
reads =
    -- an empty list is legal
    asked [] 0 0 first
    ∷ asked [] 1 12 []
    -- each in its turn, one without bytes among them
    ∷ asked three 0 0 first
    ∷ asked three 1 0 (10 ∷ 20 ∷ [])
    ∷ asked three 2 0 []
    ∷ asked three 3 0 (30 ∷ [])
    ∷ asked three 4 12 []
    -- it ends inside a length, inside a segment; judged for k = 0 too
    ∷ asked (0 ∷ []) 0 10 []
    ∷ asked (0 ∷ 2 ∷ 10 ∷ []) 0 10 []
    ∷ asked (three ++ (0 ∷ 1 ∷ [])) 1 10 []
    -- 63 are legal, 64 are not; 10 before 11, 11 before 12
    ∷ asked (empty 63) 63 0 []
    ∷ asked (empty 64) 0 11 []
    ∷ asked (empty 64) 65 11 []
    ∷ asked (empty 64 ++ (0 ∷ [])) 0 10 []
    ∷ []

-- ---- packed: the bytes, the lengths, a buffer, and what is left

record Given : Type 0 where
  pub bytes : List ℕ
  pub lengths : List ℕ
  pub list : List ℕ
  pub leaves : Filled

abbrev given : List ℕ → List ℕ → List ℕ → Filled → Given
given bytes lengths list leaves = record { bytes = bytes; lengths = lengths; list = list; leaves = leaves }

abbrev refused : ℕ → List ℕ → Filled
refused number list = record { number = number; length = 0; buffer = list }

abbrev AllPack : List Given → Type 0
AllPack [] = Unit {0}
AllPack (x ∷ xs) = (packed x.bytes x.lengths x.list ≡ x.leaves) × AllPack xs

abbrev packs : List Given
packs =
    given (10 ∷ 20 ∷ 30 ∷ []) (2 ∷ 0 ∷ 1 ∷ []) (replicate 11 9) (record { number = 0; length = 9; buffer = three ++ replicate 2 9 })
    ∷ given [] [] [] (record { number = 0; length = 0; buffer = [] })
    -- the lengths say too much, too little, or one is too long
    ∷ given (10 ∷ 20 ∷ 30 ∷ []) (2 ∷ 0 ∷ 2 ∷ []) (replicate 11 9) (refused 10 (replicate 11 9))
    ∷ given (10 ∷ 20 ∷ 30 ∷ []) (2 ∷ []) (replicate 11 9) (refused 10 (replicate 11 9))
    ∷ given [] (65536 ∷ []) [] (refused 10 [])
    -- 10 before 11, 11 before 8
    ∷ given (10 ∷ []) (replicate 64 0) [] (refused 10 [])
    ∷ given [] (replicate 64 0) [] (refused 11 [])
    ∷ given (10 ∷ 20 ∷ 30 ∷ []) (2 ∷ 0 ∷ 1 ∷ []) (replicate 8 9) (refused 8 (replicate 8 9))
    ∷ []

-- ---- THE CLAIM: each is as it says

pub record SamplesHold : Type 0 where
  pub read : AllRead reads
  pub pack : AllPack packs
