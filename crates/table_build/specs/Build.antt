-- What the builder writes for a head.
use denote.Ref.{Bor, MutBor}
use Rattle.std.specs.Prelude.{◌≡◌, List, ◌++◌, ℕ, ◌*◌, replicate}
use Rattle.std.specs.Fn.{Shared}
use Rattle.rules.specs.Layout.{current, place_size, places_per_cell}

-- the head as it stands, then free places
unfoldable pub empty_run : List ℕ → List ℕ
empty_run head = head ++ replicate (place_size current * places_per_cell) 0

-- what a caller makes of each run: each call leaves what f gives of the bytes lent
abbrev pub IsMaker : {F : Type 0} → Shared F (MutBor (List ℕ) × (Bor (List ℕ) × Unit {0})) (Unit {0} × (MutBor (List ℕ) × Unit {0})) → F → (List ℕ → List ℕ) → Type 0
IsMaker g make f = (cell : MutBor (List ℕ)) (run : Bor (List ℕ)) (left : MutBor (List ℕ)) → g.post make (cell, (run, tt)) (tt, (left, tt)) → left.now ≡ f run.now
