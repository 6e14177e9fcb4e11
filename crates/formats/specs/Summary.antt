-- What code keeps of what a format finds: a summary of the value, and the bytes behind it.
use Rattle.std.specs.Prelude.{Bool, ◌||◌, List, [], ◌∷◌}
use Rattle.formats.specs.Format.{Found, nothing, found}

abbrev pub summed : {A B : Type 0} → (A → B) → Found A → Found B
summed g nothing = nothing
summed g (found a rest) = found (g a) rest

-- one value after the other, on top of what was kept of those before
unfoldable pub gathered : {A S : Type 0} → (S → A → S) → S → List A → S
gathered step s [] = s
gathered step s (x ∷ xs) = gathered step (step s x) xs

-- whether a marked one was among them
abbrev pub or_marked : {A : Type 0} → (A → Bool) → Bool → A → Bool
or_marked marks seen x = seen || marks x
