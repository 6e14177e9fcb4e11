-- An element with criticality reject is a value of its format where its contents are, if they fit an open type; and its length.
use mathlib.Core.Path.{◌≡◌, refl}
use mathlib.Core.Bool.{Bool, true}
use mathlib.Core.List.{[]}
use Prim.Native.Nat.{ℕ, ◌+◌, ◌<◌}
use native.Mathlib.Omega.{arith}
use lib.ListN.{length, length-append}
use Rattle.octets.proofs.NumbersLaws.{length-to_be}
use Rattle.formats.specs.Format.{Format, none, number, run, pair, behind, only, as_if, times, inside}
use Rattle.aper.specs.Elements.{length_bytes, determinant, open_type, two_bits, head, under, holding, proper, element_of, optional, given}
use Rattle.aper.proofs.ElementLaws.{Held, open_type-fits}
use Rattle.responses.specs.Response.{assigned}

-- ---- an element

module _ {C : Type 0} (known : ℕ → Bool) (contents : ℕ → Format C) (id : ℕ) (c : C) where
  pub assigned-fits : id < 65536 → known id ≡ true → (contents id).fits c → Held ((contents id).encode c) → (element_of known contents).fits (assigned id c)
  unfolding element_of only proper holding behind head pair number two_bits as_if under inside
  assigned-fits h k f s =
      (((h, ((omega arith, refl), refl)), ((f, open_type-fits ((contents id).encode c) s), refl)), rw k)

  pub length-assigned : length ((element_of known contents).encode (assigned id c)) ≡ 3 + length (length_bytes (length ((contents id).encode c))) + length ((contents id).encode c)
  unfolding element_of only holding behind head pair number two_bits as_if under inside open_type determinant run
  length-assigned = simp (length-append, length-to_be) (omega arith)

-- ---- no extensions

pub none-given : (given 0).fits []
unfolding given only optional times
none-given = ((refl, none), refl)
