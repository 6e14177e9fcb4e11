-- A well-encoded message is read as one tree, with nothing behind it, and is that tree's encoding.
-- By the cases of what is found; the rest is the one reading of its format (wire, MessagePromisesHold).
use mathlib.Core.Path.{◌≡◌, refl, sym, ap, ◌∙◌}
use mathlib.Core.Bool.{true, false≢true}
use mathlib.Core.List.{List, [], ◌∷◌}
use Prim.Native.Nat.{ℕ}
use Rattle.octets.specs.Runs.{Bytes}
use Rattle.formats.specs.Format.{Found, nothing, found}
use Rattle.wire.specs.Frame.{Frame}
use Rattle.wire.specs.MessageTree.{Elements, message}
use Rattle.wire.specs.MessageRefusals.{whole, well_encoded, value_in, message_elements, is_this}
use Rattle.wire.specs.MessageSaid.{said}
use Rattle.wire.specs.declared.Message.{Message}
use Rattle.wire.proofs.MessagePromisesHold.{one-reading}
use Rattle.demands.specs.WireCancel.{ReadAs}

-- what is read with nothing behind it
pub record Whole (x : Found (Frame Elements)) : Type 0 where
  pub tree : Frame Elements
  pub is : x ≡ found tree []

whole-found : (x : Found (Frame Elements)) → whole x ≡ true → Whole x
whole-found nothing e = absurd (false≢true e)
whole-found (found f []) e = record { tree = f; is = refl }
whole-found (found f (b ∷ bs)) e = absurd (false≢true e)

abbrev tree_in : Frame Elements → Found (Frame Elements) → Frame Elements
tree_in f nothing = f
tree_in f (found g rest) = g

module _ (m : Message) (b : List ℕ) where
  pub parsed : well_encoded m b ≡ true → is_this m b ≡ true → Whole ((message m).parse b)
  unfolding well_encoded
  parsed e t = whole-found ((message m).parse b) (rw t at e)

  -- the encoding of a tree that is read as that tree
  pub tree-read : (tree : Frame Elements) → (message m).fits tree → (message m).encode tree ≡ b → (message m).parse b ≡ found tree [] → ReadAs m b tree
  unfolding message_elements
  tree-read tree fits encoded e =
      record {
        fits = fits;
        encoded = encoded;
        alone = λ other f same. ap (tree_in tree) (sym ((one-reading m).there other f) ∙ ap (message m).parse same ∙ e);
        says = ap (λ x. said (value_in x)) e;
      }

  pub read_as : Bytes b → (tree : Frame Elements) → (message m).parse b ≡ found tree [] → ReadAs m b tree
  read_as bytes tree e = let back = (one-reading m).back b bytes tree e in tree-read tree back.0 back.1 e
