-- The frame keeps the laws of a format, around any message that is all of its open type; and what is framed is looked into after the frame was read.
use mathlib.Core.Path.{◌≡◌, refl, sym, ap, subst}
use mathlib.Core.List.{List, []}
use Prim.Native.Nat.{ℕ}
use lib.Dec.{ltb}
use Rattle.formats.specs.Format.{Found, nothing, found, after, all_of, Format, number, opaque, pair, behind, as_if, inside}
use Rattle.formats.specs.Bits.{Field, width, joined, cut, bits}
use Rattle.formats.proofs.FormatLaws.{Lawful, Alone, number_lawful, pair_lawful, behind_lawful, only_lawful, as_if_lawful, inside_lawful}
use Rattle.formats.proofs.BitsLaws.{bits_lawful}
use Rattle.aper.specs.Elements.{open_type, two_bits}
use Rattle.aper.proofs.ElementLaws.{open_type_lawful, open_type-held, two_bits_lawful}
use Rattle.wire.specs.Frame.{Frame, code_size, frame_criticality, frame_under, frame, outer, blank_fields}

-- what fields say has as many numbers as fields
pub shape : (k : ℕ) (fs : List Field) (vs : List ℕ) → (bits k fs).fits vs → (P : List ℕ → Type 0) → ((n : ℕ) → P (cut fs n)) → P vs
unfolding bits as_if
shape k fs vs h P all = subst P h.1 (all (joined fs vs))

pub blank_shape : (h : List ℕ) → (bits 1 blank_fields).fits h → [] ≡ h
unfolding cut
blank_shape h k = shape 1 blank_fields h k (λ (v : List ℕ). [] ≡ v) (λ n. refl)

pub blank-bits : Lawful (bits 1 blank_fields)
blank-bits = bits_lawful 1 blank_fields (unfold width in refl)

criticality_lawful : Lawful frame_criticality
unfolding frame_criticality
criticality_lawful = only_lawful (λ c. ltb c 3) two_bits two_bits_lawful

module _ {C : Type 0} (f : Format C) (F : Alone f) where
  frame_under_lawful : (choice : ℕ) → Lawful (frame_under f choice)
  unfolding frame_under
  frame_under_lawful choice =
      as_if_lawful (λ p. record { choice = choice; code = p.0; criticality = p.1.0; value = p.1.1 }) (λ m. (m.code, (m.criticality, m.value)))
      (pair (number (code_size choice)) (pair frame_criticality (inside open_type f))) (λ p k. refl)
      (pair_lawful (number (code_size choice)) (pair frame_criticality (inside open_type f)) (number_lawful (code_size choice))
      (pair_lawful frame_criticality (inside open_type f) criticality_lawful (inside_lawful open_type f open_type_lawful F open_type-held)))

  frame-said : (choice : ℕ) (m : Frame C) → two_bits.fits choice → (frame_under f choice).fits m → m.choice ≡ choice
  unfolding frame_under as_if
  frame-said choice m _ h = ap (λ (x : Frame C). x.choice) (sym h.1)

  pub frame_lawful : Lawful (frame f)
  unfolding frame
  frame_lawful = behind_lawful two_bits (λ m. m.choice) (frame_under f) two_bits_lawful frame_under_lawful frame-said

-- ---- what is framed is looked into after the frame was read

module _ {C : Type 0} (f : Format C) where
  abbrev framing : {D : Type 0} → ℕ → ℕ × (ℕ × D) → Frame D
  framing choice p = record { choice = choice; code = p.0; criticality = p.1.0; value = p.1.1 }

  abbrev pub with_value : Frame (List ℕ) → C → Frame C
  with_value m c = record { choice = m.choice; code = m.code; criticality = m.criticality; value = c }

  abbrev pub framed_into : Found (Frame (List ℕ)) → Found (Frame C)
  framed_into x = after x (λ m r. after (all_of (f.parse m.value) r) (λ c s. found (with_value m c) s))

  -- the parts behind a choice, with any reading of what the open type holds
  behind_choice : {D : Type 0} → (List ℕ → Found D) → ℕ → Found ℕ → Found (Frame D)
  behind_choice {D} reads choice x =
      after {A = ℕ × (ℕ × D)}
      (after x (λ a r. after {A = ℕ × D} (after (frame_criticality.parse r) (λ b s. after (after (open_type.parse s) (λ c t. all_of (reads c) t)) (λ v t. found (b, v) t))) (λ q t. found (a, q) t)))
      (λ p t. found (framing choice p) t)

  into : (choice : ℕ) (x : Found ℕ) → behind_choice f.parse choice x ≡ framed_into (behind_choice opaque.parse choice x)
  unfolding behind_choice opaque
  into choice nothing = refl
  into choice (found code r) = second (frame_criticality.parse r)
    where
      fourth : (crit : ℕ) (c t : List ℕ) (z : Found C)
          → after {A = ℕ × (ℕ × C)} (after {A = ℕ × C} (after z (λ v s. found (crit, v) s)) (λ q s. found (code, q) s)) (λ p s. found (framing choice p) s)
          ≡ after z (λ v s. found (with_value (framing choice (code, (crit, c))) v) s)
      fourth crit c t nothing = refl
      fourth crit c t (found v s) = refl

      third : (crit : ℕ) (y : Found (List ℕ))
          → after {A = ℕ × (ℕ × C)} (after {A = ℕ × C} (after (after y (λ c t. all_of (f.parse c) t)) (λ v t. found (crit, v) t)) (λ q t. found (code, q) t)) (λ p t. found (framing choice p) t)
          ≡ framed_into (after {A = ℕ × (ℕ × List ℕ)} (after {A = ℕ × List ℕ} (after (after y (λ c t. all_of (found c []) t)) (λ v t. found (crit, v) t)) (λ q t. found (code, q) t)) (λ p t. found (framing choice p) t))
      third crit nothing = refl
      third crit (found c t) = fourth crit c t (all_of (f.parse c) t)

      second : (y : Found ℕ)
          → after {A = ℕ × (ℕ × C)} (after {A = ℕ × C} (after y (λ b s. after (after (open_type.parse s) (λ c t. all_of (f.parse c) t)) (λ v t. found (b, v) t))) (λ q t. found (code, q) t)) (λ p t. found (framing choice p) t)
          ≡ framed_into (after {A = ℕ × (ℕ × List ℕ)} (after {A = ℕ × List ℕ} (after y (λ b s. after (after (open_type.parse s) (λ c t. all_of (found c []) t)) (λ v t. found (b, v) t))) (λ q t. found (code, q) t)) (λ p t. found (framing choice p) t))
      second nothing = refl
      second (found crit s) = third crit (open_type.parse s)

  pub frame_into : (l : List ℕ) → (frame f).parse l ≡ framed_into (outer.parse l)
  unfolding frame frame_under behind as_if pair inside behind_choice
  frame_into l = first (two_bits.parse l)
    where
      first : (x : Found ℕ)
          → after x (λ choice r. behind_choice f.parse choice ((number (code_size choice)).parse r))
          ≡ framed_into (after x (λ choice r. behind_choice opaque.parse choice ((number (code_size choice)).parse r)))
      first nothing = refl
      first (found choice r) = into choice ((number (code_size choice)).parse r)
