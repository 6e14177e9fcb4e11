-- F1AP-PDU, the frame around every message: which of four choices, the procedure code, the criticality, and the message itself as an open type.
use Rattle.std.specs.Prelude.{cond, List, [], ◌∷◌, ℕ, eqb, ltb}
use Rattle.formats.specs.Format.{Format, number, opaque, pair, behind, only, as_if, inside}
use Rattle.formats.specs.Bits.{Field, pad}
use Rattle.aper.specs.Elements.{open_type, two_bits, criticalities}

pub record Frame (C : Type 0) : Type 0 where
  pub choice : ℕ
  pub code : ℕ
  pub criticality : ℕ
  pub value : C

-- choices
abbrev pub initiating_message : ℕ
initiating_message = 0

abbrev pub successful_outcome : ℕ
successful_outcome = 1

abbrev pub choice_extension : ℕ
choice_extension = 3

-- procedure codes (source document 002)
abbrev pub write_replace_warning : ℕ
write_replace_warning = 20

abbrev pub pws_cancel : ℕ
pws_cancel = 21

-- the procedure code has one byte; the id that a choice-extension has in its place has two
abbrev pub code_size : ℕ → ℕ
code_size choice = cond (eqb choice choice_extension) 2 1

-- reject, ignore or notify
unfoldable pub frame_criticality : Format ℕ
frame_criticality = only (λ c. ltb c criticalities) two_bits

unfoldable pub frame_under : {C : Type 0} → Format C → ℕ → Format (Frame C)
frame_under f choice =
    as_if (λ p. record { choice = choice; code = p.0; criticality = p.1.0; value = p.1.1 }) (λ m. (m.code, (m.criticality, m.value)))
    (pair (number (code_size choice)) (pair frame_criticality (inside open_type f)))

unfoldable pub frame : {C : Type 0} → Format C → Format (Frame C)
frame f = behind two_bits (λ m. m.choice) (frame_under f)

-- the outer frame alone: the message is not looked into
abbrev pub outer : Format (Frame (List ℕ))
outer = frame opaque

-- an extension bit and padding in one byte
abbrev pub blank_fields : List Field
blank_fields = pad 1 ∷ pad 7 ∷ []
