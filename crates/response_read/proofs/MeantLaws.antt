-- Which response is meant is said by the first two bytes; which one is answered, by the outer frame. Where there is a frame both are the same, since its bytes
-- begin with choice and procedure code; where there is none, any message is refused for its encoding.
use mathlib.Core.Path.{◌≡◌, refl, sym, ap, ◌∙◌}
use mathlib.Core.Bool.{Bool, true, false, cond, ◌&&◌}
use mathlib.Core.List.{List, ◌∷◌, ◌++◌}
use Prim.Native.Nat.{ℕ, ◌+◌, ◌*◌, ◌/◌, ◌%◌, ◌^◌, ◌<◌}
use native.Mathlib.Omega.{arith}
use lib.Dec.{eqb, leb}
use lib.ListN.{length}
use borrow.Author.Tests.{le-leb, eq-eqb, ne_eqb, eqb-true, eqb-false}
use Rattle.octets.specs.Runs.{gets, Bytes}
use Rattle.octets.specs.Numbers.{be, to_be}
use Rattle.rules.specs.Applied.{fill}
use Rattle.rules.specs.declared.Refusal.TheVariants.{BadEncoding}
use Rattle.rules.proofs.TestLaws.{by_test}
use Rattle.formats.specs.Format.{Found, nothing, found, number, opaque, pair, behind, only, as_if}
use Rattle.formats.proofs.FormatLaws.{Good, opaque-alone}
use Rattle.aper.specs.Elements.{two_bits}
use Rattle.wire.specs.Frame.{Frame, successful_outcome, choice_extension, write_replace_warning, code_size, frame_under, frame, outer}
use Rattle.wire.specs.MessageRefusals.{is_of, is_this, well_encoded, message_verdict}
use Rattle.wire.specs.MessageSaid.{said_in}
use Rattle.wire.specs.MessageOutcome.{MessageOutcome, refused}
use Rattle.wire.specs.declared.Message.{Message}
use Rattle.wire.specs.declared.Message.TheVariants.{CancelRequest, CancelResponse, WriteReplaceResponse}
use Rattle.wire.proofs.FrameFormat.{frame_lawful}
use Rattle.wire.specs.Messages.{frame_id, item_id}
use Rattle.responses.specs.ResponseRead.{answering, response_read}
use Rattle.responses.proofs.ReadLaws.{left_by_lem, left_by}
use Rattle.response_read.specs.Left.{meant_by}

-- ---- the first two bytes

first_two : (x y : ℕ) (z : List ℕ) → meant_by (x ∷ y ∷ z) ≡ cond (eqb (x * 256 + y) (frame_id WriteReplaceResponse)) WriteReplaceResponse CancelResponse
unfolding meant_by gets be
first_two x y z =
    let two : be (gets (x ∷ y ∷ z) 0 2) ≡ x * 256 + y = omega arith in
    rw (le-leb 2 (length (x ∷ y ∷ z)) (omega arith), two)

-- the messages are told apart by their items' ids
pub a-response : (b : List ℕ) → meant_by b ≡ CancelRequest → ⊥
unfolding meant_by
a-response b e = neither (leb 2 (length b) && eqb (be (gets b 0 2)) (frame_id WriteReplaceResponse)) (ap item_id e)
  where
    neither : (t : Bool) → item_id (cond t WriteReplaceResponse CancelResponse) ≡ item_id CancelRequest → ⊥
    neither true i = omega arith
    neither false i = omega arith

-- choice and procedure code; a choice-extension has an id of two bytes instead
module _ (choice code : ℕ) where
  abbrev framed : Message
  framed = cond (eqb choice successful_outcome && eqb code write_replace_warning) WriteReplaceResponse CancelResponse

  plain-two : code < 256 → eqb (choice * 64 * 256 + code) (frame_id WriteReplaceResponse) ≡ (eqb choice successful_outcome && eqb code write_replace_warning)
  plain-two h =
      by_test (eqb choice successful_outcome)
      (λ t.
      let p = eqb-true choice successful_outcome t in
      by_test (eqb code write_replace_warning)
      (λ u. let q = eqb-true code write_replace_warning u in rw (t, u) (eq-eqb (choice * 64 * 256 + code) (frame_id WriteReplaceResponse) (omega arith)))
      (λ u. let q = eqb-false code write_replace_warning u in rw (t, u) (ne_eqb (choice * 64 * 256 + code) (frame_id WriteReplaceResponse) (λ e. q (omega arith)))))
      (λ t. let p = eqb-false choice successful_outcome t in rw t (ne_eqb (choice * 64 * 256 + code) (frame_id WriteReplaceResponse) (λ e. p (omega arith))))

  module _ (z rest : List ℕ) where
    plain-begins : code < 256 → meant_by ((to_be 1 (choice * 64) ++ (to_be 1 code ++ z)) ++ rest) ≡ framed
    unfolding to_be
    plain-begins h =
        let both : choice * 64 / 1 * 256 + code / 1 ≡ choice * 64 * 256 + code = omega arith in
        rw (first_two (choice * 64 / 1) (code / 1) (z ++ rest), both, plain-two h)

    extended-begins : choice ≡ choice_extension → meant_by ((to_be 1 (choice * 64) ++ (to_be 2 code ++ z)) ++ rest) ≡ framed
    unfolding to_be
    extended-begins e =
        rw (e, first_two 192 (code / 256) (code % 256 / 1 ∷ (z ++ rest)), ne_eqb (192 * 256 + code / 256) (frame_id WriteReplaceResponse) (λ other. omega arith))

    begins : code < 256 ^ code_size choice → meant_by ((to_be 1 (choice * 64) ++ (to_be (code_size choice) code ++ z)) ++ rest) ≡ framed
    begins h =
        by_test (eqb choice choice_extension)
        (λ t. rw t (extended-begins (eqb-true choice choice_extension t)))
        (λ t. rw t (plain-begins (rw t at h)))

frame-begins : (f : Frame (List ℕ)) (rest : List ℕ) → outer.fits f → meant_by (outer.encode f ++ rest) ≡ cond (is_of WriteReplaceResponse f) WriteReplaceResponse CancelResponse
unfolding frame behind two_bits as_if only number frame_under pair
frame-begins f rest fits = begins f.choice f.code _ rest fits.1.0.0

-- ---- with no frame

no-frame : (m : Message) (b buffer : List ℕ) → outer.parse b ≡ nothing → refused BadEncoding buffer ≡ left_by_lem m (message_verdict m b) (said_in m b) buffer
unfolding message_verdict well_encoded is_this fill
no-frame m b buffer e = rw e

-- ---- what is left

module _ (b : List ℕ) (buffer : List ℕ) where
  abbrev left : Message → MessageOutcome
  left m = left_by_lem m (message_verdict m b) (said_in m b) buffer

  same_left : (x : Found (Frame (List ℕ))) → outer.parse b ≡ x → Good outer b x → left (meant_by b) ≡ left (answering b)
  same_left nothing e good = sym (no-frame (meant_by b) b buffer e) ∙ no-frame (answering b) b buffer e
  same_left (found f rest) e good = ap left (ap meant_by (sym good.1) ∙ frame-begins f rest good.0 ∙ (unfold answering is_this in rw e))

  pub meant-left : Bytes b → left (meant_by b) ≡ response_read b buffer
  meant-left bytes = same_left (outer.parse b) refl ((frame_lawful opaque opaque-alone).back b bytes) ∙ sym (left_by b buffer)
