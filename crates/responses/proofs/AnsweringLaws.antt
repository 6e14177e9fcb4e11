-- Which response a message is: the frame says. Two messages answer, each the requests of one kind.
use mathlib.Core.Path.{◌≡◌, refl, ◌∙◌}
use mathlib.Core.Bool.{Bool, true, false, cond, ◌&&◌, ◌||◌}
use mathlib.Core.List.{List}
use Prim.Native.Nat.{ℕ}
use lib.Dec.{eqb}
use Rattle.rules.specs.Record.{Kind, a_write_replace, a_cancel, a_restart, a_failure, a_second, unknown_kind, kind_of}
use Rattle.rules.proofs.TestLaws.{cond_cases}
use Rattle.answer_judge.specs.Answerable.{is_wired}
use Rattle.answer_judge.proofs.AnswerableLaws.{wired_by}
use Rattle.wire.specs.Frame.{Frame, successful_outcome, write_replace_warning, pws_cancel}
use Rattle.wire.specs.Messages.{choice_of, code_of}
use Rattle.wire.specs.MessageTree.{Elements}
use Rattle.wire.specs.MessageRefusals.{is_of, is_this}
use Rattle.wire.specs.declared.Message.{Message}
use Rattle.wire.specs.declared.Message.TheVariants.{CancelResponse, WriteReplaceResponse}
use Rattle.responses.specs.Response.{response_to}
use Rattle.responses.specs.ResponseRead.{answering, kind_answered}
use Rattle.responses.specs.ResponsePromises.{TheTwo}

-- ---- the two that answer

pub data Answers : Message → Type 0 where
  starts : Answers WriteReplaceResponse
  stops : Answers CancelResponse

pub response-answers : (k : Kind) → Answers (response_to k)
response-answers a_write_replace = starts
response-answers a_cancel = stops
response-answers a_restart = stops
response-answers a_failure = stops
response-answers a_second = stops
response-answers unknown_kind = stops

pub answering-answers : (b : List ℕ) → Answers (answering b)
unfolding answering
answering-answers b = go (is_this WriteReplaceResponse b)
  where
    go : (x : Bool) → Answers (cond x WriteReplaceResponse CancelResponse)
    go true = starts
    go false = stops

-- a response to a kind that is wired answers that kind
pub kind_answered_lem : (kind : ℕ) → is_wired (kind_of kind) ≡ true → kind_answered (response_to (kind_of kind)) ≡ kind
kind_answered_lem kind e = wired_by kind e (λ k. rw k) (λ k. rw k)

-- and the kind that it answers is wired
pub answered-wired : {m : Message} → Answers m → is_wired (kind_of (kind_answered m)) ≡ true
answered-wired starts = refl
answered-wired stops = refl

-- ---- what the frame says

-- a message whose frame is that of one of the two is taken for that one
pub framed_answers : {m : Message} → Answers m → (b : List ℕ) (f : Frame Elements) → f.choice ≡ choice_of m → f.code ≡ code_of m → ((n : Message) → is_this n b ≡ is_of n f)
    → (answering b ≡ m) × (is_this m b ≡ true)
unfolding answering
framed_answers starts b f p q s = (rw (s WriteReplaceResponse, p, q), rw (s WriteReplaceResponse, p, q))
framed_answers stops b f p q s = (rw (s WriteReplaceResponse, p, q), rw (s CancelResponse, p, q))

pub the_two : TheTwo
unfolding answering is_this
the_two b rest f e =
    cond_cases (λ m. is_this m b) (is_this WriteReplaceResponse b) WriteReplaceResponse CancelResponse
    ∙ rw e (go (eqb f.choice successful_outcome) (eqb f.code write_replace_warning) (eqb f.code pws_cancel))
  where
    go : (s w c : Bool) → cond (s && w) (s && w) (s && c) ≡ (s && (w || c))
    go true true c = refl
    go true false c = refl
    go false w c = refl
