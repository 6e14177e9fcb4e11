-- One outcome only: which of 13 to 16 a message gets, or what a fit one says, the contract of `judge` settles. Where its list lies is told besides.
-- Of a frame it is settled where the message begins, too: what is left of the bytes tells it.
use Rattle.std.specs.Prelude.{Option, Some, Result, Ok, Err}
use Rattle.std.specs.Option.{option_map}
use Rattle.std.specs.declared.clone.Clone.{Ghosts as Clones}
use mathlib.Core.Path.{◌≡◌, refl, sym, ap, ◌∙◌}
use mathlib.Core.List.{List, [], ◌∷◌}
use Prim.Native.Nat.{ℕ}
use native.Mathlib.Omega.{arith}
use lib.ListN.{drop}
use denote.Param.Laws.{Laws, IsCopy}
use denote.RattleType.{RattleType}
use mir.Syntax.{Dict}
use Rattle.octets.specs.Settled.{Settles, SettlesResult}
use Rattle.octets.proofs.Once.{one-outcome, both_once}
use Rattle.std.proofs.lemmas.Iterator.Adapters.{option_map_id}
use Rattle.rules.specs.Refusals.{Verdict}
use Rattle.rules.specs.declared.Refusal.{Refusal}
use Rattle.wire.specs.MessageSaid.{Said, nothing_said}
use Rattle.wire.specs.declared.Message.{Message}
use Rattle.wire.specs.declared.Message.TheVariants.{CancelRequest}
use Rattle.wire_judge.specs.Account.{account_by}
use Rattle.wire_judge.specs.Readers.{FramedBy, Turned, turn_by, JudgedAs}
use Rattle.wire_judge.specs.declared.Kept.{Ghosts}
use Rattle.wire_judge.specs.declared.Seen.{Seen}
use Rattle.wire_judge.specs.declared.Judged.{Judged}
use Rattle.aper.specs.Readers.{ElementAt}
use Rattle.aper.specs.declared.Element.{Element}
use Rattle.aper.proofs.Once.{same_index}
use Rattle.formats.specs.Format.{Found, nothing, found}
use Rattle.formats.proofs.SummaryLaws.{nothing-found, found-value}
use Rattle.wire_judge.proofs.framing.frame.Reads as frame
use Rattle.wire_judge.proofs.judge.Reads as judge
use Rattle.wire_judge.proofs.judge_by.Reads as judge_by
use Rattle.wire_judge.proofs.Kept.nothing.Reads as nothing_lem
use Rattle.wire_judge.proofs.Kept.with.Reads as with
use Rattle.wire_judge.proofs.Kept.rejects.Reads as rejects
use Rattle.wire_judge.proofs.Kept.is_complete.Reads as is_complete_lem
use Rattle.wire_judge.proofs.SeenKept.nothing.Reads as seen_nothing
use Rattle.wire_judge.proofs.SeenKept.with.Reads as seen_with
use Rattle.wire_judge.proofs.SeenKept.rejects.Reads as seen_rejects
use Rattle.wire_judge.proofs.SeenKept.is_complete.Reads as seen_is_complete

-- ---- the frame

-- the lists of what is behind it
abbrev first : List (List ℕ) → List ℕ
first [] = []
first (l ∷ ls) = l

none-some : (l : List ℕ) → [] ≡ l ∷ [] → ⊥
none-some l e = let z : ◌≡◌ {A = ℕ} 0 1 = cc in omega arith

framed_once : (l : List ℕ) (x : Found (List (List ℕ))) (r s : Result ℕ Refusal) → FramedBy l r x → FramedBy l s x → r ≡ s
framed_once l x (Ok a) (Ok b) p q = ap Ok (same_index l a b p.1 q.1 (ap first (found-value _ _ _ _ (p.0 ∙ sym q.0))))
framed_once l nothing (Ok a) (Err y) p q = absurd (nothing-found _ _ (sym p.0))
framed_once l (found [] r) (Ok a) (Err y) p q = absurd (none-some (drop a l) (sym (found-value _ _ _ _ p.0)))
framed_once l (found (c ∷ cs) r) (Ok a) (Err y) p q = absurd q
framed_once l nothing (Err x) (Ok b) p q = absurd (nothing-found _ _ (sym q.0))
framed_once l (found [] r) (Err x) (Ok b) p q = absurd (none-some (drop b l) (sym (found-value _ _ _ _ q.0)))
framed_once l (found (c ∷ cs) r) (Err x) (Ok b) p q = absurd p
framed_once l nothing (Err x) (Err y) p q = ap Err (p ∙ sym q)
framed_once l (found [] r) (Err x) (Err y) p q = ap Err (p.0 ∙ sym q.0)
framed_once l (found (c ∷ cs) r) (Err x) (Err y) p q = absurd p

pub frame_once : SettlesResult frame.Learnt
frame_once κ args r s e f p q = framed_once args.1.0.now _ r s p q

-- ---- the judge

-- the verdict, and what is said; of any message and whatever is kept, as the judge of responses has the same outcomes
module _ {K : Type 0} (seen : K → Seen) where
  abbrev pub judged_to : Message → List ℕ → Result (Judged K) Refusal → Verdict × Said
  judged_to m b (Ok j) = ((Ok tt), (account_by m (drop j.start b) (seen j.kept)).says)
  judged_to m b (Err x) = (Err x, nothing_said)

  not_both : (x : Refusal) → ◌≡◌ {A = Verdict} (Ok tt) (Err x) → ⊥
  not_both x e = let z : ◌≡◌ {A = ℕ} 0 1 = cc in omega arith

  pub settled : (m : Message) (b : List ℕ) (r s : Result (Judged K) Refusal) → JudgedAs seen m b r → JudgedAs seen m b s → judged_to m b r ≡ judged_to m b s
  settled m b (Ok r) (Ok s) p q = both_once refl (sym p.says ∙ q.says)
  settled m b (Ok r) (Err y) p q = absurd (not_both y (sym p.accepted ∙ q))
  settled m b (Err x) (Ok s) p q = absurd (not_both x (sym q.accepted ∙ p))
  settled m b (Err x) (Err y) p q = both_once (sym p ∙ q) refl

-- what is told of an element that stands in the bytes
pub told_of : (m : Message) (l : List ℕ) (kept : Seen) (element : Element) (r s : Option Seen) → Turned m l kept element r → Turned m l kept element s
    → (at : ℕ) → ElementAt l at (Some element) → turn_by m l element.end r ≡ turn_by m l element.end s
told_of m l kept element r s p q at read = one-outcome (p at read).says (q at read).says

-- of whatever is kept
module _ (T : RattleType) (laws : Laws T) (copy : IsCopy T) (K : Ghosts T.Denot) (dict : Dict) (clones : Clones T.Denot) (clone_dict : Dict) where
  pub nothing_once : Settles (nothing_lem.Learnt T laws copy K dict clones clone_dict) (λ κ r e. K.seen r)
  nothing_once κ args r s e f = one-outcome

  pub with_once : (κ : _) (args : _) (r s : Option T.Denot) (e f : _)
      → with.Learnt T laws copy K dict clones clone_dict κ args r e → with.Learnt T laws copy K dict clones clone_dict κ args s f
      → (at : ℕ) → ElementAt args.1.1.0.now at (Some args.1.1.1.0)
      → turn_by args.1.0 args.1.1.0.now args.1.1.1.0.end (option_map K.seen r) ≡ turn_by args.1.0 args.1.1.0.now args.1.1.1.0.end (option_map K.seen s)
  with_once κ args r s e f p q = told_of args.1.0 args.1.1.0.now (K.seen args.0) args.1.1.1.0 (option_map K.seen r) (option_map K.seen s) p q

  pub rejects_once : SettlesResult (rejects.Learnt T laws copy K dict clones clone_dict)
  rejects_once κ args r s e f = one-outcome

  pub is_complete_once : SettlesResult (is_complete_lem.Learnt T laws copy K dict clones clone_dict)
  is_complete_once κ args r s e f = one-outcome

  pub judge_by_once : (κ : _) (args : _) (r s : Result (Judged T.Denot) Refusal) (e f : _)
      → judge_by.Learnt T laws copy K dict clones clone_dict κ args r e → judge_by.Learnt T laws copy K dict clones clone_dict κ args s f
      → judged_to K.seen args.0 args.1.0.now r ≡ judged_to K.seen args.0 args.1.0.now s
  judge_by_once κ args r s e f p q = settled K.seen args.0 args.1.0.now r s p q

-- of what is seen in a request
pub seen_nothing_once : SettlesResult seen_nothing.Learnt
seen_nothing_once κ args r s e f = one-outcome

pub seen_with_once : (κ : _) (args : _) (r s : Option Seen) (e f : _) → seen_with.Learnt κ args r e → seen_with.Learnt κ args s f
    → (at : ℕ) → ElementAt args.1.1.0.now at (Some args.1.1.1.0)
    → turn_by args.1.0 args.1.1.0.now args.1.1.1.0.end r ≡ turn_by args.1.0 args.1.1.0.now args.1.1.1.0.end s
seen_with_once κ args r s e f p q =
    told_of args.1.0 args.1.1.0.now args.0 args.1.1.1.0 r s (rw option_map_id at p) (rw option_map_id at q)

pub seen_rejects_once : SettlesResult seen_rejects.Learnt
seen_rejects_once κ args r s e f = one-outcome

pub seen_is_complete_once : SettlesResult seen_is_complete.Learnt
seen_is_complete_once κ args r s e f = one-outcome

pub judge_once : (κ : _) (args : _) (r s : Result (Judged Seen) Refusal) (e f : _) → judge.Learnt κ args r e → judge.Learnt κ args s f
    → judged_to (λ x. x) CancelRequest args.0.now r ≡ judged_to (λ x. x) CancelRequest args.0.now s
judge_once κ args r s e f p q = settled (λ x. x) CancelRequest args.0.now r s p q
