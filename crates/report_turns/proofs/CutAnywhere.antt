-- However an input is cut, the texts joined are the report of the whole: along the turns and reads of `Spoken`, what was said and what
-- is still to be said of all bytes, those still to come among them, stays the same.
use Rattle.std.specs.Prelude.{Some, None}
use mathlib.Core.Path.{◌≡◌, refl, sym, ap, ◌∙◌}
use mathlib.Core.Bool.{Bool, true, false≢true}
use mathlib.Core.List.{List, [], ◌++◌, flat_map, append_assoc, append-nil}
use Prim.Native.Nat.{ℕ}
use Rattle.report_turns.specs.Turns.{Program, begun, serves, step_by, step, Spoken, stops, goes, reads, finds_the_end}
use Rattle.report_turns.specs.Pieces.{joined, CutAnywhere}
use Rattle.report_turns.specs.declared.Next.TheVariants.{Go, Wait, Stop}
use Rattle.report_turns.proofs.RequestLaws.{by_some}
use Rattle.report_turns.proofs.TurnLaws.{still, Untouched, NoMore, in_all, serves-said}
use Rattle.report_turns.proofs.OpeningLaws.{opens-said}
use Rattle.report_turns.proofs.StepLaws.{still_none}

-- ---- one turn

module _ (l more : List ℕ) (ended : Bool) (none : NoMore ended more) where
  opening-said : ((step ended begun l).next ≡ Wait → ⊥) → in_all (step ended begun l) l more ≡ still begun (l ++ more)
  unfolding step still
  opening-said moves = opens-said l more ended none moves

  serving_said : (p : Program) (n : ℕ) → p.cells ≡ Some n → ((step ended p l).next ≡ Wait → ⊥) → in_all (step ended p l) l more ≡ still p (l ++ more)
  unfolding step
  serving_said p n some moves =
      let same : step_by ended p l p.cells ≡ serves ended p l = ap (step_by ended p l) some in
      rw same (serves-said p n some l more ended none (rw same at moves))

  step-said : (p : Program) → Untouched p → ((step ended p l).next ≡ Wait → ⊥) → in_all (step ended p l) l more ≡ still p (l ++ more)
  step-said p u moves =
      by_some p.cells (λ (e : p.cells ≡ None). opening (u e)) (λ (n : ℕ) (e : p.cells ≡ Some n). serving_said p n e moves)
    where
      opening : p ≡ begun → in_all (step ended p l) l more ≡ still p (l ++ more)
      opening e = rw e (opening-said (rw e at moves))

-- ---- without a table the buffers are as they were

step_untouched : (ended : Bool) (p : Program) (l : List ℕ) → Untouched p → Untouched (step ended p l).program
step_untouched ended p l u z = same ∙ u (sym (ap (λ (q : Program). q.cells) same) ∙ z)
  where
    same : (step ended p l).program ≡ p
    same = still_none ended p l z

-- ---- all turns

spoken_said : {ended : Bool} {p : Program} {l : List ℕ} {pieces : List (List ℕ)} {text : List ℕ} → Spoken ended p l pieces text
    → Untouched p → (ended ≡ true → pieces ≡ []) → text ≡ still p (l ++ joined pieces)
unfolding in_all flat_map
spoken_said {ended} {p} {l} {pieces} (stops s) u none =
    let moves : (step ended p l).next ≡ Wait → ⊥ = λ w. let z : Stop ≡ Wait = sym s ∙ w in cc in
    let e = step-said l (joined pieces) ended (λ (t : ended ≡ true). rw (none t)) p u moves in
    sym (append-nil (step ended p l).said) ∙ rw s at e
spoken_said {ended} {p} {l} {pieces} (goes {text} s rest) u none =
    let moves : (step ended p l).next ≡ Wait → ⊥ = λ w. let z : Go ≡ Wait = sym s ∙ w in cc in
    let e = step-said l (joined pieces) ended (λ (t : ended ≡ true). rw (none t)) p u moves in
    let i = spoken_said rest (step_untouched ended p l u) none in
    rw i (rw s at e)
spoken_said {p} {l} (reads {piece} {pieces} w rest) u none =
    spoken_said rest u (λ t. absurd (false≢true t)) ∙ ap (still p) (append_assoc l piece (joined pieces))
spoken_said {p} {l} (finds_the_end w rest) u none = spoken_said rest u (λ t. refl)

pub cut_anywhere : CutAnywhere
unfolding still
cut_anywhere pieces text s = spoken_said s (λ z. refl) (λ t. absurd (false≢true t))
