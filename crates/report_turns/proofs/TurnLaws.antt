-- One turn changes nothing of what is said in all: what it says, and then what is still to be said of the bytes behind those that it
-- took, is what was to be said before; of all bytes, those still to come among them.
use Rattle.std.specs.Prelude.{Option, Some, None}
use mathlib.Core.Path.{◌≡◌, refl, sym}
use mathlib.Core.Bool.{Bool, true, false}
use mathlib.Core.List.{List, [], ◌++◌, append-nil}
use Prim.Native.Nat.{ℕ}
use lib.ListN.{length, take, drop}
use lib.Seq.{drop-append-le}
use Rattle.rules.specs.Layout.{current}
use Rattle.rules.specs.Applied.{applied}
use Rattle.rules.proofs.TestLaws.{by_test}
use Rattle.report_lines.specs.Framing.{frame_of, stops_at}
use Rattle.report_lines.proofs.Framed.{frame_stays, record_stays}
use Rattle.report_turns.specs.Report.{requests_said, report}
use Rattle.report_turns.specs.Turns.{Program, begun, Step, served, serves}
use Rattle.report_turns.specs.declared.Next.{Next}
use Rattle.report_turns.specs.declared.Next.TheVariants.{Go, Wait, Stop}
use Rattle.report_turns.proofs.RequestLaws.{by_some, framed, none-left, said-none, said-first}

-- what is still to be said of the bytes from here on: of all of them, or of the requests alone once there is a table
abbrev pub still_by : Program → List ℕ → Option ℕ → List ℕ
still_by p l None = report l
still_by p l (Some n) = requests_said (length l) p.table p.answer l

unfoldable pub still : Program → List ℕ → List ℕ
still p l = still_by p l p.cells

-- before there is a table, the buffers are as they were
abbrev pub Untouched : Program → Type 0
Untouched p = p.cells ≡ None → p ≡ begun

-- the input has ended, so nothing more comes
abbrev pub NoMore : Bool → List ℕ → Type 0
NoMore ended more = ended ≡ true → more ≡ []

-- ---- a request

-- the record at hand is that of the whole input
record SameRecord (l more : List ℕ) (size : ℕ) : Type 0 where
  frame : frame_of (l ++ more) true ≡ Some size
  taken : take size (l ++ more) ≡ take size l
  left : drop size (l ++ more) ≡ drop size l ++ more

same-record : (l more : List ℕ) (ended : Bool) (size : ℕ) → NoMore ended more → frame_of l ended ≡ Some size → SameRecord l more size
same-record l more true size none h =
    let e : more ≡ [] = none refl in
    record {
      frame = rw (e, append-nil l) h;
      taken = rw (e, append-nil l);
      left = rw (e, append-nil l, append-nil (drop size l));
    }
same-record l more false size none h =
    record {
      frame = frame_stays l more size h true;
      taken = record_stays l more size h;
      left = drop-append-le size l more (framed l false size h).within;
    }

-- what is said behind a step
abbrev pub behind : Next → List ℕ → List ℕ
behind Go rest = rest
behind Wait rest = rest
behind Stop rest = []

-- what a step says, and what is said behind it
unfoldable pub in_all : Step → List ℕ → List ℕ → List ℕ
in_all x l more = x.said ++ behind x.next (still x.program (drop x.taken l ++ more))

module _ (p : Program) (n : ℕ) (some : p.cells ≡ Some n) (l more : List ℕ) where
  request-said : (size : ℕ) → SameRecord l more size
      → in_all (served p size (applied current p.table (take size l) p.answer)) l more ≡ still p (l ++ more)
  unfolding in_all still served
  request-said size s =
      let o = applied current p.table (take size l) p.answer in
      let f = said-first p.table p.answer (l ++ more) size s.frame in
      by_test (stops_at o.number)
      (λ (t : stops_at o.number ≡ true). rw (some, t) (sym (rw (s.taken, s.left, t) at f)))
      (λ (t : stops_at o.number ≡ false). rw (some, t) (sym (rw (s.taken, s.left, t) at f)))

  nothing_left : (ended : Bool) → NoMore ended more → frame_of l ended ≡ None → ((serves ended p l).next ≡ Wait → ⊥)
      → in_all (serves ended p l) l more ≡ still p (l ++ more)
  unfolding serves in_all still
  nothing_left true none e goes =
      rw (e, some, none refl, append-nil l) (sym (said-none (length l) p.table p.answer l (none-left l e)))
  nothing_left false none e goes = absurd (goes (rw e))

  pub serves-said : (ended : Bool) → NoMore ended more → ((serves ended p l).next ≡ Wait → ⊥) → in_all (serves ended p l) l more ≡ still p (l ++ more)
  unfolding serves
  serves-said ended none goes =
      by_some (frame_of l ended) (λ (e : frame_of l ended ≡ None). nothing_left ended none e goes)
      (λ (size : ℕ) (e : frame_of l ended ≡ Some size). rw e (request-said size (same-record l more ended size none e)))
