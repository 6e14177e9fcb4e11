-- One outcome only: what a public function of this crate returns and leaves, its contract settles. Of a reference: its bytes and where they lie.
-- Each promise is an equation with a definition, and no two parts or writings say the same.
use Rattle.std.specs.Prelude.{Result, Ok, Err}
use Rattle.rules.specs.Refusals.{Writing}
use Rattle.rules.specs.declared.Refusal.{Refusal}
use mathlib.Core.Path.{◌≡◌, ap}
use mathlib.Core.List.{List}
use Prim.Native.Nat.{ℕ}
use native.Mathlib.Omega.{arith}
use Rattle.octets.specs.Settled.{Settles, SettlesResult}
use Rattle.octets.proofs.Once.{one-outcome, both_once}
use Rattle.rules.proofs.OnceLaws.{filled_injective, number_injective}
use Rattle.rules.proofs.OutcomeLaws.{number_positive}
use Rattle.segments.specs.Segments.{Lies, lies_by}
use Rattle.segments.specs.declared.read.Part.{Part}
use Rattle.segments.specs.declared.read.Part.TheVariants.{First, Listed}
use Rattle.segments.proofs.read.segment.Reads as segment
use Rattle.segments.proofs.read.locate.Reads as locate
use Rattle.segments.proofs.read.number.Reads as number
use Rattle.segments.proofs.pack.pack.Reads as pack

-- no two parts say the same
part_injective : (x y : Result Part Refusal) → lies_by x ≡ lies_by y → x ≡ y
part_injective (Ok (First m)) (Ok (First n)) e = ap (λ (l : ℕ). Ok (First l)) (ap (λ (l : Lies). l.length) e)
part_injective (Ok (First m)) (Ok (Listed b n)) e =
    let z = ap (λ (l : Lies). l.buffer) e in
    absurd (omega arith)
part_injective (Ok (First m)) (Err y) e =
    let z = ap (λ (l : Lies). l.number) e in
    absurd (omega (arith, number_positive y))
part_injective (Ok (Listed a m)) (Ok (First n)) e =
    let z = ap (λ (l : Lies). l.buffer) e in
    absurd (omega arith)
part_injective (Ok (Listed a m)) (Ok (Listed b n)) e =
    let s : a ≡ b = ap (λ (l : Lies). l.start) e in
    let t : m ≡ n = ap (λ (l : Lies). l.length) e in
    rw (s, t)
part_injective (Ok (Listed a m)) (Err y) e =
    let z = ap (λ (l : Lies). l.buffer) e in
    absurd (omega arith)
part_injective (Err x) (Ok (First n)) e =
    let z = ap (λ (l : Lies). l.number) e in
    absurd (omega (arith, number_positive x))
part_injective (Err x) (Ok (Listed b n)) e =
    let z = ap (λ (l : Lies). l.buffer) e in
    absurd (omega arith)
part_injective (Err x) (Err y) e = ap Err (number_injective x y (ap (λ (l : Lies). l.number) e))

pub segment_once : Settles {X = List ℕ × (ℕ × ℕ)} segment.Learnt (λ κ r e. (r.now, r.ref_ptr))
segment_once κ args r s e f p q = both_once (one-outcome p.0 q.0) (one-outcome p.1 q.1)

pub locate_once : SettlesResult locate.Learnt
locate_once κ args r s e f p q = part_injective r s (one-outcome p q)

pub number_once : SettlesResult number.Learnt
number_once κ args r s e f = one-outcome

pub pack_once : Settles {X = Writing × List ℕ} pack.Learnt (λ κ r e. (r, e.1.1.0.now))
pack_once κ args r s e f p q = let both = filled_injective r s e.1.1.0.now f.1.1.0.now (one-outcome p q) in both_once both.0 both.1
