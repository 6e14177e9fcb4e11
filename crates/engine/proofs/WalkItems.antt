-- The items of the walk's record, and the cells that they name: where the search begins, goes on and ends.
-- By what an accepted record promises of its area and of its length.
use mathlib.Core.Path.{◌≡◌, sym, ◌∙◌}
use mathlib.Core.Bool.{true}
use mathlib.Core.List.{List, [], ◌∷◌}
use Prim.Native.Nat.{ℕ, ◌+◌, ◌*◌, ◌<◌, ◌≤◌}
use native.Mathlib.Omega.{arith}
use borrow.Rule.Slice.PartMut.{mid_of}
use borrow.Author.Tests.{eqb-true}
use lib.Dec.{eqb}
use lib.ListN.{length, take, drop, drop_of_length-le}
use Rattle.octets.specs.Runs.{gets}
use Rattle.octets.specs.Numbers.{be}
use Rattle.rules.specs.Layout.{current, head_size, cell_size, record_size, item_size}
use Rattle.rules.specs.Table.{cell_of}
use Rattle.rules.specs.Record.{no_area, request_of, items_of, area_fits}
use Rattle.rules.specs.Reach.{names, reaches}
use Rattle.rules.specs.declared.Request.{Request}
use Rattle.rules.proofs.KindAreaLaws.{second-area}
use Rattle.rules.proofs.VerdictLaws.{request-accepted}
use Rattle.rules.proofs.RecordCodec.{length_items_of}
use Rattle.rules.proofs.AcceptedRecordLaws.{AcceptedRecord, record-accepted}
use Rattle.rules.proofs.AcceptedCallLaws.{call_accepted}
use Rattle.record_read.proofs.Items.{items-read-next}
use Rattle.engine.specs.Reach.{named_by, KeysOf}
use Rattle.engine.specs.declared.reach.Naming.{Naming}
use Rattle.engine.specs.Walk.{WalkIn, SecondIn}
use Rattle.engine.proofs.Walking.{cell_from}

module _ {t : List ℕ} {cells : ℕ} {r : List ℕ} {items : ℕ} {q : Request} {new a : List ℕ} (w : WalkIn t cells r items q new a) where
  fine : AcceptedRecord current r
  fine = record-accepted current r (call_accepted current t r (length a) w.accepted).req

  pub items_span : record_size + item_size current * items ≡ length r
  items_span = rw w.all_items (sym fine.size)

  -- area 0 exactly when there are none
  pub no_items : eqb q.area no_area ≡ true → items_of r ≡ []
  unfolding area_fits
  no_items e =
      let area = (request-accepted _ (request_of r) (items_of r) fine.request).area in
      let none : eqb (request_of r).area no_area ≡ true = rw (← w.request) e in
      drop_of_length-le (items_of r) {i = 0} (omega (arith, eqb-true (length (items_of r)) 0 (rw none at area)))

  -- the item that the search stands at
  pub next-item : (k : ℕ) → k < items → drop k (items_of r) ≡ be (gets r (record_size + item_size current * k) (item_size current)) ∷ drop (k + 1) (items_of r)
  next-item k h =
      items-read-next r (call_accepted current t r (length a) w.accepted).req k (rw (← w.all_items) h)

  pub all_looked : (k : ℕ) → items ≤ k → length (items_of r) ≤ k
  all_looked k h = rw (length_items_of r, ← w.all_items) h

-- what names the cell that was lent
pub named_here : (t : List ℕ) (at : ℕ) {k area : ℕ} {s : Naming} → k ≡ cell_size current → KeysOf area (take (head_size current) (mid_of at k t)) s
    → (x : ℕ) → named_by s x ≡ names area (cell_of current (cell_from t at)).head x
unfolding cell_of
named_here t at ek h x = h.meant x ∙ rw ek

-- an accepted second reaches every cell
pub second-reaches : {t : List ℕ} {cells : ℕ} {r a : List ℕ} → SecondIn t cells r a → (c : List ℕ) → reaches (request_of r).area (items_of r) (cell_of current c).head ≡ true
unfolding reaches
second-reaches {t} {cells} {r} {a} w c =
    let accepted = record-accepted current r (call_accepted current t r (length a) w.accepted).req in
    let allowed = request-accepted _ (request_of r) (items_of r) accepted.request in
    rw (second-area (request_of r) allowed.kind w.second)
