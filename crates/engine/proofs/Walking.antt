-- The walk over the cells, as pure mathematics: what holds between two cells, and that a cell passed, changed or not, keeps it.
-- The goal is fixed; what holds is that the work done, with what the rules say of the cells still to come, is the goal.
use mathlib.Core.Path.{◌≡◌, refl, sym, ap, ◌∙◌}
use mathlib.Core.Bool.{true}
use mathlib.Core.List.{List, [], ◌∷◌, ◌++◌, flat_map, append_assoc, append-nil}
use Prim.Native.Nat.{ℕ, suc, ◌+◌, ◌*◌, ◌-◌, ◌<◌, ◌≤◌}
use native.Mathlib.Nat.{mul-suc, add-zero}
use native.Mathlib.Omega.{arith}
use borrow.Rule.Slice.PartMut.{put_mid, mid_of, same_len_mid}
use lib.ListN.{length, take, drop, length-append, length-drop}
use lib.Seq.{sets, length-sets, take-add, drop-drop, take_all, length-take-le}
use Rattle.octets.specs.Runs.{Bytes, pieces}
use Rattle.octets.proofs.PiecesLaws.{pieces_more, length-flat_map}
use Rattle.octets.proofs.RunsLaws.{sets-run, bytes_drop, bytes_take}
use Rattle.rules.specs.Lists.{every}
use Rattle.rules.specs.Layout.{current, cell_size, row_size, answer_size}
use Rattle.rules.specs.Table.{legal_cell}
use Rattle.rules.specs.Answer.{row_bytes}
use Rattle.rules.specs.Reply.{Row}
use Rattle.rules.proofs.MapLaws.{flat_map_append}
use Rattle.rules.proofs.TestLaws.{both}
use Rattle.rules.proofs.RowCodec.{length-row_bytes}
use Rattle.engine.proofs.LentLaws.{lent-take, lent-drop, lent-sets}

-- the cell at an index
abbrev pub cell_from : List ℕ → ℕ → List ℕ
cell_from t at = take (cell_size current) (drop at t)

-- the cells from an index on
abbrev cells_from : List ℕ → ℕ → ℕ → List (List ℕ)
cells_from t at left = pieces (cell_size current) left (drop at t)

-- rows as they are stored
abbrev stored : List Row → List ℕ
stored rows = flat_map (row_bytes current) rows

-- what holds between two cells: f gives a cell's bytes afterwards, g its rows, at most `per` of them
pub record Going (f : List ℕ → List ℕ) (g : List ℕ → List Row) (per : ℕ) (T A : List ℕ) (R most lt la : ℕ) (t a : List ℕ) (at out rows left : ℕ) : Type 0 where
  pub size : at + cell_size current * left ≡ length t
  pub bytes : Bytes (drop at t)
  pub fine : every (legal_cell current) (cells_from t at left) ≡ true
  pub place : out ≡ answer_size current + row_size current * rows
  pub room : out + row_size current * (per * left) ≤ length a
  pub few : rows + per * left ≤ most
  pub same-t : length t ≡ lt
  pub same-a : length a ≡ la
  pub table : T ≡ take at t ++ flat_map f (cells_from t at left)
  pub count : R ≡ rows + length (flat_map g (cells_from t at left))
  pub answer : A ≡ sets a out (stored (flat_map g (cells_from t at left)))

flat_cons : {A B : Type 0} (f : A → List B) (x : A) (xs : List A) → flat_map f (x ∷ xs) ≡ f x ++ flat_map f xs
unfolding flat_map
flat_cons f x xs = refl

module _ {f : List ℕ → List ℕ} {g : List ℕ → List Row} {per : ℕ} {T A : List ℕ} {R most lt la : ℕ} {t a : List ℕ} {at out rows left : ℕ}
    (go : Going f g per T A R most lt la t a at out rows left) where
  -- the walk is over
  pub over-table : left ≤ 0 → T ≡ t
  unfolding pieces flat_map
  over-table h =
      let z : left ≡ 0 = omega arith in
      go.table ∙ rw z (append-nil (take at t) ∙ take_all at t (omega (arith, go.size)))

  pub over-count : left ≤ 0 → R ≡ rows
  unfolding pieces flat_map
  over-count h = let z : left ≡ 0 = omega arith in go.count ∙ rw z (add-zero rows)

  pub over-answer : left ≤ 0 → A ≡ a
  unfolding pieces flat_map
  over-answer h = let z : left ≡ 0 = omega arith in go.answer ∙ rw z

  module _ (some : 0 < left) where
    next : cells_from t at left ≡ cell_from t at ∷ cells_from t (at + cell_size current) (left - 1)
    next = pieces_more (cell_size current) left at t some

    cell_fine : (legal_cell current (cell_from t at) ≡ true) × (every (legal_cell current) (cells_from t (at + cell_size current) (left - 1)) ≡ true)
    unfolding every
    cell_fine = both (legal_cell current (cell_from t at)) _ (rw next at go.fine)

    pub cell-long : length (cell_from t at) ≡ cell_size current
    cell-long = length-take-le (cell_size current) (drop at t) (rw length-drop (omega (arith, go.size)))

    pub cell-bytes : Bytes (cell_from t at)
    cell-bytes = bytes_take (cell_size current) (drop at t) go.bytes

    pub cell_legal_lem : legal_cell current (cell_from t at) ≡ true
    cell_legal_lem = cell_fine.0

    -- one cell's rows of the room that is left
    one_less_lem : per * left ≡ per * (left - 1) + per
    one_less_lem = let e : left ≡ suc (left - 1) = omega arith in ap (λ n. per * n) e ∙ mul-suc per (left - 1)

    pub room_here : out + row_size current * per ≤ length a
    room_here = omega (arith, go.room, one_less_lem)

    pub few_here : rows + per ≤ most
    few_here = omega (arith, go.few, one_less_lem)

    rest-bytes : Bytes (drop (at + cell_size current) t)
    rest-bytes = rw drop-drop at (bytes_drop (cell_size current) (drop at t) go.bytes)

    -- a cell that is not reached
    pub skip : f (cell_from t at) ≡ cell_from t at → g (cell_from t at) ≡ []
        → Going f g per T A R most lt la t a (at + cell_size current) out rows (left - 1)
    skip same none =
        record {
          size = omega (arith, go.size);
          bytes = rest-bytes;
          fine = cell_fine.1;
          place = go.place;
          room = omega (arith, go.room, one_less_lem);
          few = omega (arith, go.few, one_less_lem);
          same-t = go.same-t;
          same-a = go.same-a;
          table = go.table ∙ rw (next, flat_cons, same, ← append_assoc, take-add at (cell_size current) t);
          count = go.count ∙ rw (next, flat_cons, none);
          answer = go.answer ∙ rw (next, flat_cons, none);
        }

    -- a cell that is reached: its part of the table comes back changed, and the rest of the answer with its rows
    pub step_cell_lem : (m : ℕ) → m ≡ length a - out → (c' : List ℕ) (n : ℕ) → c' ≡ f (cell_from t at) → length c' ≡ cell_size current → n ≡ length (g (cell_from t at)) → n ≤ per
        → Going f g per T A R most lt la (put_mid at (cell_size current) t c') (put_mid out m a (sets (mid_of out m a) 0 (stored (g (cell_from t at)))))
        (at + cell_size current) (out + row_size current * n) (rows + n) (left - 1)
    step_cell_lem m em c' n new long many few =
        let fits : at + cell_size current ≤ length t = omega (arith, go.size) in
        let rs : List Row = g (cell_from t at) in
        let ln : length (stored rs) ≡ row_size current * n = rw many (length-flat_map (row_size current) (row_bytes current) rs (length-row_bytes current)) in
        let fits-a : out + length (stored rs) ≤ length a = omega (arith, room_here) in
        let t' : List ℕ = put_mid at (cell_size current) t c' in
        let ea : put_mid out m a (sets (mid_of out m a) 0 (stored rs)) ≡ sets a out (stored rs) = lent-sets a (stored rs) out m fits-a em in
        let ed : drop (at + cell_size current) t' ≡ drop (at + cell_size current) t = lent-drop t c' at (cell_size current) fits long in
        let et : take (at + cell_size current) t' ≡ take at t ++ c' = lent-take t c' at (cell_size current) fits long in
        let kt : length t' ≡ length t = same_len_mid at (cell_size current) t c' (long ∙ sym cell-long) in
        let ka : length (sets a out (stored rs)) ≡ length a = length-sets a out (stored rs) in
        rw ea
        (record {
          size = omega (arith, go.size);
          bytes = rw ed rest-bytes;
          fine = rw ed cell_fine.1;
          place = omega (arith, go.place);
          room = omega (arith, go.room, one_less_lem);
          few = omega (arith, go.few, one_less_lem);
          same-t = kt ∙ go.same-t;
          same-a = ka ∙ go.same-a;
          table = go.table ∙ rw (next, flat_cons, ed, et, new, append_assoc);
          count = go.count ∙ rw (next, flat_cons, ed, length-append) (omega arith);
          answer =
              go.answer
              ∙ rw (next, flat_cons, ed, flat_map_append)
              (sym (sets-run (stored rs) _ a out (out + row_size current * n) (omega arith)));
        })
