-- What the builder writes is the table that `built` asks: the header field by field, then for each head a cell with no live place.
-- Stores one behind the other are one store (`sets-run`), and a legal head's bytes are those of what it says.
use mathlib.Core.Path.{◌≡◌, refl, sym, ◌∙◌}
use mathlib.Core.List.{List, [], ◌++◌, flat_map, append_assoc, append-nil}
use Prim.Native.Nat.{ℕ, ◌+◌, ◌-◌, ◌*◌, ◌≤◌, ◌<◌}
use native.Mathlib.Nat.{mul-zero, mul-suc, sub-zero}
use native.Mathlib.Numerals.{add-one}
use native.Mathlib.Omega.{arith}
use borrow.Rule.Slice.PartMut.{mid_of, put_mid}
use lib.ListN.{length, take, drop, replicate, length-append, length-drop, drop_of_length-le}
use lib.Seq.{sets, sets-eq, length-sets, take_all, take_at, drop-drop}
use Rattle.octets.specs.Runs.{pieces}
use Rattle.octets.specs.Numbers.{to_be}
use Rattle.octets.specs.Fields.{bytes_of}
use Rattle.octets.proofs.RunsLaws.{sets-run, sets_front}
use Rattle.octets.proofs.NumbersLaws.{length-to_be, to_be_join}
use Rattle.rules.specs.Layout.{current, places_per_cell, most_cells, header_size, head_size, cell_size, table_mark, version_number}
use Rattle.rules.specs.Table.{header_bytes}
use Rattle.table_build.specs.Build.{empty_run}
use Rattle.octets.proofs.PiecesLaws.{pieces_more, pieces_none}

-- ---- the header

behind : (a b c d e : List ℕ) → a ++ (b ++ (c ++ (d ++ (e ++ [])))) ≡ (((a ++ b) ++ c) ++ d) ++ e
behind a b c d e = simp (append_assoc, append-nil)

-- two numbers of eight bytes
header_in_two : (n : ℕ) → n ≤ most_cells
    → header_bytes current n ≡ to_be 8 (((table_mark * 65536 + version_number current) * 65536 + n) * 256 + places_per_cell) ++ to_be 8 0
unfolding header_bytes bytes_of
header_in_two n h =
    let m = table_mark * 65536 + version_number current in
    behind (to_be 3 table_mark) (to_be 2 (version_number current)) (to_be 2 n) (to_be 1 places_per_cell) (to_be 8 0)
    ∙ rw (
      to_be_join 3 2 table_mark (version_number current) (omega arith) (omega arith),
      to_be_join 5 2 m n (omega arith) (omega arith),
      to_be_join 7 1 (m * 65536 + n) places_per_cell (omega arith) (omega arith),
    )

pub header-stored : (n : ℕ) → n ≤ most_cells → (t : List ℕ) {a b : List ℕ}
    → a ≡ sets t 0 (to_be 8 (((table_mark * 65536 + version_number current) * 65536 + n) * 256 + places_per_cell)) → b ≡ sets a 8 (to_be 8 0)
    → b ≡ sets t 0 (header_bytes current n)
header-stored n h t p q =
    rw (q, p, header_in_two n h)
    (sets-run (to_be 8 (((table_mark * 65536 + version_number current) * 65536 + n) * 256 + places_per_cell)) (to_be 8 0) t 0 8 (rw length-to_be refl))

-- ---- a cell

-- the front copied, and what is behind it cleared: a the list after the copy, z what was lent after the clearing
front_stored : (w : ℕ) (l front a z : List ℕ) → length front ≡ w → w ≤ length l → a ≡ sets l 0 front → z ≡ replicate (length (mid_of w (length a - w) a)) 0
    → put_mid w (length a - w) a z ≡ front ++ replicate (length l - w) 0
front_stored w l front a z m f p q =
    let long : length a ≡ length l = rw (p, length-sets) in
    let take_front : take w a ≡ front = rw (p, sets_front l front (omega arith)) (take_at front (drop (length front) l) w m) in
    let rest : length (drop w a) ≡ length l - w = rw (length-drop, long) in
    rw (take_front, q, long, take_all (length l - w) (drop w a) (omega arith), drop_of_length-le (drop w a) {i = length l - w} (omega arith), rest, append-nil)

pub cell-stored : (cell head a z : List ℕ) → length cell ≡ cell_size current → length head ≡ head_size current → a ≡ sets cell 0 head
    → z ≡ replicate (length (mid_of (head_size current) (length a - head_size current) a)) 0 → put_mid (head_size current) (length a - head_size current) a z ≡ empty_run head
unfolding empty_run
cell-stored cell head a z n m p q = front_stored (head_size current) cell head a z m (omega arith) p q ∙ rw n

-- ---- the loop: what is stored is, with what is left, the whole

pub length-empty_run : (head : List ℕ) → length head ≡ head_size current → length (empty_run head) ≡ cell_size current
unfolding empty_run
length-empty_run head e = rw (length-append, e)

-- cells made one by one, each by f of a run of w bytes: t is what k of them left
pub record CellsLeft (f : List ℕ → List ℕ) (w count : ℕ) (t₀ source t : List ℕ) (k : ℕ) : Type 0 where
  pub long : length t ≡ length t₀
  pub same : sets t₀ header_size (flat_map f (pieces w count source)) ≡ sets t (header_size + cell_size current * k) (flat_map f (pieces w (count - k) (drop (w * k) source)))

pub cells-start : (f : List ℕ → List ℕ) (w count : ℕ) (t₀ source : List ℕ) → CellsLeft f w count t₀ source t₀ 0
cells-start f w count t₀ source = record { long = refl; same = rw (mul-zero, sub-zero) }

pub cells-end : {f : List ℕ → List ℕ} {w count : ℕ} {t₀ source t : List ℕ} {k : ℕ} → CellsLeft f w count t₀ source t k → count ≤ k
    → t ≡ sets t₀ header_size (flat_map f (pieces w count source))
unfolding flat_map
cells-end {w} {count} {source} {k} p end = sym (p.same ∙ rw (pieces_none w (count - k) (drop (w * k) source) (omega arith)))

-- a turn: new is what it leaves in cell k
module _ {f : List ℕ → List ℕ} {w count : ℕ} {t₀ source t : List ℕ} {k : ℕ} (p : CellsLeft f w count t₀ source t k) (more : k < count)
    (new : List ℕ) (en : new ≡ f (take (w * k + w - w * k) (drop (w * k) source))) (sized : length new ≡ cell_size current)
    (room : header_size + cell_size current * k + cell_size current ≤ length t) where
  abbrev at : ℕ
  at = header_size + cell_size current * k

  stored : put_mid at (at + cell_size current - at) t new ≡ sets t at new
  stored =
      let whole : at + cell_size current - at ≡ cell_size current = omega arith in
      rw (whole, sets-eq new t at (omega (arith, sized)), sized, drop-drop (cell_size current) at t, append_assoc)

  pub cells_on : CellsLeft f w count t₀ source (put_mid at (at + cell_size current - at) t new) (k + 1)
  unfolding flat_map
  cells_on =
      let whole : w * k + w - w * k ≡ w = omega arith in
      let next : w * (k + 1) ≡ w * k + w = rw (add-one k, mul-suc) in
      let fewer : count - (k + 1) ≡ count - k - 1 = omega arith in
      let behind : header_size + cell_size current * (k + 1) ≡ at + cell_size current = omega arith in
      let made : new ≡ f (take w (drop (w * k) source)) = rw whole at en in
      record {
        long = rw (stored, length-sets) p.long;
        same = p.same ∙ rw (stored, behind, pieces_more w (count - k) (w * k) source (omega arith), next, fewer, ← made, sets-run new _ t at (at + cell_size current) (rw sized));
      }
