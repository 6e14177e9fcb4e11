-- The five bytes of a notification at an index: the definition cuts them from the front, field by field; code divides the one number that they say.
use Rattle.std.specs.Prelude.{Some, None}
use mathlib.Core.Path.{◌≡◌, refl, sym, ap, ◌∙◌}
use mathlib.Core.Bool.{true, false}
use mathlib.Core.List.{List, [], ◌∷◌}
use Prim.Native.Nat.{ℕ, ◌+◌, ◌-◌, ◌*◌, ◌/◌, ◌%◌, ◌<◌, ◌≤◌}
use native.Mathlib.Omega.{arith}
use lib.ListN.{length, get_or, drop}
use borrow.Author.Tests.{eq-eqb, ne_eqb}
use Rattle.octets.specs.Runs.{gets}
use Rattle.octets.specs.Numbers.{be}
use Rattle.octets.proofs.NumbersLaws.{be-run}
use Rattle.formats.specs.Format.{Found, nothing, found, after, number, only, as_if}
use Rattle.formats.specs.Bits.{width, cut, padded, bits}
use Rattle.formats.proofs.ReadLaws.{bits-cut, bits-set, bits-found}
use Rattle.formats.proofs.SummaryLaws.{nothing-found, found-value}
use Rattle.wire.specs.MessageTree.{note_fields}
use Rattle.wire.specs.Readers.{NoteAt}
use Rattle.wire.specs.declared.Note.{Note}

-- ---- the number

abbrev top : ℕ
top = 549755813888

cut_fields : (n : ℕ) → n < top → cut note_fields n ≡ (n / 274877906944) ∷ (n / 4194304 % 65536) ∷ (n / 64 % 65536) ∷ []
unfolding cut width
cut_fields n h =
    let a : n % 549755813888 / 274877906944 ≡ n / 274877906944 = omega arith in
    let b : n % 549755813888 % 274877906944 / 4194304 ≡ n / 4194304 % 65536 = omega arith in
    let c : n % 549755813888 % 274877906944 % 4194304 / 64 ≡ n / 64 % 65536 = omega arith in
    rw (a, b, c)

padded_fields : (n : ℕ) → n < top → n % 64 ≡ 0 → padded note_fields n ≡ true
unfolding padded width
padded_fields n h e =
    let a : n / 549755813888 ≡ 0 = omega arith in
    let b : n % 549755813888 % 274877906944 % 4194304 % 64 / 1 ≡ 0 = omega arith in
    rw (eq-eqb (n / 549755813888) 0 a, eq-eqb (n % 549755813888 % 274877906944 % 4194304 % 64 / 1) 0 b)

extended : (n : ℕ) → top ≤ n → padded note_fields n ≡ false
unfolding padded width
extended n h =
    let a : n / 549755813888 ≡ 0 → ⊥ = λ e. omega arith in
    rw (ne_eqb (n / 549755813888) 0 a)

set-behind : (n : ℕ) → n < top → (n % 64 ≡ 0 → ⊥) → padded note_fields n ≡ false
unfolding padded width
set-behind n h other =
    let a : n / 549755813888 ≡ 0 = omega arith in
    let b : n % 549755813888 % 274877906944 % 4194304 % 64 / 1 ≡ 0 → ⊥ = λ e. other (omega arith) in
    rw (eq-eqb (n / 549755813888) 0 a, ne_eqb (n % 549755813888 % 274877906944 % 4194304 % 64 / 1) 0 b)

-- whether extensions follow is one bit
present_bit : (x : Found ℕ) (p identifier serial : ℕ) (rest : List ℕ) → found (p ∷ identifier ∷ serial ∷ []) rest ≡ after x (λ n r. found (cut note_fields n) r) → p < 2
unfolding cut width
present_bit nothing p identifier serial rest e = absurd (nothing-found (p ∷ identifier ∷ serial ∷ []) rest (sym e))
present_bit (found n r) p identifier serial rest e =
    let bit : p ≡ n % 549755813888 / 274877906944 = ap (λ (vs : List ℕ). get_or vs 0 0) (found-value (p ∷ identifier ∷ serial ∷ []) (cut note_fields n) rest r e) in
    omega (arith, bit)

-- ---- at an index

module _ (l : List ℕ) (at : ℕ) where
  absent : (bits 5 note_fields).parse (drop at l) ≡ nothing → NoteAt l at None
  absent e = record { says = sym e; lies = tt }

  pub note-cut : at ≤ length l → length l - at < 5 → NoteAt l at None
  note-cut k h = absent (bits-cut l at 5 (at + 5) refl note_fields k (omega arith))

  pub note_present : (note : Note) → NoteAt l at (Some note) → note.present < 2
  unfolding bits as_if
  note_present note read = present_bit ((only (padded note_fields) (number 5)).parse (drop at l)) note.present note.identifier note.serial (drop note.end l) read.says

  module _ (front middle back : ℕ) (long : at + 5 ≤ length l) (f : front ≡ be (gets l at 1)) (m : middle ≡ be (gets l (at + 1) 2)) (b : back ≡ be (gets l (at + 3) 2)) where
    said : ℕ
    said = front * 4294967296 + middle * 65536 + back

    here : said ≡ be (gets l at 5)
    unfolding said
    here =
        let later : be (gets l (at + 1) 2) * 65536 + be (gets l (at + 3) 2) ≡ be (gets l (at + 1) 4) = be-run 2 2 l (at + 1) (at + 3) (omega arith) in
        let all : be (gets l at 1) * 4294967296 + be (gets l (at + 1) 4) ≡ be (gets l at 5) = be-run 1 4 l at (at + 1) refl in
        omega arith

    pub note-extended : top ≤ front * 4294967296 + middle * 65536 + back → NoteAt l at None
    unfolding said
    note-extended h = absent (bits-set l at 5 (at + 5) refl note_fields said long here (extended said h))

    pub note-padding : front * 4294967296 + middle * 65536 + back < top → ((front * 4294967296 + middle * 65536 + back) % 64 ≡ 0 → ⊥) → NoteAt l at None
    unfolding said
    note-padding h other = absent (bits-set l at 5 (at + 5) refl note_fields said long here (set-behind said h other))

    pub note-there : (let n = front * 4294967296 + middle * 65536 + back in n < top → n % 64 ≡ 0 → NoteAt l at (Some (record { present = n / 274877906944; identifier = n / 4194304 % 65536; serial = n / 64 % 65536; end = at + 5 })))
    unfolding said
    note-there h e =
        record {
          says = sym (bits-found l at 5 (at + 5) refl note_fields said long here (padded_fields said h e) ∙ ap (λ (vs : List ℕ). found vs (drop (at + 5) l)) (cut_fields said h));
          lies = long;
        }
