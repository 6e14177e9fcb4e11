-- The frame, read as an element: choice and procedure code stand where an element has its id, and of a choice-extension the id stands behind the choice.
-- Both are a criticality and an open type behind that.
use Rattle.std.specs.Prelude.{Option, Some, None, Ok, Err}
use mathlib.Core.Path.{◌≡◌, refl, sym, ap, subst, ◌∙◌}
use mathlib.Core.Bool.{true, false, cond, ◌&&◌}
use mathlib.Core.List.{List, []}
use Prim.Native.Nat.{ℕ, ◌+◌, ◌-◌, ◌*◌, ◌/◌, ◌%◌, ◌<◌, ◌≤◌}
use native.Mathlib.Omega.{arith}
use lib.Dec.{eqb, ltb}
use lib.ListN.{length, take, drop, drop_of_length-le, length-drop}
use lib.Seq.{drop-cons, take_all}
use borrow.Author.Tests.{lt-ltb, le-ltb, ltb-true, ltb-false, eq-eqb, ne_eqb, eqb-true, eqb-false}
use Rattle.octets.specs.Runs.{gets, Bytes}
use Rattle.octets.specs.Numbers.{be}
use Rattle.octets.proofs.NumbersLaws.{be-run, be-gets_lt}
use Rattle.rules.proofs.TestLaws.{both, by_test, and_with-true}
use Rattle.formats.specs.Format.{Found, nothing, found, after, all_of, number, opaque, pair, behind, only, as_if, inside}
use Rattle.formats.specs.Summary.{summed}
use Rattle.formats.proofs.SummaryLaws.{nothing-found, found-value}
use Rattle.formats.proofs.ReadLaws.{number_cut, number-found}
use Rattle.aper.specs.Elements.{open_type, Element, two_bits, head, under, holding, plain}
use Rattle.aper.specs.Readers.{ElementAt}
use Rattle.aper.specs.declared.Element.{Element as Placed}
use Rattle.aper.proofs.Once.{element_settled}
use Rattle.wire.specs.Messages.{choice_of, code_of, frame_id}
use Rattle.wire.specs.Frame.{Frame, code_size, frame_criticality, frame_under, frame, outer}
use Rattle.wire.specs.declared.Message.{Message}
use Rattle.wire.specs.declared.Message.TheVariants.{CancelRequest, CancelResponse, WriteReplaceResponse}
use Rattle.wire_judge.specs.Readers.{is_own, NotOwn, outside_of, Outside, ours, FramedBy, FramedAs}
use Rattle.rules.specs.declared.Refusal.{Refusal}
use Rattle.rules.specs.declared.Refusal.TheVariants.{BadEncoding, OtherMessage}

-- ---- behind an id: a criticality and an open type

abbrev element_by : ℕ → ℕ → List ℕ → Element (List ℕ)
element_by id c v = record { id = id; criticality = c; contents = v }

abbrev frame_by : ℕ → ℕ → ℕ → List ℕ → Frame (List ℕ)
frame_by choice code c v = record { choice = choice; code = code; criticality = c; value = v }

behind_id : {A : Type 0} → (ℕ → List ℕ → A) → List ℕ → Found A
behind_id make r = after (two_bits.parse r) (λ c s. after (open_type.parse s) (λ v t. found (make c v) t))

-- an element as the frame that it is
pub framed_as : ℕ → ℕ → Element (List ℕ) → List ℕ → Found (Frame (List ℕ))
framed_as choice code e t = cond (ltb e.criticality 3) (found (frame_by choice code e.criticality e.contents) t) nothing

element-behind : (l : List ℕ) (at id : ℕ) (r : List ℕ) → (number 2).parse (drop at l) ≡ found id r → plain.parse (drop at l) ≡ behind_id (λ c v. element_by id c v) r
unfolding holding under head behind as_if pair inside opaque behind_id
element-behind l at id r e = rw e (first (two_bits.parse r))
  where
    second : (c : ℕ) (y : Found (List ℕ))
        → after (after y (λ v s. found v s)) (λ v s. found (element_by id c v) s)
        ≡ after y (λ v t. found (element_by id c v) t)
    second c nothing = refl
    second c (found v s) = refl

    first : (x : Found ℕ)
        → after {A = ℕ × ℕ} (after x (λ c s. found (id, c) s)) (λ h s. after (after (open_type.parse s) (λ v t. found v t)) (λ v t. found (element_by h.0 h.1 v) t))
        ≡ after x (λ c s. after (open_type.parse s) (λ v t. found (element_by id c v) t))
    first nothing = refl
    first (found c s) = second c (open_type.parse s)

frame-behind-it : (l : List ℕ) (choice code id : ℕ) (s r : List ℕ) → two_bits.parse l ≡ found choice s → (number (code_size choice)).parse s ≡ found code r
    → outer.parse l ≡ after (behind_id (λ c v. element_by id c v) r) (framed_as choice code)
unfolding frame frame_under frame_criticality behind as_if pair inside only opaque behind_id framed_as
frame-behind-it l choice code id s r e k = rw (e, k) (first (two_bits.parse r))
  where
    first : (x : Found ℕ)
        → after {A = ℕ × (ℕ × List ℕ)} (after {A = ℕ × List ℕ} (after (after x (λ c q. cond (ltb c 3) (found c q) nothing)) (λ c q. after (after (open_type.parse q) (λ v t. all_of (found v []) t)) (λ v t. found (c, v) t))) (λ q u. found (code, q) u)) (λ p u. found (frame_by choice p.0 p.1.0 p.1.1) u)
        ≡ after {A = Element (List ℕ)} (after x (λ c q. after (open_type.parse q) (λ v t. found (element_by id c v) t))) (λ h t. cond (ltb h.criticality 3) (found (frame_by choice code h.criticality h.contents) t) nothing)
    first nothing = refl
    first (found c q) = by_test (ltb c 3) (λ t. rw (t) (second c t (open_type.parse q))) (λ t. rw t (none c t (open_type.parse q)))
      where
        second : (c : ℕ) → ltb c 3 ≡ true → (y : Found (List ℕ))
            → after {A = ℕ × (ℕ × List ℕ)} (after {A = ℕ × List ℕ} (after (after y (λ v t. all_of (found v []) t)) (λ v t. found (c, v) t)) (λ q u. found (code, q) u)) (λ p u. found (frame_by choice p.0 p.1.0 p.1.1) u)
            ≡ after {A = Element (List ℕ)} (after y (λ v t. found (element_by id c v) t)) (λ h t. cond (ltb h.criticality 3) (found (frame_by choice code h.criticality h.contents) t) nothing)
        second c f nothing = refl
        second c f (found v t) = rw f

        none : (c : ℕ) → ltb c 3 ≡ false → (y : Found (List ℕ))
            → nothing ≡ after {A = Element (List ℕ)} (after y (λ v t. found (element_by id c v) t)) (λ h t. cond (ltb h.criticality 3) (found (frame_by choice code h.criticality h.contents) t) nothing)
        none c f nothing = refl
        none c f (found v t) = rw f

-- ---- what an element that is the frame says

module _ (m : Message) (l : List ℕ) (at choice code : ℕ) (framed : outer.parse l ≡ after (plain.parse (drop at l)) (framed_as choice code)) where
  answers : (x : Found (Frame (List ℕ))) → outer.parse l ≡ x → all_of (summed (ours m) x) [] ≡ all_of (summed (ours m) (outer.parse l)) []
  answers x e = ap (λ (y : Found (Frame (List ℕ))). all_of (summed (ours m) y) []) (sym e)

  none : nothing ≡ all_of (summed (ours m) (outer.parse l)) [] → FramedAs m l (Err BadEncoding)
  none e = subst (FramedBy l (Err BadEncoding)) e refl

  pub frame-none : ElementAt l at None → FramedAs m l (Err BadEncoding)
  frame-none read = none (answers nothing (framed ∙ ap (λ (x : Found (Element (List ℕ))). after x (framed_as choice code)) (sym read.says)))

  module _ (id criticality start end : ℕ) (read : ElementAt l at (Some (record { id = id; criticality = criticality; start = start; end = end }))) where
    this : outer.parse l ≡ cond (ltb criticality 3) (found (frame_by choice code criticality (take (end - start) (drop start l))) (drop end l)) nothing
    unfolding framed_as
    this = framed ∙ ap (λ (x : Found (Element (List ℕ))). after x (framed_as choice code)) (sym read.says)

    pub frame-criticality : 3 ≤ criticality → FramedAs m l (Err BadEncoding)
    frame-criticality h = none (answers nothing (this ∙ rw (le-ltb criticality 3 h)))

    module _ (small : criticality < 3) where
      there : outer.parse l ≡ found (frame_by choice code criticality (take (end - start) (drop start l))) (drop end l)
      there = this ∙ rw (lt-ltb criticality 3 small)

      pub frame-behind : (end ≡ length l → ⊥) → FramedAs m l (Err BadEncoding)
      frame-behind other =
          let more : end < length l = omega (arith, other, read.lies.1) in
          none (rw (drop-cons l end 0 more) at (answers (found (frame_by choice code criticality (take (end - start) (drop start l))) (drop end l)) there))

      module _ (ends : end ≡ length l) where
        whole : outer.parse l ≡ found (frame_by choice code criticality (drop start l)) []
        whole =
            let all : length l ≤ end = omega arith in
            let rest : length (drop start l) ≤ end - start = rw length-drop (omega arith) in
            there ∙ rw (drop_of_length-le l all, take_all (end - start) (drop start l) rest)

        frame-ours : choice ≡ choice_of m → code ≡ code_of m → FramedAs m l (Ok start)
        frame-ours p q =
            (rw (eq-eqb choice (choice_of m) p, eq-eqb code (code_of m) q) at (answers (found (frame_by choice code criticality (drop start l)) []) whole), omega (arith, read.lies.2))

        pub frame-other : (eqb choice (choice_of m) && eqb code (code_of m)) ≡ false → FramedAs m l (Err OtherMessage)
        frame-other t =
            let other : found [] [] ≡ all_of (summed (ours m) (outer.parse l)) [] = rw t at (answers (found (frame_by choice code criticality (drop start l)) []) whole) in
            subst (FramedBy l (Err OtherMessage)) other (refl, refl)

-- what is outside our messages, if an element that is all of the frame is not the message's own
pub frame-outside : (m : Message) (l : List ℕ) (at choice code : ℕ) → outer.parse l ≡ after (plain.parse (drop at l)) (framed_as choice code) → (r : Refusal) → (out : Outside l at r)
    → ((e : Placed) → ElementAt l at (Some e) → e.criticality < 3 → e.end ≡ length l → (eqb choice (choice_of m) && eqb code (code_of m)) ≡ false) → FramedAs m l (Err r)
frame-outside m l at choice code framed r out other = subst (λ (x : Refusal). FramedAs m l (Err x)) (sym out.says) (by out.read out.there)
  where
    by : (x : Option Placed) → ElementAt l at x → FramedAs m l (Err (outside_of (length l) x))
    by None read = frame-none m l at choice code framed read
    by (Some e) read =
        by_test (ltb e.criticality 3)
        (λ t. by_test (eqb e.end (length l))
        (λ u. rw (t, u) (frame-other m l at choice code framed e.id e.criticality e.start e.end read (ltb-true e.criticality 3 t) (eqb-true e.end (length l) u) (other e read (ltb-true e.criticality 3 t) (eqb-true e.end (length l) u))))
        (λ u. rw (t, u) (frame-behind m l at choice code framed e.id e.criticality e.start e.end read (ltb-true e.criticality 3 t) (eqb-false e.end (length l) u))))
        (λ t. rw t (frame-criticality m l at choice code framed e.id e.criticality e.start e.end read (ltb-false e.criticality 3 t)))

-- ---- the choice

module _ (l : List ℕ) where
  absent : (m : Message) → outer.parse l ≡ nothing → FramedAs m l (Err BadEncoding)
  absent m e = subst (FramedBy l (Err BadEncoding)) (ap (λ (y : Found (Frame (List ℕ))). all_of (summed (ours m) y) []) (sym e)) refl

  pub frame-empty : (m : Message) → length l ≡ 0 → FramedAs m l (Err BadEncoding)
  frame-empty m h = absent m none
    where
      none : outer.parse l ≡ nothing
      none = unfold frame behind two_bits as_if only in rw (number_cut l 0 1 1 refl (omega arith) (omega arith))

  module _ (b : ℕ) (some : 1 ≤ length l) (here : b ≡ be (gets l 0 1)) where
    byte_found : (number 1).parse l ≡ found b (drop 1 l)
    byte_found = number-found l 0 1 1 refl some ∙ ap (λ (n : ℕ). found n (drop 1 l)) (sym here)

    pub frame-padding : (m : Message) → (b % 64 ≡ 0 → ⊥) → FramedAs m l (Err BadEncoding)
    frame-padding m other = absent m none
      where
        none : outer.parse l ≡ nothing
        none = unfold frame behind two_bits as_if only in rw (byte_found, ne_eqb (b % 64) 0 other)

    module _ (padded : b % 64 ≡ 0) where
      choice-found : two_bits.parse l ≡ found (b / 64) (drop 1 l)
      unfolding two_bits as_if only
      choice-found = rw (byte_found, eq-eqb (b % 64) 0 padded)

      -- no code, and so no frame
      no_code : (number (code_size (b / 64))).parse (drop 1 l) ≡ nothing → outer.parse l ≡ nothing
      unfolding frame frame_under behind as_if pair
      no_code e = rw (choice-found, e)

      no-id : (at : ℕ) → at ≤ length l → length l < at + 2 → plain.parse (drop at l) ≡ nothing
      unfolding holding under head behind as_if pair
      no-id at k h = rw (number_cut l at 2 (at + 2) refl k h)

      -- the code ends where the id of an element at this index ends
      framing : (at w : ℕ) → code_size (b / 64) ≡ w → w + 1 ≡ at + 2 → at ≤ length l → outer.parse l ≡ after (plain.parse (drop at l)) (framed_as (b / 64) (be (gets l 1 w)))
      framing at w size e k = by_test (ltb (length l) (at + 2)) (λ t. short (ltb-true (length l) (at + 2) t)) (λ t. long (ltb-false (length l) (at + 2) t))
        where
          short : length l < at + 2 → outer.parse l ≡ after (plain.parse (drop at l)) (framed_as (b / 64) (be (gets l 1 w)))
          short h =
              no_code (ap (λ (n : ℕ). (number n).parse (drop 1 l)) size ∙ number_cut l 1 w (at + 2) (omega arith) some h)
              ∙ ap (λ (x : Found (Element (List ℕ))). after x (framed_as (b / 64) (be (gets l 1 w)))) (sym (no-id at k h))

          long : at + 2 ≤ length l → outer.parse l ≡ after (plain.parse (drop at l)) (framed_as (b / 64) (be (gets l 1 w)))
          long h =
              frame-behind-it l (b / 64) (be (gets l 1 w)) (be (gets l at 2)) (drop 1 l) (drop (at + 2) l) choice-found
              (ap (λ (n : ℕ). (number n).parse (drop 1 l)) size ∙ number-found l 1 w (at + 2) (omega arith) h)
              ∙ ap (λ (x : Found (Element (List ℕ))). after x (framed_as (b / 64) (be (gets l 1 w)))) (sym (element-behind l at (be (gets l at 2)) (drop (at + 2) l) (number-found l at 2 (at + 2) refl h)))

      pub framing-plain : (b ≡ 192 → ⊥) → outer.parse l ≡ after (plain.parse (drop 0 l)) (framed_as (b / 64) (be (gets l 1 1)))
      framing-plain other =
          let not_three : b / 64 ≡ 3 → ⊥ = λ e. other (omega arith) in
          framing 0 1 (rw (ne_eqb (b / 64) 3 not_three)) refl (omega arith)

      pub framing-extended : b ≡ 192 → outer.parse l ≡ after (plain.parse (drop 1 l)) (framed_as (b / 64) (be (gets l 1 2)))
      framing-extended e = framing 1 2 (rw e) refl some

-- ---- the id says choice and code

element-id : (l : List ℕ) (at id criticality start end : ℕ) → at ≤ length l → ElementAt l at (Some (record { id = id; criticality = criticality; start = start; end = end })) → id ≡ be (gets l at 2)
element-id l at id criticality start end k read = by_test (ltb (length l) (at + 2)) (λ t. absurd (short (ltb-true (length l) (at + 2) t))) (λ t. long (ltb-false (length l) (at + 2) t))
  where
    short : length l < at + 2 → ⊥
    short h = nothing-found (element_by id criticality (take (end - start) (drop start l))) (drop end l) (sym (none h) ∙ sym read.says)
      where
        none : length l < at + 2 → plain.parse (drop at l) ≡ nothing
        none h = unfold holding under head behind as_if pair in rw (number_cut l at 2 (at + 2) refl k h)

    same : (n : ℕ) (x : Found ℕ) (v t : List ℕ) → after x (λ c s. after (open_type.parse s) (λ v t. found (element_by n c v) t)) ≡ found (element_by id criticality v) t → id ≡ n
    same n nothing v t e = absurd (nothing-found (element_by id criticality v) t e)
    same n (found c s) v t e = second (open_type.parse s) e
      where
        second : (y : Found (List ℕ)) → after y (λ v t. found (element_by n c v) t) ≡ found (element_by id criticality v) t → id ≡ n
        second nothing e = absurd (nothing-found (element_by id criticality v) t e)
        second (found w u) e = ap (λ (x : Element (List ℕ)). x.id) (sym (found-value (element_by n c w) (element_by id criticality v) u t e))

    long : at + 2 ≤ length l → id ≡ be (gets l at 2)
    long h =
        unfold behind_id in
        same (be (gets l at 2)) (two_bits.parse (drop (at + 2) l)) (take (end - start) (drop start l)) (drop end l)
        (sym (element-behind l at (be (gets l at 2)) (drop (at + 2) l) (number-found l at 2 (at + 2) refl h)) ∙ sym read.says)

-- none of our messages is a choice-extension
pub no-extension : (m : Message) (code : ℕ) → (eqb 3 (choice_of m) && eqb code (code_of m)) ≡ false
no-extension CancelRequest code = refl
no-extension CancelResponse code = refl
no-extension WriteReplaceResponse code = refl

-- the parts of a message's id
id_parts : (m : Message) (b code : ℕ) → b % 64 ≡ 0 → code < 256 → b * 256 + code ≡ frame_id m → (b / 64 ≡ choice_of m) × (code ≡ code_of m)
id_parts CancelRequest b code p h e = (omega arith, omega arith)
id_parts CancelResponse b code p h e = (omega arith, omega arith)
id_parts WriteReplaceResponse b code p h e = (omega arith, omega arith)

-- the choice in it has its padding, and is no choice-extension
id-padded : (m : Message) (b code : ℕ) → code < 256 → b * 256 + code ≡ frame_id m → (b % 64 ≡ 0) × (b ≡ 192 → ⊥)
id-padded CancelRequest b code h e = (omega arith, λ k. omega arith)
id-padded CancelResponse b code h e = (omega arith, λ k. omega arith)
id-padded WriteReplaceResponse b code h e = (omega arith, λ k. omega arith)

parts_id : (m : Message) (b code : ℕ) → b % 64 ≡ 0 → b / 64 ≡ choice_of m → code ≡ code_of m → b * 256 + code ≡ frame_id m
parts_id m b code p q r = omega arith

module _ (m : Message) (l : List ℕ) (bytes : Bytes l) (b id criticality start end : ℕ) (some : 1 ≤ length l) (here : b ≡ be (gets l 0 1)) (read : ElementAt l 0 (Some (record { id = id; criticality = criticality; start = start; end = end }))) where
  two : id ≡ b * 256 + be (gets l 1 1)
  two =
      let all : be (gets l 0 1) * 256 + be (gets l 1 1) ≡ be (gets l 0 2) = be-run 1 1 l 0 1 refl in
      omega (arith, element-id l 0 id criticality start end (omega arith) read, all)

  -- a message's own id is enough for its own frame
  pub frame_id-ours : id ≡ frame_id m → criticality < 3 → end ≡ length l → FramedAs m l (Ok start)
  frame_id-ours e small ends =
      let code : ℕ = be (gets l 1 1) in
      let less : code < 256 = be-gets_lt 1 1 l bytes in
      let padded = id-padded m b code less (sym two ∙ e) in
      let parts = id_parts m b code padded.0 less (sym two ∙ e) in
      frame-ours m l 0 (b / 64) code (framing-plain l b some here padded.0 padded.1) id criticality start end read small ends parts.0 parts.1

  other-code : b % 64 ≡ 0 → (id ≡ frame_id m → ⊥) → (eqb (b / 64) (choice_of m) && eqb (be (gets l 1 1)) (code_of m)) ≡ false
  other-code padded other =
      by_test (eqb (b / 64) (choice_of m))
      (λ t. rw t (ne_eqb (be (gets l 1 1)) (code_of m) (λ e. other (two ∙ parts_id m b (be (gets l 1 1)) padded (eqb-true (b / 64) (choice_of m) t) e))))
      (λ t. rw t)

  pub other-own : b % 64 ≡ 0 → NotOwn m l → criticality < 3 → end ≡ length l → (eqb (b / 64) (choice_of m) && eqb (be (gets l 1 1)) (code_of m)) ≡ false
  other-own padded not_own small ends =
      let test = rw (lt-ltb criticality 3 small, eq-eqb end (length l) ends, and_with-true (eqb id (frame_id m)), and_with-true (eqb id (frame_id m))) at (not_own (Some (record { id = id; criticality = criticality; start = start; end = end })) read) in
      other-code padded (eqb-false id (frame_id m) test)

-- the same by one test, as code has it
pub frame-own : (m : Message) (l : List ℕ) → Bytes l → (id criticality start end : ℕ) → ElementAt l 0 (Some (record { id = id; criticality = criticality; start = start; end = end })) → (own : ℕ) → own ≡ frame_id m
    → ((eqb id own && ltb criticality 3) && eqb end (length l)) ≡ true → FramedAs m l (Ok start)
frame-own m l bytes id criticality start end read own is t =
    let all = both (eqb id own && ltb criticality 3) (eqb end (length l)) t in
    let front = both (eqb id own) (ltb criticality 3) all.0 in
    let some : 1 ≤ length l = omega (arith, read.lies.0, read.lies.1) in
    frame_id-ours m l bytes (be (gets l 0 1)) id criticality start end some refl read (eqb-true id own front.0 ∙ is) (ltb-true criticality 3 front.1) (eqb-true end (length l) all.1)

pub frame-not-own : (m : Message) (l : List ℕ) (x : Option Placed) → ElementAt l 0 x → is_own m (length l) x ≡ false → NotOwn m l
frame-not-own m l x read t y also = ap (is_own m (length l)) (element_settled l 0 y x also read) ∙ t
