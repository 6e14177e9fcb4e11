-- 13 to 16 of a message: what the frame and the walk over its elements say decides each test, in order.
use Rattle.std.specs.Prelude.{Option, Some, None, Ok, Err}
use mathlib.Core.Path.{◌≡◌, refl, sym, ap, subst, ◌∙◌}
use mathlib.Core.Bool.{Bool, true, false, cond, not, ◌&&◌, false≢true}
use mathlib.Core.List.{List, [], ◌∷◌}
use Prim.Native.Nat.{ℕ, ◌-◌, ◌≤◌}
use native.Mathlib.Omega.{arith}
use lib.ListN.{length, take, drop, length-drop}
use lib.Seq.{take_all}
use Rattle.rules.specs.Lists.{any}
use Rattle.rules.specs.declared.Refusal.{Refusal}
use Rattle.rules.specs.declared.Refusal.TheVariants.{BadEncoding, OtherMessage, UnknownElement, ElementsWrong}
use Rattle.rules.proofs.TestLaws.{both, by_test}
use Rattle.formats.specs.Format.{Found, nothing, found, after, all_of}
use Rattle.formats.specs.Summary.{summed, gathered}
use Rattle.formats.proofs.SummaryLaws.{nothing-found, found-value, summed_all, summed-nothing}
use Rattle.wire.specs.Frame.{Frame, outer}
use Rattle.wire.specs.MessageTree.{Elements, value, message}
use Rattle.wire.specs.MessageRefusals.{is_of, frames_of, is_this, whole, well_encoded, value_in, message_elements, rejecting, lacking, known_ids, in_order, complete, message_verdict}
use Rattle.wire.specs.MessageSaid.{said, said_in}
use Rattle.wire.proofs.FrameFormat.{with_value, framed_into, frame_into}
use Rattle.wire.specs.declared.Message.{Message}
use Rattle.wire_judge.specs.Account.{Account, open_account, accounted, account_by}
use Rattle.wire_judge.specs.Readers.{ours, FramedBy, FramedAs, WalkedOver, has_all, FitMessage}
use Rattle.wire_judge.specs.declared.Seen.{Seen}
use Rattle.wire_judge.proofs.AccountLaws.{account_of}

abbrev Framing : Type 0
Framing = Found (Frame (List ℕ))

abbrev Into : Message → Framing → Found (Frame Elements)
Into m x = framed_into (value m) x

module _ (m : Message) where
  -- ---- no frame, or another message's

  behind-end : (g : Frame (List ℕ)) (c : ℕ) (cs : List ℕ) (y : Found Elements) → whole (after (all_of y (c ∷ cs)) (λ v s. found (with_value (value m) g v) s)) ≡ false
  behind-end g c cs nothing = refl
  behind-end g c cs (found v []) = refl
  behind-end g c cs (found v (d ∷ ds)) = refl

  not-whole : (x : Framing) → nothing ≡ all_of (summed (ours m) x) [] → (whole x ≡ false) × (whole (Into m x) ≡ false)
  not-whole nothing e = (refl, refl)
  not-whole (found g []) e = absurd (nothing-found (ours m g) [] e)
  not-whole (found g (c ∷ cs)) e = (refl, behind-end g c cs ((value m).parse g.value))

  no_bytes : (l : List ℕ) → [] ≡ l ∷ [] → ⊥
  no_bytes l e = let z : ◌≡◌ {A = ℕ} 0 1 = cc in omega arith

  others : (x : Framing) → found [] [] ≡ all_of (summed (ours m) x) [] → (whole x ≡ true) × (frames_of m x ≡ false)
  others nothing e = absurd (nothing-found [] [] (sym e))
  others (found g []) e =
      by_test (is_of m g)
      (λ t. absurd (no_bytes g.value (found-value [] (ours m g) [] [] e ∙ ap (λ (b : Bool). cond b (g.value ∷ []) []) t)))
      (λ t. (refl, t))
  others (found g (c ∷ cs)) e = absurd (nothing-found [] [] (sym e))

  -- ---- this message's frame, around these bytes

  record Ours (x : Framing) (l : List ℕ) : Type 0 where
    this : frames_of m x ≡ true
    broken : all_of ((value m).parse l) [] ≡ nothing → whole (Into m x) ≡ false
    fits : (es : Elements) → (value m).parse l ≡ found es [] → (whole (Into m x) ≡ true) × (value_in (Into m x) ≡ es)

  same_bytes : (g : Frame (List ℕ)) (l : List ℕ) → l ∷ [] ≡ ours m g → (is_of m g ≡ true) × (g.value ≡ l)
  same_bytes g l e =
      by_test (is_of m g)
      (λ t. (t, ap first (sym (e ∙ ap (λ (b : Bool). cond b (g.value ∷ []) []) t))))
      (λ t. absurd (no_bytes l (sym (e ∙ ap (λ (b : Bool). cond b (g.value ∷ []) []) t))))
    where
      first : List (List ℕ) → List ℕ
      first [] = []
      first (s ∷ ss) = s

  framed_ours : (x : Framing) (l : List ℕ) → found (l ∷ []) [] ≡ all_of (summed (ours m) x) [] → Ours x l
  framed_ours nothing l e = absurd (nothing-found (l ∷ []) [] (sym e))
  framed_ours (found g (c ∷ cs)) l e = absurd (nothing-found (l ∷ []) [] (sym e))
  framed_ours (found g []) l e =
      let same = same_bytes g l (found-value (l ∷ []) (ours m g) [] [] e) in
      record {
        this = same.0;
        broken = λ n. ap (λ (y : Found Elements). whole (after y (λ v s. found (with_value (value m) g v) s))) (ap (λ (k : List ℕ). all_of ((value m).parse k) []) same.1 ∙ n);
        fits = λ es p.
            let there : (value m).parse g.value ≡ found es [] = ap (value m).parse same.1 ∙ p in
            (ap (λ (y : Found Elements). whole (after (all_of y []) (λ v s. found (with_value (value m) g v) s))) there, ap (λ (y : Found Elements). value_in (after (all_of y []) (λ v s. found (with_value (value m) g v) s))) there);
      }

  -- ---- the verdict

  -- all that stands behind the frame is lent on
  lent : (b : List ℕ) (start : ℕ) (r : Option Seen) → WalkedOver m (take (length b - start) (drop start b)) r → WalkedOver m (drop start b) r
  lent b start r w =
      let rest : length (drop start b) ≤ length b - start = rw length-drop (omega arith) in
      subst (λ (l : List ℕ). WalkedOver m l r) (take_all (length b - start) (drop start b) rest) w

  module _ (b : List ℕ) where
    bad : well_encoded m b ≡ false → message_verdict m b ≡ Err BadEncoding
    unfolding message_verdict
    bad e = rw e

    into : (message m).parse b ≡ Into m (outer.parse b)
    into = frame_into (value m) b

    -- no frame, or another message's
    pub unframed : (x : Refusal) → FramedAs m b (Err x) → message_verdict m b ≡ Err x
    unframed x f = go (all_of (summed (ours m) (outer.parse b)) []) refl f
      where
        neither-whole : (whole (outer.parse b) ≡ false) × (whole (Into m (outer.parse b)) ≡ false) → well_encoded m b ≡ false
        neither-whole h = unfold well_encoded in by_test (is_this m b) (λ t. rw (t, into) h.1) (λ t. rw t h.0)

        another : found [] [] ≡ all_of (summed (ours m) (outer.parse b)) [] → message_verdict m b ≡ Err OtherMessage
        another e = unfold message_verdict well_encoded is_this in let o = others (outer.parse b) e in rw (o.1, o.0)

        go : (y : Found (List (List ℕ))) → y ≡ all_of (summed (ours m) (outer.parse b)) [] → FramedBy b (Err x) y → message_verdict m b ≡ Err x
        go nothing e h = rw h (bad (neither-whole (not-whole (outer.parse b) e)))
        go (found [] r) e h = rw h.0 (another (rw h.1 at e))
        go (found (c ∷ cs) r) e h = absurd h

    module _ (start : ℕ) (f : FramedAs m b (Ok start)) where
      own : Ours (outer.parse b) (drop start b)
      own = framed_ours (outer.parse b) (drop start b) f.0

      is_this_lem : is_this m b ≡ true
      unfolding is_this
      is_this_lem = own.this

      pub unwalked : WalkedOver m (take (length b - start) (drop start b)) None → message_verdict m b ≡ Err BadEncoding
      unwalked lent_on =
          let w = lent b start None lent_on in
          bad (broken_whole (own.broken (summed-nothing (gathered accounted open_account) (all_of ((value m).parse (drop start b)) []) (sym (summed_all (gathered accounted open_account) ((value m).parse (drop start b)) []) ∙ sym w.says))))
        where
          broken_whole : whole (Into m (outer.parse b)) ≡ false → well_encoded m b ≡ false
          broken_whole h = unfold well_encoded in rw (is_this_lem, into) h

      module _ (s : Seen) (lent_on : WalkedOver m (take (length b - start) (drop start b)) (Some s)) where
        w : WalkedOver m (drop start b) (Some s)
        w = lent b start (Some s) lent_on

        -- a message that was walked over is well encoded, and what was seen is the account of its elements
        record Walked (es : Elements) : Type 0 where
          good : well_encoded m b ≡ true
          elements : message_elements m b ≡ es
          account : account_by m (drop start b) s ≡ gathered accounted open_account es

        walked : (es : Elements) → (value m).parse (drop start b) ≡ found es [] → account_by m (drop start b) s ≡ gathered accounted open_account es → Walked es
        unfolding well_encoded message_elements
        walked es p a = let h = own.fits es p in record { good = rw (is_this_lem, into) h.0; elements = rw into h.1; account = a }

        by_elements : {P : Type 0} → ((es : Elements) → Walked es → P) → P
        by_elements {P} k = go ((value m).parse (drop start b)) refl w.says
          where
            go : (y : Found Elements) → (value m).parse (drop start b) ≡ y → found (account_by m (drop start b) s) [] ≡ all_of (summed (gathered accounted open_account) y) [] → P
            go nothing p e = absurd (nothing-found (account_by m (drop start b) s) [] (sym e))
            go (found es []) p e = k es (walked es p (found-value (account_by m (drop start b) s) (gathered accounted open_account es) [] [] e))
            go (found es (c ∷ cs)) p e = absurd (nothing-found (account_by m (drop start b) s) [] (sym e))

        -- the account is what code keeps
        module _ (es : Elements) (h : Walked es) where
          rejects : s.rejects ≡ any rejecting (message_elements m b)
          unfolding account_by
          rejects = ap (λ (a : Account). a.rejects) h.account ∙ (account_of m es).rejects ∙ ap (any rejecting) (sym h.elements)

          lacks : s.lacks ≡ any lacking (message_elements m b)
          unfolding account_by
          lacks = ap (λ (a : Account). a.lacks) h.account ∙ (account_of m es).lacks ∙ ap (any lacking) (sym h.elements)

          in_order_lem : (s.ordered && has_all m s.identified s.counted) ≡ in_order m (known_ids (message_elements m b))
          unfolding account_by
          in_order_lem =
              ap (λ (a : Account). a.ordered && has_all m a.has_transaction a.has_requested) h.account ∙ (account_of m es).in_order_lem ∙ ap (λ (xs : Elements). in_order m (known_ids xs)) (sym h.elements)

          says : said_in m b ≡ (account_by m (drop start b) s).says
          says = ap said h.elements ∙ sym (ap (λ (a : Account). a.says) h.account ∙ (account_of m es).says)

          test : ((s.ordered && has_all m s.identified s.counted) && not s.lacks) ≡ complete m (message_elements m b)
          unfolding complete
          test = ap (λ (x : Bool). x && not s.lacks) in_order_lem ∙ ap (λ (x : Bool). in_order m (known_ids (message_elements m b)) && not x) lacks

          rejected_here : s.rejects ≡ true → message_verdict m b ≡ Err UnknownElement
          unfolding message_verdict
          rejected_here t = rw (h.good, is_this_lem, sym rejects ∙ t)

          wrong_here : s.rejects ≡ false → ((s.ordered && has_all m s.identified s.counted) && not s.lacks) ≡ false → message_verdict m b ≡ Err ElementsWrong
          unfolding message_verdict
          wrong_here r t = rw (h.good, is_this_lem, sym rejects ∙ r, sym test ∙ t)

          fine_here : s.rejects ≡ false → ((s.ordered && has_all m s.identified s.counted) && not s.lacks) ≡ true → message_verdict m b ≡ Ok tt
          unfolding message_verdict
          fine_here r t = rw (h.good, is_this_lem, sym rejects ∙ r, sym test ∙ t)

        pub rejected : s.rejects ≡ true → message_verdict m b ≡ Err UnknownElement
        rejected t = by_elements (λ es h. rejected_here es h t)

        pub wrong : s.rejects ≡ false → ((s.ordered && has_all m s.identified s.counted) && not s.lacks) ≡ false → message_verdict m b ≡ Err ElementsWrong
        wrong r t = by_elements (λ es h. wrong_here es h r t)

        not-true : (x : Bool) → not x ≡ true → x ≡ false
        not-true true e = absurd (false≢true e)
        not-true false e = refl

        pub fine : s.rejects ≡ false → ((s.ordered && has_all m s.identified s.counted) && not s.lacks) ≡ true → FitMessage m b start s
        fine r t =
            record {
              accepted = by_elements (λ es h. fine_here es h r t);
              says = by_elements (λ es h. says es h);
              begins = f.1;
              lies = w.lies;
              whole = not-true s.lacks (both (s.ordered && has_all m s.identified s.counted) (not s.lacks) t).1;
            }
