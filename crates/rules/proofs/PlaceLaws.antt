-- What a legal place is in plain facts, and which places of a cell are alike: each operation that keeps or drops a place leaves no two alike.
-- Tests are turned into facts and back; lists go place by place, by what the operation makes of one.
use mathlib.Core.Path.{◌≡◌, refl, sym, ap, ◌∙◌}
use mathlib.Core.Bool.{Bool, true, false, cond, not, ◌&&◌, ◌||◌, false≢true}
use mathlib.Core.List.{List, [], ◌∷◌, ◌++◌, flat_map}
use Prim.Native.Nat.{ℕ, ◌+◌, ◌*◌, ◌≤◌, ◌<◌}
use native.Mathlib.Omega.{arith}
use lib.Dec.{eqb, ltb, leb}
use lib.ListN.{length}
use borrow.Author.Tests.{ltb-true, leb-true, eqb-true, eqb-false, not-true, lt-ltb, le-leb, eq-eqb, ne_eqb}
use Rattle.rules.specs.Lists.{any, larger}
use Rattle.rules.specs.Layout.{Version, longest_period, first_sib, last_sib}
use Rattle.rules.specs.Table.{legal_place, is_text, text_of, running, different}
use Rattle.rules.specs.declared.Place.{Place}
use Rattle.rules.proofs.ListsLaws.{any_append, any-flat_map, few-flat_map}
use Rattle.rules.proofs.TestLaws.{both, by_test, or_else, else_or, neither}

module _ (v : Version) where
  -- ---- a legal place

  pub record LegalPlace (p : Place) : Type 0 where
    pub period : p.period.0 ≤ (longest_period v).0
    pub once : p.period.0 ≡ 0 → p.requested.0 ≡ 1
    pub wait : p.wait.0 < larger p.period.0 1
    pub sent : (p.requested.0 ≡ 0 → ⊥) → p.sent.0 < p.requested.0
    pub sib : (first_sib ≤ p.sib) × (p.sib ≤ last_sib)

  pub legal_facts : (p : Place) → legal_place v p ≡ true → LegalPlace p
  unfolding legal_place
  legal_facts p e =
      let a = both _ (leb first_sib p.sib && leb p.sib last_sib) e in
      let b = both _ (eqb p.requested.0 0 || ltb p.sent.0 p.requested.0) a.0 in
      let c = both _ (ltb p.wait.0 (larger p.period.0 1)) b.0 in
      let d = both (leb p.period.0 (longest_period v).0) _ c.0 in
      let s = both (leb first_sib p.sib) (leb p.sib last_sib) a.1 in
      record {
        period = leb-true p.period.0 (longest_period v).0 d.0;
        once = λ z. eqb-true p.requested.0 1 (or_else (not (eqb p.period.0 0)) _ d.1 (ap not (eq-eqb p.period.0 0 z)));
        wait = ltb-true p.wait.0 (larger p.period.0 1) c.1;
        sent = λ n. ltb-true p.sent.0 p.requested.0 (or_else (eqb p.requested.0 0) _ b.1 (ne_eqb p.requested.0 0 n));
        sib = (leb-true first_sib p.sib s.0, leb-true p.sib last_sib s.1);
      }

  pub facts_legal : (p : Place) → LegalPlace p → legal_place v p ≡ true
  unfolding legal_place
  facts_legal p l =
      let o : not (eqb p.period.0 0) || eqb p.requested.0 1 ≡ true =
      by_test (eqb p.period.0 0) (λ z. rw (z, eq-eqb p.requested.0 1 (l.once (eqb-true p.period.0 0 z)))) (λ z. rw z) in
      let s : eqb p.requested.0 0 || ltb p.sent.0 p.requested.0 ≡ true =
      else_or (eqb p.requested.0 0) _ (λ n. lt-ltb p.sent.0 p.requested.0 (l.sent (eqb-false p.requested.0 0 n))) in
      rw (
        le-leb p.period.0 (longest_period v).0 l.period,
        o,
        lt-ltb p.wait.0 (larger p.period.0 1) l.wait,
        s,
        le-leb first_sib p.sib l.sib.0,
        le-leb p.sib last_sib l.sib.1,
      )

-- ---- a text

pub text_facts : (m s : ℕ) (p : Place) → is_text m s p ≡ true → (p.identifier ≡ m) × (p.serial ≡ s)
unfolding is_text
text_facts m s p e =
    let h = both (eqb p.identifier m) (eqb p.serial s) e in
    (eqb-true p.identifier m h.0, eqb-true p.serial s h.1)

pub facts_text : (m s : ℕ) (p : Place) → p.identifier ≡ m → p.serial ≡ s → is_text m s p ≡ true
unfolding is_text
facts_text m s p e f = rw (eq-eqb p.identifier m e, eq-eqb p.serial s f)

abbrev pub Small : Place → Type 0
Small p = p.serial < 65536

-- one comparison tells both numbers
pub same_text : (m s : ℕ) (p : Place) → s < 65536 → Small p → eqb (text_of p) (m * 65536 + s) ≡ is_text m s p
unfolding text_of
same_text m s p hs hp =
    by_test (is_text m s p)
    (λ t. let e = text_facts m s p t in rw t (eq-eqb (p.identifier * 65536 + p.serial) (m * 65536 + s) (rw (e.0, e.1))))
    (λ t. rw t (ne_eqb (p.identifier * 65536 + p.serial) (m * 65536 + s) (λ e. false≢true (sym t ∙ facts_text m s p (omega arith) (omega arith)))))

-- a place is as little alike to another as the other to it
text-turned : (p r : Place) → is_text p.identifier p.serial r ≡ false → is_text r.identifier r.serial p ≡ false
text-turned p r e =
    by_test (is_text r.identifier r.serial p)
    (λ t. let h = text_facts r.identifier r.serial p t in cc (facts_text p.identifier p.serial r (sym h.0) (sym h.1)))
    (λ f. f)

-- ---- no two alike

pub different_parts : (p : Place) (ps : List Place) → different (p ∷ ps) ≡ true → (running p.identifier p.serial ps ≡ false) × (different ps ≡ true)
unfolding different
different_parts p ps d =
    let h = both (not (running p.identifier p.serial ps)) (different ps) d in
    (not-true (running p.identifier p.serial ps) h.0, h.1)

-- nothing of a place, or one with the same text
pub data Kept (p : Place) : List Place → Type 0 where
  gone : Kept p []
  stays : {q : Place} → q.identifier ≡ p.identifier → q.serial ≡ p.serial → Kept p (q ∷ [])

abbrev pub Keeps : (Place → List Place) → Type 0
Keeps f = (p : Place) → Kept p (f p)

pub keeps-cond : (b : Bool) (p q : Place) → q.identifier ≡ p.identifier → q.serial ≡ p.serial → Kept p (cond b (q ∷ []) [])
keeps-cond true p q e f = stays e f
keeps-cond false p q e f = gone

kept-few : {p : Place} {qs : List Place} → Kept p qs → length qs ≤ 1
kept-few gone = omega arith
kept-few (stays e f) = omega arith

kept-other : (m s : ℕ) {p : Place} {qs : List Place} → Kept p qs → is_text m s p ≡ false → running m s qs ≡ false
unfolding running any is_text
kept-other m s gone n = refl
kept-other m s (stays e f) n = rw (e, f, n)

kept-different : {p : Place} {qs : List Place} → Kept p qs → (rest : List Place) → running p.identifier p.serial rest ≡ false → different rest ≡ true
    → different (qs ++ rest) ≡ true
unfolding different
kept-different gone rest n d = d
kept-different (stays e f) rest n d = rw (e, f, n, d)

module _ (f : Place → List Place) (k : Keeps f) where
  pub keeps-length : (ps : List Place) → length (flat_map f ps) ≤ length ps
  keeps-length = few-flat_map f (λ p. kept-few (k p))

  keeps_absent : (m s : ℕ) (ps : List Place) → running m s ps ≡ false → running m s (flat_map f ps) ≡ false
  unfolding running
  keeps_absent m s ps = any-flat_map f (is_text m s) (is_text m s) ps (λ p. kept-other m s (k p))

  pub keeps-different : (ps : List Place) → different ps ≡ true → different (flat_map f ps) ≡ true
  unfolding different flat_map
  keeps-different [] d = refl
  keeps-different (p ∷ ps) d =
      let h = different_parts p ps d in
      kept-different (k p) (flat_map f ps) (keeps_absent p.identifier p.serial ps h.0) (keeps-different ps h.1)

pub different_snoc : (ps : List Place) (p : Place) → different ps ≡ true → running p.identifier p.serial ps ≡ false → different (ps ++ (p ∷ [])) ≡ true
unfolding different running any
different_snoc [] p d n = refl
different_snoc (r ∷ rs) p d n =
    let h = different_parts r rs d in
    let t = neither (is_text p.identifier p.serial r) (running p.identifier p.serial rs) n in
    let a : running r.identifier r.serial (rs ++ (p ∷ [])) ≡ false =
    any_append (is_text r.identifier r.serial) rs (p ∷ []) h.0 (rw (text-turned p r t.0)) in
    rw (a, different_snoc rs p h.1 t.1)
