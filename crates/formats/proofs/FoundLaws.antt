-- What was found tells what was found before it: of one thing behind another, of several, and of a test. By the cases of what came first.
use mathlib.Core.Path.{◌≡◌, refl, sym, ap, ◌∙◌}
use mathlib.Core.Bool.{Bool, true, false, cond}
use mathlib.Core.List.{List, [], ◌∷◌}
use Prim.Native.Nat.{ℕ, zero, suc}
use lib.ListN.{length}
use Rattle.formats.specs.Format.{Found, nothing, found, after, all_of, Format, several}
use Rattle.formats.proofs.SummaryLaws.{nothing-found, found-value, found-rest}

-- ---- one behind another

pub record Came {A B : Type 0} (x : Found A) (next : A → List ℕ → Found B) (b : B) (r : List ℕ) : Type 0 where
  pub value : A
  pub rest : List ℕ
  pub first : x ≡ found value rest
  pub later : next value rest ≡ found b r

pub came : {A B : Type 0} (x : Found A) (next : A → List ℕ → Found B) (b : B) (r : List ℕ) → after x next ≡ found b r → Came x next b r
came nothing next b r e = absurd (nothing-found b r e)
came (found a s) next b r e = record { value = a; rest = s; first = refl; later = e }

-- a value that is all of the bytes held, made into another that a test holds of
pub record Held {A B : Type 0} (x : Found A) (make : A → B) (s : List ℕ) (b : B) (r : List ℕ) : Type 0 where
  pub value : A
  pub first : x ≡ found value []
  pub made : make value ≡ b
  pub later : s ≡ r

tested : {A : Type 0} (t : Bool) (x : Found A) (a : A) (r : List ℕ) → cond t x nothing ≡ found a r → x ≡ found a r
tested true x a r e = e
tested false x a r e = absurd (nothing-found a r e)

pub held-came : {A B : Type 0} (x : Found A) (make : A → B) (test : B → Bool) (s : List ℕ) (b : B) (r : List ℕ)
    → after (after (all_of x s) (λ a q. found (make a) q)) (λ b q. cond (test b) (found b q) nothing) ≡ found b r → Held x make s b r
held-came nothing make test s b r e = absurd (nothing-found b r e)
held-came (found a []) make test s b r e =
    let same = tested (test (make a)) (found (make a) s) b r e in
    record { value = a; first = refl; made = found-value (make a) b s r same; later = found-rest (make a) b s r same }
held-came (found a (c ∷ cs)) make test s b r e = absurd (nothing-found b r e)

-- ---- several

pub record Several {A : Type 0} (f : Format A) (n : ℕ) (l : List ℕ) (xs : List A) (r : List ℕ) : Type 0 where
  pub value : A
  pub rest : List ℕ
  pub others : List A
  pub all : xs ≡ value ∷ others
  pub first : f.parse l ≡ found value rest
  pub later : several f n rest ≡ found others r

pub several-more : {A : Type 0} (f : Format A) (n : ℕ) (l : List ℕ) (xs : List A) (r : List ℕ) → several f (suc n) l ≡ found xs r → Several f n l xs r
unfolding several
several-more f n l xs r e =
    let one = came (f.parse l) (λ a s. after (several f n s) (λ ys t. found (a ∷ ys) t)) xs r e in
    let more = came (several f n one.rest) (λ ys t. found (one.value ∷ ys) t) xs r one.later in
    record {
      value = one.value;
      rest = one.rest;
      others = more.value;
      all = sym (found-value (one.value ∷ more.value) xs more.rest r more.later);
      first = one.first;
      later = more.first ∙ ap (found more.value) (found-rest (one.value ∷ more.value) xs more.rest r more.later);
    }

pub several-none : {A : Type 0} (f : Format A) (l : List ℕ) (xs : List A) (r : List ℕ) → several f 0 l ≡ found xs r → xs ≡ []
unfolding several
several-none f l xs r e = sym (found-value [] xs l r e)

pub several-length : {A : Type 0} (f : Format A) (n : ℕ) (l : List ℕ) (xs : List A) (r : List ℕ) → several f n l ≡ found xs r → length xs ≡ n
several-length f zero l xs r e = ap length (several-none f l xs r e)
several-length f (suc n) l xs r e =
    let s = several-more f n l xs r e in
    ap length s.all ∙ ap suc (several-length f n s.rest s.others r s.later)
