-- The laws of a format: a value's bytes are read as that value, and bytes that are read are a value's. Each way of putting formats together keeps them.
use mathlib.Core.Path.{◌≡◌, refl, sym, ap, subst, ◌∙◌}
use mathlib.Core.Bool.{Bool, true, false, cond}
use mathlib.Core.List.{List, [], ◌∷◌, ◌++◌, flat_map, append_assoc, append-nil}
use Prim.Native.Nat.{ℕ, zero, suc, ◌^◌, ◌<◌, ◌≤◌}
use native.Mathlib.Omega.{arith}
use lib.Dec.{leb}
use lib.ListN.{length, take, drop, length-append, take-append-drop}
use lib.Seq.{length-take-le, take_at, drop_at}
use borrow.Author.Tests.{le-leb, leb-true}
use Rattle.octets.specs.Runs.{Bytes}
use Rattle.octets.specs.Numbers.{be, to_be}
use Rattle.octets.proofs.RunsLaws.{bytes_take, bytes_drop, bytes_append}
use Rattle.octets.proofs.NumbersLaws.{length-to_be, bytes-to_be, be-to_be, to_be-be, be_lt}
use Rattle.formats.specs.Format.{Found, nothing, found, after, all_of, Format, Each, none, more, number, run, opaque, pair, behind, only, as_if, several, times, inside}

-- what is found in bytes is a value of the format, and its bytes and those behind it are all of them
abbrev pub Good : {A : Type 0} → Format A → List ℕ → Found A → Type 0
Good f l nothing = Unit {0}
Good f l (found a rest) = f.fits a × (f.encode a ++ rest ≡ l)

pub record Lawful {A : Type 0} (f : Format A) : Type 0 where
  pub bytes : (a : A) → f.fits a → Bytes (f.encode a)
  pub reads : (a : A) (rest : List ℕ) → f.fits a → f.parse (f.encode a ++ rest) ≡ found a rest
  pub back : (l : List ℕ) → Bytes l → Good f l (f.parse l)

-- the laws of a format whose value is all of the bytes
pub record Alone {A : Type 0} (f : Format A) : Type 0 where
  pub bytes : (a : A) → f.fits a → Bytes (f.encode a)
  pub reads : (a : A) → f.fits a → f.parse (f.encode a) ≡ found a []
  pub back : (l : List ℕ) → Bytes l → Good f l (f.parse l)

pub alone : {A : Type 0} (f : Format A) → Lawful f → Alone f
alone f F = record { bytes = F.bytes; reads = λ a h. ap f.parse (sym (append-nil (f.encode a))) ∙ F.reads a [] h; back = F.back }

-- ---- the two laws as they are used

-- what was written reads as it was
pub read-written : {A : Type 0} (f : Format A) → Alone f → (a : A) → f.fits a → f.parse (f.encode a) ≡ found a []
read-written f F a h = F.reads a h

-- bytes that are read are the bytes of what was read
pub written_read : {A : Type 0} (f : Format A) → Alone f → (l : List ℕ) → Bytes l → (a : A) → f.parse l ≡ found a [] → f.fits a × (f.encode a ≡ l)
written_read f F l bytes a e =
    let good = subst (Good f l) e (F.back l bytes) in
    (good.0, sym (append-nil (f.encode a)) ∙ good.1)

-- a value has one writing
pub one_writing : {A : Type 0} (f : Format A) → Alone f → (l m : List ℕ) → Bytes l → Bytes m → (a : A) → f.parse l ≡ found a [] → f.parse m ≡ found a [] → l ≡ m
one_writing f F l m bl bm a p q = sym (written_read f F l bl a p).1 ∙ (written_read f F m bm a q).1

-- ---- the smallest

behind-bytes : (e r l : List ℕ) → e ++ r ≡ l → Bytes l → Bytes r
behind-bytes e r l p h = subst Bytes (ap (drop (length e)) (sym p) ∙ drop_at e r (length e) refl) (bytes_drop (length e) l h)

pub either_good : {A : Type 0} (f : Format A) (l : List ℕ) (b : Bool) (x y : Found A) → (b ≡ true → Good f l x) → (b ≡ false → Good f l y) → Good f l (cond b x y)
either_good f l true x y h k = h refl
either_good f l false x y h k = k refl

front_good : {A : Type 0} (f : Format A) (l : List ℕ) (b : Bool) (x : Found A) → (b ≡ true → Good f l x) → Good f l (cond b x nothing)
front_good f l true x h = h refl
front_good f l false x h = tt

pub number_lawful : (w : ℕ) → Lawful (number w)
unfolding number
number_lawful w =
    record {
      bytes = λ v h. bytes-to_be w v h;
      reads = λ v rest h.
          let long : w ≤ length (to_be w v ++ rest) = rw (length-append, length-to_be w v) (omega arith) in
          rw (le-leb w (length (to_be w v ++ rest)) long, take_at (to_be w v) rest w (length-to_be w v), drop_at (to_be w v) rest w (length-to_be w v), be-to_be w v h);
      back = λ l bytes. front_good (number w) l (leb w (length l)) (found (be (take w l)) (drop w l)) (λ t.
          let long : length (take w l) ≡ w = length-take-le w l (leb-true w (length l) t) in
          let some = take w l in (
            subst (λ (n : ℕ). be some < 256 ^ n) long (be_lt some (bytes_take w l bytes)),
            ap (λ (n : ℕ). to_be n (be some) ++ drop w l) (sym long) ∙ ap (λ (s : List ℕ). s ++ drop w l) (to_be-be some (bytes_take w l bytes)) ∙ take-append-drop w l,
          ));
    }

pub run_lawful : (n : ℕ) → Lawful (run n)
unfolding run
run_lawful n =
    record {
      bytes = λ s h. h.1;
      reads = λ s rest h.
          let long : n ≤ length (s ++ rest) = rw (length-append) (omega (arith, h.0)) in
          rw (le-leb n (length (s ++ rest)) long, take_at s rest n h.0, drop_at s rest n h.0);
      back = λ l bytes. front_good (run n) l (leb n (length l)) (found (take n l) (drop n l)) (λ t.
          ((length-take-le n l (leb-true n (length l) t), bytes_take n l bytes), take-append-drop n l));
    }

pub opaque-alone : Alone opaque
unfolding opaque
opaque-alone = record { bytes = λ s h. h; reads = λ s h. refl; back = λ l bytes. (bytes, append-nil l) }

-- ---- one behind the other

module _ {A B : Type 0} (f : Format A) (g : Format B) (F : Lawful f) (G : Lawful g) where
  pair_reads : (p : A × B) (rest : List ℕ) → (pair f g).fits p → (pair f g).parse ((pair f g).encode p ++ rest) ≡ found p rest
  unfolding pair
  pair_reads p rest h =
      rw (append_assoc (f.encode p.0) (g.encode p.1) rest, F.reads p.0 (g.encode p.1 ++ rest) h.0, G.reads p.1 rest h.1)

  pair-back : (l : List ℕ) → Bytes l → Good (pair f g) l ((pair f g).parse l)
  unfolding pair
  pair-back l bytes = first (f.parse l) (F.back l bytes)
    where
      second : (a : A) (r : List ℕ) → Good f l (found a r) → (y : Found B) → Good g r y → Good (pair f g) l (after y (λ b s. found (a, b) s))
      second a r h nothing k = tt
      second a r h (found b s) k =
          ((h.0, k.0), append_assoc (f.encode a) (g.encode b) s ∙ ap (λ (t : List ℕ). f.encode a ++ t) k.1 ∙ h.1)

      first : (x : Found A) → Good f l x → Good (pair f g) l (after x (λ a r. after (g.parse r) (λ b s. found (a, b) s)))
      first nothing h = tt
      first (found a r) h = second a r h (g.parse r) (G.back r (behind-bytes (f.encode a) r l h.1 bytes))

  pub pair_lawful : Lawful (pair f g)
  unfolding pair
  pair_lawful = record { bytes = λ p h. bytes_append (f.encode p.0) (g.encode p.1) (F.bytes p.0 h.0) (G.bytes p.1 h.1); reads = pair_reads; back = pair-back }

-- ---- a value behind what is said of it

module _ {A B : Type 0} (f : Format A) (said : B → A) (g : A → Format B) (F : Lawful f) (G : (a : A) → Lawful (g a)) (true-said : (a : A) (b : B) → f.fits a → (g a).fits b → said b ≡ a) where
  behind-reads : (b : B) (rest : List ℕ) → (behind f said g).fits b → (behind f said g).parse ((behind f said g).encode b ++ rest) ≡ found b rest
  unfolding behind
  behind-reads b rest h =
      rw (append_assoc (f.encode (said b)) ((g (said b)).encode b) rest, F.reads (said b) ((g (said b)).encode b ++ rest) h.0, (G (said b)).reads b rest h.1)

  behind-back : (l : List ℕ) → Bytes l → Good (behind f said g) l ((behind f said g).parse l)
  unfolding behind
  behind-back l bytes = first (f.parse l) (F.back l bytes)
    where
      second : (a : A) (r : List ℕ) → Good f l (found a r) → (y : Found B) → Good (g a) r y → Good (behind f said g) l y
      second a r h nothing k = tt
      second a r h (found b s) k =
          let same : a ≡ said b = sym (true-said a b h.0 k.0) in (
            subst (λ (c : A). f.fits c × (g c).fits b) same (h.0, k.0),
            append_assoc (f.encode (said b)) ((g (said b)).encode b) s
                ∙ ap (λ (c : A). f.encode c ++ ((g c).encode b ++ s)) (sym same) ∙ ap (λ (t : List ℕ). f.encode a ++ t) k.1 ∙ h.1,
          )

      first : (x : Found A) → Good f l x → Good (behind f said g) l (after x (λ a r. (g a).parse r))
      first nothing h = tt
      first (found a r) h = second a r h ((g a).parse r) ((G a).back r (behind-bytes (f.encode a) r l h.1 bytes))

  pub behind_lawful : Lawful (behind f said g)
  unfolding behind
  behind_lawful =
      record {
        bytes = λ b h. bytes_append (f.encode (said b)) ((g (said b)).encode b) (F.bytes (said b) h.0) ((G (said b)).bytes b h.1);
        reads = behind-reads;
        back = behind-back;
      }

-- ---- some of the values

module _ {A : Type 0} (test : A → Bool) (f : Format A) (F : Lawful f) where
  only-back : (l : List ℕ) → Bytes l → Good (only test f) l ((only test f).parse l)
  unfolding only
  only-back l bytes = tested (f.parse l) (F.back l bytes)
    where
      tested : (x : Found A) → Good f l x → Good (only test f) l (after x (λ a r. cond (test a) (found a r) nothing))
      tested nothing h = tt
      tested (found a r) h = front_good (only test f) l (test a) (found a r) (λ t. ((h.0, t), h.1))

  pub only_lawful : Lawful (only test f)
  unfolding only
  only_lawful =
      record {
        bytes = λ a h. F.bytes a h.0;
        reads = λ a rest h. rw (F.reads a rest h.0, h.1);
        back = only-back;
      }

-- ---- the same bytes, said otherwise

module _ {A B : Type 0} (to : A → B) (from : B → A) (f : Format A) (again : (a : A) → f.fits a → from (to a) ≡ a) where
  as_if_back : (l : List ℕ) (x : Found A) → Good f l x → Good (as_if to from f) l (after x (λ a r. found (to a) r))
  unfolding as_if
  as_if_back l nothing h = tt
  as_if_back l (found a r) h =
      let same : a ≡ from (to a) = sym (again a h.0) in
      ((subst f.fits same h.0, ap to (sym same)), ap (λ (c : A). f.encode c ++ r) (sym same) ∙ h.1)

  pub as_if_lawful : Lawful f → Lawful (as_if to from f)
  unfolding as_if
  as_if_lawful F =
      record {
        bytes = λ b h. F.bytes (from b) h.0;
        reads = λ b rest h. rw (F.reads (from b) rest h.0, h.1);
        back = λ l bytes. as_if_back l (f.parse l) (F.back l bytes);
      }

  pub as_if_alone : Alone f → Alone (as_if to from f)
  unfolding as_if
  as_if_alone F =
      record {
        bytes = λ b h. F.bytes (from b) h.0;
        reads = λ b h. rw (F.reads (from b) h.0, h.1);
        back = λ l bytes. as_if_back l (f.parse l) (F.back l bytes);
      }

-- ---- back to back

module _ {A : Type 0} (f : Format A) (F : Lawful f) where
  several-reads : {xs : List A} → Each f.fits xs → (rest : List ℕ) → several f (length xs) (flat_map f.encode xs ++ rest) ≡ found xs rest
  unfolding several flat_map
  several-reads none rest = refl
  several-reads (more {x} {xs} h hs) rest =
      rw (append_assoc (f.encode x) (flat_map f.encode xs) rest, F.reads x (flat_map f.encode xs ++ rest) h, several-reads hs rest)

  several-back : (n : ℕ) (l : List ℕ) → Bytes l → Good (times f n) l (several f n l)
  unfolding several times flat_map
  several-back zero l bytes = ((refl, none), refl)
  several-back (suc n) l bytes = first (f.parse l) (F.back l bytes) (λ r. several-back n r)
    where
      second : (a : A) (r : List ℕ) → Good f l (found a r) → (y : Found (List A)) → Good (times f n) r y → Good (times f (suc n)) l (after y (λ xs s. found (a ∷ xs) s))
      second a r h nothing k = tt
      second a r h (found xs s) k =
          ((ap suc k.0.0, more h.0 k.0.1), append_assoc (f.encode a) (flat_map f.encode xs) s ∙ ap (λ (t : List ℕ). f.encode a ++ t) k.1 ∙ h.1)

      first : (x : Found A) → Good f l x → ((r : List ℕ) → Bytes r → Good (times f n) r (several f n r)) → Good (times f (suc n)) l (after x (λ a r. after (several f n r) (λ xs s. found (a ∷ xs) s)))
      first nothing h later = tt
      first (found a r) h later = second a r h (several f n r) (later r (behind-bytes (f.encode a) r l h.1 bytes))

  times-bytes : {xs : List A} → Each f.fits xs → Bytes (flat_map f.encode xs)
  unfolding flat_map
  times-bytes none = λ i. omega arith
  times-bytes (more {x} {xs} h hs) = bytes_append (f.encode x) (flat_map f.encode xs) (F.bytes x h) (times-bytes hs)

  pub times_lawful : (n : ℕ) → Lawful (times f n)
  unfolding times
  times_lawful n =
      record {
        bytes = λ xs h. times-bytes h.1;
        reads = λ xs rest h. subst (λ (m : ℕ). several f m (flat_map f.encode xs ++ rest) ≡ found xs rest) h.0 (several-reads h.1 rest);
        back = λ l bytes. several-back n l bytes;
      }

-- ---- all of the bytes that another format holds

module _ {A : Type 0} (g : Format (List ℕ)) (f : Format A) (G : Lawful g) (F : Alone f) (held : (c : List ℕ) → g.fits c → Bytes c) where
  inside-reads : (a : A) (rest : List ℕ) → (inside g f).fits a → (inside g f).parse ((inside g f).encode a ++ rest) ≡ found a rest
  unfolding inside
  inside-reads a rest h =
      rw (G.reads (f.encode a) rest h.1, F.reads a h.0)

  inside_back : (l : List ℕ) → Bytes l → Good (inside g f) l ((inside g f).parse l)
  unfolding inside
  inside_back l bytes = outer (g.parse l) (G.back l bytes)
    where
      inner : (c r : List ℕ) → Good g l (found c r) → (x : Found A) → Good f c x → Good (inside g f) l (all_of x r)
      inner c r h nothing k = tt
      inner c r h (found a []) k =
          let same : c ≡ f.encode a = sym k.1 ∙ append-nil (f.encode a) in
          ((k.0, subst g.fits same h.0), ap (λ (s : List ℕ). g.encode s ++ r) (sym same) ∙ h.1)
      inner c r h (found a (b ∷ bs)) k = tt

      outer : (x : Found (List ℕ)) → Good g l x → Good (inside g f) l (after x (λ c r. all_of (f.parse c) r))
      outer nothing h = tt
      outer (found c r) h = inner c r h (f.parse c) (F.back c (held c h.0))

  pub inside_lawful : Lawful (inside g f)
  unfolding inside
  inside_lawful = record { bytes = λ a h. G.bytes (f.encode a) h.1; reads = inside-reads; back = inside_back }

-- ---- one of two, by a test

pub cond-alone : {A : Type 0} (b : Bool) (f g : Format A) → Alone f → Alone g → Alone (cond b f g)
cond-alone true f g F G = F
cond-alone false f g F G = G

-- ---- fewer bytes than any value has

pub too_short : {A : Type 0} (f : Format A) → Lawful f → (k : ℕ) → ((a : A) → k ≤ length (f.encode a)) → (l : List ℕ) → Bytes l → length l < k → f.parse l ≡ nothing
too_short {A} f F k long l bytes h = none_found (f.parse l) (F.back l bytes)
  where
    none_found : (x : Found A) → Good f l x → x ≡ nothing
    none_found nothing g = refl
    none_found (found a r) g = absurd (omega (arith, long a, length-append (f.encode a) r, ap length g.1))
