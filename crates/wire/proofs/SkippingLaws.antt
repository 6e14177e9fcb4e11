-- What is skipped changes nothing: each test of a message's elements, and what they say, is that of the bare message.
-- By the list, over the same of one element by its contents.
use mathlib.Core.Path.{◌≡◌, refl}
use mathlib.Core.Bool.{Bool, true, false, not, false≢true}
use mathlib.Core.List.{List, [], ◌∷◌, ◌++◌, map, flat_map}
use borrow.Author.Tests.{not-true}
use Rattle.rules.specs.Lists.{any, those}
use Rattle.rules.proofs.TestLaws.{by_test}
use Rattle.formats.specs.Summary.{gathered}
use Rattle.aper.specs.Elements.{Element, Extensions, marked}
use Rattle.wire.specs.Cells.{Entry, listed, foreign}
use Rattle.wire.specs.MessageTree.{Contents, transaction, requested, cells, cancel_all, notification, other, Elements}
use Rattle.wire.specs.MessageRefusals.{rejecting_entry, rejects_entry, rejecting_contents, rejecting, is_foreign, foreign_entry, lacking_contents, lacking, known_contents, is_known, known_ids}
use Rattle.wire.specs.MessageSaid.{Said, nothing_said, row_in, rows_in, said_by, also_said, said}
use Rattle.wire.specs.MessagePromises.{left_of, bare_entry, bare_contents, bare_element, skipped_contents, skipped, bare}

-- ---- extensions: those that are left have every mark

marked-left : (es : Extensions) → any marked (left_of es) ≡ any marked es
unfolding any those flat_map
marked-left [] = refl
marked-left (e ∷ es) = by_test (marked e) (λ t. rw (t, t)) (λ t. rw t (marked-left es))

-- ---- the list of cells

abbrev bare_entries : List (Element Entry) → List (Element Entry)
bare_entries es = map (λ e. bare_entry e e.contents) es

rejects-entry : (e : Element Entry) (x : Entry) → rejects_entry (bare_entry e x) ≡ rejecting_entry e x
rejects-entry e (listed i) = rw (marked-left i.cell_extensions, marked-left i.extensions)
rejects-entry e (foreign s) = refl

rejects_entries : (es : List (Element Entry)) → any rejects_entry (bare_entries es) ≡ any rejects_entry es
unfolding any
rejects_entries [] = refl
rejects_entries (e ∷ es) = rw (rejects-entry e e.contents, rejects_entries es)

foreign-entry : (e : Element Entry) (x : Entry) → foreign_entry (bare_entry e x) ≡ is_foreign x
foreign-entry e (listed i) = refl
foreign-entry e (foreign s) = refl

foreign_entries : (es : List (Element Entry)) → any foreign_entry (bare_entries es) ≡ any foreign_entry es
unfolding any
foreign_entries [] = refl
foreign_entries (e ∷ es) = rw (foreign-entry e e.contents, foreign_entries es)

row-entry : (e : Element Entry) (x : Entry) → row_in (bare_entry e x).contents ≡ row_in x
row-entry e (listed i) = refl
row-entry e (foreign s) = refl

same_rows : (es : List (Element Entry)) → rows_in (bare_entries es) ≡ rows_in es
unfolding rows_in flat_map
same_rows [] = refl
same_rows (e ∷ es) = rw (row-entry e e.contents, same_rows es)

-- ---- one element

rejecting-bare : (e : Element Contents) (x : Contents) → rejecting_contents (bare_element (record { id = e.id; criticality = e.criticality; contents = x })) (bare_contents x) ≡ rejecting_contents e x
rejecting-bare e (transaction t) = refl
rejecting-bare e (requested n) = refl
rejecting-bare e (cells es) = rejects_entries es
rejecting-bare e cancel_all = refl
rejecting-bare e (notification n) = marked-left n.extensions
rejecting-bare e (other s) = refl

lacking-bare : (x : Contents) → lacking_contents (bare_contents x) ≡ lacking_contents x
lacking-bare (transaction t) = refl
lacking-bare (requested n) = refl
lacking-bare (cells es) = foreign_entries es
lacking-bare cancel_all = refl
lacking-bare (notification n) = refl
lacking-bare (other s) = refl

known-bare : (x : Contents) → known_contents (bare_contents x) ≡ known_contents x
known-bare (transaction t) = refl
known-bare (requested n) = refl
known-bare (cells es) = refl
known-bare cancel_all = refl
known-bare (notification n) = refl
known-bare (other s) = refl

said-bare : (c : Said) (x : Contents) → said_by c (bare_contents x) ≡ said_by c x
unfolding said_by
said-bare c (transaction t) = refl
said-bare c (requested n) = refl
said-bare c (cells es) = rw (same_rows es)
said-bare c cancel_all = refl
said-bare c (notification n) = refl
said-bare c (other s) = refl

-- one that is skipped is refused for nothing, and says nothing
record SaysNothing (e : Element Contents) (x : Contents) : Type 0 where
  rejects : rejecting_contents e x ≡ false
  lacks : lacking_contents x ≡ false
  unknown : known_contents x ≡ false
  silent : (c : Said) → said_by c x ≡ c

says_nothing : (e : Element Contents) (x : Contents) → skipped_contents e x ≡ true → SaysNothing e x
unfolding said_by
says_nothing e (transaction t) h = absurd (false≢true h)
says_nothing e (requested n) h = absurd (false≢true h)
says_nothing e (cells es) h = absurd (false≢true h)
says_nothing e cancel_all h = absurd (false≢true h)
says_nothing e (notification n) h = absurd (false≢true h)
says_nothing e (other s) h = record { rejects = not-true (marked e) h; lacks = refl; unknown = refl; silent = λ c. refl }

-- ---- all of them

any-bare : (f : Element Contents → Bool) → ((e : Element Contents) → skipped e ≡ true → f e ≡ false) → ((e : Element Contents) → f (bare_element e) ≡ f e)
    → (es : Elements) → any f (bare es) ≡ any f es
unfolding any bare those flat_map
any-bare f none same [] = refl
any-bare f none same (e ∷ es) = by_test (skipped e) (λ t. rw (t, none e t) (any-bare f none same es)) (λ t. rw (t, same e, any-bare f none same es))

pub same-rejecting : (es : Elements) → any rejecting (bare es) ≡ any rejecting es
same-rejecting es = any-bare rejecting (λ e t. (says_nothing e e.contents t).rejects) (λ e. rejecting-bare e e.contents) es

pub same-lacking : (es : Elements) → any lacking (bare es) ≡ any lacking es
same-lacking es = any-bare lacking (λ e t. (says_nothing e e.contents t).lacks) (λ e. lacking-bare e.contents) es

pub same_ids : (es : Elements) → known_ids (bare es) ≡ known_ids es
unfolding known_ids bare those flat_map
same_ids [] = refl
same_ids (e ∷ es) =
    by_test (skipped e)
    (λ t. rw (t, (says_nothing e e.contents t).unknown) (same_ids es))
    (λ t. by_test (is_known e) (λ k. rw (t, known-bare e.contents, k, same_ids es)) (λ k. rw (t, known-bare e.contents, k, same_ids es)))

said_on : (c : Said) (es : Elements) → gathered also_said c (bare es) ≡ gathered also_said c es
unfolding gathered bare those flat_map
said_on c [] = refl
said_on c (e ∷ es) =
    by_test (skipped e)
    (λ t. rw (t, (says_nothing e e.contents t).silent c) (said_on c es))
    (λ t. rw (t, said-bare c e.contents) (said_on (also_said c e) es))

pub same-said : (es : Elements) → said (bare es) ≡ said es
unfolding said
same-said es = said_on nothing_said es

-- ---- one that is put in

module _ {A : Type 0} (f : A → Bool) (u : A) (h : f u ≡ false) where
  pub those-without : (xs ys : List A) → those f (xs ++ (u ∷ ys)) ≡ those f (xs ++ ys)
  unfolding those flat_map
  those-without [] ys = rw h
  those-without (x ∷ xs) ys = rw (those-without xs ys)

pub bare-without : (es fs : Elements) (u : Element Contents) → skipped u ≡ true → bare (es ++ (u ∷ fs)) ≡ bare (es ++ fs)
unfolding bare
bare-without es fs u h = rw (those-without (λ e. not (skipped e)) u (rw h) es fs)
