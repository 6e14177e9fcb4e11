-- What the walk gathers is what the rules ask for: 15, 16 and what the message says, each by the list of elements.
use mathlib.Core.Path.{◌≡◌, refl, sym, ap, ◌∙◌}
use mathlib.Core.Bool.{Bool, true, false, ◌&&◌, ◌||◌}
use mathlib.Core.List.{List, [], ◌∷◌, flat_map}
use Prim.Native.Nat.{ℕ}
use lib.Dec.{eqb, ltb}
use Rattle.rules.specs.Lists.{any, every, those, one_of, above}
use Rattle.rules.proofs.TestLaws.{or_assoc, and_assoc, or-false, and_with-true, by_test}
use Rattle.formats.specs.Summary.{gathered}
use Rattle.aper.specs.Elements.{Element}
use Rattle.wire.specs.Messages.{transaction_id, requested_id, mandatory}
use Rattle.wire.specs.MessageTree.{Contents, Elements}
use Rattle.wire.specs.MessageRefusals.{rejecting, lacking, is_known, known_ids, in_order}
use Rattle.wire.specs.MessageSaid.{also_said, said}
use Rattle.wire.specs.declared.Message.{Message}
use Rattle.wire.specs.declared.Message.TheVariants.{CancelRequest, CancelResponse, WriteReplaceResponse}
use Rattle.wire_judge.specs.Readers.{has_all}
use Rattle.wire_judge.specs.Account.{Account, open_account, entered, accounted}

-- a mark that is kept is any element's
gathered-mark : (f : Account → Bool) (g : Element Contents → Bool) → ((a : Account) (e : Element Contents) → f (accounted a e) ≡ (f a || g e))
    → (a : Account) (es : Elements) → f (gathered accounted a es) ≡ (f a || any g es)
unfolding gathered any
gathered-mark f g one a [] = sym (or-false (f a))
gathered-mark f g one a (e ∷ es) = gathered-mark f g one (accounted a e) es ∙ ap (λ (b : Bool). b || any g es) (one a e) ∙ or_assoc (f a) (g e) (any g es)

gathered-says : (a : Account) (es : Elements) → (gathered accounted a es).says ≡ gathered also_said a.says es
unfolding gathered
gathered-says a [] = refl
gathered-says a (e ∷ es) = gathered-says (accounted a e) es ∙ unfold accounted in refl

-- ---- the known ones, in order

ids_more : (e : Element Contents) (es : Elements) → is_known e ≡ true → known_ids (e ∷ es) ≡ e.id ∷ known_ids es
unfolding known_ids those flat_map
ids_more e es t = rw t

ids_same : (e : Element Contents) (es : Elements) → is_known e ≡ false → known_ids (e ∷ es) ≡ known_ids es
unfolding known_ids those flat_map
ids_same e es t = rw t

module _ (a : Account) (e : Element Contents) where
  ordered-more : is_known e ≡ true → ((accounted a e).ordered ≡ (a.ordered && ltb a.last e.id)) × ((accounted a e).last ≡ e.id)
  unfolding accounted entered
  ordered-more t = (rw t, rw t)

  ordered_same : is_known e ≡ false → ((accounted a e).ordered ≡ a.ordered) × ((accounted a e).last ≡ a.last)
  unfolding accounted entered
  ordered_same t = (rw t, rw t)

-- a known element with this id
abbrev is_there : ℕ → Element Contents → Bool
is_there id e = is_known e && eqb id e.id

ids_none : known_ids [] ≡ []
unfolding known_ids those flat_map
ids_none = refl

is_among : (id : ℕ) (es : Elements) → any (is_there id) es ≡ one_of id (known_ids es)
unfolding any one_of
is_among id [] = rw ids_none
is_among id (e ∷ es) =
    by_test (is_known e)
    (λ t. rw (ids_more e es t, t) (ap (λ (b : Bool). eqb id e.id || b) (is_among id es)))
    (λ t. rw (ids_same e es t, t) (is_among id es))

transaction-kept : (a : Account) (e : Element Contents) → (accounted a e).has_transaction ≡ (a.has_transaction || is_there transaction_id e)
unfolding accounted entered
transaction-kept a e = by_test (is_known e) (λ t. rw t) (λ t. rw (t, or-false a.has_transaction))

requested-kept : (a : Account) (e : Element Contents) → (accounted a e).has_requested ≡ (a.has_requested || is_there requested_id e)
unfolding accounted entered
requested-kept a e = by_test (is_known e) (λ t. rw t) (λ t. rw (t, or-false a.has_requested))

gathered-ordered : (a : Account) (es : Elements) → (gathered accounted a es).ordered ≡ (a.ordered && above a.last (known_ids es))
unfolding gathered
gathered-ordered a [] = unfold above known_ids those flat_map in sym (and_with-true a.ordered)
gathered-ordered a (e ∷ es) =
    gathered-ordered (accounted a e) es
    ∙ by_test (is_known e)
    (λ t. rw ((ordered-more a e t).0, (ordered-more a e t).1, ids_more e es t) (more a.ordered a.last e.id (known_ids es)))
    (λ t. rw ((ordered_same a e t).0, (ordered_same a e t).1, ids_same e es t))
  where
    more : (b : Bool) (last id : ℕ) (ids : List ℕ) → ((b && ltb last id) && above id ids) ≡ (b && above last (id ∷ ids))
    more b last id ids = unfold above in and_assoc b (ltb last id) (above id ids)

-- ---- all of it

pub record AccountOf (m : Message) (es : Elements) (a : Account) : Type 0 where
  pub rejects : a.rejects ≡ any rejecting es
  pub lacks : a.lacks ≡ any lacking es
  pub in_order_lem : (a.ordered && has_all m a.has_transaction a.has_requested) ≡ in_order m (known_ids es)
  pub says : a.says ≡ said es

-- those that must be among the ids
pub has_all_lem : (m : Message) (ids : List ℕ) → has_all m (one_of transaction_id ids) (one_of requested_id ids) ≡ every (λ id. one_of id ids) (mandatory m)
unfolding every
has_all_lem CancelRequest ids = rw (and_with-true (one_of requested_id ids))
has_all_lem CancelResponse ids = sym (and_with-true (one_of transaction_id ids))
has_all_lem WriteReplaceResponse ids = sym (and_with-true (one_of transaction_id ids))

pub account_of : (m : Message) (es : Elements) → AccountOf m es (gathered accounted open_account es)
unfolding open_account in_order said
account_of m es =
    record {
      rejects = gathered-mark (λ a. a.rejects) rejecting (λ a e. unfold accounted in refl) open_account es;
      lacks = gathered-mark (λ a. a.lacks) lacking (λ a e. unfold accounted in refl) open_account es;
      in_order_lem =
          rw (gathered-ordered open_account es, gathered-mark (λ a. a.has_transaction) (is_there transaction_id) transaction-kept open_account es, gathered-mark (λ a. a.has_requested) (is_there requested_id) requested-kept open_account es, is_among transaction_id es, is_among requested_id es, has_all_lem m (known_ids es));
      says = gathered-says open_account es;
    }
