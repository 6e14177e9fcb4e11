-- What a notification tells: its five bytes, then its extensions, and nothing behind them.
use Rattle.std.specs.Prelude.{Some, None}
use mathlib.Core.Path.{◌≡◌, sym, ap, ◌∙◌}
use mathlib.Core.Bool.{Bool}
use mathlib.Core.List.{List, [], ◌∷◌}
use Prim.Native.Nat.{ℕ, ◌<◌, ◌≤◌}
use native.Mathlib.Omega.{arith}
use lib.ListN.{length, drop, drop_of_length-le}
use lib.Seq.{drop-cons}
use Rattle.rules.specs.Lists.{any}
use Rattle.formats.specs.Format.{Found, nothing, found, after, all_of, behind, as_if}
use Rattle.formats.specs.Summary.{summed}
use Rattle.aper.specs.Elements.{Extensions, given, marked}
use Rattle.aper.specs.Readers.{GivenAt}
use Rattle.aper.specs.declared.Extensions.{Extensions as Run}
use Rattle.wire.specs.Messages.{the_notification}
use Rattle.wire.specs.MessageTree.{note_under, note, Contents, notification, contents_by}
use Rattle.wire.specs.declared.Message.TheVariants.{CancelRequest}
use Rattle.wire.specs.Readers.{NoteAt, kept, Tells}
use Rattle.wire.specs.declared.Heard.{Heard}
use Rattle.wire.specs.declared.Heard.TheVariants.{Notification}
use Rattle.wire.specs.declared.Note.{Note}

module _ (l : List ℕ) where
  pub note-none : NoteAt l 0 None → Tells (contents_by CancelRequest the_notification) l None
  unfolding contents_by note behind as_if
  note-none read = rw (sym read.says)

  module _ (it : Note) (read : NoteAt l 0 (Some it)) where
    -- with the extensions behind its five bytes
    abbrev With : Found Extensions → Found Contents
    With x = after (after x (λ es r. found (record { identifier = it.identifier; serial = it.serial; extensions = es }) r)) (λ n r. found (notification n) r)

    under : (contents_by CancelRequest the_notification).parse l ≡ With ((given it.present).parse (drop it.end l))
    unfolding contents_by note note_under behind as_if
    under = rw (sym read.says)

    abbrev Marked : Found Bool → Found Heard
    Marked y = summed (λ b. Notification (record { rejected = b; identifier = it.identifier; serial = it.serial })) (all_of y [])

    by_extensions : (x : Found Extensions) (y : Found Bool) → summed (any marked) x ≡ y → all_of (summed kept (With x)) [] ≡ Marked y
    by_extensions nothing y e = ap Marked e
    by_extensions (found es []) y e = ap Marked e
    by_extensions (found es (b ∷ bs)) y e = ap Marked e

    tells : (y : Found Bool) → y ≡ summed (any marked) ((given it.present).parse (drop it.end l)) → all_of (summed kept ((contents_by CancelRequest the_notification).parse l)) [] ≡ Marked y
    tells y e = ap (λ (x : Found Contents). all_of (summed kept x) []) under ∙ by_extensions ((given it.present).parse (drop it.end l)) y (sym e)

    pub extensions-none : GivenAt l it.end it.present None → Tells (contents_by CancelRequest the_notification) l None
    extensions-none run = sym (tells nothing run.says)

    module _ (own : Run) (run : GivenAt l it.end it.present (Some own)) where
      pub notification-behind : (own.end ≡ length l → ⊥) → Tells (contents_by CancelRequest the_notification) l None
      notification-behind other =
          let more : own.end < length l = omega (arith, other, run.lies) in
          sym (tells (found own.rejected (drop own.end l)) run.says ∙ ap (λ (r : List ℕ). Marked (found own.rejected r)) (drop-cons l own.end 0 more))

      pub notification-there : own.end ≡ length l → Tells (contents_by CancelRequest the_notification) l (Some (Notification (record { rejected = own.rejected; identifier = it.identifier; serial = it.serial })))
      notification-there e =
          let all : length l ≤ own.end = omega arith in
          sym (tells (found own.rejected (drop own.end l)) run.says ∙ ap (λ (r : List ℕ). Marked (found own.rejected r)) (drop_of_length-le l all))
