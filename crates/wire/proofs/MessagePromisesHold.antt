-- The promises of messages hold. One reading is the law of formats; what is skipped is not in the bare message, and everything is read of that alone.
use mathlib.Core.Path.{◌≡◌, sym, ap, ◌∙◌}
use mathlib.Core.Bool.{true}
use mathlib.Core.List.{List, []}
use Prim.Native.Nat.{ℕ}
use Rattle.rules.specs.Lists.{any}
use Rattle.formats.specs.Format.{found}
use Rattle.formats.proofs.FormatLaws.{written_read, read-written, one_writing}
use Rattle.aper.specs.Elements.{marked}
use Rattle.wire.specs.Frame.{Frame}
use Rattle.wire.specs.MessageTree.{Elements, message}
use Rattle.wire.specs.MessageRefusals.{is_this, well_encoded, message_elements, rejecting, lacking, known_ids, complete, message_verdict}
use Rattle.wire.specs.MessageSaid.{said, said_in}
use Rattle.wire.specs.MessagePromises.{OneReading, bare, Skipping}
use Rattle.wire.specs.declared.Message.{Message}
use Rattle.wire.proofs.MessageFormat.{message-alone}
use Rattle.wire.proofs.SkippingLaws.{same-rejecting, same-lacking, same_ids, same-said, those-without, bare-without}

module _ (m : Message) where
  pub one-reading : OneReading m
  one-reading =
      record {
        back = λ b h f e. written_read (message m) (message-alone m) b h f e;
        there = λ f h. read-written (message m) (message-alone m) f h;
        same = λ b c hb hc f p q. one_writing (message m) (message-alone m) b c hb hc f p q;
      }

  same_read : (b c : List ℕ) (f g : Frame Elements) → (message m).parse b ≡ found f [] → (message m).parse c ≡ found g [] → is_this m b ≡ true → is_this m c ≡ true
      → bare f.value ≡ bare g.value → (message_verdict m b ≡ message_verdict m c) × (said_in m b ≡ said_in m c)
  unfolding message_verdict well_encoded message_elements complete
  same_read b c f g p q s t e =
      let es : Elements = f.value in
      let fs : Elements = g.value in
      let rejects : any rejecting es ≡ any rejecting fs = sym (same-rejecting es) ∙ ap (any rejecting) e ∙ same-rejecting fs in
      let lacks : any lacking es ≡ any lacking fs = sym (same-lacking es) ∙ ap (any lacking) e ∙ same-lacking fs in
      let ids : known_ids es ≡ known_ids fs = sym (same_ids es) ∙ ap known_ids e ∙ same_ids fs in
      let says : said es ≡ said fs = sym (same-said es) ∙ ap said e ∙ same-said fs in
      (rw (s, t, p, q, rejects, lacks, ids), rw (p, q, says))

  pub skipping : Skipping m
  skipping =
      record {
        same = same_read;
        put_in = bare-without;
        put_deeper = λ es fs u h. those-without marked u h es fs;
      }
