-- What 5/13 claims of messages holds of every call under the promise.
-- A call that returned 0 was accepted, so that it left what a filled buffer is left with; the rest is that of the definitions (wire, MessagePromisesHold and CancelPromisesHold).
use Rattle.std.specs.Prelude.{Ok}
use mathlib.Core.Path.{◌≡◌, refl, sym, ap, ◌∙◌}
use mathlib.Core.Bool.{true, false, false≢true}
use mathlib.Core.List.{List, [], ◌∷◌, ◌++◌, map, flat_map}
use Prim.Native.Nat.{ℕ, ◌≤◌}
use native.Mathlib.Omega.{arith}
use borrow.Author.Tests.{leb-true}
use lib.ListN.{length, length-map}
use lib.Seq.{sets}
use Rattle.octets.specs.Runs.{Bytes}
use Rattle.rules.specs.Lists.{those}
use Rattle.rules.specs.Record.{items_of}
use Rattle.rules.specs.Refusals.{verdict_number}
use Rattle.rules.specs.Applied.{fill, read_of}
use Rattle.rules.proofs.TestLaws.{by_test}
use Rattle.rules.proofs.RecordTrips.{length-record_bytes}
use Rattle.aper.specs.Elements.{Element}
use Rattle.wire.specs.Cells.{Entry, listed, foreign}
use Rattle.wire.specs.MessageTree.{Contents, transaction, requested, cells, cancel_all, notification, other, Elements}
use Rattle.wire.specs.MessageRefusals.{is_foreign, known_contents}
use Rattle.wire.specs.MessageSaid.{said_in}
use Rattle.wire.specs.MessageOutcome.{transaction_by, with_transaction}
use Rattle.wire.specs.CancelRead.{named, cancel_request, record_room, cancel_verdict, record_of, cancel_read}
use Rattle.wire.specs.MessagePromises.{bare_entry, bare_element, skipped, bare}
use Rattle.wire.specs.declared.Message.TheVariants.{CancelRequest}
use Rattle.wire.proofs.SoundLaws.{message-sound}
use Rattle.wire.proofs.CancelRecordLaws.{request-fits}
use Rattle.wire.proofs.MessagePromisesHold.{one-reading, skipping}
use Rattle.wire.proofs.CancelPromisesHold.{same-record, refusing, legal-record}
use Rattle.pws.specs.Surface.{taken}
use Rattle.pws.specs.declared.PwsMessage.{PwsMessage}
use Rattle.pws.specs.Promises.{ReadCancelPromise}
use Rattle.demands.specs.WireCancel.{CancelTaken, marked_as, WireCancel}
use Rattle.demands.proofs.ReadAsLaws.{parsed, read_as}
use Rattle.demands.proofs.FieldLaws.{number-filled, length-filled, buffer-filled, number-taken, transaction-taken, length_taken, buffer-taken}
use Rattle.demands.proofs.FrontLaws.{front}
use Rattle.demands.proofs.MessageLaws.{cancel-number, cancel-accepted}

-- ---- the record, and the transaction identifier

module _ (message buffer : List ℕ) where
  of_record : Bytes message → record_room (said_in CancelRequest message) ≤ length buffer
      → (read_of (record_of (said_in CancelRequest message)) ≡ record { number = 0; request = cancel_request (said_in CancelRequest message); items = length (named (said_in CancelRequest message)) }) × (items_of (record_of (said_in CancelRequest message)) ≡ named (said_in CancelRequest message))
      → (m : PwsMessage) (buffer' : List ℕ) → m.transaction ≡ (said_in CancelRequest message).transaction → m.length ≡ length (record_of (said_in CancelRequest message)) → buffer' ≡ sets buffer 0 (record_of (said_in CancelRequest message))
      → CancelTaken message buffer m buffer'
  unfolding record_of
  of_record bytes room back m buffer' t n w =
      let c = said_in CancelRequest message in
      let sound = message-sound CancelRequest message bytes in
      let long : length (record_of c) ≡ record_room c = length-record_bytes (cancel_request c) (named c) (request-fits c sound) (omega (arith, length-map c.cells (λ w. w.identity), sound.few)) in
      let f = front (record_of c) buffer (omega (arith, long, room)) m.length buffer' n w in
      record {
        size = n ∙ long;
        whole = f.whole;
        behind = f.behind;
        reads = rw f.whole back.0;
        reads-cells = rw f.whole back.1;
        transaction = t;
        one_byte = omega (arith, t, sound.transaction);
      }

-- the tests that a call passed which returned 0
passed : (message buffer : List ℕ) (m : PwsMessage) (buffer' : List ℕ) → ReadCancelPromise message buffer m buffer' → m.number ≡ 0 → cancel_verdict message (length buffer) ≡ Ok tt
passed message buffer m buffer' p z = cancel-accepted message buffer (sym (number-taken p) ∙ z)

taken-whole : (message buffer : List ℕ) → Bytes message → (m : PwsMessage) (buffer' : List ℕ) → ReadCancelPromise message buffer m buffer' → m.number ≡ 0 → CancelTaken message buffer m buffer'
unfolding cancel_read fill
taken-whole message buffer bytes m buffer' p z =
    let c = said_in CancelRequest message in
    let v = passed message buffer m buffer' p z in
    let held = (refusing.exact message (length buffer)).accepted v in
    let w : taken m buffer' ≡ with_transaction (fill (Ok tt) (record_of c) buffer) c.transaction =
    p ∙ ap (λ x. with_transaction (fill x (record_of c) buffer) (transaction_by x c.transaction)) v in
    of_record message buffer bytes (leb-true (record_room c) (length buffer) held.1.1.1.1.1.0) (legal-record.reads message buffer bytes v) m buffer'
    (transaction-taken w) (length_taken w) (buffer-taken w)

-- ---- what is not read

module _ (u v : Element Contents) where
  bare_instead : skipped u ≡ false → skipped v ≡ false → bare_element u ≡ bare_element v → (es fs : Elements) → bare (es ++ (u ∷ fs)) ≡ bare (es ++ (v ∷ fs))
  unfolding bare those flat_map
  bare_instead h k same [] fs = rw (h, k, same)
  bare_instead h k same (e ∷ es) fs = by_test (skipped e) (λ t. rw t (bare_instead h k same es fs)) (λ t. rw (t, bare_instead h k same es fs))

-- a known element stays, and its criticality is left out
record Unread (e : Element Contents) (c : ℕ) : Type 0 where
  stays : skipped e ≡ false
  stays_so : skipped (marked_as c e) ≡ false
  same : bare_element (marked_as c e) ≡ bare_element e

unread : (id mark c : ℕ) (x : Contents) → known_contents x ≡ true → Unread (record { id = id; criticality = mark; contents = x }) c
unread id mark c (transaction t) h = record { stays = refl; stays_so = refl; same = refl }
unread id mark c (requested n) h = record { stays = refl; stays_so = refl; same = refl }
unread id mark c (cells es) h = record { stays = refl; stays_so = refl; same = refl }
unread id mark c cancel_all h = record { stays = refl; stays_so = refl; same = refl }
unread id mark c (notification n) h = record { stays = refl; stays_so = refl; same = refl }
unread id mark c (other s) h = absurd (false≢true h)

entry-unread : (e : Element Entry) (c : ℕ) (x : Entry) → is_foreign x ≡ false → bare_entry (marked_as c e) x ≡ bare_entry e x
entry-unread e c (listed i) h = refl
entry-unread e c (foreign s) h = absurd (false≢true (sym h))

entries_instead : (es fs : List (Element Entry)) (e : Element Entry) (c : ℕ) → is_foreign e.contents ≡ false
    → map (λ e. bare_entry e e.contents) (es ++ (marked_as c e ∷ fs)) ≡ map (λ e. bare_entry e e.contents) (es ++ (e ∷ fs))
entries_instead [] fs e c h = rw (entry-unread e c e.contents h)
entries_instead (x ∷ es) fs e c h = rw (entries_instead es fs e c h)

-- ---- all of it

pub wire_cancel-holds : WireCancel
wire_cancel-holds =
    record {
      one-reading = one-reading CancelRequest;
      read_as = λ message buffer bytes m buffer' p z.
          let held = (refusing.exact message (length buffer)).accepted (passed message buffer m buffer' p z) in
          let w = parsed CancelRequest message held.0 held.1.0 in
          (w.tree, read_as CancelRequest message bytes w.tree w.is);
      taken = taken-whole;
      as_written = λ message buffer bytes e m buffer' p d buffer'' q.
          let w = p ∙ legal-record.writer message buffer bytes e in
          (number-taken w ∙ sym (number-filled q), length_taken w ∙ sym (length-filled q), buffer-taken w ∙ sym (buffer-filled q));
      same_taken = λ first second buffer tree other f s this also same m buffer' p n buffer'' q.
          let w = p ∙ same-record first second buffer tree other f s this also same ∙ sym q in
          record {
            same_number = number-taken w;
            same-transaction = transaction-taken w;
            same_length = length_taken w;
            same_bytes = buffer-taken w;
          };
      skipping = skipping CancelRequest;
      criticality = λ es fs e c h.
          let k = unread e.id e.criticality c e.contents h in
          bare_instead (marked_as c e) e k.stays_so k.stays k.same es fs;
      item-criticality = λ es fs e c h. ap cells (entries_instead es fs e c h);
      refused = λ message buffer m buffer' p x f.
          let w = p ∙ refusing.leaves message buffer x ((refusing.exact message (length buffer)).refuses x f) in
          (number-taken w, transaction-taken w, length_taken w, buffer-taken w);
      accepted = λ message buffer m buffer' p.
          let exact = refusing.exact message (length buffer) in
          (λ held. number-taken p ∙ cancel-number message buffer ∙ ap verdict_number (exact.accepts held), λ z. exact.accepted (passed message buffer m buffer' p z));
    }
