-- The record of a message is legal: its fields fit and the writer's tests 4, 5 and 6 hold of what is sound, so that 7 and 8 alone are left.
-- By the two flags, and by whether there are cells; what the writer takes is then read back by the laws of records.
use Rattle.std.specs.Prelude.{Ok}
use mathlib.Core.Path.{◌≡◌, refl, sym, ◌∙◌}
use mathlib.Core.Bool.{Bool, true, false, cond, not}
use mathlib.Core.List.{List, [], ◌∷◌}
use Prim.Native.Nat.{ℕ, ◌/◌, ◌%◌, ◌≤◌}
use native.Mathlib.Omega.{arith}
use borrow.Author.Tests.{lt-ltb, le-leb, ne_eqb}
use lib.Dec.{eqb, ltb}
use lib.ListN.{length, length-map}
use Rattle.octets.specs.Runs.{Bytes}
use Rattle.rules.specs.Lists.{every, any, one_of, zeros}
use Rattle.rules.specs.Layout.{current, longest_period, most_items, cell_end}
use Rattle.rules.specs.Reply.{Row, identities}
use Rattle.rules.specs.Record.{no_area, any_area, request_numbers, record_bytes, items_of, allowed, kind_allows, area_fits, item_end, within_limits}
use Rattle.rules.specs.Refusals.{test, first_of, cancels_some, fits_in, record_verdict, write_verdict}
use Rattle.rules.specs.Applied.{reading, read_of}
use Rattle.rules.specs.Sound.{fits, fit_request}
use Rattle.rules.specs.declared.Refusal.TheVariants.{CancelsNothing, ShortBuffer}
use Rattle.rules.proofs.AllLaws.{All, none, more}
use Rattle.rules.proofs.VerdictLaws.{all_held}
use Rattle.rules.proofs.AcceptedRecordLaws.{accepted-record}
use Rattle.rules.proofs.RecordTrips.{writing_accepted, items-read, record-written, request-read}
use Rattle.wire.specs.MessageRefusals.{message_tests, message_verdict}
use Rattle.wire.specs.MessageSaid.{Said, said_in}
use Rattle.wire.specs.CancelRead.{named, flags_of, area_named, cancel_request, record_room, cancel_tests, cancel_verdict, record_of}
use Rattle.wire.specs.declared.Message.TheVariants.{CancelRequest}
use Rattle.wire.proofs.SoundLaws.{SoundRow, SoundSaid, message-sound}

-- ---- flags

flags-few : (all notified : Bool) → flags_of all notified ≤ 6
flags-few true true = omega arith
flags-few true false = omega arith
flags-few false true = omega arith
flags-few false false = omega arith

flags-allowed : (all notified : Bool) → one_of (flags_of all notified) (0 ∷ 2 ∷ 4 ∷ 6 ∷ []) ≡ true
unfolding one_of any
flags-allowed true true = refl
flags-allowed true false = refl
flags-allowed false true = refl
flags-allowed false false = refl

-- flag 4 is that of a notification, and without one its numbers are 0
left_out : (all notified : Bool) (identifier serial : ℕ) → (notified ≡ false → (identifier ≡ 0) × (serial ≡ 0))
    → every (λ x. eqb x 0) (cond (eqb (flags_of all notified / 4 % 2) 1) [] (identifier ∷ serial ∷ [])) ≡ true
unfolding every
left_out true true i s h = refl
left_out true false i s h = rw ((h refl).0, (h refl).1)
left_out false true i s h = refl
left_out false false i s h = rw ((h refl).0, (h refl).1)

-- ---- the area: cells where there are some

area-few : (ns : List ℕ) → area_named ns ≤ 1
area-few [] = omega arith
area-few (n ∷ ns) = omega arith

area-allowed : (ns : List ℕ) → one_of (area_named ns) any_area ≡ true
unfolding one_of any
area-allowed [] = refl
area-allowed (n ∷ ns) = refl

area_fits_lem : (ns : List ℕ) → cond (eqb (area_named ns) no_area) (eqb (length ns) 0) (not (eqb (length ns) 0)) ≡ true
area_fits_lem [] = refl
area_fits_lem (n ∷ ns) = rw (ne_eqb (length (n ∷ ns)) 0 (λ e. omega (arith, e)))

abbrev CellsBelow : List ℕ → Type 0
CellsBelow ns = every (λ n. ltb n cell_end) ns ≡ true

cells-below : {rows : List Row} → All (SoundRow CancelRequest) rows → CellsBelow (identities rows)
unfolding every
cells-below none = refl
cells-below (more {x} {xs} h hs) = rw (lt-ltb x.identity cell_end h.below, cells-below hs)

area_limits : (ns : List ℕ) → CellsBelow ns → every (λ n. ltb n (item_end (area_named ns))) ns ≡ true
unfolding every
area_limits [] h = refl
area_limits (n ∷ ns) h = h

-- ---- the writer's tests

module _ (c : Said) (s : SoundSaid CancelRequest c) where
  few : length (named c) ≤ most_items
  few = omega (arith, length-map c.cells (λ w. w.identity), s.few)

  pub request-fits : fit_request (cancel_request c) ≡ true
  unfolding fit_request fits request_numbers cancel_request
  request-fits =
      rw (
        lt-ltb (flags_of c.cancels_all c.notifies) 256 (omega (arith, flags-few c.cancels_all c.notifies)),
        lt-ltb (area_named (named c)) 256 (omega (arith, area-few (named c))),
        lt-ltb c.identifier 65536 s.identifier,
        lt-ltb c.serial 65536 s.serial,
        lt-ltb c.requested 65536 s.requested,
      )

  -- 5
  kind_allows_lem : kind_allows (cancel_request c) ≡ true
  unfolding kind_allows allowed zeros every cancel_request
  kind_allows_lem =
      rw (flags-allowed c.cancels_all c.notifies, area-allowed (named c), left_out c.cancels_all c.notifies c.identifier c.serial s.unnoted)

  area_right : area_fits (cancel_request c) (length (named c)) ≡ true
  unfolding area_fits cancel_request
  area_right = area_fits_lem (named c)

  -- 6
  limits_kept : within_limits (longest_period current) (cancel_request c) (named c) ≡ true
  unfolding within_limits cancel_request
  limits_kept = area_limits (named c) (cells-below s.each)

  -- 7 and 8 are left
  write-left : (room : ℕ) → write_verdict (cancel_request c) (named c) room ≡ first_of (test (cancels_some (cancel_request c)) CancelsNothing ∷ test (fits_in (record_room c) room) ShortBuffer ∷ [])
  unfolding write_verdict
  write-left room = rw (le-leb (length (named c)) most_items few, kind_allows_lem, area_right, limits_kept)

  record-reads : (room : ℕ) → write_verdict (cancel_request c) (named c) room ≡ Ok tt
      → (read_of (record_of c) ≡ record { number = 0; request = cancel_request c; items = length (named c) }) × (items_of (record_of c) ≡ named c)
  unfolding read_of reading record_of
  record-reads room e =
      let q = cancel_request c in
      let a = writing_accepted q (named c) room e in
      let v : record_verdict current (record_bytes q (named c)) ≡ Ok tt =
      accepted-record current (record_bytes q (named c)) (record-written q (named c) request-fits few a.request) in
      let r = request-read q (named c) request-fits few a.request in
      (rw (v, r.0, r.1), items-read q (named c) request-fits few a.request)

-- ---- a message

-- 13 to 16 are passed
message_passed : (b : List ℕ) (room : ℕ) → cancel_verdict b room ≡ Ok tt → message_verdict CancelRequest b ≡ Ok tt
unfolding cancel_verdict message_verdict
message_passed b room e =
    let h = all_held (cancel_tests b room) e in
    rw (h.0, h.1.0, h.1.1.0, h.1.1.1.0)

message-left : (b : List ℕ) (room : ℕ) → message_verdict CancelRequest b ≡ Ok tt
    → cancel_verdict b room ≡ first_of (test (cancels_some (cancel_request (said_in CancelRequest b))) CancelsNothing ∷ test (fits_in (record_room (said_in CancelRequest b)) room) ShortBuffer ∷ [])
unfolding cancel_verdict message_verdict
message-left b room e =
    let h = all_held (message_tests CancelRequest b) e in
    rw (h.0, h.1.0, h.1.1.0, h.1.1.1.0)

-- the reader's verdict is then the writer's
pub same-verdict : (b : List ℕ) (room : ℕ) → Bytes b → message_verdict CancelRequest b ≡ Ok tt → cancel_verdict b room ≡ write_verdict (cancel_request (said_in CancelRequest b)) (named (said_in CancelRequest b)) room
same-verdict b room bytes e = message-left b room e ∙ sym (write-left (said_in CancelRequest b) (message-sound CancelRequest b bytes) room)

pub message-reads : (b : List ℕ) (room : ℕ) → Bytes b → cancel_verdict b room ≡ Ok tt
    → (read_of (record_of (said_in CancelRequest b)) ≡ record { number = 0; request = cancel_request (said_in CancelRequest b); items = length (named (said_in CancelRequest b)) })
    × (items_of (record_of (said_in CancelRequest b)) ≡ named (said_in CancelRequest b))
message-reads b room bytes e =
    record-reads (said_in CancelRequest b) (message-sound CancelRequest b bytes) room (sym (same-verdict b room bytes (message_passed b room e)) ∙ e)
