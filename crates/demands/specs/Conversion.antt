-- Document 02, 3/13: a converted table broadcasts what it would have under its own version, over any number of seconds.
-- A unit of that version and one of today take the same calls, the first on the old table, the second on the converted one, each in buffers of its own: both tell the same.
-- Left out is what the older version had no word for and refuses: a record of a later version, and a start that is written anew with a period above its own version's longest.
use Rattle.std.specs.Prelude.{◌≡◌, true, ◌⊎◌, List, [], ◌∷◌, ◌++◌, ℕ, ◌+◌, ◌*◌, ◌≤◌, ◌<◌, eqb, length, take, drop, replicate, Ok}
use Rattle.octets.specs.Runs.{Bytes}
use Rattle.rules.specs.Lists.{every}
use Rattle.rules.specs.Layout.{Version, version_number, current, header_size, cell_size}
use Rattle.rules.specs.Table.{cell_count, cells_of, own_version}
use Rattle.rules.specs.Record.{one_second, request_of, version_in, takes_version, renewed, longest_asked}
use Rattle.rules.specs.Answer.{Answer, answer_of, answer_bytes, room_for}
use Rattle.rules.specs.Refusals.{fits_in, table_verdict}
use Rattle.rules.specs.Applied.{converted, read_of, answered, applied}
use Rattle.pws.specs.declared.PwsDone.{PwsDone}
use Rattle.pws.specs.Promises.{ConvertPromise}
use Rattle.demands.specs.Demand3.{Call, Result, outcome_in, run_in, Chain}

-- ---- the converter's answer

abbrev pub Older : Version → Type 0
Older v = version_number v < version_number current

-- of an old table and a lent buffer: what a call leaves that returned 0
pub record Carried (old table : List ℕ) (d : PwsDone) (table' : List ℕ) : Type 0 where
  -- the old table is a legal one of the version that it says, an older one
  pub older : Older (own_version old)
  pub was_legal : table_verdict (own_version old) old ≡ Ok tt
  pub size : d.length ≡ header_size + cell_size current * cell_count old
  pub whole : take d.length table' ≡ converted old
  -- the bytes behind it stay
  pub behind : drop d.length table' ≡ drop d.length table
  -- requests can be applied to it ..
  pub legal : table_verdict current (take d.length table') ≡ Ok tt
  -- .. and it says the same cells: every head, every text with what was sent and how long it waits
  pub same-cells : cells_of current (take d.length table') ≡ cells_of (own_version old) old

-- ---- the same calls in both units

-- how a host sends today, as s, a record r that a unit of a version got
pub data SentToday (v : Version) (r s : List ℕ) : Type 0 where
  -- as it stands: any bytes at all, a good record or not, if both units take the version that they say, or neither does
  as_it_stands : takes_version current (version_in r) ≡ takes_version v (version_in r) → s ≡ r → SentToday v r s
  -- renewed, as pws_write writes it: a record, good or not, that says a version which the older unit takes, and a period which that version knows
  written_anew : takes_version v (version_in r) ≡ true → (request_of r).period.0 ≤ (longest_asked r).0 → s ≡ renewed r → SentToday v r s

-- a call on a unit of a version, and the same call on today's: both answer buffers have the room that their unit asks for with so many cells, or neither has
pub record SameCall (v : Version) (cells : ℕ) (c d : Call) : Type 0 where
  pub req : SentToday v c.req d.req
  pub rooms : fits_in (room_for current (request_of c.req).kind cells) (length d.answer) ≡ fits_in (room_for v (request_of c.req).kind cells) (length c.answer)

-- call by call
pub data Each (R : Call → Call → Type 0) : List Call → List Call → Type 0 where
  none : Each R [] []
  more : {c d : Call} {cs ds : List Call} → R c d → Each R cs ds → Each R (c ∷ cs) (d ∷ ds)

-- ---- what both units tell

-- one answer in the layout of a version: its bytes stand at the start of the buffer, those behind them stay, and read they say that answer
pub record Tells (v : Version) (w : Answer) (buffer : List ℕ) (x : Result) : Type 0 where
  pub size : x.length ≡ length (answer_bytes v w)
  pub whole : x.answer ≡ answer_bytes v w ++ drop x.length buffer
  pub reads : answer_of v (take x.length x.answer) ≡ w

pub record Silent (buffer : List ℕ) (x : Result) : Type 0 where
  pub nothing : x.length ≡ 0
  pub kept : x.answer ≡ buffer

-- the results of one call, x in the older unit and y in today's: the same number, and the same answer, each in its own layout
pub record SameTold (v : Version) (w : Answer) (c d : Call) (x y : Result) : Type 0 where
  pub same_number : y.number ≡ x.number
  pub accepted : x.number ≡ 0 → Tells v w c.answer x × Tells current w d.answer y
  pub refused : (x.number ≡ 0 → ⊥) → Silent c.answer x × Silent d.answer y

-- result by result: the answer is what the call is told of the older unit's table at that moment
pub data EachTold (v : Version) : List ℕ → List Call → List Call → List Result → List Result → Type 0 where
  none_told : {t : List ℕ} → EachTold v t [] [] [] []
  more-told : {t : List ℕ} {c d : Call} {x y : Result} {cs ds : List Call} {xs ys : List Result} → SameTold v (answered v t c.req) c d x y
      → EachTold v (outcome_in v t c).table cs ds xs ys → EachTold v t (c ∷ cs) (d ∷ ds) (x ∷ xs) (y ∷ ys)

-- of what today's unit leaves and gives: the same replies, and the table that the older unit leaves, converted
pub record SameBroadcasts (v : Version) (t : List ℕ) (cs ds : List Call) (today : List ℕ × List Result) : Type 0 where
  pub same-told : EachTold v t cs ds (run_in v t cs).1 today.1
  pub same-table : today.0 ≡ converted (run_in v t cs).0

-- ---- seconds

-- "PWR", the version, the kind, and zeros
abbrev pub second_record : Version → List ℕ
second_record v = 80 ∷ 87 ∷ 82 ∷ 0 ∷ version_number v ∷ one_second ∷ replicate 20 0

-- a second that passes over so many cells, each buffer with room for its answer
pub record SameSecond (v : Version) (cells : ℕ) (c d : Call) : Type 0 where
  -- by a record of a version that the older unit takes; today by the same, or by one of today's version
  pub version : Version
  pub taken : version_number version ≤ version_number v
  pub then_sent : c.req ≡ second_record version
  pub now_sent : (d.req ≡ second_record version) ⊎ (d.req ≡ second_record current)
  pub then_room : room_for v one_second cells ≤ length c.answer
  pub now_room : room_for current one_second cells ≤ length d.answer

-- ---- THE CLAIM

pub record Conversion : Type 0 where
  -- of whatever is returned and left under the promise of the C surface
  pub carried : (old table : List ℕ) → Bytes old → (d : PwsDone) (table' : List ℕ) → ConvertPromise old table d table' → d.number ≡ 0
      → Carried old table d table'
  -- of every legal table of any version and any calls, accepted or refused: what one unit refuses the other refuses, with the same number
  pub broadcasts : (v : Version) (t : List ℕ) → Bytes t → table_verdict v t ≡ Ok tt → (cs ds : List Call) → Each (SameCall v (cell_count t)) cs ds
      → SameBroadcasts v t cs ds (run_in current (converted t) ds)
  -- of code: `pws_convert`, then `pws_apply` after `pws_apply`, whatever is returned and left under their promises
  pub promised : (old table : List ℕ) → Bytes old → (d : PwsDone) (table' : List ℕ) → ConvertPromise old table d table' → d.number ≡ 0
      → (cs ds : List Call) → Each (SameCall (own_version old) (cell_count old)) cs ds → (u : List ℕ) (rs : List Result) → Chain (take d.length table') ds u rs
      → SameBroadcasts (own_version old) old cs ds (u, rs)
  -- seconds are such calls, and each of them is accepted
  pub seconds : (v : Version) (t : List ℕ) → Bytes t → table_verdict v t ≡ Ok tt → (cs ds : List Call) → Each (SameSecond v (cell_count t)) cs ds
      → Each (SameCall v (cell_count t)) cs ds × (every (λ x. eqb x.number 0) (run_in v t cs).1 ≡ true)

-- ---- as long as the answer has one layout in every version, as it has today

pub record AnswerStays : Type 0 where
  -- a buffer has the room that both units ask for, or that neither does: a call with the same buffer is the same call ..
  pub same-buffer : (v : Version) (cells : ℕ) (c d : Call) → SentToday v c.req d.req → d.answer ≡ c.answer → SameCall v cells c d
  -- .. and such calls get the very same results, byte for byte
  pub same_results : (v : Version) (t : List ℕ) (cs ds : List Call) (xs ys : List Result) → EachTold v t cs ds xs ys → Each (λ c d. d.answer ≡ c.answer) cs ds
      → ys ≡ xs

-- ---- what the words of the claim cover

-- a call that a unit of a version accepts may be sent either way: as it stands, for both take it, and written anew
abbrev pub EitherWay : Type 0
EitherWay =
    (v : Version) (t : List ℕ) (c : Call) → (outcome_in v t c).number ≡ 0
    → (takes_version v (version_in c.req) ≡ true) × (takes_version current (version_in c.req) ≡ true) × ((request_of c.req).period.0 ≤ (longest_asked c.req).0)

-- today a record that is accepted does the same as it stands and renewed, on any table and with any buffer
abbrev pub RenewedAlike : Type 0
RenewedAlike = (t r a : List ℕ) → (read_of r).number ≡ 0 → applied current t (renewed r) a ≡ applied current t r a
