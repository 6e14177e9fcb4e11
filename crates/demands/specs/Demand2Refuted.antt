-- What document 01 has demand 2 shut out: wrong units, each as a whole class, and an instance of each of the plainest.
-- None of them meets demand 2: each is refuted by one or two calls on document 01's sample bytes (crate rules).
use Rattle.std.specs.Prelude.{◌≡◌, false, List, [], ◌∷◌, ◌++◌, map, ℕ, ◌+◌, ◌≤◌, take, drop}
use Rattle.std.proofs.lemmas.List.Edits.{sets}
use Rattle.octets.specs.Fields.{field_of}
use Rattle.rules.specs.Layout.{current, header_size, cell_size, answer_size, row_fields, count_in_row, row_size}
use Rattle.rules.specs.Table.{Cell, cells_of}
use Rattle.rules.specs.Record.{cancel_or_kill, cancel_all, request_of}
use Rattle.rules.specs.Answer.{room_for}
use Rattle.rules.specs.Refusals.{number_of}
use Rattle.rules.specs.Applied.{Outcome, applied}
use Rattle.rules.specs.ByHand.{answers}
use Rattle.rules.specs.declared.Place.{Place}
use Rattle.rules.specs.declared.Refusal.TheVariants.{ShortBuffer}
use Rattle.demands.specs.Demand2.{cell_at, CallUnit, MeetsDemand2}

-- ---- classes of wrong units

abbrev pub RefusesEverything : CallUnit → Type 0
RefusesEverything u = (t r a : List ℕ) → (u t r a).number ≡ 0 → ⊥

-- a fixed answer: an accepted record gets the same whatever the table ..
abbrev pub SameForEveryTable : CallUnit → Type 0
SameForEveryTable u = (t t' r a : List ℕ) → (u t r a).number ≡ 0 → (u t' r a).number ≡ 0 → (u t r a).answer ≡ (u t' r a).answer

-- .. or a table gives the same to every accepted record
abbrev pub SameForEveryRecord : CallUnit → Type 0
SameForEveryRecord u = (t r r' a : List ℕ) → (u t r a).number ≡ 0 → (u t r' a).number ≡ 0 → (u t r a).answer ≡ (u t r' a).answer

abbrev pub ChangesNothing : CallUnit → Type 0
ChangesNothing u = (t r a : List ℕ) → (u t r a).table ≡ t

-- every cell but the first keeps its bytes ..
abbrev pub ChangesFirstCellOnly : CallUnit → Type 0
ChangesFirstCellOnly u = (t r a : List ℕ) (k : ℕ) → 1 ≤ k → cell_at (u t r a).table k ≡ cell_at t k

-- .. or no answer is longer than what one cell can give
abbrev pub ReportsFirstCellOnly : CallUnit → Type 0
ReportsFirstCellOnly u = (t r a : List ℕ) → (u t r a).length ≤ room_for current (request_of r).kind 1

-- on the table that an accepted call left, no other changes anything
abbrev pub FirstRequestOnly : CallUnit → Type 0
FirstRequestOnly u =
    (t r a r' a' : List ℕ) → (u t r a).number ≡ 0 → (u (u t r a).table r' a').table ≡ (u t r a).table

-- a cancel of one text, accepted and with a row; the count of the first row
abbrev pub StopsText : List ℕ → Outcome → Type 0
StopsText r o =
    ((request_of r).kind ≡ cancel_or_kill)
    × (cancel_all (request_of r) ≡ false)
    × (o.number ≡ 0)
    × (answer_size current + row_size current ≤ o.length)

abbrev pub first_count : Outcome → ℕ
first_count o = field_of (row_fields current) count_in_row (drop (answer_size current) o.answer)

-- it does not come from the table: it is guessed from the record ..
abbrev pub InventsCounts : CallUnit → Type 0
InventsCounts u = (guess : List ℕ → ℕ) × ((t r a : List ℕ) → StopsText r (u t r a) → first_count (u t r a) ≡ guess r)

-- .. or it comes from anywhere but the sent counts of the places: it is the same for tables that differ in these alone
abbrev pub unsent : Place → Place
unsent p =
    record {
      identifier = p.identifier;
      serial = p.serial;
      content = p.content;
      period = p.period;
      requested = p.requested;
      sent = record { 0 = 0 };
      wait = p.wait;
      sib = p.sib;
    }

abbrev pub without_sent : Cell → Cell
without_sent c = record { head = c.head; places = map unsent c.places }

abbrev pub CountsWithoutSent : CallUnit → Type 0
CountsWithoutSent u =
    (t t' r a : List ℕ) → map without_sent (cells_of current t) ≡ map without_sent (cells_of current t')
    → StopsText r (u t r a) → StopsText r (u t' r a) → first_count (u t r a) ≡ first_count (u t' r a)

-- ---- an instance each

-- 8 to every call
abbrev pub refusing : CallUnit
refusing t r a = record { number = number_of ShortBuffer; length = 0; table = t; answer = a }

-- a head without rows to every call, though the table is right
abbrev pub fixed : CallUnit
fixed t r a = record { number = 0; length = answer_size current; table = (applied current t r a).table; answer = sets a 0 (answers 1 4370 16 0) }

-- the right answer, and the table as it was
abbrev pub unchanging : CallUnit
unchanging t r a =
    record { number = (applied current t r a).number; length = (applied current t r a).length; table = t; answer = (applied current t r a).answer }

-- right up to the end of the first cell
abbrev pub first_cell : CallUnit
first_cell t r a =
    record {
      number = (applied current t r a).number;
      length = (applied current t r a).length;
      table = take (header_size + cell_size current) (applied current t r a).table ++ drop (header_size + cell_size current) t;
      answer = (applied current t r a).answer;
    }

-- right but for the count of the first row, which is always 0
abbrev pub inventing : CallUnit
inventing t r a =
    record {
      number = (applied current t r a).number;
      length = (applied current t r a).length;
      table = (applied current t r a).table;
      answer = sets (applied current t r a).answer 20 (0 ∷ 0 ∷ []);
    }

-- ---- THE CLAIM

abbrev pub ShutOut : (CallUnit → Type 0) → Type 0
ShutOut Wrong = (u : CallUnit) → Wrong u → MeetsDemand2 u → ⊥

pub record Demand2Refuted : Type 0 where
  pub no-refusing_everything : ShutOut RefusesEverything
  pub no-answer-fixed_by_record : ShutOut SameForEveryTable
  pub no-answer-fixed_by_table : ShutOut SameForEveryRecord
  pub no_changing_nothing : ShutOut ChangesNothing
  pub no_changing_first-cell-only : ShutOut ChangesFirstCellOnly
  pub no_reporting_first-cell-only : ShutOut ReportsFirstCellOnly
  pub no-first-request-only : ShutOut FirstRequestOnly
  pub no-inventing-counts : ShutOut InventsCounts
  pub no-counts-without-sent : ShutOut CountsWithoutSent
  pub not-refusing : MeetsDemand2 refusing → ⊥
  pub not-fixed : MeetsDemand2 fixed → ⊥
  pub not-unchanging : MeetsDemand2 unchanging → ⊥
  pub not-first_cell : MeetsDemand2 first_cell → ⊥
  pub not-inventing : MeetsDemand2 inventing → ⊥
