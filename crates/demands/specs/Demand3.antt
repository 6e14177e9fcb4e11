-- Demand 3: calls may come in another order, as long as each two accepted calls that reach a common cell keep theirs.
-- Then the table is the same, byte for byte, and each call gets the same number, length and answer.
use Rattle.std.specs.Prelude.{◌≡◌, true, ℕ, ◌<◌, length, Ok}
use Rattle.std.proofs.Math.Option.{some}
use mathlib.Core.List.{List, [], ◌∷◌, map, Permᴰ}
use Rattle.std.proofs.Math.ListN.{get_elem?}
use Rattle.octets.specs.Runs.{Bytes}
use Rattle.rules.specs.Layout.{Version, current}
use Rattle.rules.specs.Table.{Cell, cells_of}
use Rattle.rules.specs.Record.{one_second, request_of, items_of}
use Rattle.rules.specs.Reach.{reaches}
use Rattle.rules.specs.Refusals.{table_verdict}
use Rattle.rules.specs.Applied.{Outcome, applied}
use Rattle.pws.specs.Promises.{ApplyPromise}

-- ---- calls, one after the other

-- the record, any bytes at all, and the call's own answer buffer, of any content and length
pub record Call : Type 0 where
  pub req : List ℕ
  pub are_bytes : Bytes req
  pub answer : List ℕ

-- all that a caller gets back
pub record Result : Type 0 where
  pub number : ℕ
  pub length : ℕ
  pub answer : List ℕ

-- what a call leaves behind on a table, in a unit of a version; without one said, today's
abbrev pub outcome_in : Version → List ℕ → Call → Outcome
outcome_in v t c = applied v t c.req c.answer

abbrev pub outcome_on : List ℕ → Call → Outcome
outcome_on t c = outcome_in current t c

abbrev pub result_of : Outcome → Result
result_of o = record { number = o.number; length = o.length; answer = o.answer }

-- each call on the table that the one before left: the last table, and the results in the order of the calls
unfoldable pub run_in : Version → List ℕ → List Call → List ℕ × List Result
run_in v t [] = (t, [])
run_in v t (c ∷ cs) = let rest = run_in v (outcome_in v t c).table cs in (rest.0, result_of (outcome_in v t c) ∷ rest.1)

abbrev pub run : List ℕ → List Call → List ℕ × List Result
run t cs = run_in current t cs

-- ---- calls that meet

abbrev pub Accepted_on : List ℕ → Call → Type 0
Accepted_on t c = (outcome_on t c).number ≡ 0

abbrev pub Reaches : Call → Cell → Type 0
Reaches c cell = reaches (request_of c.req).area (items_of c.req) cell.head ≡ true

-- both are accepted on the table, and both reach one of its cells
pub record Meet (t : List ℕ) (c d : Call) : Type 0 where
  pub first-accepted : Accepted_on t c
  pub second-accepted : Accepted_on t d
  pub cell : Cell
  pub index : ℕ
  pub in_table : get_elem? (cells_of current t) index ≡ some cell
  pub first-reaches : Reaches c cell
  pub second-reaches : Reaches d cell

-- ---- another order

-- what stands at i in xs stands at `place i` in ys, what stands at k in ys stands at `origin k` in xs, and the two undo one another
pub record Permuted (xs ys : List Call) : Type 0 where
  pub place : ℕ → ℕ
  pub origin : ℕ → ℕ
  pub moved : (i : ℕ) → i < length xs → get_elem? ys (place i) ≡ get_elem? xs i
  pub came : (k : ℕ) → k < length ys → get_elem? xs (origin k) ≡ get_elem? ys k
  pub there_and_back : (i : ℕ) → i < length xs → origin (place i) ≡ i
  pub back_and_there : (k : ℕ) → k < length ys → place (origin k) ≡ k

-- of two calls that meet, the one that comes first in xs is placed first; nothing is asked of any others
abbrev pub KeepsOrder : List ℕ → List Call → (ℕ → ℕ) → Type 0
KeepsOrder t xs place =
    (i j : ℕ) (c d : Call) → i < j → get_elem? xs i ≡ some c → get_elem? xs j ≡ some d → Meet t c d → place i < place j

-- the same table, byte for byte; and each call has a result, which stands at i in the first order and at `place i` in the second
pub record SameOutcome (xs : List Call) (place : ℕ → ℕ) (first second : List ℕ × List Result) : Type 0 where
  pub same-table : second.0 ≡ first.0
  pub same_result : (i : ℕ) → i < length xs
      → (r : Result) × (get_elem? first.1 i ≡ some r) × (get_elem? second.1 (place i) ≡ some r)

-- ---- THE CLAIM, of `applied`

abbrev pub Demand3 : Type 0
Demand3 =
    (t : List ℕ) → Bytes t → table_verdict current t ≡ Ok tt → (xs ys : List Call) (p : Permuted xs ys) → KeepsOrder t xs p.place
    → SameOutcome xs p.place (run t xs) (run t ys)

-- ---- THE CLAIM, of any code that keeps apply's promise

-- what `pws_apply` promises of a call on a table, of all that is left behind
abbrev pub Promised : List ℕ → Call → Outcome → Type 0
Promised t c o =
    ApplyPromise t c.req c.answer (record { number = o.number; length = o.length }) o.table o.answer

-- outcomes one after the other, each as promised on the table that the one before left, end with a table and give results
pub data Chain : List ℕ → List Call → List ℕ → List Result → Type 0 where
  ended : {t : List ℕ} → Chain t [] t []
  called : {t u : List ℕ} {c : Call} {cs : List Call} {o : Outcome} {rs : List Result} → Promised t c o → Chain o.table cs u rs → Chain t (c ∷ cs) u (result_of o ∷ rs)

abbrev pub Demand3OfChains : Type 0
Demand3OfChains =
    (t : List ℕ) → Bytes t → table_verdict current t ≡ Ok tt → (xs ys : List Call) (p : Permuted xs ys) → KeepsOrder t xs p.place
    → (u v : List ℕ) (rs ss : List Result) → Chain t xs u rs → Chain t ys v ss → SameOutcome xs p.place (u, rs) (v, ss)

-- ---- what the words of the claim cover

-- `Permuted` leaves out no permutation: all that is made of exchanges of neighbours is one
abbrev pub EveryPermutation : Type 0
EveryPermutation = (xs ys : List Call) → Permᴰ xs ys → Permuted xs ys

-- `Meet` may read acceptance off the first table: a call gets the same number, 0 or a refusal's, wherever in a run it stands
abbrev pub AcceptedAnywhere : Type 0
AcceptedAnywhere =
    (t : List ℕ) → Bytes t → table_verdict current t ≡ Ok tt → (before : List Call) (c : Call)
    → (outcome_on (run t before).0 c).number ≡ (outcome_on t c).number

-- and reach too: the cells have the same heads at any time of a run
abbrev pub CellsStay : Type 0
CellsStay =
    (t : List ℕ) → Bytes t → table_verdict current t ≡ Ok tt → (before : List Call)
    → map (λ c. c.head) (cells_of current (run t before).0) ≡ map (λ c. c.head) (cells_of current t)

-- an accepted second reaches every cell: it meets every accepted call that reaches one, with no rule of its own
abbrev pub SecondReachesAll : Type 0
SecondReachesAll = (t : List ℕ) (c : Call) → Accepted_on t c → (request_of c.req).kind ≡ one_second → (cell : Cell) → Reaches c cell
