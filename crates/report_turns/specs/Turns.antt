-- The program between its reads and its writes: one turn over the bytes at hand. And all that it says of an input that comes in pieces.
use Rattle.std.specs.Prelude.{◌≡◌, Option, Some, None, is_none, Bool, true, false, cond, ◌&&◌, ◌||◌, List, [], ◌∷◌, ◌++◌, ℕ, ◌*◌, eqb, leb, length, take, drop, replicate}
use Rattle.std.specs.Option.{ForSome}
use Rattle.rules.specs.Layout.{current, head_size, most_cells}
use Rattle.rules.specs.Applied.{Filled, Outcome, built, applied}
use Rattle.report_lines.specs.Text.{said_of, no_text}
use Rattle.report_lines.specs.Framing.{count_size, cells_named, heads_end, frame_of}
use Rattle.report_turns.specs.Report.{answer_room, table_size, heads_there}
use Rattle.report_turns.specs.Next.{next_behind}
use Rattle.report_turns.specs.declared.Next.{Next}
use Rattle.report_turns.specs.declared.Next.TheVariants.{Go, Wait, Stop}

-- what it goes on with: the cells of its table, none while N and the heads are awaited; its table and its answer buffer, which until
-- then are all that it has for them
pub record Program : Type 0 where
  pub cells : Option ℕ
  pub table : List ℕ
  pub answer : List ℕ

abbrev pub begun : Program
begun =
    record { cells = None; table = replicate (table_size most_cells) 0; answer = replicate (answer_room most_cells) 0 }

-- the table and the answer buffer have the sizes that the cells ask for
abbrev pub Sized : Program → Type 0
Sized p = ForSome p.cells (λ n. (length p.table ≡ table_size n) × (length p.answer ≡ answer_room n))

-- what one turn says, how many of the bytes at hand it took, and what comes next
pub record Step : Type 0 where
  pub said : List ℕ
  pub program : Program
  pub taken : ℕ
  pub next : Next

abbrev pub waiting : Program → Step
waiting p = record { said = []; program = p; taken = 0; next = Wait }

abbrev pub stopping : List ℕ → Program → Step
stopping text p = record { said = text; program = p; taken = 0; next = Stop }

-- ---- N and the heads

-- "N not 1 to 512 (no heads are read then)"
abbrev pub no_cells : List ℕ → Bool
no_cells l = leb count_size (length l) && is_none (cells_named l)

-- the builder's answer: a table, or "no 9"
unfoldable pub opened : ℕ → Program → Filled → Step
opened n p f =
    cond (eqb f.number 0)
    (record {
      said = [];
      program = record { cells = Some n; table = f.buffer; answer = take (answer_room n) p.answer };
      taken = heads_end n;
      next = Go;
    })
    (stopping (no_text f.number) p)

-- what the builder makes of the heads at hand
abbrev pub built_from : ℕ → Program → List ℕ → Filled
built_from n p l = built (take (head_size current * n) (drop count_size l)) (take (table_size n) p.table)

-- by the cells whose heads are at hand
abbrev pub opens_by : Bool → Program → List ℕ → Option ℕ → Step
opens_by ended p l None = cond (ended || no_cells l) (stopping (no_text 9) p) (waiting p)
opens_by ended p l (Some n) = opened n p (built_from n p l)

unfoldable pub opens : Bool → Program → List ℕ → Step
opens ended p l = opens_by ended p l (heads_there l)

-- ---- a request

unfoldable pub served : Program → ℕ → Outcome → Step
served p size o =
    record {
      said = said_of o;
      program = record { cells = p.cells; table = o.table; answer = o.answer };
      taken = size;
      next = next_behind o.number;
    }

-- by the size of the record at hand
abbrev pub serves_by : Bool → Program → List ℕ → Option ℕ → Step
serves_by ended p l None = cond ended (stopping [] p) (waiting p)
serves_by ended p l (Some size) = served p size (applied current p.table (take size l) p.answer)

unfoldable pub serves : Bool → Program → List ℕ → Step
serves ended p l = serves_by ended p l (frame_of l ended)

-- ---- one turn

-- by the cells of the table
abbrev pub step_by : Bool → Program → List ℕ → Option ℕ → Step
step_by ended p l None = opens ended p l
step_by ended p l (Some n) = serves ended p l

unfoldable pub step : Bool → Program → List ℕ → Step
step ended p l = step_by ended p l p.cells

-- ---- an input in pieces

-- turn after turn over the bytes at hand; where one waits, the next piece is read, or the input has ended: the texts, joined
pub data Spoken : Bool → Program → List ℕ → List (List ℕ) → List ℕ → Type 0 where
  stops : {ended : Bool} {p : Program} {l : List ℕ} {pieces : List (List ℕ)} → (step ended p l).next ≡ Stop
      → Spoken ended p l pieces (step ended p l).said
  goes : {ended : Bool} {p : Program} {l : List ℕ} {pieces : List (List ℕ)} {text : List ℕ} → (step ended p l).next ≡ Go
      → Spoken ended (step ended p l).program (drop (step ended p l).taken l) pieces text → Spoken ended p l pieces ((step ended p l).said ++ text)
  reads : {p : Program} {l piece : List ℕ} {pieces : List (List ℕ)} {text : List ℕ} → (step false p l).next ≡ Wait
      → Spoken false p (l ++ piece) pieces text → Spoken false p l (piece ∷ pieces) text
  finds_the_end : {p : Program} {l : List ℕ} {text : List ℕ} → (step false p l).next ≡ Wait → Spoken true p l [] text → Spoken false p l [] text
