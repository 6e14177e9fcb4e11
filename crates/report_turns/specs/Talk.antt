-- The program as it runs: calls of `turn` one after the other, with what is written and read between them. Whatever `turn` returns and
-- leaves under its promise, the texts that are written, joined, are `report` of the pieces that are read.
use Rattle.std.specs.Prelude.{◌≡◌, None, Bool, true, false, List, [], ◌∷◌, ◌++◌, ℕ, length, take, replicate}
use Rattle.rules.specs.Layout.{most_cells}
use Rattle.report_turns.specs.Report.{answer_room, table_size, report}
use Rattle.report_turns.specs.Pieces.{joined}
use Rattle.report_turns.specs.Buffers.{held_in, Standing, Turned}
use Rattle.report_turns.specs.declared.Next.TheVariants.{Go, Wait, Stop}
use Rattle.report_turns.specs.declared.Stand.{Stand}

-- a turn, from where one may begin
pub record Called (s : Stand) (input t a out : List ℕ) (s' : Stand) (t' a' out' : List ℕ) : Type 0 where
  pub may : Standing s (length input) (length t) (length a) (length out)
  pub did : Turned s input t a out s' t' a' out'

-- the text was written, so the next begins at the front
abbrev pub emptied : Stand → Stand
emptied s = record s { at = 0 }

-- and a piece was read: it follows the bytes at hand, wherever they lie now. At the end of the input it is empty
pub record Fed (s : Stand) (input piece : List ℕ) (over : Bool) (s' : Stand) (input' : List ℕ) : Type 0 where
  pub cells : s'.cells ≡ s.cells
  pub at : s'.at ≡ 0
  pub ended : s'.ended ≡ over
  pub held : held_in s' input' ≡ held_in s input ++ piece

pub data Talk : Stand → (input t a out : List ℕ) → List (List ℕ) → List ℕ → Type 0 where
  stops : {s s' : Stand} {input t a out t' a' out' : List ℕ} {pieces : List (List ℕ)} → Called s input t a out s' t' a' out' → s'.next ≡ Stop
      → Talk s input t a out pieces (take s'.at out')
  goes : {s s' : Stand} {input t a out t' a' out' : List ℕ} {pieces : List (List ℕ)} {text : List ℕ} → Called s input t a out s' t' a' out' → s'.next ≡ Go
      → Talk s' input t' a' out' pieces text → Talk s input t a out pieces text
  writes : {s s' : Stand} {input t a out t' a' out' : List ℕ} {pieces : List (List ℕ)} {text : List ℕ} → Called s input t a out s' t' a' out' → s'.next ≡ Go
      → Talk (emptied s') input t' a' out' pieces text → Talk s input t a out pieces (take s'.at out' ++ text)
  reads : {s s' s'' : Stand} {input t a out t' a' out' piece input' : List ℕ} {pieces : List (List ℕ)} {text : List ℕ} → Called s input t a out s' t' a' out' → s'.next ≡ Wait
      → Fed s' input piece false s'' input' → Talk s'' input' t' a' out' pieces text → Talk s input t a out (piece ∷ pieces) (take s'.at out' ++ text)
  finds_the_end : {s s' s'' : Stand} {input t a out t' a' out' input' : List ℕ} {text : List ℕ} → Called s input t a out s' t' a' out' → s'.next ≡ Wait
      → Fed s' input [] true s'' input' → Talk s'' input' t' a' out' [] text → Talk s input t a out [] (take s'.at out' ++ text)

-- nothing has come in yet
abbrev pub started : Stand
started =
    record { cells = None; from = 0; to = 0; at = 0; ended = false; next = Go; writes = false }

-- ---- THE CLAIM

abbrev pub TalkReports : Type 0
TalkReports =
    (input out : List ℕ) (pieces : List (List ℕ)) (text : List ℕ)
    → Talk started input (replicate (table_size most_cells) 0) (replicate (answer_room most_cells) 0) out pieces text → text ≡ report (joined pieces)
