-- Document 01, "The program reads N ..": all that it prints, for all that it is given.
use Rattle.std.specs.Prelude.{Option, Some, None, true, cond, List, [], ◌++◌, ℕ, zero, suc, ◌+◌, ◌*◌, eqb, leb, length, take, drop, replicate}
use Rattle.std.specs.Bool.{then_some}
use Rattle.rules.specs.Layout.{current, header_size, cell_size, head_size}
use Rattle.rules.specs.Record.{one_second}
use Rattle.rules.specs.Answer.{room_for}
use Rattle.rules.specs.Applied.{Filled, built, applied}
use Rattle.report_lines.specs.Text.{said_of, no_text}
use Rattle.report_lines.specs.Framing.{count_size, cells_named, heads_end, frame_of, stops_at}

-- the largest answer that a table of n cells gives: one second's
abbrev pub answer_room : ℕ → ℕ
answer_room n = room_for current one_second n

abbrev pub table_size : ℕ → ℕ
table_size n = header_size + cell_size current * n

-- the next request, and then what the rest says of those behind it, unless the program stops there
abbrev pub request_said : (List ℕ → List ℕ → List ℕ → List ℕ) → List ℕ → List ℕ → List ℕ → Option ℕ → List ℕ
request_said rest t a l None = []
request_said rest t a l (Some size) =
    let o = applied current t (take size l) a in
    said_of o ++ cond (stops_at o.number) [] (rest o.table o.answer (drop size l))

-- the requests of the input, one by one, on a table and an answer buffer: at most so many of them
unfoldable pub requests_said : ℕ → List ℕ → List ℕ → List ℕ → List ℕ
requests_said zero t a l = []
requests_said (suc k) t a l = request_said (requests_said k) t a l (frame_of l true)

-- a table that is refused is the end
unfoldable pub opened_said : ℕ → Filled → List ℕ → List ℕ
opened_said n f l =
    cond (eqb f.number 0) (requests_said (length l) f.buffer (replicate (answer_room n) 0) l) (no_text f.number)

-- ---- N and the heads

-- so many cells, if their heads are at hand
abbrev pub with_heads : List ℕ → Option ℕ → Option ℕ
with_heads l None = None
with_heads l (Some n) = then_some (leb (heads_end n) (length l)) n

-- the cells whose heads are all at hand: none where N or heads are missing, or where N names no cells
abbrev pub heads_there : List ℕ → Option ℕ
heads_there l = cond (leb count_size (length l)) (with_heads l (cells_named l)) None

-- "N not 1 to 512 .., input that ends in N or the heads, and bad heads print "no 9""
abbrev pub report_of : List ℕ → Option ℕ → List ℕ
report_of l None = no_text 9
report_of l (Some n) =
    opened_said n (built (take (head_size current * n) (drop count_size l)) (replicate (table_size n) 0)) (drop (heads_end n) l)

unfoldable pub report : List ℕ → List ℕ
report l = report_of l (heads_there l)
