-- Document 01, "Per request it prints ..": the lines, as ASCII codes.
use Rattle.std.specs.Prelude.{◌≡◌, cond, ℕ, zero, suc, ◌+◌, ◌/◌, ◌%◌, eqb, ltb, length, take}
use mathlib.Core.List.{List, [], ◌∷◌, ◌++◌, flat_map}
use Rattle.std.proofs.lemmas.List.Edits.{sets}
use Rattle.rules.specs.Layout.{current}
use Rattle.rules.specs.Reply.{Row}
use Rattle.rules.specs.Answer.{Answer, answer_of}
use Rattle.rules.specs.Applied.{Outcome}

-- ---- numbers

-- a digit: `0` to `9`, then `a` to `f`
unfoldable pub glyph : ℕ → ℕ
glyph d = cond (ltb d 10) (48 + d) (87 + d)

-- the last k digits of n, the most significant first
unfoldable pub digits : ℕ → ℕ → ℕ → List ℕ
digits base zero n = []
digits base (suc k) n = digits base k (n / base) ++ (glyph (n % base) ∷ [])

-- how many decimal digits n has, tried up to one more than a given number
unfoldable pub places : ℕ → ℕ → ℕ
places zero n = 1
places (suc k) n = cond (ltb n 10) 1 (1 + places k (n / 10))

-- a number of 32 bits has ten digits at most
abbrev pub most_places : ℕ
most_places = 10

unfoldable pub decimal : ℕ → List ℕ
decimal n = digits 10 (places 9 n) n

-- "NR CGI as 15 lower-case hex digits"
abbrev pub hex_places : ℕ
hex_places = 15

-- ---- lines

abbrev pub space : ℕ
space = 32

abbrev pub line_feed : ℕ
line_feed = 10

-- a number and what ends it
unfoldable pub number_text : ℕ → ℕ → List ℕ
number_text n end = decimal n ++ (end ∷ [])

unfoldable pub cell_text : ℕ → List ℕ
cell_text identity = digits 16 hex_places identity ++ (space ∷ [])

-- "no NUMBER"
unfoldable pub no_text : ℕ → List ℕ
no_text number = (110 ∷ 111 ∷ space ∷ []) ++ number_text number line_feed

-- "ok KIND ROWS"
unfoldable pub ok_text : ℕ → ℕ → List ℕ
ok_text kind rows = (111 ∷ 107 ∷ space ∷ []) ++ (number_text kind space ++ number_text rows line_feed)

-- "NR CGI .., count, content"
unfoldable pub row_text : Row → List ℕ
row_text w = cell_text w.identity ++ (number_text w.count space ++ number_text w.content line_feed)

-- no row's line is longer: 15 digits, two numbers of at most 5 and 10, and what ends each
abbrev pub longest_row : ℕ
longest_row = hex_places + 1 + (most_places + 1) + (most_places + 1)

-- ---- an answer's lines

unfoldable pub answer_text : Answer → List ℕ
answer_text a = ok_text a.kind (length a.reply.rows) ++ flat_map row_text a.reply.rows

-- what is printed of a request, by what it left
unfoldable pub said_of : Outcome → List ℕ
said_of o =
    cond (eqb o.number 0) (answer_text (answer_of current (take o.length o.answer))) (no_text o.number)

-- ---- a writer stores its text at an index, and says where it ends

pub record Said (out : List ℕ) (at : ℕ) (text : List ℕ) (out' : List ℕ) (end : ℕ) : Type 0 where
  pub stored : out' ≡ sets out at text
  pub ends : end ≡ at + length text
