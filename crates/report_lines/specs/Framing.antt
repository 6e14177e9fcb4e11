-- Document 01, "then records to the end, each framed by its own n", and where the program stops.
use Rattle.std.specs.Prelude.{Bool, cond, not, ◌&&◌, eqb, List, ℕ, ◌+◌, ◌*◌, leb, length, take, Option, Some}
use Rattle.std.specs.Bool.{then_some}
use Rattle.octets.specs.Numbers.{be}
use Rattle.rules.specs.Layout.{current, head_size, most_cells, record_size, item_size, most_items}
use Rattle.rules.specs.Record.{written_in, item_count}

-- ---- the heads

-- N
abbrev pub count_size : ℕ
count_size = 2

-- "N not 1 to 512 (no heads are read then)": none for every such N
unfoldable pub cells_named : List ℕ → Option ℕ
cells_named l =
    let n = be (take count_size l) in
    then_some (leb 1 n && leb n most_cells) n

abbrev pub heads_end : ℕ → ℕ
heads_end n = count_size + head_size current * n

-- ---- a record

-- What a record takes by its own n. A head with n above 512 is refused as it stands, and a head that is cut off says no n.
unfoldable pub own_size : List ℕ → ℕ
own_size l =
    cond (leb record_size (length l) && leb (item_count l) most_items) (record_size + item_size (written_in l) * item_count l) record_size

-- The record at the start of the bytes at hand: whole, or what is there where the input has ended; none where there is none to take.
unfoldable pub frame_of : List ℕ → Bool → Option ℕ
frame_of l ended =
    cond (leb (own_size l) (length l)) (Some (own_size l)) (then_some (ended && not (eqb (length l) 0)) (length l))

-- "It stops after a refused table .. or refusal 3 or 4"
unfoldable pub stops_at : ℕ → Bool
stops_at number = leb 1 number && leb number 4
