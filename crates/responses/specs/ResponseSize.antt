-- How many bytes a response has, from the number of its rows.
use Rattle.std.specs.Prelude.{ℕ, zero, suc, ◌+◌, ◌*◌, length}
use Rattle.aper.specs.Elements.{length_bytes}
use Rattle.wire.specs.Messages.{count_size}
use Rattle.wire.specs.declared.Message.{Message}

-- an element's, from those of its contents: id, criticality, length and contents
abbrev pub element_size : ℕ → ℕ
element_size n = 3 + length (length_bytes n) + n

-- the transaction identifier's
abbrev pub transaction_size : ℕ
transaction_size = 6

-- an entry's of the list
abbrev pub entry_size : Message → ℕ
entry_size m = 13 + count_size m

abbrev pub list_size : Message → ℕ → ℕ
list_size m n = 2 + entry_size m * n

-- "A list with no rows is left out."
abbrev pub listed_size : Message → ℕ → ℕ
listed_size m zero = 0
listed_size m (suc n) = element_size (list_size m (suc n))

abbrev pub value_size : Message → ℕ → ℕ
value_size m n = 3 + transaction_size + listed_size m n

-- the frame has a choice and a procedure code where an element has an id
abbrev pub response_size : Message → ℕ → ℕ
response_size m n = element_size (value_size m n)
