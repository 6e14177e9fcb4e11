-- What reading a message leaves, whole.
use Rattle.std.specs.Prelude.{List, ℕ, Result, Ok, Err}
use Rattle.rules.specs.Refusals.{number_of, Verdict}
use Rattle.rules.specs.Applied.{Filled}
use Rattle.rules.specs.declared.Refusal.{Refusal}
use Rattle.wire.specs.declared.Taken.{Taken}

-- number, transaction identifier and length, and the buffer that is written to; all but the number 0 on a refusal
pub record MessageOutcome : Type 0 where
  pub number : ℕ
  pub transaction : ℕ
  pub length : ℕ
  pub buffer : List ℕ

abbrev pub transaction_by : Verdict → ℕ → ℕ
transaction_by (Ok tt) t = t
transaction_by (Err x) t = 0

abbrev pub with_transaction : Filled → ℕ → MessageOutcome
with_transaction f t = record { number = f.number; transaction = t; length = f.length; buffer = f.buffer }

-- a refusal leaves every byte
abbrev pub refused : Refusal → List ℕ → MessageOutcome
refused x buffer = record { number = number_of x; transaction = 0; length = 0; buffer = buffer }

-- what a reader answers
abbrev pub Taking : Type 0
Taking = Result Taken Refusal

-- what its answer, and the buffer that it leaves, say
abbrev pub taken_by : Taking → List ℕ → MessageOutcome
taken_by (Ok r) buffer = record { number = 0; transaction = r.transaction; length = r.length; buffer = buffer }
taken_by (Err x) buffer = refused x buffer
