-- What is left is the same field by field where it is the same.
use mathlib.Core.Path.{◌≡◌, ap}
use Rattle.rules.specs.Applied.{Filled, ReadOutcome, Outcome}
use Rattle.segments.specs.Segments.{Lies}
use Rattle.wire.specs.MessageOutcome.{MessageOutcome}

-- ---- one buffer that is filled

pub number-filled : {x y : Filled} → x ≡ y → x.number ≡ y.number
number-filled e = ap (λ (f : Filled). f.number) e

pub length-filled : {x y : Filled} → x ≡ y → x.length ≡ y.length
length-filled e = ap (λ (f : Filled). f.length) e

pub buffer-filled : {x y : Filled} → x ≡ y → x.buffer ≡ y.buffer
buffer-filled e = ap (λ (f : Filled). f.buffer) e

-- ---- a record that is read

pub number_read : {x y : ReadOutcome} → x ≡ y → x.number ≡ y.number
number_read e = ap (λ (f : ReadOutcome). f.number) e

pub request-read : {x y : ReadOutcome} → x ≡ y → x.request ≡ y.request
request-read e = ap (λ (f : ReadOutcome). f.request) e

pub items-read : {x y : ReadOutcome} → x ≡ y → x.items ≡ y.items
items-read e = ap (λ (f : ReadOutcome). f.items) e

-- ---- a request that is applied

pub number-left : {x y : Outcome} → x ≡ y → x.number ≡ y.number
number-left e = ap (λ (f : Outcome). f.number) e

pub length-left : {x y : Outcome} → x ≡ y → x.length ≡ y.length
length-left e = ap (λ (f : Outcome). f.length) e

pub table-left : {x y : Outcome} → x ≡ y → x.table ≡ y.table
table-left e = ap (λ (f : Outcome). f.table) e

pub answer-left : {x y : Outcome} → x ≡ y → x.answer ≡ y.answer
answer-left e = ap (λ (f : Outcome). f.answer) e

-- ---- a segment that is looked for

pub number-lies : {x y : Lies} → x ≡ y → x.number ≡ y.number
number-lies e = ap (λ (p : Lies). p.number) e

pub buffer-lies : {x y : Lies} → x ≡ y → x.buffer ≡ y.buffer
buffer-lies e = ap (λ (p : Lies). p.buffer) e

pub start-lies : {x y : Lies} → x ≡ y → x.start ≡ y.start
start-lies e = ap (λ (p : Lies). p.start) e

pub length-lies : {x y : Lies} → x ≡ y → x.length ≡ y.length
length-lies e = ap (λ (p : Lies). p.length) e

-- ---- a message that is read

pub number-taken : {x y : MessageOutcome} → x ≡ y → x.number ≡ y.number
number-taken e = ap (λ (o : MessageOutcome). o.number) e

pub transaction-taken : {x y : MessageOutcome} → x ≡ y → x.transaction ≡ y.transaction
transaction-taken e = ap (λ (o : MessageOutcome). o.transaction) e

pub length_taken : {x y : MessageOutcome} → x ≡ y → x.length ≡ y.length
length_taken e = ap (λ (o : MessageOutcome). o.length) e

pub buffer-taken : {x y : MessageOutcome} → x ≡ y → x.buffer ≡ y.buffer
buffer-taken e = ap (λ (o : MessageOutcome). o.buffer) e
