-- Document 01: "Item order and repeats change nothing."
-- Two records that differ in nothing else reach the same cells, and a call with either, accepted or refused, gets the same reply and leaves the same table.
use Rattle.std.specs.Prelude.{◌≡◌, true, List, ℕ, ◌+◌, ◌*◌, ◌≤◌, length, take}
use Rattle.octets.specs.Fields.{numbers}
use Rattle.rules.specs.Lists.{one_of}
use Rattle.rules.specs.Layout.{current, record_fields, record_size, item_size, most_items}
use Rattle.rules.specs.Table.{Cell}
use Rattle.rules.specs.Record.{item_count, items_of, record_marked}
use Rattle.rules.specs.Applied.{Outcome, applied}
use Rattle.pws.specs.Surface.{left}
use Rattle.pws.specs.declared.PwsDone.{PwsDone}
use Rattle.pws.specs.Promises.{ApplyPromise}
use Rattle.demands.specs.Demand2.{reached}

-- neither 3 nor 4: a repeat more may make a list too long
pub record WholeRecord (r : List ℕ) : Type 0 where
  pub marked : record_marked current r ≡ true
  pub few : item_count r ≤ most_items
  pub size : length r ≡ record_size + item_size current * item_count r

-- every field but the last, the count of items
abbrev pub fields_of : List ℕ → List ℕ
fields_of r = take 12 (numbers record_fields r)

pub record SameButForItems (r s : List ℕ) : Type 0 where
  pub first-whole : WholeRecord r
  pub second-whole : WholeRecord s
  pub same_fields : fields_of s ≡ fields_of r
  -- what is an item of one is an item of the other, wherever it stands and however often
  pub same_members : (x : ℕ) → one_of x (items_of s) ≡ one_of x (items_of r)

pub record SameReply (o p : Outcome) : Type 0 where
  pub number : p.number ≡ o.number
  pub length : p.length ≡ o.length
  pub table : p.table ≡ o.table
  pub answer : p.answer ≡ o.answer

-- ---- THE CLAIM

pub record ItemOrder : Type 0 where
  pub same-reach : (r s : List ℕ) → SameButForItems r s → (c : Cell) → reached s c ≡ reached r c
  pub same-reply : (r s : List ℕ) → SameButForItems r s → (t a : List ℕ) → SameReply (applied current t r a) (applied current t s a)
  -- of whatever is returned and left under the promise of the C surface
  pub promised : (r s : List ℕ) → SameButForItems r s → (t a : List ℕ) (d e : PwsDone) (t₁ a₁ t₂ a₂ : List ℕ) → ApplyPromise t r a d t₁ a₁ → ApplyPromise t s a e t₂ a₂
      → SameReply (left d t₁ a₁) (left e t₂ a₂)
