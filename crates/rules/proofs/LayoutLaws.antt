-- The sizes that document 01 names are those of its layouts.
-- Each is computed.
use mathlib.Core.Path.{◌≡◌, refl}
use mathlib.Core.Bool.{true}
use Prim.Native.Nat.{ℕ, ◌≤◌, ◌<◌, ◌^◌}
use native.Mathlib.Omega.{arith}
use borrow.Author.Tests.{ltb-true, leb-true}
use lib.Dec.{ltb, leb}
use Rattle.octets.specs.Fields.{size}
use Rattle.rules.specs.Layout.{Version, version1, version2, current, version_number, version_of, is_older, answer_version, seconds_size, longest_period, header_fields, head_fields, place_fields, record_fields, answer_fields, row_fields, header_size, head_size, place_size, record_size, answer_size, row_size}
use Rattle.rules.proofs.TestLaws.{both}

pub header-size : size header_fields ≡ header_size
unfolding size
header-size = refl

pub head-size : (v : Version) → size (head_fields v) ≡ head_size v
unfolding size
head-size version1 = refl
head-size version2 = refl

pub place-size : (v : Version) → size (place_fields v) ≡ place_size v
unfolding size
place-size version1 = refl
place-size version2 = refl

-- so does the number
pub number_fits : (v : Version) → version_number v < 256 ^ 2
number_fits version1 = omega arith
number_fits version2 = omega arith

-- a period may be a second at least, and the longest fits its field
pub longest-some : (v : Version) → 1 ≤ (longest_period v).0
longest-some version1 = omega arith
longest-some version2 = omega arith

pub longest-fits : (v : Version) → (longest_period v).0 < 256 ^ seconds_size v
longest-fits version1 = omega arith
longest-fits version2 = omega arith

pub record-size : size record_fields ≡ record_size
unfolding size
record-size = refl

pub answer-size : (v : Version) → size (answer_fields v) ≡ answer_size v
unfolding size
answer-size version1 = refl
answer-size version2 = refl

pub row-size : (v : Version) → size (row_fields v) ≡ row_size v
unfolding size
row-size version1 = refl
row-size version2 = refl

-- and so does that of an answer
pub answer-number-fits : (v : Version) → answer_version v < 256 ^ 2
answer-number-fits version1 = omega arith
answer-number-fits version2 = omega arith

-- ---- older versions

-- the number of an older version is that of version 1, today
pub older-one : (n : ℕ) → is_older n ≡ true → n ≡ 1
older-one n e =
    let h = both (leb 1 n) (ltb n (version_number current)) e in
    omega (arith, leb-true 1 n h.0, ltb-true n (version_number current) h.1)

pub older-number : (n : ℕ) → is_older n ≡ true → version_number (version_of n) ≡ n
older-number n e = rw (older-one n e)

pub version-back : (v : Version) → version_of (version_number v) ≡ v
version-back version1 = refl
version-back version2 = refl

-- no version is newer than today's ..
pub number-most : (v : Version) → version_number v ≤ version_number current
number-most version1 = omega arith
number-most version2 = omega arith

-- .. and none has a longer period
pub longest-most : (v : Version) → (longest_period v).0 ≤ (longest_period current).0
longest-most version1 = omega arith
longest-most version2 = omega arith
