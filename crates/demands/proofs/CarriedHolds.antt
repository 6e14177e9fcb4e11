-- What the converter leaves, if it returns 0: the old table, converted, at the start of the lent buffer, and the bytes behind it as they were.
-- The number 0 says that its tests were passed; the rest is that of a buffer that is filled and of a converted table (rules, OlderLaws and ConvertedLaws).
use Rattle.std.specs.Prelude.{Ok}
use mathlib.Core.Path.{◌≡◌, refl, sym, ap, ◌∙◌}
use mathlib.Core.List.{List}
use Prim.Native.Nat.{ℕ, ◌+◌, ◌*◌, ◌≤◌}
use native.Mathlib.Omega.{arith}
use borrow.Author.Tests.{leb-true}
use lib.ListN.{length, take, drop}
use lib.Seq.{sets, drop_at}
use Rattle.octets.specs.Runs.{Bytes}
use Rattle.octets.proofs.RunsLaws.{sets_front, take-sets_front}
use Rattle.rules.specs.Layout.{current, header_size, cell_size}
use Rattle.rules.specs.Table.{cell_count, own_version}
use Rattle.rules.specs.Refusals.{older_verdict, convert_verdict}
use Rattle.rules.specs.Applied.{Filled, fill, converted, conversion}
use Rattle.rules.specs.declared.Refusal.TheVariants.{ShortBuffer}
use Rattle.rules.proofs.VerdictLaws.{then_accepted, unless_accepted, convert_chain}
use Rattle.rules.proofs.OutcomeLaws.{fill-accepted}
use Rattle.rules.proofs.OlderLaws.{OlderTable, older-table}
use Rattle.rules.proofs.ConvertedLaws.{converted-cells, converted-legal, length-converted}
use Rattle.pws.specs.Surface.{filled}
use Rattle.pws.specs.declared.PwsDone.{PwsDone}
use Rattle.pws.specs.Promises.{ConvertPromise}
use Rattle.demands.specs.Conversion.{Carried}

module _ (old table : List ℕ) where
  -- the tests that a call passed which returned 0
  record Passed : Type 0 where
    own : OlderTable old
    room : header_size + cell_size current * cell_count old ≤ length table

  passed : convert_verdict old (length table) ≡ Ok tt → Passed
  passed e =
      let a = then_accepted (older_verdict old) _ (sym (convert_chain old (length table)) ∙ e) in
      record { own = older-table old a.0; room = leb-true _ (length table) (unless_accepted _ ShortBuffer a.1) }

  of_converted : Bytes old → convert_verdict old (length table) ≡ Ok tt → (d : PwsDone) (table' : List ℕ) → d.length ≡ length (converted old) → table' ≡ sets table 0 (converted old)
      → Carried old table d table'
  of_converted bytes e d table' n w =
      let p = passed e in
      let v = own_version old in
      let legal = p.own.legal in
      let long = length-converted v old legal bytes in
      let fits : length (converted old) ≤ length table = omega (arith, p.room) in
      let whole : take d.length table' ≡ converted old = rw (n, w) (take-sets_front table (converted old) fits) in
      record {
        older = p.own.older;
        was_legal = legal;
        size = n ∙ long;
        whole = whole;
        behind = rw (n, w, sets_front table (converted old) fits) (drop_at (converted old) (drop (length (converted old)) table) (length (converted old)) refl);
        legal = rw whole (converted-legal v old legal bytes);
        same-cells = rw whole (converted-cells v old legal bytes);
      }

-- the promise of a call that returned 0 says that it was accepted, and what it left
pub carried : (old table : List ℕ) → Bytes old → (d : PwsDone) (table' : List ℕ) → ConvertPromise old table d table' → d.number ≡ 0 → Carried old table d table'
unfolding conversion fill
carried old table bytes d table' p z =
    let e = fill-accepted (convert_verdict old (length table)) (converted old) table (sym (ap (λ (f : Filled). f.number) p) ∙ z) in
    let w : filled d table' ≡ fill (Ok tt) (converted old) table = p ∙ ap (λ v. fill v (converted old) table) e in
    of_converted old table bytes e d table' (ap (λ (f : Filled). f.length) w) (ap (λ (f : Filled). f.buffer) w)
