use Prim.Native.Nat.{◌+◌, ◌*◌}
use mathlib.Core.Path.{◌≡◌}
use mathlib.Core.List.{flat_map}
use lib.ListN.{drop}
use lib.Seq.{sets}
use Rattle.octets.specs.Numbers.{to_be}
use Rattle.rules.specs.Layout.{current, record_size, item_size}
use Rattle.record_write.proofs.put_items.Given as goal

-- storing all of them into the buffer as it was is storing those that are left into it as it is
abbrev pub invariant-loop-k : goal.invariant-loop-k
invariant-loop-k l =
    sets l.initial.buffer record_size (flat_map (to_be (item_size current)) l.items)
    ≡ sets l.buffer (record_size + item_size current * l.k) (flat_map (to_be (item_size current)) (drop l.k l.items))
