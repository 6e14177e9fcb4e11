-- `put` copies its bytes over what stands behind the text.
use Prim.Native.Nat.{◌+◌, ◌-◌}
use mathlib.Core.Path.{refl, ap, ◌∙◌}
use native.Mathlib.Omega.{arith}
use lib.ListN.{length}
use lib.Seq.{sets, length-sets}
use Rattle.octets.proofs.RunsLaws.{put_mid-sets}
use Rattle.report_lines.proofs.text.Text.put.Goals as goal

pub returns : goal.returns
returns c =
    let s = c.args.self.now in
    let n = length c.args.bytes.now in
    let part = c.copy_from_slice in
    let stored = put_mid-sets s.out.now part.new.self s.at (s.at + n - s.at) (omega (arith, part.ensures.len, ap length part.ensures.after)) (omega arith) ∙ ap (sets s.out.now s.at) part.ensures.after in
    record { said = record { stored = stored; ends = refl }; same_buffer = refl; same_length = ap length stored ∙ length-sets s.out.now s.at c.args.bytes.now }
