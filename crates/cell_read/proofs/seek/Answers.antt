-- `seek` returns where the text stands among the live places, or else the first place behind them.
-- The invariant, `Seeking`, says that no place passed has the text.
use mathlib.Core.Path.{sym, ◌∙◌}
use Rattle.cell_read.proofs.SeekLaws.{seek-free, seek_hit, seek_on, seek_full}
use Rattle.cell_read.proofs.seek.Goals as goal

pub returns-then-not-is_live-clause-missing : goal.returns-then-not-is_live-clause-missing
returns-then-not-is_live-clause-missing c = seek-free c.args.cell.now _ _ c.loop-k.invariant (sym c.is_live.ensures ∙ c.if-not-is_live.true)

pub returns-then-text-wanted-clause-found : goal.returns-then-text-wanted-clause-found
returns-then-text-wanted-clause-found c =
    seek_hit c.args.cell.now _ _ c.loop-k.invariant (sym c.is_live.ensures ∙ c.if-not-is_live.false) (sym c.text.ensures ∙ c.if-text-wanted.true)

pub loop-k-preserved : goal.loop-k-preserved
loop-k-preserved c =
    seek_on c.args.cell.now _ _ c.loop-k.invariant (sym c.is_live.ensures ∙ c.if-not-is_live.false) (λ e. c.if-text-wanted.false (c.text.ensures ∙ e))

pub returns-clause-missing : goal.returns-clause-missing
returns-clause-missing c = seek_full c.args.cell.now _ _ c.loop-k.invariant c.loop-k-test.false
