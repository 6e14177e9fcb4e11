-- `extension_frame` answers with what the outer frame of a choice-extension says: its id and what follows are read as an element.
use mathlib.Core.Path.{refl, sym}
use Rattle.wire_judge.proofs.FrameLaws.{frame-outside, framing-extended, no-extension}
use Rattle.wire_judge.proofs.framing.extension_frame.Goals as goal

pub returns : goal.returns
returns c = frame-outside _ _ 1 _ _ (framing-extended _ _ c.requires.in_bounds (sym c.requires.extended) refl refl) _ c.outside.ensures (λ e read small ends. no-extension c.args.m _)
