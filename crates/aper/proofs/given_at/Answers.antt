-- `given_at` answers with extensions where their bit is 1.
use Rattle.aper.proofs.GivenLaws.{given-none, given-one}
use Rattle.aper.proofs.given_at.Goals as goal

pub returns-then-present-eq0 : goal.returns-then-present-eq0
returns-then-present-eq0 c = given-none _ _ c.requires.at_in_bounds _ c.if-present-eq0.true

pub returns : goal.returns
returns c = given-one _ _ _ c.extensions_at.ensures _ c.requires.one_bit c.if-present-eq0.false
