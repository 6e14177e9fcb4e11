-- With one element more, what was seen keeps what it tells: a law of `TurnLaws`.
use Rattle.std.specs.Prelude.{Some, None}
use Rattle.std.specs.Option.{option_map}
use Rattle.std.proofs.lemmas.Iterator.Adapters.{option_map_id}
use Rattle.wire_judge.specs.Readers.{TurnAt}
use Rattle.wire_judge.proofs.TurnLaws.{turn-kept}
use Rattle.wire_judge.proofs.SeenKept.with.Goals as goal

pub returns-in_err-heard : goal.returns-in_err-heard
returns-in_err-heard c = λ at read.
    rw (c.from_residual.ensures) (turn-kept _ _ _ _ c.requires.lies _ _ _ _ read None (rw c.requires.judges c.in_err-heard.ensures))

pub returns : goal.returns
returns c = λ at read.
    let a = c.args in
    let turn : TurnAt a.m a.s.now at a.self a.element.end (option_map (λ x. x) c.told.result) =
    rw (option_map_id c.told.result, c.told.ensures) (turn-kept _ _ _ _ c.requires.lies _ _ _ _ read (Some c.in_ok-heard.heard) (rw c.requires.judges c.in_ok-heard.ensures)) in
    turn
