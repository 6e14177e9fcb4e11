-- A refusal is told with a request whose every field is 0, which is no request.
use Rattle.rules.specs.Applied.{no_request}
use Rattle.pws.proofs.PwsReadingFromResultTuple2RequestUsizeRefusal.from.Goals as goal

pub returns-in-Err : goal.returns-in-Err
unfolding no_request
returns-in-Err c =
    let e = c.default.ensures in
    rw (c.in-Err.is, c.number.ensures, e.0, e.1.0, e.1.1.0, e.1.1.1.0, e.1.1.1.1.0, e.1.1.1.1.1.0, e.1.1.1.1.1.1.0, e.1.1.1.1.1.1.1.0, e.1.1.1.1.1.1.1.1)
