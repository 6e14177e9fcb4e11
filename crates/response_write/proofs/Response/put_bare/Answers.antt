-- `put_bare` leaves a transaction identifier alone at the start of the message, or refuses: by whether there is room.
use mathlib.Core.Path.{◌≡◌}
use Prim.Native.Nat.{◌+◌}
use native.Mathlib.Omega.{arith}
use Rattle.aper.proofs.ElementLaws.{short-size}
use Rattle.response_write.specs.Parts.{front_size}
use Rattle.response_write.proofs.WrittenLaws.{short-bare, all_bare}
use Rattle.response_write.proofs.Response.put_bare.Goals as goal

pub returns-then-message-lt-BARE : goal.returns-then-message-lt-BARE
returns-then-message-lt-BARE c = short-bare c.args.self.m c.args.self.transaction _ (omega (arith, c.if-message-lt-BARE.true))

pub put_front-requires-clause-has_room : goal.put_front-requires-clause-has_room
put_front-requires-clause-has_room c = omega (arith, short-size front_size (omega arith))

pub returns : goal.returns
returns c =
    let front : c.put_front.result ≡ 4 + front_size = omega (arith, short-size front_size (omega arith)) in
    rw front
    (all_bare c.args.self.m c.args.self.transaction c.args.message.now (omega (arith, c.if-message-lt-BARE.false)) c.requires.no_rows c.put_front.ensures.0)
