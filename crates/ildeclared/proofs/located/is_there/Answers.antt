use Rattle.std.proofs.Common.{◌-◌, arith}
use Rattle.ildeclared.proofs.Places.{count_there, information_there}
use Rattle.ildeclared.proofs.located.is_there.Goals as goal

pub returns-in-InputWord-2 : goal.returns-in-InputWord-2
returns-in-InputWord-2 c =
    rw c.in-InputWord-2.is
    (information_there c.args.wiring.now c.args.bus c.args.place (c.args.place - 128) c.is_bound.result
    (omega (arith, c.if-place-lt128.false, c.if-place-lt192.true)) c.is_bound.ensures
    (omega (arith, c.if-place-lt128.false)))

pub returns-in-InputWord-3 : goal.returns-in-InputWord-3
returns-in-InputWord-3 c =
    rw c.in-InputWord-3.is
    (count_there c.args.wiring.now c.args.bus c.args.place (c.args.place - 192) c.is_bound-in-InputWord-3.result
    (omega (arith, c.if-place-lt192.false, c.if-place-lt256.true)) c.is_bound-in-InputWord-3.ensures
    (omega (arith, c.if-place-lt192.false)))
