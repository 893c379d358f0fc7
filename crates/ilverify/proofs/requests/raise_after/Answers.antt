use Rattle.std.proofs.Common.{◌+◌, arith}
use Rattle.ilcode.proofs.Bodies.{within}
use Rattle.ilverify.proofs.requests.raise_after.Goals as goal

pub raise-requires-in-Invoke : goal.raise-requires-in-Invoke
raise-requires-in-Invoke c =
    let w = within c.args.code.now c.requires.lawful (c.from-function.result + 1) in
    let e = c.end_of.ensures in
    let long = c.requires.long in
    omega (arith, w, e, long)
