use Rattle.std.proofs.Common.{◌+◌, arith}
use Rattle.ilcode.proofs.Bodies.{within}
use Rattle.ilverify.proofs.calls.begins.Goals as goal

pub word-requires : goal.word-requires
word-requires c =
    let w = within c.args.code.now c.functions-functions.ensures.lawful (c.args.function + 1) in
    let e = c.end_of-place-end.ensures in
    omega (arith, w, e)
