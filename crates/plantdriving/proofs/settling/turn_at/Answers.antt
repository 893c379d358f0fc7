use Rattle.std.proofs.Common.{◌<◌, length, arith}
use Rattle.plantdriving.proofs.Settled.{finish_at, others_at, tells_at}
use Rattle.plantdriving.proofs.settling.turn_at.Goals as goal

pub returns-clause-driven : goal.returns-clause-driven
returns-clause-driven g c =
    let lines = c.args.lines.now.items in
    let inside : c.from.result < length lines =
    let e = c.from.ensures in let k = c.requires.known in let n = c.requires.count in omega arith in
    finish_at g.B.Bus.log c.args.plant.now c.turn.new.plant lines c.args.bus c.from.result c.index_mut.result.now
    c.turn.new.line c.from.ensures inside c.index_mut.ensures.value c.turn.ensures.step

pub returns-clause-others : goal.returns-clause-others
returns-clause-others g c =
    others_at g.B.Bus.log c.args.lines.now.items c.args.bus c.from.result c.turn.new.line c.from.ensures

pub returns-clause-turn : goal.returns-clause-turn
returns-clause-turn g c =
    let lines = c.args.lines.now.items in
    let inside : c.from.result < length lines =
    let e = c.from.ensures in let k = c.requires.known in let n = c.requires.count in omega arith in
    tells_at g.B.Bus.log c.args.plant.now c.turn.new.plant lines c.args.bus c.from.result c.index_mut.result.now
    c.turn.new.line c.turn.result c.from.ensures inside c.index_mut.ensures.value c.turn.ensures.turn
