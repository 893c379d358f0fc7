use Rattle.std.proofs.Common.{◌<◌, length, arith}
use Rattle.plantdriving.proofs.Settled.{finish_at, others_at, silent_at}
use Rattle.plantdriving.proofs.settling.hear_at.Goals as goal

pub returns-clause-driven : goal.returns-clause-driven
returns-clause-driven g c =
    let lines = c.args.lines.now.items in
    let inside : c.from.result < length lines =
    let e = c.from.ensures in let k = c.requires.known in let n = c.requires.count in omega arith in
    finish_at g.B.Bus.log c.args.plant.now c.hear_all.new.plant lines c.args.bus c.from.result c.index_mut.result.now
    c.hear_all.new.line c.from.ensures inside c.index_mut.ensures.value c.hear_all.ensures.step

pub returns-clause-others : goal.returns-clause-others
returns-clause-others g c =
    others_at g.B.Bus.log c.args.lines.now.items c.args.bus c.from.result c.hear_all.new.line c.from.ensures

pub returns-clause-silent : goal.returns-clause-silent
returns-clause-silent g c =
    let lines = c.args.lines.now.items in
    let inside : c.from.result < length lines =
    let e = c.from.ensures in let k = c.requires.known in let n = c.requires.count in omega arith in
    silent_at g.B.Bus.log c.hear_all.new.plant lines c.args.bus c.from.result c.index_mut.result.now
    c.hear_all.new.line c.hear_all.result c.from.ensures inside c.index_mut.ensures.value c.hear_all.ensures.silent
