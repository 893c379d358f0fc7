use Rattle.std.proofs.Common.{◌<◌, get_or, length, arith}
use Rattle.std.proofs.lemmas.Bool.{eq-eqb, ne_eqb}
use Rattle.std.proofs.lemmas.List.{drop_more, get_or_default}
use Rattle.plant.proofs.BoundOn.{bound_there, found_here, found_later, found_nowhere}
use Rattle.plant.proofs.inputs.source_number.Goals as goal

pub offset_bounds-sources-i : goal.offset_bounds-sources-i
offset_bounds-sources-i c =
    let j = c.loop-i.i-index in let numbers = c.args.numbers.now in let n = get_or numbers j 0 in
    let lt : n < length c.args.sources.now =
    bound_there c.args.bus j n c.args.sources.now numbers c.requires c.loop-i-test.true
    (get_or_default numbers j 0 n c.loop-i-test.true) in
    omega arith

pub bounds-sources-i : goal.bounds-sources-i
bounds-sources-i c =
    let j = c.loop-i.i-index in let numbers = c.args.numbers.now in let n = get_or numbers j 0 in
    bound_there c.args.bus j n c.args.sources.now numbers c.requires c.loop-i-test.true
    (get_or_default numbers j 0 n c.loop-i-test.true)

pub returns-then-sources-i : goal.returns-then-sources-i
returns-then-sources-i c =
    let j = c.loop-i.i-index in let numbers = c.args.numbers.now in record {
      value = found_here c.args.bus c.args.number j (get_or numbers j 0) c.args.sources.now numbers c.requires
          c.loop-i.invariant (drop_more numbers j 0 c.loop-i-test.true) (eq-eqb _ _ c.if-sources-i.true);
    }

pub loop-i-preserved : goal.loop-i-preserved
loop-i-preserved c =
    let j = c.loop-i.i-index in let numbers = c.args.numbers.now in
    found_later c.args.number j (get_or numbers j 0) c.args.sources.now numbers c.loop-i.invariant
    (drop_more numbers j 0 c.loop-i-test.true) (ne_eqb _ _ c.if-sources-i.false)

pub returns : goal.returns
returns c =
    record {
      value = found_nowhere c.args.bus c.args.number c.loop-i.i-index c.args.sources.now c.args.numbers.now c.requires
          c.loop-i.invariant (omega arith);
    }
