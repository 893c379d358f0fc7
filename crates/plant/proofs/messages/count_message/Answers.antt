use Rattle.std.proofs.Common.{◌∙◌, get_or, arith}
use Rattle.std.proofs.lemmas.List.{drop_more, get_or_default}
use Rattle.plant.proofs.BoundOn.{bound_there, counted_start, counted_turn, counted_all}
use Rattle.plant.proofs.messages.count_message.Goals as goal

pub loop-number-init : goal.loop-number-init
loop-number-init c =
    counted_start c.args.sources.now c.args.numbers.now c.args.bus c.args.frame c.args.counts.now.items
    c.requires.bound

pub count_for-requires-clause-known : goal.count_for-requires-clause-known
count_for-requires-clause-known c =
    let j = c.loop-number.number-index in
    bound_there c.args.bus j (get_or c.args.numbers.now j 0) c.args.sources.now c.args.numbers.now c.requires.bound
    c.loop-number-test.true (get_or_default c.args.numbers.now j 0 _ c.loop-number-test.true)

pub count_for-requires-clause-each : goal.count_for-requires-clause-each
count_for-requires-clause-each c = c.loop-number.invariant.count ∙ c.requires.each

pub loop-number-preserved : goal.loop-number-preserved
loop-number-preserved c =
    let j = c.loop-number.number-index in let numbers = c.args.numbers.now in
    counted_turn c.args.sources.now numbers c.args.bus c.args.frame j (get_or numbers j 0) c.args.counts.now.items
    c.loop-number.counts.items c.count_for.new.counts.items c.loop-number.invariant
    (drop_more numbers j 0 c.loop-number-test.true) c.count_for.ensures.count c.count_for.ensures.here
    c.count_for.ensures.others

pub returns-clause-follow : goal.returns-clause-follow
returns-clause-follow c = λ globals h before.
    counted_all globals c.args.sources.now c.args.numbers.now c.args.bus c.args.frame c.loop-number.number-index
    c.args.counts.now.items c.loop-number.counts.items h (omega arith) c.loop-number.invariant before
