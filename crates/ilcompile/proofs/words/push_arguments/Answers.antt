use Rattle.ilcompile.specs.Layout.{word_of_argument}
use Rattle.ilcompile.proofs.TwoPasses.{all_made, near_later, near_next, one_made}
use Rattle.ilcompile.proofs.words.push_arguments.Goals as goal

pub pass-requires : goal.pass-requires
pass-requires c =
    let near = near_next (word_of_argument c.args.numbers.now) c.args.arguments.now c.loop-argument.argument-index _
    c.loop-argument-test.true c.loop-argument.invariant.near in
    record { near = near.0 }

pub loop-argument-preserved : goal.loop-argument-preserved
loop-argument-preserved c =
    let f = word_of_argument c.args.numbers.now in
    let i = c.loop-argument.argument-index in
    record {
      items = one_made f c.args.arguments.now i _ c.loop-argument.words.items c.push.new.self.items _ c.pass.result
          c.loop-argument-test.true c.loop-argument.invariant.items c.in_ok-push.ensures.items c.pass.ensures;
      near = near_later f c.args.arguments.now i c.loop-argument-test.true c.loop-argument.invariant.near;
    }

pub returns : goal.returns
returns c =
    all_made (word_of_argument c.args.numbers.now) c.args.arguments.now c.loop-argument.argument-index
    c.loop-argument.words.items _ c.loop-argument.invariant.items c.loop-argument-test.false
