use Rattle.std.proofs.Common.{rules}
use Rattle.readytasks.specs.TaskSetSteps.{setup_at}
use Rattle.readytasks.proofs.Following.{fresh_more}
use Rattle.readytasks.proofs.tasks.fresh_states.Goals as goal

pub loop-setup-preserved : goal.loop-setup-preserved
loop-setup-preserved c = record {
  count = search rules;
  follows = rw c.in_ok-push.ensures.items
      (fresh_more (setup_at c.args.setups.now) c.loop-setup.states.items c.loop-setup.setup-index _
      c.loop-setup.invariant.count c.loop-setup.invariant.follows c.in_ok-new.ensures);
}
