use Rattle.liveline.proofs.Greeting.{more_read}
use Rattle.liveline.proofs.greetings.read_away.Goals as goal

pub returns-then-not-branch : goal.returns-then-not-branch
returns-then-not-branch g c = more_read _ _ _ c.loop.invariant c.in_ok-read_some.ensures

pub loop-preserved : goal.loop-preserved
loop-preserved g c = more_read _ _ _ c.loop.invariant c.in_ok-read_some.ensures
