use Rattle.std.proofs.Common.{◌≢◌, ◌∷◌, below_more, sym, ◌∙◌, subst, arith}
use Rattle.plantevents.specs.declared.event.Event.TheVariants.{Heard}
use Rattle.readytasks.specs.TaskSets.{TaskFollows}
use Rattle.readytasks.proofs.noting.heard_all.Goals as goal

pub loop-i-preserved : goal.loop-i-preserved
loop-i-preserved c =
    let was = c.loop-i.invariant in let i = c.loop-i.i in
    let other = c.heard_task.ensures.others in
    record {
      count = other.count ∙ was.count;
      ready = λ m is. c.heard_task.ensures.ready m (was.ready m is);
      done = below_more _ i
          (λ t lt setup h f p. let ne : t ≢ i = omega arith in
          subst (TaskFollows setup t (Heard c.args.bus c.args.frame ∷ h)) (sym (other.states t ne))
          (was.done t lt setup h f p))
          (λ setup h f p. c.heard_task.ensures.follows setup h
          (subst (TaskFollows setup i h) (sym (was.rest i (omega arith))) f) p);
      rest = λ t le. let ne : t ≢ i = omega arith in other.states t ne ∙ was.rest t (omega arith);
    }

pub heard_task-requires-clause-ready : goal.heard_task-requires-clause-ready
heard_task-requires-clause-ready c = (c.requires.ready.0, c.loop-i.invariant.ready _ c.requires.ready.1)
