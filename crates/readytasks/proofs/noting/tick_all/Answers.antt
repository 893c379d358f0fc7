use Rattle.std.proofs.Common.{◌≡◌, ◌≢◌, ◌∷◌, below_more, sym, ap, ◌∙◌, subst, arith}
use Rattle.plantevents.specs.declared.event.Event.TheVariants.{Tick}
use Rattle.readytasks.specs.TaskSets.{KeptTask, TaskFollows, task_at}
use Rattle.readytasks.specs.TaskSetSteps.{is_ready}
use Rattle.readytasks.specs.ReadyLists.{is_listed}
use Rattle.readytasks.proofs.noting.tick_all.Goals as goal

pub loop-i-preserved : goal.loop-i-preserved
loop-i-preserved c =
    let was = c.loop-i.invariant in let i = c.loop-i.i in
    let now = c.args.now in let moment = c.args.moment in
    let states = c.tick_task.new.states.items in let ready = c.tick_task.new.ready.items in
    let other = c.tick_task.ensures.others in
    record {
      count = other.count ∙ was.count;
      order = c.tick_task.ensures.order;
      listed = below_more (λ t. is_listed ready t ≡ is_ready (task_at states t) moment) i
          (λ t lt. let ne : t ≢ i = omega arith in
          other.lists t ne ∙ was.listed t lt ∙ ap (λ (s : KeptTask). is_ready s moment) (sym (other.states t ne)))
          c.tick_task.ensures.listed;
      ahead = λ t le lt. let ne : t ≢ i = omega arith in
          other.lists t ne ∙ was.ahead t (omega arith) (let n = other.count in omega arith)
          ∙ ap (λ (s : KeptTask). is_ready s now) (sym (other.states t ne));
      done = below_more _ i
          (λ t lt setup h f m p. let ne : t ≢ i = omega arith in
          subst (TaskFollows setup t (Tick moment ∷ h)) (sym (other.states t ne)) (was.done t lt setup h f m p))
          (λ setup h f m p. c.tick_task.ensures.follows setup h
          (subst (TaskFollows setup i h) (sym (was.rest i (omega arith))) f) m p);
      rest = λ t le. let ne : t ≢ i = omega arith in other.states t ne ∙ was.rest t (omega arith);
    }
