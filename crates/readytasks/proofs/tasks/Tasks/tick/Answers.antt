use Rattle.std.proofs.Common.{refl, sym, ◌∙◌, subst, arith}
use Rattle.readytasks.specs.TaskSets.{Follows, setup_of}
use Rattle.readytasks.proofs.tasks.Tasks.tick.Goals as goal

pub returns : goal.returns
returns c = record {
  follows = λ p h kept place.
      let was = subst (Follows p h) (sym c.self.view_is) kept in record {
        moment = refl;
        count = c.tick_all.ensures.count ∙ was.count;
        each = λ t lt.
            c.tick_all.ensures.follows t (let n = was.count in omega arith) (setup_of p t) h
            (was.each t lt) was.moment place;
      };
}
