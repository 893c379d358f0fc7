use Rattle.std.proofs.Common.{subst, sym}
use Rattle.std.specs.Prelude.{option_map}
use Rattle.ilplan.specs.Plans.{Planned}
use Rattle.textanswers.specs.Answered.{IsMeantTask}
use Rattle.textanswers.proofs.MeantScans.{setup_is}
use Rattle.textanswers.proofs.answers.find_task.Goals as goal

pub returns-clause-found : goal.returns-clause-found
returns-clause-found c =
    let setup = c.in_ok-setup.setup in
    let loaded = c.in_ok-setup.ensures in
    record {
      loaded =
          setup_is c.args.binding.now c.args.text.now c.in_ok-plan.plan setup c.in_ok-plan.ensures.plan loaded.plan
          loaded.codes;
      called =
          subst (λ (p : Planned). IsMeantTask p (option_map (λ name. name.now) c.args.task) c.in-Some.number) (sym loaded.plan)
          c.in-Some.ensures;
    }
