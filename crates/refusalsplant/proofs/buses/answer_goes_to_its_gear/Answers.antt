use Rattle.std.proofs.Common.{◌≡◌, ◌∙◌, Option, Some, None, refl}
use Rattle.gearcmd.specs.declared.requests.Answerer.{Answerer}
use Rattle.gearcmd.specs.declared.requests.Answerer.TheVariants.{Gear}
use Rattle.buslink.specs.declared.marks.Outcome.{Outcome}
use Rattle.ilplan.specs.declared.global.Location.{Location}
use Rattle.ilplan.specs.declared.global.Location.TheVariants.{GearAnswer}
use Rattle.plantbuses.specs.AnswerSteps.{answer_write}
use Rattle.plantbuses.specs.OutputSteps.{planned}
use Rattle.plantevents.specs.Plants.{location}
use Rattle.plantevents.specs.Variables.{answerer_by}
use Rattle.refusalsplant.proofs.buses.answer_goes_to_its_gear.Goals as goal

not_written : (answerer : Option Answerer) (place : Option Location) (outcome : Outcome)
    → answerer ≡ Some (Gear 63) → place ≡ Some (GearAnswer 0 5) → answer_write 0 answerer outcome place ≡ None
not_written answerer place outcome asked located = rw (asked, located) refl

pub returns : goal.returns
returns c =
    c.answer_to.ensures.value
    ∙ not_written (answerer_by c.args.origin.now) (location (planned c.args.plan.now) 4) c.args.outcome c.requires.asked
    c.requires.located
