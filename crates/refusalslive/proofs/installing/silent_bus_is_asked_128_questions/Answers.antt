use Rattle.refusalslive.proofs.SilentBuses.{all_asked}
use Rattle.refusalslive.proofs.installing.silent_bus_is_asked_128_questions.Goals as goal

pub returns : goal.returns
returns g c = all_asked c.make_survey.result (g.B.Bus.log c.args.bus.now) (g.B.Bus.log c.make_survey.new.bus)
    c.make_survey.ensures.survey
