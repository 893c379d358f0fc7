use Rattle.commissioning.specs.Surveys.{IsSurvey}
use Rattle.refusalslive.proofs.Installed.{fails_once}
use Rattle.refusalslive.proofs.installing.survey_fails_once.Goals as goal

pub returns : goal.returns
returns g c =
    fails_once IsSurvey c.make_survey.result (g.B.Bus.log c.args.bus.now) (g.B.Bus.log c.make_survey.new.bus)
    c.make_survey.ensures.fault c.requires
