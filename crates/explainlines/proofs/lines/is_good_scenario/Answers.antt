use Rattle.std.specs.Prelude.{IsTrue}
use Rattle.wordlines.specs.Scenarios.{IsBadScenario, IsScenario}
use Rattle.explainlines.specs.Curing.{IsGoodTo, ReadsTo}
use Rattle.explainlines.specs.declared.lines.LineFile.TheVariants.{Scenario}
use Rattle.explainlines.proofs.Reading.{good, if_ok}
use Rattle.explainlines.proofs.lines.is_good_scenario.Goals as goal

pub returns : goal.returns
returns c =
    let bytes = c.args.bytes.now in
    if_ok (λ is. IsTrue is → ReadsTo c.args.last c.parse.result) (λ is. IsTrue is → IsGoodTo Scenario bytes c.args.last)
    c.is_good.result c.is_good.ensures
    (λ is reads true_is.
    good (IsScenario bytes) (IsBadScenario bytes) bytes c.args.last c.parse.result c.parse.ensures.scenario
    c.parse.ensures.bad_line c.parse.ensures.too_long (reads true_is))
