use Rattle.commandplays.proofs.ScenarioFaults.{judged}
use Rattle.commandplays.proofs.pages.scenario_of.Goals as goal

pub returns : goal.returns
returns c =
    let is = c.parse.ensures in
    judged c.args.bytes.now c.parse.result is.scenario is.bad_line is.too_long is.memory
