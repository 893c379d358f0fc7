use Rattle.std.proofs.Common.{rules, ◌≡◌, ℕ, List, subst}
use Rattle.wordlines.specs.Scenarios.{IsScenario}
use Rattle.commandplays.proofs.RunsOut.{run_out}
use Rattle.commandplays.proofs.running.run_pages.Goals as goal

pub returns-clause-run : goal.returns-clause-run
returns-clause-run g c =
    let same : c.from-limit.result ≡ c.args.size.limit = search rules in
    let read : c.deref.result.now ≡ c.args.pages.now.scenario = search rules in
    let scenario = c.in_ok-scenario.scenario in
    let spelled : IsScenario c.args.pages.now.scenario scenario =
    subst (λ (bytes : List ℕ). IsScenario bytes scenario) read c.in_ok-scenario.ensures in
    run_out c.args.pages.now c.args.size c.in_ok-begun.begun.setup scenario c.from-limit.result c.in_ok-left.left
    c.scans_are_as_meant.ensures c.kept_scans_are_as_meant.ensures c.in_ok-begun.ensures.setup spelled same
    c.in_ok-left.ensures.run
