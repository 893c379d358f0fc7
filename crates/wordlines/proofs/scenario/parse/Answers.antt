use Rattle.std.specs.Str.Lines.{lines}
use Rattle.wordlines.proofs.LineFiles.{said_is_reported, bad_is_reported}
use Rattle.wordlines.specs.Scenarios.{IsScenario, IsBadScenario, AddsSome}
use Rattle.wordlines.proofs.ScenarioReading.{statements_one, not_bad, bad_one}
use Rattle.wordlines.proofs.scenario.parse.Goals as goal

pub returns-clause-is_given : goal.returns-clause-is_given
returns-clause-is_given c statements is =
    let bytes = c.args.bytes.now in
    said_is_reported (IsScenario bytes) (IsBadScenario bytes) (AddsSome (lines bytes)) bytes c.statements_of.result
    c.statements_of.ensures.judged statements (λ other also. statements_one bytes other statements also is)
    (λ line bad. not_bad bytes line statements bad is) is.short

pub returns-clause-bad_is_reported : goal.returns-clause-bad_is_reported
returns-clause-bad_is_reported c line bad =
    let bytes = c.args.bytes.now in
    bad_is_reported (IsScenario bytes) (IsBadScenario bytes) (AddsSome (lines bytes)) bytes c.statements_of.result
    c.statements_of.ensures.judged line (λ other also. bad_one bytes other line also bad)
    (λ statements is. not_bad bytes line statements bad is) bad.short
