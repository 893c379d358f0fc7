use Rattle.std.proofs.Common.{◌∙◌, ap, sym, Some}
use Rattle.std.specs.List.{fold}
use Rattle.wordlines.specs.Entries.{statements_of}
use Rattle.wordlines.specs.Following.{clock_after}
use Rattle.wordlines.specs.declared.entries.ScenarioEntry.{ScenarioEntry}
use Rattle.wordlines.proofs.TickRows.{row_clock}
use Rattle.wordlines.proofs.entries.ScenarioEntry.clock_after.Goals as goal

pub returns-in-Ticks : goal.returns-in-Ticks
returns-in-Ticks c =
    ap Some c.last.ensures
    ∙ row_clock c.in-Ticks.row c.args.now
    ∙ ap (λ (e : ScenarioEntry). fold clock_after c.args.now (statements_of e)) (sym c.in-Ticks.is)
