use Rattle.std.proofs.Common.{◌∙◌}
use Rattle.explainlines.specs.declared.lines.LineFile.TheVariants.{Binding, Scenario}
use Rattle.explainlines.proofs.Reading.{good_with}
use Rattle.explainlines.proofs.lines.is_cured.Goals as goal

pub returns-in-Binding : goal.returns-in-Binding
returns-in-Binding c =
    good_with c.args.file Binding c.args.bytes.now c.deref.result.now c.deref-in-Binding.result.now c.args.number
    c.last_line-last.result c.args.edit.now c.is_good_binding.result c.in-Binding.is
    (c.deref.ensures.value ∙ c.in_ok-all.ensures) (c.deref-in-Binding.ensures.value ∙ c.in_ok-all.ensures)
    c.last_line-last.ensures c.is_good_binding.ensures

pub returns : goal.returns
returns c =
    good_with c.args.file Scenario c.args.bytes.now c.deref.result.now c.deref-in-Scenario.result.now c.args.number
    c.last_line-last.result c.args.edit.now c.is_good_scenario.result c.in-Scenario.is
    (c.deref.ensures.value ∙ c.in_ok-all.ensures) (c.deref-in-Scenario.ensures.value ∙ c.in_ok-all.ensures)
    c.last_line-last.ensures c.is_good_scenario.ensures
