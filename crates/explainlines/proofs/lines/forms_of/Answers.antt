use Rattle.std.proofs.Common.{zero, suc, codes, sym, subst, arith}
use Rattle.explainlines.specs.declared.lines.LineFile.{LineFile}
use Rattle.explainlines.specs.LineForms.{IsLineOf}
use Rattle.explainlines.proofs.LineForms.{buses_line, source_line, tries_line}
use Rattle.explainlines.proofs.lines.forms_of.Goals as goal

pub returns-in-Binding : goal.returns-in-Binding
returns-in-Binding c zero form lt =
    subst (λ (file : LineFile). IsLineOf file (codes "buses 1")) (sym c.in-Binding.is) buses_line
returns-in-Binding c (suc zero) form lt =
    subst (λ (file : LineFile). IsLineOf file (codes "source 0.0 device-instance 5 2")) (sym c.in-Binding.is) source_line
returns-in-Binding c (suc (suc zero)) form lt =
    subst (λ (file : LineFile). IsLineOf file (codes "tries 0 5")) (sym c.in-Binding.is) tries_line
returns-in-Binding c (suc (suc (suc k))) form lt = absurd (omega (arith, lt))
