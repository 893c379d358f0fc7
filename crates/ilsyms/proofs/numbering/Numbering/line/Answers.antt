use Rattle.std.proofs.Common.{◌≡◌, ◌∙◌, sym, ap, Some}
use Rattle.std.specs.Option.{option_map}
use Rattle.ilsource.specs.Renaming.{rename}
use Rattle.ilsyms.specs.NumberingSteps.{label_of, numbers}
use Rattle.ilsyms.proofs.numbering.Numbering.line.Goals as goal
use Rattle.ilsyms.proofs.numbering.Numbering.line.Goals.{in-Some+in_ok-instruction-in-Some, in-None}

pub returns : goal.returns
returns c =
    let new = rename (numbers c.args.self.now) (label_of c.args.self.now) in
    let same : c.match-line.instruction ≡ option_map new c.args.line.now.instruction =
    elim c.match-line.branch [
      | in-Some+in_ok-instruction-in-Some w ↦
          w.instruction-is
          ∙ ap (λ i. Some i) w.in_ok-instruction-in-Some.ensures
          ∙ sym (ap (option_map new) w.in-Some.is)
      | in-None w ↦ w.instruction-is ∙ sym (ap (option_map new) w.in-None.is)
    ]
    in
    λ i. record { at = c.args.line.now.at; label = c.label.ensures i; instruction = same i }
