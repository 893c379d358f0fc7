use Rattle.std.proofs.Common.{take}
use Rattle.ilsyms.specs.SlotSteps.{AddsWhere}
use Rattle.ilsyms.specs.Variables.{is_among}
use Rattle.ilsyms.proofs.slots.add_externals.Given as goal

abbrev pub invariant-loop-external : goal.invariant-loop-external
invariant-loop-external l =
    AddsWhere (λ number. is_among l.fn.scope.tree number (take l.external-index l.externals)) l.initial.named l.named
