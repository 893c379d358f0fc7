use Rattle.std.proofs.Common.{◌≡◌, List, ap, sym, subst, ◌∙◌}
use Rattle.std.specs.Prelude.{Some, slice_get}
use Rattle.std.proofs.lemmas.Option.{slice_get-get_or}
use Rattle.ilplan.specs.declared.slot.Slot.{Slot}
use Rattle.ilplan.proofs.Declared.{is_there}
use Rattle.ilplan.proofs.plan.Plan.slot_name.Goals as goal

pub variable_name-requires : goal.variable_name-requires
variable_name-requires c =
    let slot = c.args.slot in
    let found = c.index-slots-slot.result in
    let within = rw c.task.ensures.value at c.requires.slot in
    let all = rw (sym c.slots.ensures.value) at within in
    let here = slice_get-get_or c.slots.result.now slot found all ∙ ap Some (sym c.index-slots-slot.is) in
    let there = subst (λ (xs : List Slot). slice_get xs slot ≡ Some found) c.slots.ensures.value here in
    is_there c.args.self.now.globals c.task.result.now c.task.ensures.declared slot found there
