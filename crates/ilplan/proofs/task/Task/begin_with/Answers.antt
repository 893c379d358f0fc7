use Rattle.std.proofs.Common.{ℕ, length, sym, ap, ◌∙◌, subst}
use Rattle.ilplan.specs.Beginnings.{slot_with}
use Rattle.ilplan.specs.StoreSteps.{AreStored}
use Rattle.ilplan.proofs.Beginnings.{length_with}
use Rattle.ilplan.proofs.task.Task.begin_with.Goals as goal

pub invariant_of-self : goal.invariant_of-self
invariant_of-self c =
    let task = c.self.inside in
    let many = ap length c.begin_slots.ensures ∙ length_with slot_with task.slots.items _ in
    subst (λ (n : ℕ). AreStored task.instances.items n task.stored.items) (sym many) c.self.invariant
