use Rattle.std.proofs.Common.{◌≡◌, ◌∷◌, false, sym, subst, arith}
use Rattle.plantevents.specs.declared.event.Event.TheVariants.{Up}
use Rattle.plantevents.specs.Legal.{IsBack}
use Rattle.plantbuses.specs.KeptSteps.{BusesFollow}
use Rattle.plantbuses.specs.OutputSteps.{OutputsFollow}
use Rattle.plant.specs.Shown.{Shown, is_full, plant_of}
use Rattle.plant.proofs.Growing.{up_says}
use Rattle.plant.proofs.plant.Plant.up.Goals as goal

pub note_owed_anew-requires-clause-kept : goal.note_owed_anew-requires-clause-kept
note_owed_anew-requires-clause-kept c =
    let p = c.self.inside in let plant = plant_of p.setup p.workers in let h = p.history.items in
    let b = c.args.bus in
    let back = subst (λ (s : Shown). IsBack s.plant s.history b) (sym c.self.view_is)
    c.in_ok-may_come_up.ensures.allowed in
    let run = subst (BusesFollow plant (Up b ∷ h)) (sym c.deref-2.ensures.value)
    (c.note_up.ensures plant h c.self.invariant.each_bus) in
    let many = run.0 in let known = back.known in omega arith

pub note_owed_anew-requires-clause-levels : goal.note_owed_anew-requires-clause-levels
note_owed_anew-requires-clause-levels c =
    let p = c.self.inside in let plant = plant_of p.setup p.workers in let h = p.history.items in
    let b = c.args.bus in
    let back = subst (λ (s : Shown). IsBack s.plant s.history b) (sym c.self.view_is)
    c.in_ok-may_come_up.ensures.allowed in
    let run = subst (BusesFollow plant (Up b ∷ h)) (sym c.deref-2.ensures.value)
    (c.note_up.ensures plant h c.self.invariant.each_bus) in
    (run.1 b back.known).addresses

pub invariant_of-self : goal.invariant_of-self
invariant_of-self c =
    let p = c.self.inside in let says = c.self.invariant in let plant = plant_of p.setup p.workers in
    let h = p.history.items in let b = c.args.bus in
    let back = subst (λ (s : Shown). IsBack s.plant s.history b) (sym c.self.view_is)
    c.in_ok-may_come_up.ensures.allowed in
    let room = subst (λ (s : Shown). is_full s ≡ false) (sym c.self.view_is) c.in_ok-may_come_up.ensures.room in
    let run = c.note_up.ensures plant h says.each_bus in
    rw c.push.ensures (up_says _ _ b _ _ says back room
    (c.other_events_leave_tasks.ensures.up plant b h p.tasks says.each_task) run
    (c.note_owed_anew.ensures plant h (subst (OutputsFollow plant) (sym c.deref.ensures.value) says.each_output)
    (subst (BusesFollow plant (Up b ∷ h)) (sym c.deref-2.ensures.value) run)
    (record {
      laid = says.each_variable.laid;
      values = says.each_variable.values;
      instances = says.each_variable.instances;
    }) says.each_owed))
