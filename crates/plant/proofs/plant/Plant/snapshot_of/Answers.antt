use Rattle.std.proofs.Common.{◌≡◌, ◌<◌, ℕ, List, Option, length, sym, subst}
use Rattle.std.specs.Prelude.{IfOk}
use Rattle.iltypes.specs.declared.value.Value.{Value}
use Rattle.ilmachine.specs.declared.overriding.Override.{Override}
use Rattle.ilmachine.specs.Images.{overridden}
use Rattle.plantevents.specs.Variables.{IsSnapshot, newest}
use Rattle.plant.specs.Shown.{Shown, plant_of}
use Rattle.plant.specs.TakingSteps.{taken_at}
use Rattle.plant.proofs.Taking.{task_there, snapshot_ok}
use Rattle.plant.proofs.plant.Plant.snapshot_of.Goals as goal

pub take_with-requires-clause-task : goal.take_with-requires-clause-task
take_with-requires-clause-task c =
    let p = c.self.inside in let plant = plant_of p.setup p.workers in
    let within = subst (λ (p : Shown). c.args.task < length p.plant.plan.tasks) (sym c.self.view_is) c.requires in
    task_there plant p.image c.args.task c.self.invariant.each_variable.laid c.plan-codes.ensures.codes within

pub returns : goal.returns
returns c =
    let p = c.self.inside in let plant = plant_of p.setup p.workers in let h = p.history.items in let t = c.args.task in
    let taken = subst (λ (s : Shown). (g : ℕ) (v : Option Value)
    → overridden c.in_ok-given.given.items g v ≡ newest (taken_at s.plant s.history t g) v)
    (sym c.self.view_is) c.in_ok-given.ensures.values in
    let under = subst (λ (o : List Override). (g : ℕ) (v : Option Value)
    → overridden o g v ≡ newest (taken_at plant h t g) v) (sym c.deref.ensures.value) taken in
    subst (λ (s : Shown). IfOk c.take_with.result (IsSnapshot s.plant t s.history)) c.self.view_is
    (snapshot_ok plant t p.moment h p.image c.deref.result.now c.take_with.result c.self.invariant.each_variable under
    c.self.invariant.clock c.take_with.ensures.verified c.take_with.ensures.values c.take_with.ensures.blocks
    c.take_with.ensures.moment)
