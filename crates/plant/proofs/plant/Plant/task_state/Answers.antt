use Rattle.std.proofs.Common.{◌≡◌, ◌<◌, ◌∙◌, List, Option, Some, None, ap, length, refl, sym, subst}
use Rattle.std.specs.Prelude.{IfSome, option_and_then, slice_get}
use Rattle.iltypes.specs.declared.value.Value.{Value}
use Rattle.ilblocks.specs.Stores.{Lasting}
use Rattle.ilplan.specs.Beginnings.{HasEach}
use Rattle.ilmachine.specs.Images.{ImageVariable, Layout, value_of, variable_in}
use Rattle.plantevents.specs.Plants.{layout}
use Rattle.plantevents.specs.Variables.{blocks, value}
use Rattle.plant.specs.Shown.{Shown, plant_of}
use Rattle.plant.proofs.States.{state_of_each}
use Rattle.plant.proofs.Taking.{task_there}
use Rattle.plant.proofs.plant.Plant.task_state.Goals as goal

pub take-requires : goal.take-requires
take-requires c =
    let p = c.self.inside in
    let within = subst (λ (p : Shown). c.args.task < length p.plant.plan.tasks) (sym c.self.view_is) c.requires in
    task_there (plant_of p.setup p.workers) p.image c.args.task c.self.invariant.each_variable.laid
    c.plan-codes.ensures.codes within

pub returns-clause-each : goal.returns-clause-each
returns-clause-each c =
    let p = c.self.inside in let row = c.in_ok-copies.copies.0 in let bs = c.in_ok-copies.copies.1.items in
    let each = state_of_each (plant_of p.setup p.workers) c.args.task p.history.items p.image
    c.in_ok-state.state.verified row bs c.self.invariant.each_variable c.plan-codes.ensures.codes
    c.in_ok-state.ensures.verified c.in_ok-copies.ensures.in_types.values c.in_ok-copies.ensures.in_types.blocks in
    let tasks = c.args.self.now.plant.plan.tasks in
    subst (λ (l : Lasting). IfSome (slice_get tasks c.args.task) (λ t. HasEach t l)) (sym c.new.ensures)
    (subst (λ (vs : List Value). IfSome (slice_get tasks c.args.task)
    (λ t. HasEach t (record { slots = vs; blocks = bs }))) (sym c.in_ok-values.ensures)
    (subst (λ (s : Shown). IfSome (slice_get s.plant.plan.tasks c.args.task)
    (λ t. HasEach t (record { slots = row; blocks = bs }))) c.self.view_is each))

pub returns-clause-blocks : goal.returns-clause-blocks
returns-clause-blocks c =
    let p = c.self.inside in let bs = c.in_ok-copies.copies.1.items in
    let here : blocks (plant_of p.setup p.workers) c.args.task p.history.items ≡ Some bs =
    sym (c.self.invariant.each_variable.instances c.args.task)
    ∙ (c.in_ok-state.ensures.blocks ∙ ap Some (sym c.in_ok-copies.ensures.blocks)) in
    subst (λ (s : Shown). blocks s.plant c.args.task s.history ≡ Some bs) c.self.view_is here
    ∙ ap (λ (l : Lasting). Some l.blocks) (sym c.new.ensures)

same_values : (f g : ImageVariable → Option Value) (o : Option ImageVariable) → ((v : ImageVariable) → f v ≡ g v)
    → option_and_then f o ≡ option_and_then g o
same_values f g None same = refl
same_values f g (Some v) same = same v

pub returns-clause-values : goal.returns-clause-values
returns-clause-values c = λ slot.
    let p = c.self.inside in let t = c.args.task in let plant = plant_of p.setup p.workers in
    let h = p.history.items in
    let follows = c.self.invariant.each_variable in
    let here : slice_get c.in_ok-copies.copies.0 slot
    ≡ option_and_then (λ v. value plant v h) (variable_in (layout plant) t slot) =
    ap (λ (vs : List Value). slice_get vs slot) c.in_ok-copies.ensures.values
    ∙ (c.in_ok-state.ensures.values slot
    ∙ (ap (λ (l : Layout). option_and_then (value_of p.image) (variable_in l t slot)) follows.laid
    ∙ same_values (value_of p.image) (λ v. value plant v h) (variable_in (layout plant) t slot) follows.values)) in
    ap (λ (l : Lasting). slice_get l.slots slot) c.new.ensures
    ∙ (ap (λ (vs : List Value). slice_get vs slot) c.in_ok-values.ensures
    ∙ subst (λ (s : Shown). slice_get c.in_ok-copies.copies.0 slot
    ≡ option_and_then (λ v. value s.plant v s.history) (variable_in (layout s.plant) t slot)) c.self.view_is here)
