use Rattle.std.proofs.Common.{◌≡◌, Option, Some, None, ◌∙◌, ap, sym, subst, arith, rules}
use Rattle.std.specs.Prelude.{IsSome, option_map}
use Rattle.busqueue.specs.Queues.{class_number}
use Rattle.plantevents.specs.Waiting.{owed_at}
use Rattle.plantbuses.specs.declared.outputs.LevelOutput.{LevelOutput}
use Rattle.plantbuses.specs.OutputSteps.{level_output}
use Rattle.plantbuses.specs.HandingSteps.{handout_of}
use Rattle.plantbuses.specs.OwedSteps.{IsLeastOwed}
use Rattle.plantbuses.proofs.OwedAt.{is_output}
use Rattle.plantbuses.proofs.OwedBits.{owed_there, output_there, not_owed}
use Rattle.plant.proofs.FirstHandouts.{least_owed, none_owed}
use Rattle.plant.proofs.plant.Plant.first_owed.Goals as goal

pub returns-in_err-address-clause-first : goal.returns-in_err-address-clause-first
returns-in_err-address-clause-first c =
    let p = c.args.self.now.plant in let h = c.args.self.now.history in let b = c.args.bus in
    let none : c.least_owed.result ≡ None = first_of (cc, search rules) in
    let given : c.from_residual.result ≡ None = first_of (cc, search rules) in
    let owes = subst (IsLeastOwed p b c.args.class h) none c.least_owed.ensures in
    none_owed p b (class_number c.args.class) h
    (λ m low. not_owed (owed_at p b (class_number c.args.class) h m) (owes m low))
    ∙ sym (ap (option_map handout_of) given)

pub unwrap-output-requires : goal.unwrap-output-requires
unwrap-output-requires c =
    let p = c.args.self.now.plant in let a = c.in_ok-address.address in
    subst (λ (o : Option LevelOutput). IsSome o) (sym c.output_at.ensures.value)
    (output_there p c.args.bus (class_number c.args.class) a c.args.self.now.history c.in_ok-address.ensures.1)

pub level_of-level-requires : goal.level_of-level-requires
level_of-level-requires c =
    is_output c.args.self.now.plant c.args.bus c.in_ok-address.address c.unwrap-output.result
    (sym c.output_at.ensures.value ∙ c.unwrap-output.ensures)

pub returns-clause-first : goal.returns-clause-first
returns-clause-first c =
    let p = c.args.self.now.plant in let h = c.args.self.now.history in let b = c.args.bus in
    let k = class_number c.args.class in let a = c.in_ok-address.address in let least = c.in_ok-address.ensures in
    let output = c.unwrap-output.result in let level = c.level_of-level.result in
    let is : level_output p b a ≡ Some output = sym c.output_at.ensures.value ∙ c.unwrap-output.ensures in
    let there = owed_there p b a k h output level is c.level_of-level.ensures least.1 in
    least_owed p b c.args.class h a level least.0
    (λ m lt. not_owed (owed_at p b k h m) (least.2 m lt)) there.0

pub returns-clause-class : goal.returns-clause-class
returns-clause-class c =
    let p = c.args.self.now.plant in let h = c.args.self.now.history in let b = c.args.bus in
    let k = class_number c.args.class in let a = c.in_ok-address.address in let least = c.in_ok-address.ensures in
    let output = c.unwrap-output.result in let level = c.level_of-level.result in
    let is : level_output p b a ≡ Some output = sym c.output_at.ensures.value ∙ c.unwrap-output.ensures in
    let there = owed_there p b a k h output level is c.level_of-level.ensures least.1 in
    (let low = least.0 in omega arith, (output.kind, there.1))
