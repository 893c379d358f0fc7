use Rattle.std.proofs.Common.{rules, ◌≡◌, ◌↔◌, ℕ, Some, IfOk, IsTrue, subst}
use Rattle.livekeep.specs.KeptFiles.{IsSummed}
use Rattle.livekeep.specs.declared.stage.Stage.TheVariants as stages
use Rattle.livekeep.proofs.ReadFiles.{ended_result}
use Rattle.livekeep.proofs.kept.is_ended.Goals as goal

pub returns-in-Some : goal.returns-in-Some
returns-in-Some c =
    let bytes = c.args.bytes.now in
    let read = c.args.read.now in
    let some : read.at ≡ Some c.in-Some.field-0 = search rules in
    let stage : read.stage ≡ stages.Sum = search rules in
    let same : c.read.inside.sum ≡ read.sum = search rules in
    ended_result bytes read c.in-Some.field-0 c.is_summed.result some stage
    (subst (λ (n : ℕ). IfOk c.is_summed.result (λ summed. IsTrue summed ↔ IsSummed bytes n)) same c.is_summed.ensures)
