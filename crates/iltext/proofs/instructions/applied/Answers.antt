use Rattle.std.proofs.Common.{◌≡◌, true, false, sym, ◌∙◌}
use Rattle.std.proofs.lemmas.Result.{err_from_is_err_and}
use Rattle.iltext.specs.InstructionSteps.{may_open}
use Rattle.iltext.proofs.Contents.{by_content, operand_fails, operand_applied}
use Rattle.iltext.proofs.instructions.applied.Goals as goal

pub returns-then-may_open : goal.returns-then-may_open
returns-then-may_open c =
    let is : may_open 32 c.args.operator c.args.ts.now ≡ true = sym c.may_open.ensures.opens ∙ c.if-may_open.true in
    rw (by_content 32 c.args.at c.args.operator c.args.ts.now is) c.on_content.ensures

pub returns-in_err-operand : goal.returns-in_err-operand
returns-in_err-operand c =
    let p = err_from_is_err_and c.from_residual.result c.from_residual.ensures.1 in
    let isnt : may_open 32 c.args.operator c.args.ts.now ≡ false = sym c.may_open.ensures.opens ∙ c.if-may_open.false in
    rw (p.1, p.2) (operand_fails 32 c.args.at c.args.operator _ isnt _ c.in_err-operand.ensures)

pub returns-in_ok-operand : goal.returns-in_ok-operand
returns-in_ok-operand c =
    let isnt : may_open 32 c.args.operator c.args.ts.now ≡ false = sym c.may_open.ensures.opens ∙ c.if-may_open.false in
    rw c.line_of.ensures (operand_applied 32 c.args.at c.args.operator _ isnt _ _ c.in_ok-operand.ensures)
