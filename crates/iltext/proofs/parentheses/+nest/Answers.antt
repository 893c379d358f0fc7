use Rattle.std.proofs.Common.{◌≡◌, true, false, refl, sym, ◌∙◌}
use Rattle.std.proofs.lemmas.Result.{err_from_is_err_and}
use Rattle.iltokens.specs.Items.{begins}
use Rattle.iltokens.proofs.Loops.{adds_on, adds_none, all_added, adding_shrinks}
use Rattle.iltext.specs.Terminals.{ended}
use Rattle.iltext.specs.Instructions.{inner}
use Rattle.iltext.specs.InstructionSteps.{pieces_in, may_open}
use Rattle.iltext.proofs.Contents.{begun, not_begun, none_inner, by_content, operand_fails, operand_applied}
use Rattle.iltext.proofs.Extends.{fails_extended}
use Rattle.iltext.proofs.InstructionLaws.{Firm-inner_line}
use Rattle.iltext.proofs.parentheses.+nest.Goals as goal

pub applied-returns-then-may_open : goal.applied-returns-then-may_open
applied-returns-then-may_open t c =
    let is : may_open c.args.more c.args.operator c.args.ts.now ≡ true = sym c.may_open.ensures.opens
    ∙ c.if-may_open.true in
    rw (by_content c.args.more c.args.at c.args.operator c.args.ts.now is) c.on_content.ensures

pub applied-returns-in_err-operand : goal.applied-returns-in_err-operand
applied-returns-in_err-operand t c =
    let p = err_from_is_err_and c.from_residual.result c.from_residual.ensures.1 in
    let isnt : may_open c.args.more c.args.operator c.args.ts.now ≡ false = sym c.may_open.ensures.opens
    ∙ c.if-may_open.false in
    let fails = operand_fails c.args.more c.args.at c.args.operator _ isnt _ c.in_err-operand.ensures in
    rw (p.1, p.2) (fails_extended _ _ pieces_in _ _ _ fails)

pub applied-returns-in_ok-push : goal.applied-returns-in_ok-push
applied-returns-in_ok-push t c =
    let isnt : may_open c.args.more c.args.operator c.args.ts.now ≡ false = sym c.may_open.ensures.opens
    ∙ c.if-may_open.false in
    rw (c.in_ok-push.ensures, operand_applied c.args.more c.args.at c.args.operator _ isnt _ _ c.in_ok-operand.ensures)
    refl

pub inner-returns-in-empty : goal.inner-returns-in-empty
inner-returns-in-empty t c = none_inner c.args.more c.args.pieces.now.items c.args.ts.now c.in-empty.len_below

pub content-returns-in_err-first : goal.content-returns-in_err-first
content-returns-in_err-first t c =
    let p = err_from_is_err_and c.from_residual.result c.from_residual.ensures.1 in
    rw (p.1, p.2) (not_begun _ c.args.more c.args.at _ _ c.in_err-first.ensures)

pub content-all-init : goal.content-all-init
content-all-init t c = rw c.in_ok-push.ensures (begun c.args.more c.args.at _ _ _ _ c.in_ok-first.ensures)

pub content-returns-in_err-rest : goal.content-returns-in_err-rest
content-returns-in_err-rest t c =
    let p = err_from_is_err_and c.from_residual-in_err-rest.result c.from_residual-in_err-rest.ensures.1 in
    let is : begins (ended (inner c.args.more)) c.all.rest.now ≡ true = cc in
    rw (p.1, p.2) (adds_none _ _ _ pieces_in _ _
    (Firm-inner_line c.args.more) _ _ _ _ is c.in_err-rest.ensures c.all.invariant)

pub content-all-smaller : goal.content-all-smaller
content-all-smaller t c = adding_shrinks _ _ _ pieces_in _ _ (Firm-inner_line c.args.more) _ _ _ _ c.in_ok-rest.ensures

pub content-all-preserved : goal.content-all-preserved
content-all-preserved t c =
    let is : begins (ended (inner c.args.more)) c.all.rest.now ≡ true = cc in
    adds_on _ _ _ pieces_in _ _ (Firm-inner_line c.args.more) _ _ _ _ _ is c.in_ok-rest.ensures c.all.invariant

pub content-returns : goal.content-returns
content-returns t c =
    let is : begins (ended (inner c.args.more)) c.all.rest.now ≡ false = cc in
    all_added _ _ _ pieces_in _ _ (Firm-inner_line c.args.more) _ _ _ is c.all.invariant
