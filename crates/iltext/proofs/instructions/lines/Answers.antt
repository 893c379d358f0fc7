use Rattle.std.proofs.Common.{◌≡◌, true, false}
use Rattle.std.proofs.lemmas.Result.{err_from_is_err_and}
use Rattle.iltokens.specs.Items.{begins}
use Rattle.iltokens.proofs.Loops.{goes_on, fails, is_done, shrinks}
use Rattle.iltext.specs.Instructions.{line, lines}
use Rattle.iltext.proofs.InstructionLaws.{Firm-line}
use Rattle.iltext.proofs.instructions.lines.Goals as goal

pub returns-in_err-one : goal.returns-in_err-one
unfolding lines
returns-in_err-one c =
    let p = err_from_is_err_and c.from_residual.result c.from_residual.ensures.1 in
    let is : begins line c.all.rest.now ≡ true = cc in
    rw (p.1, p.2) (fails _ _ _ _ Firm-line _ _ _ _ is c.in_err-one.ensures c.all.invariant)

pub all-smaller : goal.all-smaller
all-smaller c = shrinks _ _ _ _ Firm-line _ _ _ c.in_ok-one.ensures

pub all-preserved : goal.all-preserved
unfolding lines
all-preserved c =
    let is : begins line c.all.rest.now ≡ true = cc in
    rw c.in_ok-push.ensures.items (goes_on _ _ _ _ Firm-line _ _ _ _ _ is c.in_ok-one.ensures c.all.invariant)

pub returns : goal.returns
unfolding lines
returns c =
    let is : begins line c.all.rest.now ≡ false = cc in
    is_done _ _ _ _ Firm-line _ _ _ is c.all.invariant
