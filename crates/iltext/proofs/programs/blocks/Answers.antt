use Rattle.std.proofs.Common.{◌≡◌, true, false, ◌++◌, Ok, refl}
use Rattle.std.proofs.lemmas.Result.{err_from_is_err_and}
use Rattle.iltokens.specs.Items.{begins}
use Rattle.iltokens.specs.Results.{extend}
use Rattle.iltokens.proofs.Loops.{adds_on, adds_none, all_added, shrinks}
use Rattle.iltext.proofs.Extends.{fails_extended}
use Rattle.iltext.specs.Texts.{blocks}
use Rattle.iltext.specs.Declarations.{variables}
use Rattle.iltext.proofs.DeclarationLaws.{Firm-variables}
use Rattle.iltext.proofs.programs.blocks.Goals as goal

pub all-init : goal.all-init
unfolding blocks
all-init c = rw c.new-all.ensures.items refl

pub returns-in_err-one : goal.returns-in_err-one
unfolding blocks
returns-in_err-one c =
    let p = err_from_is_err_and c.from_residual.result c.from_residual.ensures.1 in
    let is : begins variables c.all.rest.now ≡ true = cc in
    let fails = fails_extended _ _ (λ xs. xs) _ c.all.all.items _ c.in_err-one.ensures in
    rw (p.1, p.2) (adds_none _ _ _ (λ xs. xs) _ _ Firm-variables _ _ _ _ is fails c.all.invariant)

pub all-smaller : goal.all-smaller
all-smaller c = shrinks _ _ _ _ Firm-variables _ _ _ c.in_ok-one.ensures

pub all-preserved : goal.all-preserved
unfolding blocks
all-preserved c =
    let is : begins variables c.all.rest.now ≡ true = cc in
    let one : extend (λ xs. xs) c.all.all.items (variables.read c.all.rest.now) ≡ Ok
    (c.all.all.items ++ c.in_ok-one.one.items, c.in_ok-one.after.now) =
    rw c.in_ok-one.ensures refl in
    rw c.in_ok-append.ensures.items (adds_on _ _ _ (λ xs. xs) _ _ Firm-variables _ _ _ _ _ is one c.all.invariant)

pub returns : goal.returns
unfolding blocks
returns c =
    let is : begins variables c.all.rest.now ≡ false = cc in
    all_added _ _ _ (λ xs. xs) _ _ Firm-variables _ _ _ is c.all.invariant
