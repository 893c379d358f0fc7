use Rattle.std.proofs.Common.{◌≡◌, true, false, ◌++◌, Ok, refl}
use Rattle.std.proofs.lemmas.Result.{err_from_is_err_and}
use Rattle.iltokens.specs.Items.{begins}
use Rattle.iltokens.specs.Results.{extend}
use Rattle.iltokens.proofs.Loops.{adds_on, adds_none, all_added, shrinks}
use Rattle.iltext.proofs.Extends.{fails_extended}
use Rattle.iltext.specs.Globals.{var_global, global_blocks}
use Rattle.iltext.proofs.GlobalLaws.{Firm-var_global}
use Rattle.iltext.proofs.globals.global_blocks.Goals as goal

pub all-init : goal.all-init
unfolding global_blocks
all-init c = rw c.new-all.ensures.items refl

pub returns-in_err-one : goal.returns-in_err-one
unfolding global_blocks
returns-in_err-one c =
    let p = err_from_is_err_and c.from_residual.result c.from_residual.ensures.1 in
    let is : begins var_global c.all.rest.now ≡ true = cc in
    let fails = fails_extended _ _ (λ xs. xs) _ c.all.all.items _ c.in_err-one.ensures in
    rw (p.1, p.2) (adds_none _ _ _ (λ xs. xs) _ _ Firm-var_global _ _ _ _ is fails c.all.invariant)

pub all-smaller : goal.all-smaller
all-smaller c = shrinks _ _ _ _ Firm-var_global _ _ _ c.in_ok-one.ensures

pub all-preserved : goal.all-preserved
unfolding global_blocks
all-preserved c =
    let is : begins var_global c.all.rest.now ≡ true = cc in
    let one : extend (λ xs. xs) c.all.all.items (var_global.read c.all.rest.now) ≡ Ok
    (c.all.all.items ++ c.in_ok-one.one.items, c.in_ok-one.after.now) =
    rw c.in_ok-one.ensures refl in
    rw c.in_ok-append.ensures.items (adds_on _ _ _ (λ xs. xs) _ _ Firm-var_global _ _ _ _ _ is one c.all.invariant)

pub returns : goal.returns
unfolding global_blocks
returns c =
    let is : begins var_global c.all.rest.now ≡ false = cc in
    all_added _ _ _ (λ xs. xs) _ _ Firm-var_global _ _ _ is c.all.invariant
