use Rattle.std.proofs.Common.{◌≡◌, [], ◌∷◌, IfSome, Some, ap, slice_get}
use Rattle.ilcode.specs.Listings.{Listing}
use Rattle.ilcompile.specs.Loaded.{listing_for}
use Rattle.ilcompile.specs.Rows.{task, averaging, functions, whole}
use Rattle.refusalscode.proofs.FirstTasks.{first_laid_out}
use Rattle.refusalscode.proofs.Results.{if_ok}
use Rattle.refusalscode.proofs.compiled.starting_values_stand_on_their_function.Goals as goal

pub returns : goal.returns
returns c =
    let plan = c.args.plan.now in
    if_ok (λ code. IfSome (slice_get plan.tasks 0) (λ t. code ≡ listing_for plan t)) (λ code. slice_get code.lines 5 ≡ Some 2)
    c.compile.result c.compile.ensures.layout (λ code is.
    ap (λ (k : Listing). slice_get k.lines 5) (first_laid_out plan functions (task (averaging ∷ []) (whole 5 ∷ whole 9 ∷ whole 0 ∷ whole 2 ∷ [])) c.requires.first code is))
