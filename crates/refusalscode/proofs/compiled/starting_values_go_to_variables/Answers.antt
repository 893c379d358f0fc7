use Rattle.std.proofs.Common.{◌≡◌, [], ◌∷◌, IfSome, Some, ap, slice_get}
use Rattle.ilcode.specs.Listings.{Listing}
use Rattle.ilcompile.specs.Loaded.{listing_for}
use Rattle.ilcompile.specs.Rows.{task, averaging, functions, whole, words_of_averaging}
use Rattle.refusalscode.proofs.FirstTasks.{first_laid_out}
use Rattle.refusalscode.proofs.Results.{if_ok}
use Rattle.refusalscode.proofs.compiled.starting_values_go_to_variables.Goals as goal

pub returns : goal.returns
returns c =
    let plan = c.args.plan.now in
    if_ok (λ code. IfSome (slice_get plan.tasks 0) (λ t. code ≡ listing_for plan t)) (λ code. code.instructions ≡ words_of_averaging)
    c.compile.result c.compile.ensures.layout (λ code is.
    ap (λ (k : Listing). k.instructions) (first_laid_out plan functions (task (averaging ∷ []) (whole 5 ∷ whole 9 ∷ whole 0 ∷ whole 2 ∷ [])) c.requires.first code is))
