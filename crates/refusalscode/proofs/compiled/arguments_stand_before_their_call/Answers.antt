use Rattle.std.proofs.Common.{◌≡◌, [], ◌∷◌, IfSome, ap, slice_get}
use Rattle.ilcode.specs.Listings.{Listing}
use Rattle.ilcompile.specs.Loaded.{listing_for}
use Rattle.ilcompile.specs.Rows.{calling, task, whole, words_calling}
use Rattle.refusalscode.proofs.FirstTasks.{first_laid_out}
use Rattle.refusalscode.proofs.Results.{if_ok}
use Rattle.refusalscode.proofs.compiled.arguments_stand_before_their_call.Goals as goal

pub returns : goal.returns
returns c =
    let plan = c.args.plan.now in
    if_ok (λ code. IfSome (slice_get plan.tasks 0) (λ t. code ≡ listing_for plan t)) (λ code. code.instructions ≡ words_calling)
    c.compile.result c.compile.ensures.layout (λ code is.
    ap (λ (k : Listing). k.instructions) (first_laid_out plan [] (task (calling ∷ []) (whole 500 ∷ [])) c.requires.first code is))
