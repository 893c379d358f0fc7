-- How the first task of a plan is laid out.
use Rattle.std.proofs.Common.{◌≡◌, ℕ, List, Option, IfSome, replicate, slice_get, ap, subst, ◌∙◌}
use Rattle.ilplan.specs.Functions.{PlannedFunction}
use Rattle.ilplan.specs.Plans.{Planned, PlannedTask}
use Rattle.ilcode.specs.Listings.{Listing}
use Rattle.ilcompile.specs.Layout.{laid_out}
use Rattle.ilcompile.specs.Loaded.{listing_for}
use Rattle.refusalscode.specs.Plans.{HasFirst}

pub first_laid_out : (plan : Planned) (functions : List PlannedFunction) (task : PlannedTask)
    → HasFirst plan functions task → (code : Listing)
    → IfSome (slice_get plan.tasks 0) (λ t. code ≡ listing_for plan t)
    → code ≡ laid_out 2 (replicate 20 10) functions task
first_laid_out plan functions task has code is =
    let of_task : code ≡ listing_for plan task =
    subst (λ (o : Option PlannedTask). IfSome o (λ t. code ≡ listing_for plan t)) has.first is in
    let by_buses = ap (λ (b : ℕ). laid_out b plan.text plan.functions task) has.buses in
    let by_text = ap (λ (x : List ℕ). laid_out 2 x plan.functions task) has.text in
    let by_functions = ap (λ (f : List PlannedFunction). laid_out 2 (replicate 20 10) f task) has.known in
    of_task ∙ (by_buses ∙ (by_text ∙ by_functions))
