use Rattle.std.proofs.Common.{◌≡◌, ◌∙◌, ℕ, ◌<◌, sym, subst, arith}
use Rattle.plant.specs.Shown.{Shown}
use Rattle.plant.specs.Matches.{IsOwnScan}
use Rattle.plant.specs.CommitSteps.{IsOpenScanOf}
use Rattle.plant.proofs.Committing.{open_is}
use Rattle.plant.proofs.plant.Plant.open_task.Goals as goal

pub returns-then-has_number-clause-open : goal.returns-then-has_number-clause-open
returns-then-has_number-clause-open c =
    let w = c.args.worker in let scan = c.args.scan.now in let running = c.in-Some.running in
    let known : w < c.self.inside.workers = omega arith in
    let own = subst (λ (p : Shown). IsOwnScan p w scan) (sym c.self.view_is) c.requires.own in
    let number : scan.number ≡ running.place =
    sym c.number.ensures.value ∙ c.has_number.ensures.value.0 c.if-has_number.true in
    let is = open_is _ _ w running c.index.result.now scan c.self.invariant known c.index.ensures c.in-Some.is own
    number in
    subst (λ (t : ℕ). IsOpenScanOf c.args.self.now w scan t) (sym c.task.ensures.value)
    (subst (λ (p : Shown). IsOpenScanOf p w scan running.task) c.self.view_is is)
