use Rattle.std.proofs.Common.{◌≡◌, ◌<◌, ◌∙◌, List, length, ap, sym, subst, arith}
use Rattle.std.specs.Prelude.{vec_len}
use Rattle.ilplan.specs.Plans.{Planned}
use Rattle.simbus.specs.Simulated.{Simulated}
use Rattle.plant.specs.Shown.{Shown, opened}
use Rattle.plantplay.proofs.Buses.{count_of}
use Rattle.plantplay.proofs.opening.open.Goals as goal

pub invariant_of-result : goal.invariant_of-result
invariant_of-result c =
    let setup = c.args.setup in let made = c.in_ok-lines in
    let is : c.new.result ≡ opened setup 1 c.args.limit = c.new.ensures ∙ c.in-Ok.ensures.opened in
    let buses : c.buses.result ≡ setup.plan.buses =
    c.buses.ensures.value ∙ ap (λ (p : Planned). p.buses) c.plan.ensures.value in
    record {
      workers = subst (λ (p : Shown). 0 < p.plant.workers) (sym is) (omega arith);
      count = subst (λ (p : Shown). vec_len made.lines ≡ p.plant.plan.buses) (sym is)
          (made.lines.ok.0 ∙ (ap (λ (bs : List Simulated). length bs) made.ensures ∙ (count_of c.args.scenario.now c.buses.result ∙ buses)));
    }
