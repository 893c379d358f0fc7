use Rattle.std.proofs.Common.{◌≡◌, rules, ap, length, sym, subst}
use Rattle.plant.specs.declared.open_fault.OpenFault.{OpenFault}
use Rattle.plant.specs.Shown.{Shown}
use Rattle.workers.specs.Starts.{IsStartFault}
use Rattle.workers.proofs.Parting.{in_step_at_first}
use Rattle.workers.proofs.running.run.Goals as goal

pub run_named-run-requires-clause-links : goal.run_named-run-requires-clause-links
run_named-run-requires-clause-links g c κs within =
    in_step_at_first c.in-Ok.plant g.B.Bus.log g.C.Clock.log c.args.buses.items c.args.clock
    (ap (λ (p : Shown). p.history) c.in-Ok.ensures.opened)

pub returns : goal.returns
returns g c =
    let setup = c.args.opening.setup in let limit = c.args.opening.limit in let opened = c.in-Ok.ensures in
    let counted : length c.args.buses.items ≡ setup.plan.buses = search rules in
    record {
      run = record {
        fault =
            subst (λ (fault : OpenFault). IsStartFault setup c.args.workers (length c.args.buses.items) limit fault)
            (sym c.not_started.ensures.fault) ((opened.workers, counted), (opened.limit, opened.roomy));
        same_buses = search rules;
        same_clock = search rules;
      };
    }
