use Rattle.std.proofs.Common.{arith, ◌≡◌, Option, None, Some, sym, subst, ◌∙◌}
use Rattle.std.specs.Prelude.{IfSome}
use Rattle.std.specs.Option.{unwrap_or}
use Rattle.plantturns.specs.Logs.{HasEnded}
use Rattle.workers.specs.declared.ended.Ended.{Ended}
use Rattle.workers.specs.declared.ended.Ended.TheVariants.{Asked}
use Rattle.workers.proofs.Ends.{full_as_told, was_asked}
use Rattle.workers.proofs.GoneOn.{front_of_front}
use Rattle.workers.proofs.running.run_named.Goals as goal

pub work-linked-requires-clause-all_workers : goal.work-linked-requires-clause-all_workers
work-linked-requires-clause-all_workers g c κs within =
    let run_parts = c.in_ok-run_parts.ensures.run_parts in
    let lines = c.requires.buses.0 in let few = c.requires.buses.1 in
    let buses = run_parts.buses in let workers = run_parts.workers in
    let buses_long = c.in_ok-run_parts.run_parts.linked.buses.ok.0 in
    let workers_long = c.in_ok-run_parts.run_parts.linked.workers.ok.0 in
    let for_buses = run_parts.thread_lists.for_buses in let for_workers = run_parts.thread_lists.for_workers in
    record {
      linked = run_parts.linked;
      few = omega (arith, lines, few, buses, buses_long);
      thread_lists = record {
        no_bus = run_parts.thread_lists.no_bus;
        for_buses = omega (arith, for_buses, buses, buses_long);
        no_worker = run_parts.thread_lists.no_worker;
        for_workers = omega (arith, for_workers, workers, workers_long);
      };
    }

pub invariant_of-result : goal.invariant_of-result
invariant_of-result g c = record {
  p = g.J.LockStart.start.plant;
  logs = g.J.Links.buses;
  first = g.J.Links.clock;
  closed =
      c.leave-parts.ensures.closed g.J.LockStart.start.plant g.J.Links.buses g.J.Links.clock
      c.close-closed.ensures.closed;
  workers = c.requires.workers;
  count =
      let left = c.leave-parts.ensures.count in let long = c.close-closed.result.buses.ok.0 in
      let closed = c.close-closed.ensures.count in let worked = c.work-linked.ensures.same.buses in
      let run_parts = c.in_ok-run_parts.ensures.run_parts.buses in
      omega (arith, left, long, closed, worked, run_parts);
}

pub returns-clause-closed : goal.returns-clause-closed
returns-clause-closed g c =
    c.leave-parts.ensures.closed g.J.LockStart.start.plant g.J.Links.buses g.J.Links.clock c.close-closed.ensures.closed

-- the clock's end was not cut short
not_cut_short : (told : Option Ended) (ended : Ended) → IfSome told (λ other. ¬ (other ≡ Asked))
    → unwrap_or told ended ≡ Asked → ended ≡ Asked
not_cut_short None ended other is = is
not_cut_short (Some told) ended other is = absurd (other is)

pub returns-clause-ended : goal.returns-clause-ended
returns-clause-ended g c = λ asked.
    let worked = c.work-linked.result in
    let told = was_asked _ _ (sym c.close-closed.ensures.ended ∙ c.leave-parts.ensures.asked asked) in
    record {
      clock =
          subst (λ clock. HasEnded g.J.Links.clock (g.C.Clock.log clock))
          (sym (c.leave-parts.ensures.clock ∙ c.close-closed.ensures.clock))
          (c.work-linked.ensures.asked
          (not_cut_short c.cut_short.result worked.ended c.cut_short.ensures (sym c.unwrap_or-ended.ensures ∙ told)));
      quiet =
          c.leave-parts.ensures.left g.J.LockStart.start.plant g.J.Links.buses g.J.Links.clock
          c.close-closed.ensures.closed asked;
    }

pub returns-clause-full : goal.returns-clause-full
returns-clause-full g c =
    c.leave-parts.ensures.full (λ limit. full_as_told _ _ (sym c.close-closed.ensures.ended ∙ limit))

pub returns-clause-front : goal.returns-clause-front
returns-clause-front g c = front_of_front c.close-closed.ensures.front c.leave-parts.ensures.front
