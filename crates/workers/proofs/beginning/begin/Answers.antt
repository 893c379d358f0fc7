use Rattle.std.proofs.Common.{arith, ap}
use Rattle.plant.specs.Shown.{Shown}
use Rattle.workers.proofs.Parting.{all_unused, fresh_buses, fresh_timed, fresh_workers}
use Rattle.workers.proofs.beginning.begin.Goals as goal

pub new-requires-clause-unused : goal.new-requires-clause-unused
new-requires-clause-unused g c = all_unused c.in-Ok.made.thread_tallies.items c.in-Ok.ensures.thread_tallies

pub returns-clause-run_parts : goal.returns-clause-run_parts
returns-clause-run_parts g c =
    let start = g.J.LockStart.start in
    let fresh = c.in-Ok-new.ensures.fresh in
    let share = c.in-Ok-new.made.1.clock in
    let shows = c.what_a_part_shows.ensures in
    let shows_links = c.what_a_part_shows_of_links.ensures in
    let log = g.C.Clock.log c.args.clock in
    let lines_count = c.requires.buses.0 in
    let lines_long = c.args.lines.ok.0 in
    let lines_fit = c.args.lines.ok.1 in
    let lines_room = c.put_together.ensures.lines.1 in
    let shares_count = fresh.buses.0 in
    let shares_long = c.in-Ok-new.made.1.buses.ok.0 in
    let shares_fit = c.in-Ok-new.made.1.buses.ok.1 in
    let shares_room = c.put_together.ensures.shares.1 in
    let served_count = c.put_together.ensures.count in
    let count = c.len-count.ensures in
    let workers = c.workers.ensures.value in
    let same = ap (λ (p : Shown). p.plant.workers) c.requires.start in
    let thread_lists = c.in-Ok.ensures.thread_lists in
    let for_buses = thread_lists.for_buses in
    let for_workers = thread_lists.for_workers in
    record {
      linked = record {
        buses = c.put_together.ensures.served;
        workers = fresh_workers start c.in-Ok-new.made.1.workers.items c.requires.idle shows.worker fresh.workers;
        timed =
            fresh_timed start share g.J.Links.clock log (shows.clock start.history) (shows_links.given start.history)
            c.requires.links.given c.requires.links.moments c.requires.links.asks fresh.clock;
      };
      workers = fresh.workers.0;
      buses = omega (arith, served_count, lines_long, lines_count);
      no_line = c.put_together.ensures.lines.0;
      no_share = c.put_together.ensures.shares.0;
      lines = omega (arith, lines_count, lines_fit, lines_room);
      shares = omega (arith, shares_count, shares_long, shares_fit, shares_room);
      thread_lists = record {
        no_bus = thread_lists.no_bus;
        for_buses = omega (arith, for_buses, count, lines_count);
        no_worker = thread_lists.no_worker;
        for_workers = omega (arith, for_workers, workers, same);
      };
    }

pub put_together-requires-clause-ready : goal.put_together-requires-clause-ready
put_together-requires-clause-ready g c =
    let shows = c.what_a_part_shows.ensures in
    let shows_links = c.what_a_part_shows_of_links.ensures in
    let count = c.requires.buses.0 in
    let long = c.args.lines.ok.0 in
    fresh_buses g.J.LockStart.start g.J.Links.buses g.B.Bus.log c.args.lines.items (omega (arith, count, long))
    c.requires.idle shows.hand shows_links.sent shows_links.heard shows_links.downs shows_links.ups
    c.requires.links.buses c.requires.links.hears
