use Rattle.std.proofs.Common.{◌∙◌, map, subst, sym}
use Rattle.plantevents.specs.Legal.{AreLegal}
use Rattle.plantturns.specs.Each.{Each}
use Rattle.plantturns.specs.Receipts.{HasPart, HaveParts}
use Rattle.plantturns.specs.Links.{IsLinked}
use Rattle.plantturns.specs.Links.{IsNoLess, log_of}
use Rattle.workers.proofs.Told.{all_linked, all_no_less, nothing_open, timed}
use Rattle.workers.proofs.closing.close.Goals as goal

pub returns-clause-closed : goal.returns-clause-closed
returns-clause-closed g c =
    let logs = g.J.Links.buses in
    let log = g.B.Bus.log in
    let h = c.close-plant.result.plant.history in
    let served = c.args.linked.buses.items in
    let workers = c.args.linked.workers.items in
    let parts = c.close-plant.ensures.parts in
    let shows = c.what_a_part_shows.ensures in
    let shows_links = c.what_a_part_shows_of_links.ensures in
    let shares = c.close-plant.ensures.buses ∙ c.take_apart.ensures.shares in
    let of_buses : HaveParts (map (λ s. s.share) served) h = subst (λ xs. HaveParts xs h) shares parts.buses in
    let of_workers : HaveParts workers h = subst (λ xs. HaveParts xs h) c.close-plant.ensures.workers parts.workers in
    let lines = c.take_apart.ensures.lines in
    record {
      plant = c.close-plant.ensures.plant;
      legal = subst (λ p. AreLegal p h) c.close-plant.ensures.plant c.close-plant.ensures.legal;
      idle =
          nothing_open c.close-plant.result.plant g.J.LockStart.start.plant logs log served workers
          c.close-plant.ensures.plant c.requires.workers c.requires.buses c.requires.linked.workers of_workers
          c.requires.linked.buses of_buses shows.worker shows.hand;
      buses =
          subst (λ xs. Each (λ b line. IsLinked (log_of logs b) b h (log line)) 0 xs) (sym lines)
          (all_linked logs log h served c.requires.linked.buses of_buses shows_links.sent shows_links.heard
          shows_links.downs shows_links.ups);
      hears =
          subst (λ xs. Each (λ b line. IsNoLess (log_of logs b).hears (log line).hears) 0 xs) (sym lines)
          (all_no_less logs log served c.requires.linked.buses);
      clock =
          timed g.J.Links.clock (g.C.Clock.log c.args.linked.timed.clock) c.args.linked.timed.share h
          c.requires.linked.timed
          (subst (λ s. HasPart s h) c.close-plant.ensures.clock parts.clock) (shows_links.given h);
      moments = c.requires.linked.timed.moments;
      asks = c.requires.linked.timed.asks;
    }

pub invariant_of-result : goal.invariant_of-result
invariant_of-result g c =
    let h = c.close-plant.result.plant.history in
    let served = c.args.linked.buses.items in
    let workers = c.args.linked.workers.items in
    let parts = c.close-plant.ensures.parts in
    let shows = c.what_a_part_shows.ensures in
    let shares = c.close-plant.ensures.buses ∙ c.take_apart.ensures.shares in
    nothing_open c.close-plant.result.plant g.J.LockStart.start.plant g.J.Links.buses g.B.Bus.log served workers
    c.close-plant.ensures.plant c.requires.workers c.requires.buses c.requires.linked.workers
    (subst (λ xs. HaveParts xs h) c.close-plant.ensures.workers parts.workers) c.requires.linked.buses
    (subst (λ xs. HaveParts xs h) shares parts.buses) shows.worker shows.hand
