use Rattle.std.proofs.Common.{◌≡◌, ℕ, ◌+◌, ◌≤◌, arith, subst, sym}
use Rattle.std.proofs.lemmas.Result.{IfOk-from_err}
use Rattle.limits.specs.Limits.{most_buses, most_workers}
use Rattle.plantevents.specs.declared.role.Role.TheVariants.{Bus}
use Rattle.plantreceipts.specs.Receipts.{AreFresh}
use Rattle.plantreceipts.specs.Seats.{AreCounted, AreUnused}
use Rattle.plantreceipts.proofs.Outcomes.{on_ok-from_err}
use Rattle.plantreceipts.proofs.Seating.{fresh_none, fresh_pushed, buses_known, one_of, at_end, buses_passed, buses_counted}
use Rattle.plantreceipts.proofs.shares.bus_shares.Goals as goal

pub loop-bus-init : goal.loop-bus-init
loop-bus-init g c = (
  fresh_none g.J.LockStart.start Bus c.new-shares.result.items c.new-shares.ensures.items,
  c.requires.unused,
  c.requires.counted,
)

pub next_share-share-requires-clause-start : goal.next_share-share-requires-clause-start
next_share-share-requires-clause-start g c = c.requires.start

pub next_share-share-requires-clause-known : goal.next_share-share-requires-clause-known
next_share-share-requires-clause-known g c =
    one_of c.loop-bus.bus c.buses-buses.result g.J.LockStart.start.plant.plan.buses most_buses
    (buses_known c.args.plant.now g.J.LockStart.start c.setup.result.now.plan c.plan.result.now c.buses-buses.result
    c.requires.start c.setup.ensures.plan c.plan.ensures.value c.buses-buses.ensures.value)
    c.requires.seated c.loop-bus-test.true

pub next_share-share-requires-clause-unused : goal.next_share-share-requires-clause-unused
next_share-share-requires-clause-unused g c = let inv = c.loop-bus.invariant in inv.1

pub returns-in_err-push-clause-shares : goal.returns-in_err-push-clause-shares
returns-in_err-push-clause-shares g c =
    IfOk-from_err c.from_residual.result _ c.from_residual.ensures.0

pub returns-in_err-push-clause-unused : goal.returns-in_err-push-clause-unused
returns-in_err-push-clause-unused g c =
    on_ok-from_err c.from_residual.result _ c.from_residual.ensures.0

pub returns-in_err-push-clause-counted : goal.returns-in_err-push-clause-counted
returns-in_err-push-clause-counted g c =
    on_ok-from_err c.from_residual.result _ c.from_residual.ensures.0

pub loop-bus-preserved : goal.loop-bus-preserved
loop-bus-preserved g c =
    let inv = c.loop-bus.invariant in
    let made = c.next_share-share.ensures in
    let n = c.loop-bus.bus in
    let same : most_workers + n + 1 ≡ most_workers + (n + 1) = omega arith in (
      fresh_pushed g.J.LockStart.start Bus n c.loop-bus.shares.items c.push.new.self.items c.next_share-share.result
          inv.0
          made.fresh c.in_ok-push.ensures.items,
      subst (λ m. AreUnused g.T.Tally.seat g.T.Tally.amount m c.next_share-share.new.thread_tallies.items) same
          made.unused,
      subst (λ m. AreCounted g.J.LockStart.start (g.K.Tallies.number c.next_share-share.new.tallies) m) same
          (made.counted inv.2),
    )

pub overflow_sub-buses : goal.overflow_sub-buses
overflow_sub-buses g c =
    subst (λ (n : ℕ). n ≤ most_buses)
    (sym
    (buses_known c.args.plant.now g.J.LockStart.start c.setup.result.now.plan c.plan.result.now c.buses-buses.result
    c.requires.start c.setup.ensures.plan c.plan.ensures.value c.buses-buses.ensures.value))
    c.requires.seated

pub skip_tallies-requires : goal.skip_tallies-requires
skip_tallies-requires g c =
    let inv = c.loop-bus.invariant in
    let passed =
    buses_passed c.loop-bus.bus c.buses-buses.result g.J.LockStart.start.plant.plan.buses c.from.result
    c.loop-bus.auto.bus-end c.loop-bus-test.false
    (buses_known c.args.plant.now g.J.LockStart.start c.setup.result.now.plan c.plan.result.now c.buses-buses.result
    c.requires.start c.setup.ensures.plan c.plan.ensures.value c.buses-buses.ensures.value)
    c.requires.seated c.from.ensures in
    (most_workers + c.loop-bus.bus, passed.1, inv.1)

pub returns-clause-shares : goal.returns-clause-shares
returns-clause-shares g c =
    let inv = c.loop-bus.invariant in
    subst (λ (n : ℕ). AreFresh g.J.LockStart.start Bus n c.loop-bus.shares.items)
    (at_end c.loop-bus.bus c.buses-buses.result g.J.LockStart.start.plant.plan.buses c.loop-bus.auto.bus-end
    c.loop-bus-test.false
    (buses_known c.args.plant.now g.J.LockStart.start c.setup.result.now.plan c.plan.result.now c.buses-buses.result
    c.requires.start c.setup.ensures.plan c.plan.ensures.value c.buses-buses.ensures.value))
    inv.0

pub returns-clause-unused : goal.returns-clause-unused
returns-clause-unused g c =
    let inv = c.loop-bus.invariant in
    let passed =
    buses_passed c.loop-bus.bus c.buses-buses.result g.J.LockStart.start.plant.plan.buses c.from.result
    c.loop-bus.auto.bus-end c.loop-bus-test.false
    (buses_known c.args.plant.now g.J.LockStart.start c.setup.result.now.plan c.plan.result.now c.buses-buses.result
    c.requires.start c.setup.ensures.plan c.plan.ensures.value c.buses-buses.ensures.value)
    c.requires.seated c.from.ensures in
    subst (λ m. AreUnused g.T.Tally.seat g.T.Tally.amount m c.skip_tallies.new.thread_tallies.items) passed.0
    (c.skip_tallies.ensures (most_workers + c.loop-bus.bus) passed.1 inv.1)

pub returns-clause-counted : goal.returns-clause-counted
returns-clause-counted g c =
    let inv = c.loop-bus.invariant in
    buses_counted g.J.LockStart.start (g.K.Tallies.number c.loop-bus.tallies)
    (subst (λ (n : ℕ). AreCounted g.J.LockStart.start (g.K.Tallies.number c.loop-bus.tallies) (most_workers + n))
    (at_end c.loop-bus.bus c.buses-buses.result g.J.LockStart.start.plant.plan.buses c.loop-bus.auto.bus-end
    c.loop-bus-test.false
    (buses_known c.args.plant.now g.J.LockStart.start c.setup.result.now.plan c.plan.result.now c.buses-buses.result
    c.requires.start c.setup.ensures.plan c.plan.ensures.value c.buses-buses.ensures.value))
    inv.2)
