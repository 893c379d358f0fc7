use Rattle.std.proofs.Common.{ℕ, ◌-◌, ◌≤◌, ◌∙◌, ap, refl, subst, sym}
use Rattle.std.proofs.lemmas.Result.{IfOk-from_err}
use Rattle.limits.specs.Limits.{most_workers}
use Rattle.plantevents.specs.declared.role.Role.TheVariants.{Worker}
use Rattle.plant.specs.Shown.{Shown}
use Rattle.plantreceipts.specs.Receipts.{AreFresh}
use Rattle.plantreceipts.specs.Seats.{AreCounted, AreUnused}
use Rattle.plantreceipts.proofs.Outcomes.{on_ok-from_err}
use Rattle.plantreceipts.proofs.Seating.{fresh_none, fresh_pushed, one_of, at_end, workers_passed}
use Rattle.plantreceipts.proofs.Seating.{counted_none, workers_counted}
use Rattle.plantreceipts.proofs.shares.worker_shares.Goals as goal

pub loop-worker-init : goal.loop-worker-init
loop-worker-init g c = (
  fresh_none g.J.LockStart.start Worker c.new-shares.result.items c.new-shares.ensures.items,
  c.requires.unused,
  counted_none g.J.LockStart.start (g.K.Tallies.number c.args.tallies.now),
)

pub next_share-share-requires-clause-start : goal.next_share-share-requires-clause-start
next_share-share-requires-clause-start g c = c.requires.start

pub next_share-share-requires-clause-known : goal.next_share-share-requires-clause-known
next_share-share-requires-clause-known g c =
    one_of c.loop-worker.worker c.workers-workers.result g.J.LockStart.start.plant.workers most_workers
    (c.workers-workers.ensures.value ∙ ap (λ (p : Shown). p.plant.workers) c.requires.start) c.requires.seated
    c.loop-worker-test.true

pub next_share-share-requires-clause-unused : goal.next_share-share-requires-clause-unused
next_share-share-requires-clause-unused g c = let inv = c.loop-worker.invariant in inv.1

pub returns-in_err-push-clause-shares : goal.returns-in_err-push-clause-shares
returns-in_err-push-clause-shares g c =
    IfOk-from_err c.from_residual.result _ c.from_residual.ensures.0

pub returns-in_err-push-clause-unused : goal.returns-in_err-push-clause-unused
returns-in_err-push-clause-unused g c =
    on_ok-from_err c.from_residual.result _ c.from_residual.ensures.0

pub returns-in_err-push-clause-counted : goal.returns-in_err-push-clause-counted
returns-in_err-push-clause-counted g c =
    on_ok-from_err c.from_residual.result _ c.from_residual.ensures.0

pub loop-worker-preserved : goal.loop-worker-preserved
loop-worker-preserved g c =
    let inv = c.loop-worker.invariant in
    let made = c.next_share-share.ensures in (
      fresh_pushed g.J.LockStart.start Worker c.loop-worker.worker c.loop-worker.shares.items
          c.push.new.self.items c.next_share-share.result inv.0 made.fresh c.in_ok-push.ensures.items,
      made.unused,
      made.counted inv.2,
    )

pub overflow_sub-workers : goal.overflow_sub-workers
overflow_sub-workers g c =
    subst (λ (n : ℕ). n ≤ most_workers)
    (sym (c.workers-workers.ensures.value ∙ ap (λ (p : Shown). p.plant.workers) c.requires.start)) c.requires.seated

pub skip_tallies-requires : goal.skip_tallies-requires
skip_tallies-requires g c =
    let inv = c.loop-worker.invariant in
    let passed =
    workers_passed c.loop-worker.worker c.workers-workers.result g.J.LockStart.start.plant.workers
    (most_workers - c.workers-workers.result) c.loop-worker.auto.worker-end c.loop-worker-test.false
    (c.workers-workers.ensures.value ∙ ap (λ (p : Shown). p.plant.workers) c.requires.start) c.requires.seated refl in
    (c.loop-worker.worker, passed.1, inv.1)

pub returns-clause-shares : goal.returns-clause-shares
returns-clause-shares g c =
    let inv = c.loop-worker.invariant in
    subst (λ (n : ℕ). AreFresh g.J.LockStart.start Worker n c.loop-worker.shares.items)
    (at_end c.loop-worker.worker c.workers-workers.result g.J.LockStart.start.plant.workers
    c.loop-worker.auto.worker-end
    c.loop-worker-test.false
    (c.workers-workers.ensures.value ∙ ap (λ (p : Shown). p.plant.workers) c.requires.start))
    inv.0

pub returns-clause-unused : goal.returns-clause-unused
returns-clause-unused g c =
    let inv = c.loop-worker.invariant in
    let passed =
    workers_passed c.loop-worker.worker c.workers-workers.result g.J.LockStart.start.plant.workers
    (most_workers - c.workers-workers.result) c.loop-worker.auto.worker-end c.loop-worker-test.false
    (c.workers-workers.ensures.value ∙ ap (λ (p : Shown). p.plant.workers) c.requires.start) c.requires.seated refl in
    subst (λ m. AreUnused g.T.Tally.seat g.T.Tally.amount m c.skip_tallies.new.thread_tallies.items) passed.0
    (c.skip_tallies.ensures c.loop-worker.worker passed.1 inv.1)

pub returns-clause-counted : goal.returns-clause-counted
returns-clause-counted g c =
    let inv = c.loop-worker.invariant in
    workers_counted g.J.LockStart.start (g.K.Tallies.number c.loop-worker.tallies)
    (subst (λ (n : ℕ). AreCounted g.J.LockStart.start (g.K.Tallies.number c.loop-worker.tallies) n)
    (at_end c.loop-worker.worker c.workers-workers.result g.J.LockStart.start.plant.workers
    c.loop-worker.auto.worker-end
    c.loop-worker-test.false
    (c.workers-workers.ensures.value ∙ ap (λ (p : Shown). p.plant.workers) c.requires.start))
    inv.2)
