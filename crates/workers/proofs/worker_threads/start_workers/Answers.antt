use Rattle.std.proofs.Common.{◌≡◌, ◌+◌, ◌<◌, ◌∙◌, length, arith, subst, sym}
use Rattle.plantturns.proofs.Eaching.{each_first, each_rest, each_push}
use Rattle.workers.specs.WorkerThreads.{AreStartedScans}
use Rattle.plantturns.specs.Logs.{IsWorker}
use Rattle.workers.specs.Started.{IsStartedScans}
use Rattle.workers.specs.LinkedShares.{AreWorkers}
use Rattle.workers.proofs.worker_threads.start_workers.Goals as goal

pub start_scans-requires-clause-worker : goal.start_scans-requires-clause-worker
start_scans-requires-clause-worker g c κs within =
    let n = c.loop-worker.worker in
    let xs = c.loop-worker.workers.items in
    let fewer = c.remove-share.ensures.len in
    let was = c.loop-worker.workers.ok.0 in
    let some : 0 < length xs = omega (arith, fewer, was) in
    each_first IsWorker n xs c.remove-share.result some c.loop-worker.invariant.0 c.remove-share.ensures.value

pub loop-worker-preserved : goal.loop-worker-preserved
loop-worker-preserved g c =
    let inv = c.loop-worker.invariant in
    let n = c.loop-worker.worker in
    let xs = c.loop-worker.workers.items in
    let ys = c.loop-worker.started.items in
    let fewer = c.remove-share.ensures.len in
    let was = c.loop-worker.workers.ok.0 in
    let is = c.remove-share.new.self.ok.0 in
    let count = inv.3 in
    let last : n ≡ 0 + length ys = omega (arith, count) in (
      subst (λ zs. AreWorkers (n + 1) zs) (sym c.remove-share.ensures.items) (each_rest IsWorker n xs inv.0),
      subst (λ zs. AreStartedScans zs) (sym c.push_reserved.ensures.items)
          (each_push IsStartedScans 0 ys c.start_scans.result inv.1
          (subst (λ m. IsStartedScans m c.start_scans.result) last c.start_scans.ensures)),
      (let left = inv.2 in omega (arith, left, fewer, was, is)),
      (let more = c.push_reserved.ensures.len in let before = c.loop-worker.started.ok.0 in
          let after = c.push_reserved.new.self.ok.0 in omega (arith, more, count, before, after)),
      c.remove-share.ensures.capacity ∙ inv.4,
      c.push_reserved.ensures.capacity ∙ inv.5,
    )
