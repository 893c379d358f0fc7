use Rattle.std.proofs.Common.{◌≡◌, ◌+◌, ◌<◌, ◌∙◌, length, arith, subst, sym}
use Rattle.plantturns.specs.Each.{Each}
use Rattle.plantturns.proofs.Eaching.{each_first, each_rest, each_push}
use Rattle.plantturns.specs.Logs.{IsWorker}
use Rattle.workers.specs.Started.{IsStartedScans}
use Rattle.workers.specs.LinkedShares.{AreWorkers}
use Rattle.workers.proofs.worker_threads.finish_workers.Goals as goal

pub loop-worker-preserved : goal.loop-worker-preserved
loop-worker-preserved g c =
    let inv = c.loop-worker.invariant in
    let n = c.loop-worker._worker in
    let xs = c.loop-worker.started.items in
    let ys = c.loop-worker.workers.items in
    let fewer = c.remove.ensures.len in
    let was = c.loop-worker.started.ok.0 in
    let is = c.remove.new.self.ok.0 in
    let some : 0 < length xs = omega (arith, fewer, was) in
    let share = c.finish_scans-share.result in
    let mine : IsWorker n share =
    c.finish_scans-share.ensures n (each_first IsStartedScans n xs c.remove.result some inv.0 c.remove.ensures.value) in
    let count = inv.3 in
    let last : n ≡ 0 + length ys = omega (arith, count) in (
      subst (λ zs. Each IsStartedScans (n + 1) zs) (sym c.remove.ensures.items) (each_rest IsStartedScans n xs inv.0),
      subst (λ zs. AreWorkers 0 zs) (sym c.push_reserved.ensures.items)
          (each_push IsWorker 0 ys share inv.1
          (subst (λ m. IsWorker m share) last mine)),
      (let left = inv.2 in omega (arith, left, fewer, was, is)),
      (let more = c.push_reserved.ensures.len in let before = c.loop-worker.workers.ok.0 in
          let after = c.push_reserved.new.self.ok.0 in omega (arith, more, count, before, after)),
      c.push_reserved.ensures.capacity ∙ inv.4,
    )
