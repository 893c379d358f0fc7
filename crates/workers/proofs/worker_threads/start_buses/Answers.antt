use Rattle.std.proofs.Common.{◌≡◌, ◌+◌, ◌<◌, ◌∙◌, length, arith, subst, sym}
use Rattle.plantturns.proofs.Eaching.{each_first, each_rest, each_push}
use Rattle.workers.specs.WorkerThreads.{AreStartedBuses}
use Rattle.plantturns.specs.Links.{log_of}
use Rattle.plantturns.specs.Logs.{IsServed}
use Rattle.workers.specs.Started.{IsStartedBus}
use Rattle.workers.specs.LinkedShares.{AreServed}
use Rattle.workers.proofs.worker_threads.start_buses.Goals as goal

pub start_bus-requires-clause-served : goal.start_bus-requires-clause-served
start_bus-requires-clause-served g c κs within =
    let log = g.B.Bus.log in
    let n = c.loop-bus.bus in
    let xs = c.loop-bus.buses.items in
    let fewer = c.remove-served.ensures.len in
    let was = c.loop-bus.buses.ok.0 in
    let some : 0 < length xs = omega (arith, fewer, was) in
    each_first (λ k s. IsServed (log_of g.J.Links.buses k) k s.share (log s.line)) n xs c.remove-served.result some
    c.loop-bus.invariant.0 c.remove-served.ensures.value

pub loop-bus-preserved : goal.loop-bus-preserved
loop-bus-preserved g c =
    let logs = g.J.Links.buses in
    let log = g.B.Bus.log in
    let inv = c.loop-bus.invariant in
    let n = c.loop-bus.bus in
    let xs = c.loop-bus.buses.items in
    let ys = c.loop-bus.started.items in
    let fewer = c.remove-served.ensures.len in
    let was = c.loop-bus.buses.ok.0 in
    let is = c.remove-served.new.self.ok.0 in
    let count = inv.3 in
    let last : n ≡ 0 + length ys = omega (arith, count) in (
      subst (λ zs. AreServed logs log (n + 1) zs) (sym c.remove-served.ensures.items)
          (each_rest (λ k s. IsServed (log_of logs k) k s.share (log s.line)) n xs inv.0),
      subst (λ zs. AreStartedBuses logs log zs) (sym c.push_reserved.ensures.items)
          (each_push (IsStartedBus logs log) 0 ys c.start_bus.result inv.1
          (subst (λ m. IsStartedBus logs log m c.start_bus.result) last c.start_bus.ensures)),
      (let left = inv.2 in omega (arith, left, fewer, was, is)),
      (let more = c.push_reserved.ensures.len in let before = c.loop-bus.started.ok.0 in
          let after = c.push_reserved.new.self.ok.0 in omega (arith, more, count, before, after)),
      c.remove-served.ensures.capacity ∙ inv.4,
      c.push_reserved.ensures.capacity ∙ inv.5,
    )
