use Rattle.std.proofs.Common.{◌≡◌, ◌+◌, ◌<◌, ◌∙◌, length, arith, subst, sym}
use Rattle.plantturns.specs.Each.{Each}
use Rattle.plantturns.proofs.Eaching.{each_first, each_rest, each_push}
use Rattle.plantturns.specs.Links.{log_of}
use Rattle.plantturns.specs.Logs.{IsServed}
use Rattle.workers.specs.Started.{IsStartedBus}
use Rattle.workers.specs.LinkedShares.{AreServed}
use Rattle.workers.proofs.worker_threads.finish_buses.Goals as goal

pub loop-bus-preserved : goal.loop-bus-preserved
loop-bus-preserved g c =
    let logs = g.J.Links.buses in
    let log = g.B.Bus.log in
    let inv = c.loop-bus.invariant in
    let n = c.loop-bus._bus in
    let xs = c.loop-bus.started.items in
    let ys = c.loop-bus.buses.items in
    let fewer = c.remove.ensures.len in
    let was = c.loop-bus.started.ok.0 in
    let is = c.remove.new.self.ok.0 in
    let some : 0 < length xs = omega (arith, fewer, was) in
    let served = c.finish_bus-served.result in
    let mine : IsServed (log_of logs n) n served.share (log served.line) =
    c.finish_bus-served.ensures n (each_first (IsStartedBus logs log) n xs c.remove.result some inv.0 c.remove.ensures.value) in
    let count = inv.3 in
    let last : n ≡ 0 + length ys = omega (arith, count) in (
      subst (λ zs. Each (IsStartedBus logs log) (n + 1) zs) (sym c.remove.ensures.items) (each_rest (IsStartedBus logs log) n xs inv.0),
      subst (λ zs. AreServed logs log 0 zs) (sym c.push_reserved.ensures.items)
          (each_push (λ k s. IsServed (log_of logs k) k s.share (log s.line)) 0 ys served inv.1
          (subst (λ m. IsServed (log_of logs m) m served.share (log served.line)) last mine)),
      (let left = inv.2 in omega (arith, left, fewer, was, is)),
      (let more = c.push_reserved.ensures.len in let before = c.loop-bus.buses.ok.0 in
          let after = c.push_reserved.new.self.ok.0 in omega (arith, more, count, before, after)),
      c.push_reserved.ensures.capacity ∙ inv.4,
    )
