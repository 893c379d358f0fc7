use Rattle.std.proofs.Common.{◌≡◌, ◌+◌, ◌<◌, ◌∙◌, length, arith, refl, subst, sym, ap}
use Rattle.plantevents.specs.declared.role.Role.TheVariants.{Bus}
use Rattle.plantturns.specs.Each.{Each}
use Rattle.plantturns.specs.Receipts.{ShareParts, IsFresh}
use Rattle.plantturns.proofs.Eaching.{each_first, each_rest, each_push, each_none}
use Rattle.plantturns.specs.Links.{log_of}
use Rattle.plantturns.specs.Logs.{IsServed}
use Rattle.workers.specs.LinkedShares.{AreServed}
use Rattle.workers.proofs.pairing.put_together.Goals as goal

pub loop-bus-init : goal.loop-bus-init
loop-bus-init g c =
    let logs = g.J.Links.buses in
    let log = g.B.Bus.log in
    let lines_ok = c.args.lines.now.ok.0 in
    let shares_count = c.requires.fresh.0 in (
      c.requires.ready,
      c.requires.fresh.1,
      subst (λ zs. AreServed logs log 0 zs) (sym c.requires.none)
          (each_none (λ k s. IsServed (log_of logs k) k s.share (log s.line)) 0),
      omega (arith, lines_ok),
      omega (arith, lines_ok, shares_count),
      ap length c.requires.none,
      refl,
      refl,
      refl,
    )

pub loop-bus-preserved : goal.loop-bus-preserved
loop-bus-preserved g c =
    let logs = g.J.Links.buses in
    let log = g.B.Bus.log in
    let start = g.J.LockStart.start in
    let inv = c.loop-bus.invariant in
    let n = c.loop-bus._bus in
    let lines = c.loop-bus.lines.items in
    let shares = c.loop-bus.shares.items in
    let served = c.loop-bus.served.items in
    let fewer_lines = c.remove-line.ensures.len in
    let lines_was = c.loop-bus.lines.ok.0 in
    let lines_is = c.remove-line.new.self.ok.0 in
    let fewer_shares = c.remove-share.ensures.len in
    let shares_was = c.loop-bus.shares.ok.0 in
    let shares_is = c.remove-share.new.self.ok.0 in
    let line = c.remove-line.result in
    let share = c.remove-share.result in
    let some_line : 0 < length lines = omega (arith, fewer_lines, lines_was) in
    let some_share : 0 < length shares = omega (arith, fewer_shares, shares_was) in
    let fresh : IsFresh start (Bus n) share =
    each_first (λ k s. IsFresh start (Bus k) s) n shares share some_share inv.1 c.remove-share.ensures.value in
    let mine : IsServed (log_of logs n) n share (log line) =
    each_first (λ k l. (s : ShareParts) → IsFresh start (Bus k) s → IsServed (log_of logs k) k s (log l)) n lines line
    some_line inv.0 c.remove-line.ensures.value share fresh in
    let count = inv.5 in
    let last : n ≡ 0 + length served = omega (arith, count) in (
      subst (λ zs. Each (λ k l. (s : ShareParts) → IsFresh start (Bus k) s → IsServed (log_of logs k) k s (log l)) (n + 1) zs)
          (sym c.remove-line.ensures.items)
          (each_rest (λ k l. (s : ShareParts) → IsFresh start (Bus k) s → IsServed (log_of logs k) k s (log l)) n lines
          inv.0),
      subst (λ zs. Each (λ k s. IsFresh start (Bus k) s) (n + 1) zs) (sym c.remove-share.ensures.items)
          (each_rest (λ k s. IsFresh start (Bus k) s) n shares inv.1),
      subst (λ zs. AreServed logs log 0 zs) (sym c.push_reserved.ensures.items)
          (each_push (λ k s. IsServed (log_of logs k) k s.share (log s.line)) 0 served _ inv.2
          (subst (λ m. IsServed (log_of logs m) m share (log line)) last mine)),
      (let left = inv.3 in omega (arith, left, fewer_lines, lines_was, lines_is)),
      (let alike = inv.4 in
          omega (arith, alike, fewer_lines, lines_was, lines_is, fewer_shares, shares_was, shares_is)),
      (let more = c.push_reserved.ensures.len in let before = c.loop-bus.served.ok.0 in
          let after = c.push_reserved.new.self.ok.0 in omega (arith, more, count, before, after)),
      c.remove-line.ensures.capacity ∙ inv.6,
      c.remove-share.ensures.capacity ∙ inv.7,
      c.push_reserved.ensures.capacity ∙ inv.8,
    )
