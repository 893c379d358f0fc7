use Rattle.std.proofs.Common.{◌+◌, ◌<◌, List, arith, length, subst, sym}
use Rattle.simbus.specs.Simulated.{Simulated}
use Rattle.plantrun.proofs.Unstaged.{AreOff, one_off, same_capacity}
use Rattle.plantrun.proofs.staging.buses_off_stage.Goals as goal

pub loop-bus-preserved : goal.loop-bus-preserved
loop-bus-preserved g c =
    let scenario = g.S.Scene.statements in let all = c.args.staged.items in let n = c.loop-bus._bus in
    let off = c.loop-bus.buses.items in let on = c.loop-bus.staged.items in let new = c.push_reserved.new.self.items in
    let fewer = c.remove.ensures.len in let was = c.loop-bus.staged.ok.0 in let is = c.remove.new.self.ok.0 in
    let some : 0 < length on = omega (arith, fewer, was) in (
      subst (λ (xs : List Simulated). AreOff scenario all new xs (n + 1)) (sym {A = List Simulated} c.remove.ensures.items)
          (one_off scenario all off on new n c.remove.result c.into_bus-bus.result some c.loop-bus.invariant.0
          c.remove.ensures.value c.into_bus-bus.ensures.bus c.push_reserved.ensures.items
          c.into_bus-bus.ensures.stage c.is_as_set_up.ensures),
      same_capacity _ _ _ c.push_reserved.ensures.capacity c.loop-bus.invariant.1,
    )
