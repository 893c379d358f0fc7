use Rattle.std.proofs.Common.{◌≡◌, ◌<◌, ◌∙◌, [], length, ap, sym, subst, arith}
use Rattle.std.proofs.lemmas.List.{get_or_read}
use Rattle.plantbuses.specs.KeptSteps.{KeptBus, BusFollows, no_bus}
use Rattle.plantbuses.specs.OutputSteps.{AreOutputsOf}
use Rattle.plantbuses.specs.OwedSteps.{OwedFollows, no_levels}
use Rattle.plantbuses.proofs.LocatedLevels.{made_more}
use Rattle.plantbuses.proofs.owed.owed_levels.Goals as goal

pub bus_owed-requires : goal.bus_owed-requires
bus_owed-requires c =
    let n = c.loop-bus.bus in let lt = c.loop-bus-test.true in
    let outputs = get_or_read c.args.outputs.now n c.index-outputs-bus.result (let m = c.requires.count in omega arith)
    c.index-outputs-bus.is [] in
    let bus = get_or_read c.args.buses.now n c.index-buses-bus.result lt c.index-buses-bus.is no_bus in
    record {
      outputs = ap length outputs ∙ c.requires.outputs n lt;
      levels = ap (λ (x : KeptBus). length x.levels) bus ∙ c.requires.levels n lt;
    }

pub loop-bus-preserved : goal.loop-bus-preserved
loop-bus-preserved c = λ p h located follows imaged.
    let n = c.loop-bus.bus in let lt = c.loop-bus-test.true in
    let outputs = get_or_read c.args.outputs.now n c.index-outputs-bus.result (let m = c.requires.count in omega arith)
    c.index-outputs-bus.is [] in
    let bus = get_or_read c.args.buses.now n c.index-buses-bus.result lt c.index-buses-bus.is no_bus in
    let known : n < p.plan.buses = let m = follows.0 in omega arith in
    rw c.in_ok-push.ensures.items (made_more (λ b levels. OwedFollows p b h levels) no_levels n c.loop-bus.owed.items
    c.bus_owed.result (c.loop-bus.invariant p h located follows imaged)
    (c.bus_owed.ensures p n h (subst (AreOutputsOf p n) (sym outputs) (located.1 n known))
    (subst (BusFollows p n h) (sym bus) (follows.1 n known)) imaged))

pub returns : goal.returns
returns c = λ p h located follows imaged.
    let made = c.loop-bus.invariant p h located follows imaged in
    let n : c.loop-bus.bus ≡ p.plan.buses = let m = follows.0 in omega arith in
    (made.0 ∙ n, λ b lt. made.1 b (omega arith))
