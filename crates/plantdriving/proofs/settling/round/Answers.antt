use Rattle.std.proofs.Common.{Bool, ◌||◌, map, subst}
use Rattle.std.specs.Prelude.{Ok}
use Rattle.plantdriving.specs.Order.{scans_at}
use Rattle.plantdriving.specs.Quiet.{IsQuiet}
use Rattle.plantdriving.specs.TurnSteps.{Tells}
use Rattle.plantdriving.proofs.Order.{round_goes_on, round_stops, stopped_at, stops}
use Rattle.plantdriving.proofs.Settled.{round_tells}
use Rattle.plantdriving.proofs.Turned.{finish_of_scan, finish_then}
use Rattle.plantdriving.proofs.Tellings.{stopped_then, told_then}
use Rattle.plantdriving.proofs.settling.round.Goals as goal

pub returns-in_err-turned-clause-driven : goal.returns-in_err-turned-clause-driven
returns-in_err-turned-clause-driven g c =
    let before = map g.B.Bus.log c.args.lines.now.items in
    finish_then c.args.plant.now c.scan_all.new.plant c.turn_all.new.plant before before
    (map g.B.Bus.log c.turn_all.new.lines.items)
    (finish_of_scan c.args.plant.now c.scan_all.new.plant before c.in_ok-scanned.ensures.step)
    c.in_err-turned.ensures.driven

pub returns-then-scanned-clause-driven : goal.returns-then-scanned-clause-driven
returns-then-scanned-clause-driven g c =
    let before = map g.B.Bus.log c.args.lines.now.items in
    finish_then c.args.plant.now c.scan_all.new.plant c.turn_all.new.plant before before
    (map g.B.Bus.log c.turn_all.new.lines.items)
    (finish_of_scan c.args.plant.now c.scan_all.new.plant before c.in_ok-scanned.ensures.step)
    c.in_ok-turned.ensures.driven

pub returns-else-scanned-clause-driven : goal.returns-else-scanned-clause-driven
returns-else-scanned-clause-driven g c =
    let before = map g.B.Bus.log c.args.lines.now.items in
    finish_then c.args.plant.now c.scan_all.new.plant c.turn_all.new.plant before before
    (map g.B.Bus.log c.turn_all.new.lines.items)
    (finish_of_scan c.args.plant.now c.scan_all.new.plant before c.in_ok-scanned.ensures.step)
    c.in_ok-turned.ensures.driven

pub returns-else-scanned-clause-turn : goal.returns-else-scanned-clause-turn
returns-else-scanned-clause-turn g c =
    let p = c.args.plant.now in let q = c.scan_all.new.plant in let r = c.turn_all.new.plant in
    let before = map g.B.Bus.log c.args.lines.now.items in let after = map g.B.Bus.log c.turn_all.new.lines.items in
    let scanned = c.in_ok-scanned.scanned in let turned = c.in_ok-turned.turned in
    subst (λ (k : Bool). Tells p r (IsQuiet r before after) (Ok (k || turned))) c.if-scanned.false
    (round_tells p q r before after scanned turned c.in_ok-scanned.ensures.step c.in_ok-turned.ensures.driven
    c.in_ok-scanned.ensures.turn c.in_ok-turned.ensures.turn)

pub returns-in_err-scanned-clause-driven : goal.returns-in_err-scanned-clause-driven
returns-in_err-scanned-clause-driven g c =
    finish_of_scan c.args.plant.now c.scan_all.new.plant (map g.B.Bus.log c.args.lines.now.items)
    c.in_err-scanned.ensures.step

pub returns-then-scanned-clause-goes_on : goal.returns-then-scanned-clause-goes_on
returns-then-scanned-clause-goes_on g c =
    round_goes_on c.args.plant.now c.scan_all.new.plant c.turn_all.new.plant c.in_ok-turned.ensures.driven.plant
    c.in_ok-scanned.ensures.goes_on c.in_ok-scanned.ensures.none c.in_ok-turned.ensures.goes_on

pub returns-else-scanned-clause-goes_on : goal.returns-else-scanned-clause-goes_on
returns-else-scanned-clause-goes_on g c =
    round_goes_on c.args.plant.now c.scan_all.new.plant c.turn_all.new.plant c.in_ok-turned.ensures.driven.plant
    c.in_ok-scanned.ensures.goes_on c.in_ok-scanned.ensures.none c.in_ok-turned.ensures.goes_on

pub returns-in_err-scanned-clause-goes_on : goal.returns-in_err-scanned-clause-goes_on
returns-in_err-scanned-clause-goes_on g c =
    stopped_at scans_at scans_at c.args.plant.now c.scan_all.new.plant c.from_residual.result _ c.from_residual.ensures.1
    (stops scans_at scans_at c.args.plant.now c.scan_all.new.plant c.in_err-scanned.ensures.goes_on)

pub returns-in_err-turned-clause-goes_on : goal.returns-in_err-turned-clause-goes_on
returns-in_err-turned-clause-goes_on g c =
    stopped_at scans_at scans_at c.args.plant.now c.turn_all.new.plant c.from_residual-in_err-turned.result _
    c.from_residual-in_err-turned.ensures.1 (round_stops c.args.plant.now c.scan_all.new.plant c.turn_all.new.plant
    c.in_ok-scanned.ensures.goes_on c.in_ok-scanned.ensures.none c.in_err-turned.ensures.goes_on)

pub returns-in_err-turned-clause-told : goal.returns-in_err-turned-clause-told
returns-in_err-turned-clause-told g c =
    stopped_then c.args.plant.now c.scan_all.new.plant c.turn_all.new.plant (g.O.Observer.told c.args.observer.now)
    (g.O.Observer.told c.scan_all.new.observer) (g.O.Observer.told c.turn_all.new.observer)
    c.in_err-turned.field-0.0 c.from_residual-in_err-turned.result c.from_residual-in_err-turned.ensures.1
    c.in_ok-scanned.ensures.told c.in_err-turned.ensures.told

pub returns-then-scanned-clause-told : goal.returns-then-scanned-clause-told
returns-then-scanned-clause-told g c =
    told_then c.args.plant.now.history c.scan_all.new.plant.history c.turn_all.new.plant.history
    (g.O.Observer.told c.args.observer.now) (g.O.Observer.told c.scan_all.new.observer)
    (g.O.Observer.told c.turn_all.new.observer) c.in_ok-scanned.ensures.told c.in_ok-turned.ensures.told

pub returns-else-scanned-clause-told : goal.returns-else-scanned-clause-told
returns-else-scanned-clause-told g c =
    told_then c.args.plant.now.history c.scan_all.new.plant.history c.turn_all.new.plant.history
    (g.O.Observer.told c.args.observer.now) (g.O.Observer.told c.scan_all.new.observer)
    (g.O.Observer.told c.turn_all.new.observer) c.in_ok-scanned.ensures.told c.in_ok-turned.ensures.told
