use Rattle.std.proofs.Common.{◌∙◌, Bool, Err, ap, refl}
use Rattle.plant.specs.Shown.{Shown}
use Rattle.plantdriving.proofs.Order.{scan_goes_on}
use Rattle.plantdriving.proofs.Refused.{told_stops, told_tells}
use Rattle.plantdriving.proofs.Scanned.{longer_by_scan, scan_is_open, step_scanned}
use Rattle.plantdriving.proofs.Tellings.{scan_told, tells_all, told_none}
use Rattle.plantdriving.proofs.scanning.scan_next.Goals as goal

pub unreachable-requires : goal.unreachable-requires
unreachable-requires g c =
    let order = c.in-Ok.order in let made = c.scan_into-made.ensures in
    c.in_default.ensures.stranger
    (scan_is_open c.args.plant.now c.take.new.self 0 order.task order.work.snapshot c.scan_into-made.result
    c.requires.workers c.in-Ok.ensures.grown (made.number ∙ c.in-Ok.ensures.number.1) made.snapshot)

pub returns-clause-step : goal.returns-clause-step
returns-clause-step g c =
    let order = c.in-Ok.order in
    step_scanned 0 order.task c.scan_into-made.result.number order.work.snapshot c.scan_into-made.result
    c.args.plant.now c.take.new.self c.commit.new.self c.in-Ok.ensures.grown c.in-Ok-commit.ensures.grown

pub returns-clause-turn : goal.returns-clause-turn
returns-clause-turn g c =
    let order = c.in-Ok.order in
    told_tells c.args.plant.now c.commit.new.self _ c.tell_scan.result c.tell_scan.ensures.done
    (longer_by_scan 0 order.task c.scan_into-made.result.number order.work.snapshot c.scan_into-made.result
    c.args.plant.now c.take.new.self c.commit.new.self c.in-Ok.ensures.grown c.in-Ok-commit.ensures.grown)

pub returns-clause-stops : goal.returns-clause-stops
returns-clause-stops g c = told_stops c.commit.new.self c.tell_scan.result c.tell_scan.ensures.done

pub returns-clause-goes_on : goal.returns-clause-goes_on
returns-clause-goes_on g c =
    let order = c.in-Ok.order in
    scan_goes_on 0 order.task c.scan_into-made.result.number order.work.snapshot c.scan_into-made.result
    c.args.plant.now c.take.new.self c.commit.new.self c.in-Ok.ensures.grown c.in-Ok-commit.ensures.grown

pub returns-clause-told : goal.returns-clause-told
returns-clause-told g c =
    let order = c.in-Ok.order in
    scan_told 0 order.task c.scan_into-made.result.number order.number c.len-next.result c.steps-steps.result
    order.work.snapshot c.scan_into-made.result c.args.plant.now c.take.new.self c.commit.new.self
    (g.O.Observer.told c.args.observer.now) (g.O.Observer.told c.note-took.new.self)
    (g.O.Observer.told c.tell_scan.new.observer) c.tell_scan.result c.in-Ok.ensures.grown c.in-Ok-commit.ensures.grown
    c.in-Ok.ensures.number.0 c.len-next.ensures.value c.steps-steps.ensures.value c.note-took.ensures
    c.tell_scan.ensures.done c.tell_scan.ensures.told

pub returns-in-Err-Refused-NothingReady-clause-told : goal.returns-in-Err-Refused-NothingReady-clause-told
returns-in-Err-Refused-NothingReady-clause-told g c =
    let before = g.O.Observer.told c.args.observer.now in
    told_none c.args.plant.now.history c.take.new.self.history before before
    (ap (λ (x : Shown). x.history) c.in-Err-Refused-NothingReady.ensures.err) refl

pub returns-in-Err-clause-told : goal.returns-in-Err-clause-told
returns-in-Err-clause-told g c =
    let before = g.O.Observer.told c.args.observer.now in
    tells_all {A = Bool} c.args.plant.now c.take.new.self before before (Err c.from.result)
    (told_none c.args.plant.now.history c.take.new.self.history before before
    (ap (λ (x : Shown). x.history) c.in-Err.ensures.err) refl)
