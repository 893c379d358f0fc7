use Rattle.std.proofs.Common.{refl, sym, subst}
use Rattle.std.proofs.lemmas.Result.{err_from_is_err_and}
use Rattle.buslink.specs.Attempts.{ReportParts}
use Rattle.plantevents.specs.declared.event.Event.TheVariants.{Hand}
use Rattle.plant.specs.Matches.{IsReportOf}
use Rattle.plantdriving.proofs.Handed.{hand_is_open}
use Rattle.plantdriving.proofs.Sent.{copied, has_sent, tries_after, tries_made}
use Rattle.plantdriving.proofs.Tellings.{sent_all, sent_some, tells_none}
use Rattle.plantdriving.proofs.serving.send_next.Goals as goal

pub note_report-down-requires-clause-open : goal.note_report-down-requires-clause-open
note_report-down-requires-clause-open g c =
    let handed = c.in-Ok.handed in let report = c.perform-report.result in let noted = c.unwrap-noted.result in
    let same = copied c.clone.result noted report c.unwrap-noted.ensures c.clone.ensures.cases in
    subst (λ (r : ReportParts). IsReportOf c.hand.new.self c.args.bus handed.number r) (sym same) (record {
      is_open = hand_is_open c.args.plant.now c.hand.new.self c.args.bus handed.number handed.origin
          handed.transaction report.transaction c.in-Ok.ensures.next.up.known c.in-Ok.ensures.grown
          c.in-Ok.ensures.number c.perform-report.ensures.report.0;
      tries = tries_after c.args.plant.now c.hand.new.self (Hand c.args.bus handed.origin handed.transaction) c.args.bus
          report.tries handed.tries c.in-Ok.ensures.grown c.perform-report.ensures.tries c.in-Ok.ensures.tries;
    })

pub returns-in_err-tell_report-clause-sends : goal.returns-in_err-tell_report-clause-sends
returns-in_err-tell_report-clause-sends g c =
    let handed = c.in-Ok.handed in let report = c.perform-report.result in let noted = c.unwrap-noted.result in
    let same = copied c.clone.result noted report c.unwrap-noted.ensures c.clone.ensures.cases in
    let p = err_from_is_err_and c.from_residual-in_err-tell_report.result
    c.from_residual-in_err-tell_report.ensures.1 in
    rw (p.1, p.2) (
    has_sent c.args.bus handed.number handed.origin handed.transaction report noted c.args.plant.now c.hand.new.self
    c.note_report-down.new.plant (g.B.Bus.log c.args.line.now) (g.B.Bus.log c.room.new.self)
    (g.B.Bus.log c.perform-report.new.bus) c.in-Ok.ensures.grown c.in-Ok.ensures.number c.perform-report.ensures.report.0 same
    c.in_ok-allows_hand.ensures.refused c.in-Ok.ensures.next c.perform-report.ensures.report.1
    (tries_made c.args.plant.now c.args.bus report.tries handed.tries c.perform-report.ensures.tries
    c.in-Ok.ensures.tries)
    c.note_report-down.ensures.fine c.note_report-down.ensures.failed c.in_ok-room.ensures.same c.perform-report.ensures.bus)

pub returns-clause-sends : goal.returns-clause-sends
returns-clause-sends g c =
    let handed = c.in-Ok.handed in let report = c.perform-report.result in let noted = c.unwrap-noted.result in
    let same = copied c.clone.result noted report c.unwrap-noted.ensures c.clone.ensures.cases in
    has_sent c.args.bus handed.number handed.origin handed.transaction report noted c.args.plant.now c.hand.new.self
    c.note_report-down.new.plant (g.B.Bus.log c.args.line.now) (g.B.Bus.log c.room.new.self)
    (g.B.Bus.log c.perform-report.new.bus) c.in-Ok.ensures.grown c.in-Ok.ensures.number c.perform-report.ensures.report.0 same
    c.in_ok-allows_hand.ensures.refused c.in-Ok.ensures.next c.perform-report.ensures.report.1
    (tries_made c.args.plant.now c.args.bus report.tries handed.tries c.perform-report.ensures.tries
    c.in-Ok.ensures.tries)
    c.note_report-down.ensures.fine c.note_report-down.ensures.failed c.in_ok-room.ensures.same c.perform-report.ensures.bus

pub returns-clause-told : goal.returns-clause-told
returns-clause-told g c =
    let handed = c.in-Ok.handed in let report = c.perform-report.result in let noted = c.unwrap-noted.result in
    let same = copied c.clone.result noted report c.unwrap-noted.ensures c.clone.ensures.cases in
    sent_all c.args.bus handed.number c.len-place.result handed.origin handed.transaction report noted c.note_report-down.result
    c.args.plant.now c.hand.new.self c.note_report-down.new.plant (g.O.Observer.told c.args.observer.now)
    (g.O.Observer.told c.tell_handed-told.new.observer) (g.O.Observer.told c.tell_report.new.observer) c.in-Ok.ensures.grown
    c.in-Ok.ensures.number c.len-place.ensures.value same c.note_report-down.ensures.fine c.note_report-down.ensures.failed
    c.note_report-down.ensures.down c.tell_handed-told.ensures c.in_ok-tell_report.ensures

pub returns-in_err-tell_report-clause-told : goal.returns-in_err-tell_report-clause-told
returns-in_err-tell_report-clause-told g c =
    let handed = c.in-Ok.handed in let report = c.perform-report.result in let noted = c.unwrap-noted.result in
    let same = copied c.clone.result noted report c.unwrap-noted.ensures c.clone.ensures.cases in
    let p = err_from_is_err_and c.from_residual-in_err-tell_report.result
    c.from_residual-in_err-tell_report.ensures.1 in
    rw (p.1, p.2) (sent_some c.args.bus handed.number c.len-place.result handed.origin handed.transaction report noted c.note_report-down.result
    c.args.plant.now c.hand.new.self c.note_report-down.new.plant (g.O.Observer.told c.args.observer.now)
    (g.O.Observer.told c.tell_handed-told.new.observer) (g.O.Observer.told c.tell_report.new.observer) c.in-Ok.ensures.grown
    c.in-Ok.ensures.number c.len-place.ensures.value same c.note_report-down.ensures.fine c.note_report-down.ensures.failed
    c.note_report-down.ensures.down c.tell_handed-told.ensures c.in_err-tell_report.ensures)

pub returns-in_err-allows_hand-clause-told : goal.returns-in_err-allows_hand-clause-told
returns-in_err-allows_hand-clause-told g c =
    tells_none c.args.plant.now c.args.plant.now (g.O.Observer.told c.args.observer.now) c.from_residual.result refl

pub returns-in_err-room-clause-told : goal.returns-in_err-room-clause-told
returns-in_err-room-clause-told g c =
    tells_none c.args.plant.now c.args.plant.now (g.O.Observer.told c.args.observer.now)
    c.from_residual-in_err-room.result refl
