use Rattle.std.proofs.Common.{◌≡◌, ◌∙◌, ap, subst, sym, true≢false}
use Rattle.buslink.specs.declared.marks.Outcome.{Outcome}
use Rattle.buslink.specs.Attempts.{ReportParts}
use Rattle.buslink.specs.BusLog.{BusLog}
use Rattle.buslink.specs.Performing.{after_report}
use Rattle.plantevents.specs.declared.event.Event.TheVariants.{Done}
use Rattle.plantdriving.specs.declared.halt.Halt.TheVariants.{Refused}
use Rattle.plantdriving.proofs.Sent.{copied}
use Rattle.plantlock.specs.Receipts.{ShareParts, IsNoted, whole}
use Rattle.plantlock.specs.Answers.{IsAnswered, ShowsTransaction}
use Rattle.plantlock.proofs.Refusing.{error_as}
use Rattle.plantturns.specs.TurnSteps.{IsDownWhereFailed}
use Rattle.plantturns.proofs.Rounds.{shows_handed}
use Rattle.plantturns.proofs.Sending.{has_sent, told_sent}
use Rattle.plantturns.proofs.bus_worker.send_once.Goals as goal

pub unreachable-requires : goal.unreachable-requires
unreachable-requires g c =
    let handed = c.in_ok-handed.handed in
    let report = c.perform-report.result in
    let noted = c.unwrap-noted.result in
    let same = copied c.clone.result noted report c.unwrap-noted.ensures c.clone.ensures.cases in
    let shows = shows_handed handed.number c.args.bus handed.origin handed.transaction noted.transaction
    c.args.served.now.share c.hand.new.share c.in_ok-handed.ensures.noted
    (ap (λ (r : ReportParts). r.transaction) same ∙ c.perform-report.ensures.report.0) in
    true≢false (sym (c.in_default.ensures.open shows
    (ap (λ (r : ReportParts). r.tries) same ∙ c.perform-report.ensures.tries ∙ c.in_ok-handed.ensures.tries)))

pub returns-in_err-handed-clause-sends : goal.returns-in_err-handed-clause-sends
unfolding IsAnswered
returns-in_err-handed-clause-sends g c =
    let refusal = c.in_err-handed.field-0.0 in
    let answered = c.in_err-handed.ensures.answered in
    rw (error_as c.from_residual-in_err-handed.result (Refused refusal) c.from_residual-in_err-handed.ensures.1) (
      record { found = answered.found; under = answered.before; is = answered.wanted.refused },
      record { share = c.in_err-handed.ensures.err; line = c.in_ok-room.ensures.same },
    )

pub returns-clause-sends : goal.returns-clause-sends
returns-clause-sends g c =
    let handed = c.in_ok-handed.handed in
    let report = c.perform-report.result in
    let before = c.note_report.new.share in
    let line = c.down_where_failed-down.new.served.line in
    let copy = copied c.clone.result c.unwrap-noted.result report c.unwrap-noted.ensures c.clone.ensures.cases in
    let noted : IsNoted c.in-Ok.ensures.noted.0 (Done c.args.bus handed.number report) c.hand.new.share before =
    subst (λ (r : ReportParts). IsNoted c.in-Ok.ensures.noted.0 (Done c.args.bus handed.number r)
    c.hand.new.share before) copy c.in-Ok.ensures.noted.1 in
    let down : IsDownWhereFailed c.args.bus report.outcome c.down_where_failed-down.result before
    c.down_where_failed-down.new.served.share =
    subst (λ (o : Outcome). IsDownWhereFailed c.args.bus o c.down_where_failed-down.result before
    c.down_where_failed-down.new.served.share) c.outcome-outcome.ensures.value c.down_where_failed-down.ensures.down in
    let after : g.B.Bus.log line ≡ after_report report (g.B.Bus.log line).spare (g.B.Bus.log c.args.served.now.line) =
    rw c.down_where_failed-down.ensures.line
    (c.perform-report.ensures.bus
    ∙ ap (λ (l : BusLog). after_report report (g.B.Bus.log c.perform-report.new.bus).spare l) c.in_ok-room.ensures.same) in
    told_sent g.J.LockStart.start c.args.bus c.args.served.now.share before c.down_where_failed-down.new.served.share
    (g.B.Bus.log c.args.served.now.line) (g.B.Bus.log line) report c.down_where_failed-down.result c.tell_report.result
    (has_sent c.args.bus handed.number c.in-Ok.ensures.noted.0 handed.origin handed.transaction report
    c.args.served.now.share c.hand.new.share before c.down_where_failed-down.new.served.share
    c.down_where_failed-down.result (g.B.Bus.log c.args.served.now.line) (g.B.Bus.log line) c.in_ok-handed.ensures.up
    c.in_ok-handed.ensures.noted noted c.perform-report.ensures.report.0 down after)
    down c.tell_report.ensures
