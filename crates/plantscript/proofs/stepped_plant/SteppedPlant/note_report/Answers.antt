use Rattle.std.proofs.Common.{List, refl, sym, subst}
use Rattle.buslink.specs.declared.marks.Mark.{Mark}
use Rattle.buslink.specs.Attempts.{Spells}
use Rattle.plantevents.specs.declared.event.Event.TheVariants as events
use Rattle.plant.specs.Matches.{IsReportOf}
use Rattle.plant.specs.Shown.{Shown}
use Rattle.plantscript.specs.declared.step.Step.TheVariants as steps
use Rattle.plantscript.specs.declared.step.StepReply.TheVariants.{Noted}
use Rattle.plantscript.specs.Runs.{HasNoReport}
use Rattle.plantscript.proofs.Desks.{Keeps, report_refused}
use Rattle.plantscript.proofs.Serving.{accepted_at}
use Rattle.plantscript.proofs.stepped_plant.SteppedPlant.note_report.Goals as goal

pub same-self : goal.same-self
same-self c = refl

pub returns-in-None : goal.returns-in-None
returns-in-None c = (
  (
    refl,
    subst (λ (marks : List Mark). HasNoReport c.args.self.now c.args.bus c.args.number marks)
        c.deref.ensures.value c.in-None.ensures,
  ),
  refl,
)

pub unreachable-requires : goal.unreachable-requires
unreachable-requires c =
    c.in-Err.ensures.stranger
    (subst (λ (x : Shown). IsReportOf x c.args.bus c.args.number c.in-Some.report)
    (sym c.self.view_is) c.in-Some.ensures.0)

pub unreachable-unreachable : goal.unreachable-unreachable
unreachable-unreachable c = c.unreachable.result

pub returns : goal.returns
returns c =
    let p = c.self.inside.plant in let b = c.args.bus in let n = c.args.number in let report = c.in-Some.report in
    let spells = subst (λ (marks : List Mark). Spells report.transaction report.tries marks report)
    c.deref.ensures.value c.in-Some.ensures.1 in
    accepted_at p _ c.note_report.new.self (steps.Done b n c.args.marks.now) Noted (events.Done b n report)
    c.self.view_is
    (λ refusal bad. report_refused p b n c.args.marks.now.items report c.in-Ok.ensures.open spells bad.1)
    (report, spells, refl) c.in-Ok.ensures.grown c.len-legal.ensures.legal

pub invariant_of-self : goal.invariant_of-self
invariant_of-self c =
    let p = c.self.inside.plant in
    subst (λ (x : Shown). Keeps x c.self.inside.orders.items c.note_sent.new.sendings.items)
    (sym c.in-Ok.ensures.grown)
    (c.self.invariant.0, c.note_sent.ensures.done p.plant c.args.number c.in-Some.report p.history c.self.invariant.1)
