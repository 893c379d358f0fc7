use Rattle.std.proofs.Common.{◌≡◌, ◌∙◌, ℕ, Option, Some, ap, refl, subst, sym}
use Rattle.buslink.specs.Attempts.{ReportParts}
use Rattle.plantdriving.specs.Tellings.{noted}
use Rattle.plantdriving.specs.TurnSteps.{TellsThese, report_told}
use Rattle.plantdriving.specs.declared.happened.Happened.TheVariants as what
use Rattle.plantdriving.proofs.Sent.{copied}
use Rattle.plantdriving.proofs.Tellings.{part_none, report_with_down, these_stopped, these_told}
use Rattle.plantdriving.proofs.serving.tell_report.Goals as goal

pub returns-in_err-handed : goal.returns-in_err-handed
returns-in_err-handed g c =
    let tellings = report_told c.args.bus c.args.report.now c.args.place c.args.down in
    let before = g.O.Observer.told c.args.observer.now in
    these_stopped tellings before before c.from_residual.result _ c.from_residual.ensures.1
    (part_none tellings before before refl)

pub returns-in-Some : goal.returns-in-Some
returns-in-Some g c =
    let b = c.args.bus in let report = c.args.report.now in let place = c.args.place in
    let before = g.O.Observer.told c.args.observer.now in
    let after = g.O.Observer.told c.note-in-Some.new.self in
    let same = copied c.clone.result c.unwrap.result report c.unwrap.ensures c.clone.ensures.cases in
    let reported : g.O.Observer.told c.note.new.self ≡ noted place (what.Reported b report) before =
    c.note.ensures ∙ ap (λ (r : ReportParts). noted place (what.Reported b r) before) same in
    subst (λ (d : Option ℕ). TellsThese (report_told b report place d) before after c.note-in-Some.result)
    (sym c.in-Some.is)
    (these_told (report_told b report place (Some c.in-Some.place)) before after c.note-in-Some.result
    (report_with_down b place c.in-Some.place report before (g.O.Observer.told c.note.new.self)
    (g.O.Observer.told c.note_line.new.self) after reported c.note_line.ensures c.note-in-Some.ensures))
