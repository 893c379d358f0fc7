use Rattle.std.proofs.Common.{◌≡◌, Some, refl, sym, subst, ap, ◌∙◌}
use Rattle.buslink.specs.declared.marks.Outcome.{Outcome}
use Rattle.ilplan.specs.Plans.{Planned}
use Rattle.ilmachine.specs.Images.{value_of}
use Rattle.std.specs.Prelude.{slice_index_or}
use Rattle.plantevents.specs.Histories.{OpenHand, hand}
use Rattle.plantevents.specs.Variables.{newest}
use Rattle.plantbuses.specs.AnswerSteps.{answer_at}
use Rattle.plant.specs.Shown.{Shown, plant_of}
use Rattle.plant.proofs.Answering.{image_done}
use Rattle.plant.proofs.Reporting.{done_now, done_says, frames_room, place_left}
use Rattle.plant.proofs.Indexed.{kept_for}
use Rattle.plant.proofs.plant.Plant.note_report.Goals as goal

pub note_report-requires-clause-few : goal.note_report-requires-clause-few
note_report-requires-clause-few c =
    let may = done_now _ _ c.args.bus c.args.number c.args.report c.self.view_is (c.in-Some.ensures.is.0 refl)
    c.outcome.ensures.legal in
    frames_room _ _ c.args.bus c.args.number c.args.report c.self.invariant may

pub overflow_sub-self : goal.overflow_sub-self
overflow_sub-self c =
    let may = done_now _ _ c.args.bus c.args.number c.args.report c.self.view_is (c.in-Some.ensures.is.0 refl)
    c.outcome.ensures.legal in
    place_left _ _ c.args.bus c.args.number c.args.report c.self.invariant may

pub write_answer-requires-clause-inputs : goal.write_answer-requires-clause-inputs
write_answer-requires-clause-inputs c =
    let p = c.self.inside in
    let may = done_now _ _ c.args.bus c.args.number c.args.report c.self.view_is (c.in-Some.ensures.is.0 refl)
    c.outcome.ensures.legal in
    rw (c.numbers.ensures, c.plan.ensures.value) (kept_for p.setup.plan p.inputs.items c.args.bus c.index.result.now
    c.self.invariant.each_input may.known
    (c.index.ensures ∙ ap (λ n. slice_index_or p.inputs.items n c.index.result.now) c.from.ensures))

pub invariant_of-self : goal.invariant_of-self
invariant_of-self c =
    let p = c.self.inside in let says = c.self.invariant in let b = c.args.bus in let n = c.args.number in
    let report = c.args.report in let plant = plant_of p.setup p.workers in let h = p.history.items in
    let may = done_now _ _ b n report c.self.view_is (c.in-Some.ensures.is.0 refl) c.outcome.ensures.legal in
    let handed : OpenHand = record {
      place = n;
      origin = c.in-Some.origin;
      transaction = report.transaction;
    } in
    let is = subst (λ (s : Shown). hand b s.history ≡ Some handed) (sym c.self.view_is) c.in-Some.ensures.origin in
    let imaged = image_done plant b n report h handed p.image c.write_answer.new.image says.each_variable is
    c.write_answer.ensures.layout
    (λ v. c.write_answer.ensures.values v ∙ ap (λ o. newest o (value_of p.image v))
    (ap (λ (x : Planned). answer_at x b handed.origin c.outcome.result v) c.plan.ensures.value
    ∙ ap (λ (o : Outcome). answer_at plant.plan b handed.origin o v) c.outcome.ensures.value))
    c.write_answer.ensures.blocks in
    rw c.push.ensures (done_says _ _ b n report _ _ says may
    (c.other_events_leave_tasks.ensures.done plant b n report h p.tasks says.each_task) imaged
    (c.note_report.ensures plant n h says.each_bus))
