use Rattle.std.proofs.Common.{ℕ, Option, Bool, false, List, ◌∷◌, length, refl, ap, ◌∙◌}
use Rattle.std.specs.Prelude.{Ok}
use Rattle.buslink.specs.BusLog.{after_hear}
use Rattle.plantevents.specs.declared.event.Event.{Event}
use Rattle.plantevents.specs.declared.event.Event.TheVariants.{Heard, Down}
use Rattle.plant.specs.Shown.{Shown}
use Rattle.plantdriving.specs.declared.happened.Happened.TheVariants as what
use Rattle.plantdriving.proofs.BusSteps.{step_fault, step_frame, step_silent}
use Rattle.plantdriving.proofs.Handed.{step_idle}
use Rattle.plantdriving.proofs.Hearing.{heard_fault, heard_frame, heard_nothing}
use Rattle.plantdriving.proofs.Order.{fault_goes_on, frame_goes_on, unheard_kept, unheard_same}
use Rattle.plantdriving.proofs.Refused.{hear_stops, hear_tells}
use Rattle.plantdriving.proofs.Tellings.{tells_none, tells_one}
use Rattle.plantdriving.proofs.serving.hear_next.Goals as goal

pub returns-in-Err : goal.returns-in-Err
returns-in-Err g c = record {
  step = step_idle c.args.bus c.args.plant.now c.may_hear.new.self (g.B.Bus.log c.args.line.now)
      (g.B.Bus.log c.room.new.self) c.in-Err.ensures.err c.in_ok-room.ensures.same;
  only = heard_nothing c.args.bus c.args.plant.now c.may_hear.new.self
      (ap (λ (x : Shown). x.history) c.in-Err.ensures.err);
  turn = hear_tells c.args.plant.now c.may_hear.new.self c.args.bus (g.B.Bus.log c.args.line.now)
      (g.B.Bus.log c.room.new.self) c.in-Err.refusal c.idle_where_refused.result c.in-Err.ensures.err
      c.in-Err.ensures.refused c.idle_where_refused.ensures;
  goes_on = unheard_same c.args.bus c.args.plant.now c.may_hear.new.self c.in-Err.ensures.err;
  stops = hear_stops c.args.plant.now c.may_hear.new.self c.args.bus c.in-Err.refusal c.idle_where_refused.result
      c.in-Err.ensures.err c.requires.known c.in-Err.ensures.refused c.idle_where_refused.ensures;
  told = tells_none c.args.plant.now c.may_hear.new.self (g.O.Observer.told c.args.observer.now)
      c.idle_where_refused.result (ap (λ (x : Shown). x.history) c.in-Err.ensures.err);
}

pub returns-in-Ok-clause-step : goal.returns-in-Ok-clause-step
returns-in-Ok-clause-step g c =
    step_frame c.args.bus c.in-Ok-Some.frame c.args.plant.now c.may_hear.new.self c.note_frame.new.self
    (g.B.Bus.log c.args.line.now) (g.B.Bus.log c.room.new.self) (g.B.Bus.log c.hear.new.self)
    c.in_default.ensures.ok c.in-Ok.ensures.ok c.in_ok-room.ensures.same
    (c.in-Ok-Some.ensures.logged
    ∙ ap (λ (x : Option ℕ). after_hear (Ok x) (g.B.Bus.log c.room.new.self)) c.in-Ok-Some.field-0-is)

pub returns-in-Ok-clause-only : goal.returns-in-Ok-clause-only
returns-in-Ok-clause-only g c =
    heard_frame c.args.bus c.in-Ok-Some.frame c.args.plant.now c.may_hear.new.self c.note_frame.new.self
    c.in_default.ensures.ok
    c.in-Ok.ensures.ok

pub returns-in-Ok-None-clause-step : goal.returns-in-Ok-None-clause-step
returns-in-Ok-None-clause-step g c =
    step_silent c.args.bus c.args.plant.now c.may_hear.new.self (g.B.Bus.log c.args.line.now)
    (g.B.Bus.log c.room.new.self) (g.B.Bus.log c.hear.new.self) c.in_default.ensures.ok c.in_ok-room.ensures.same
    (c.in-Ok-None.ensures.logged
    ∙ ap (λ (x : Option ℕ). after_hear (Ok x) (g.B.Bus.log c.room.new.self)) c.in-Ok-None.field-0-is)

pub returns-in-Ok-down-clause-step : goal.returns-in-Ok-down-clause-step
returns-in-Ok-down-clause-step g c =
    step_fault c.args.bus c.in-Err-hear.field-0 c.args.plant.now c.may_hear.new.self c.down.new.self
    (g.B.Bus.log c.args.line.now) (g.B.Bus.log c.room.new.self) (g.B.Bus.log c.hear.new.self)
    c.in_default.ensures.ok c.in-Ok-down.ensures.ok c.in_ok-room.ensures.same c.in-Err-hear.ensures.logged

pub returns-in-Ok-down-clause-only : goal.returns-in-Ok-down-clause-only
returns-in-Ok-down-clause-only g c =
    heard_fault c.args.bus c.args.plant.now c.may_hear.new.self c.down.new.self c.in_default.ensures.ok
    c.in-Ok-down.ensures.ok

pub returns-in-Ok-clause-goes_on : goal.returns-in-Ok-clause-goes_on
returns-in-Ok-clause-goes_on g c =
    frame_goes_on c.args.bus c.in-Ok-Some.frame c.args.plant.now c.may_hear.new.self c.note_frame.new.self
    c.in_default.ensures.ok c.in-Ok.ensures.ok

pub returns-in-Ok-None-clause-goes_on : goal.returns-in-Ok-None-clause-goes_on
returns-in-Ok-None-clause-goes_on g c =
    unheard_kept c.args.bus c.args.plant.now c.may_hear.new.self c.in_default.ensures.ok

pub returns-in-Ok-down-clause-goes_on : goal.returns-in-Ok-down-clause-goes_on
returns-in-Ok-down-clause-goes_on g c = λ none.
    fault_goes_on c.args.bus c.args.plant.now c.may_hear.new.self c.down.new.self c.in_default.ensures.ok
    c.in-Ok-down.ensures.ok

pub returns-in_err-room-clause-goes_on : goal.returns-in_err-room-clause-goes_on
returns-in_err-room-clause-goes_on g c = unheard_same c.args.bus c.args.plant.now c.args.plant.now refl

pub returns-in-Ok-clause-told : goal.returns-in-Ok-clause-told
returns-in-Ok-clause-told g c =
    let kept = ap (λ (x : Shown). x.history) c.in_default.ensures.ok in
    tells_one c.args.plant.now c.note_frame.new.self (Heard c.args.bus c.in-Ok-Some.frame) c.len-place.result
    (what.Heard c.args.bus c.in-Ok-Some.frame) (g.O.Observer.told c.args.observer.now)
    (g.O.Observer.told c.note.new.self) c.as_done.result
    (ap (λ (x : Shown). x.history) c.in-Ok.ensures.ok ∙ ap (λ (h : List Event). Heard c.args.bus c.in-Ok-Some.frame ∷ h) kept)
    (c.len-place.ensures.value ∙ ap length kept) (refl, refl) c.note.ensures

pub returns-in-Ok-None-clause-told : goal.returns-in-Ok-None-clause-told
returns-in-Ok-None-clause-told g c =
    tells_none {A = Bool} c.args.plant.now c.may_hear.new.self (g.O.Observer.told c.args.observer.now) (Ok false)
    (ap (λ (x : Shown). x.history) c.in_default.ensures.ok)

pub returns-in-Ok-down-clause-told : goal.returns-in-Ok-down-clause-told
returns-in-Ok-down-clause-told g c =
    let kept = ap (λ (x : Shown). x.history) c.in_default.ensures.ok in
    tells_one c.args.plant.now c.down.new.self (Down c.args.bus) c.len-place.result
    (what.WentDown c.args.bus) (g.O.Observer.told c.args.observer.now)
    (g.O.Observer.told c.note-in-Err-hear.new.self) c.as_done-in-Err-hear.result
    (ap (λ (x : Shown). x.history) c.in-Ok-down.ensures.ok ∙ ap (λ (h : List Event). Down c.args.bus ∷ h) kept)
    (c.len-place.ensures.value ∙ ap length kept) refl c.note-in-Err-hear.ensures

pub returns-in_err-room-clause-told : goal.returns-in_err-room-clause-told
returns-in_err-room-clause-told g c =
    tells_none c.args.plant.now c.args.plant.now (g.O.Observer.told c.args.observer.now) c.from_residual.result refl
