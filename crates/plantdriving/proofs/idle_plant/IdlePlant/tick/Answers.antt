use Rattle.std.proofs.Common.{◌∙◌, List, ◌∷◌, ap, length, refl}
use Rattle.plantevents.specs.declared.event.Event.{Event}
use Rattle.plantevents.specs.declared.event.Event.TheVariants.{Tick}
use Rattle.plant.specs.Shown.{Shown}
use Rattle.plantdriving.specs.declared.happened.Happened.TheVariants as what
use Rattle.plantdriving.proofs.Tellings.{tells_none, tells_one, told_one}
use Rattle.plantdriving.proofs.idle_plant.IdlePlant.tick.Goals as goal

pub returns-in_err-tick-clause-told : goal.returns-in_err-tick-clause-told
returns-in_err-tick-clause-told g c =
    tells_none c.args.self.now c.tick.new.self (g.O.Observer.told c.args.observer.now) c.from_residual.result
    (ap (λ (x : Shown). x.history) (c.in_err-tick.ensures.err ∙ c.self.view_is))

pub returns-in_err-note-clause-told : goal.returns-in_err-note-clause-told
returns-in_err-note-clause-told g c =
    let same = ap (λ (x : Shown). x.history) c.self.view_is in
    tells_one c.args.self.now c.tick.new.self (Tick c.args.moment) c.len-place.result (what.Ticked c.args.moment)
    (g.O.Observer.told c.args.observer.now) (g.O.Observer.told c.note.new.self) c.from_residual-in_err-note.result
    (ap (λ (x : Shown). x.history) c.in_ok-tick.ensures.ok ∙ ap (λ (h : List Event). Tick c.args.moment ∷ h) same)
    (c.len-place.ensures.value ∙ ap length same) refl c.note.ensures

pub returns-clause-told : goal.returns-clause-told
returns-clause-told g c =
    let same = ap (λ (x : Shown). x.history) c.self.view_is in
    told_one c.args.self.now.history c.tick.new.self.history (Tick c.args.moment) c.len-place.result
    (what.Ticked c.args.moment) (g.O.Observer.told c.args.observer.now) (g.O.Observer.told c.note.new.self)
    (ap (λ (x : Shown). x.history) c.in_ok-tick.ensures.ok ∙ ap (λ (h : List Event). Tick c.args.moment ∷ h) same)
    (c.len-place.ensures.value ∙ ap length same) refl c.note.ensures
