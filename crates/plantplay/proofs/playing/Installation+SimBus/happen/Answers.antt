use Rattle.std.proofs.Common.{refl, sym, ap, subst, ◌∙◌}
use Rattle.std.proofs.lemmas.Result.{err_from_is_err_and}
use Rattle.wordlines.specs.declared.happenings.Happening.TheVariants.{Tick, Event}
use Rattle.plant.specs.Shown.{Shown}
use Rattle.plantdriving.specs.Tellings.{TellsEach}
use Rattle.plantdriving.proofs.Tellings.{tells_then, told_none}
use Rattle.plantplay.specs.Installations.{stage_of}
use Rattle.plantplay.specs.Stage.{Stage}
use Rattle.plantplay.proofs.Happened.{settle_ends, settles_nowhere, settles_there, tick_halts}
use Rattle.plantplay.proofs.playing.Installation+SimBus.happen.Goals as goal

pub returns-in_err-tick-in-Tick-clause-happens : goal.returns-in_err-tick-in-Tick-clause-happens
returns-in_err-tick-in-Tick-clause-happens g c =
    let p = err_from_is_err_and c.from_residual.result c.from_residual.ensures.1 in
    let s = stage_of c.args.self.now in
    rw (p.1, p.2, c.in-Tick.is)
    (tick_halts c.in-Tick.moment s (record { plant = c.tick.new.self; logs = s.logs }) c.in_err-tick-in-Tick.field-0.0
    c.in_err-tick-in-Tick.ensures.ticks refl)

pub returns-in_ok-tick-in-Tick-clause-happens : goal.returns-in_ok-tick-in-Tick-clause-happens
returns-in_ok-tick-in-Tick-clause-happens g c =
    let s = stage_of c.args.self.now in let came = record s { plant = c.tick.new.self } in
    let t = stage_of c.settle.new.self in
    rw c.in-Tick.is
    (settle_ends (Tick c.in-Tick.moment) s came t c.settle.result
    (record { plant = c.in_ok-tick-in-Tick.ensures.ticks; logs = refl }) (λ settled. settled) c.settle.ensures.driven
    c.settle.ensures.settled c.settle.ensures.stops)

pub returns-then-arrive-clause-happens : goal.returns-then-arrive-clause-happens
returns-then-arrive-clause-happens g c =
    let s = stage_of c.args.self.now in let came = stage_of c.arrive.new.self in
    let t = stage_of c.settle-then-arrive.new.self in let b = c.in-Event.bus in
    rw c.in-Event.is
    (settle_ends (Event b c.in-Event.frame) s came t c.settle-then-arrive.result c.arrive.ensures.after
    (settles_there b s.plant.plant.plan.buses came t (sym c.if-arrive.true ∙ c.arrive.ensures.there)
    (ap (λ (x : Stage). x.plant.plant.plan.buses) c.arrive.ensures.after)) c.settle-then-arrive.ensures.driven
    c.settle-then-arrive.ensures.settled c.settle-then-arrive.ensures.stops)

pub returns-else-arrive-clause-happens : goal.returns-else-arrive-clause-happens
returns-else-arrive-clause-happens g c =
    let s = stage_of c.args.self.now in let came = stage_of c.arrive.new.self in
    rw c.in-Event.is (
      came,
      c.arrive.ensures.after,
      settles_nowhere c.in-Event.bus s.plant.plant.plan.buses came came (sym c.if-arrive.false ∙ c.arrive.ensures.there)
          (ap (λ (x : Stage). x.plant.plant.plan.buses) c.arrive.ensures.after) refl,
    )

pub returns-in-HearFault-clause-happens : goal.returns-in-HearFault-clause-happens
returns-in-HearFault-clause-happens g c =
    rw c.in-HearFault.is (stage_of c.arrive-in-HearFault.new.self, c.arrive-in-HearFault.ensures.after, refl)

pub returns-in_ok-tick-in-Tick-clause-told : goal.returns-in_ok-tick-in-Tick-clause-told
returns-in_ok-tick-in-Tick-clause-told g c =
    tells_then c.args.self.now.plant c.tick.new.self c.settle.new.self.plant (g.O.Observer.told c.args.observer.now)
    (g.O.Observer.told c.tick.new.observer) (g.O.Observer.told c.settle.new.observer) c.settle.result
    c.in_ok-tick-in-Tick.ensures.told c.settle.ensures.told

pub returns-then-arrive-clause-told : goal.returns-then-arrive-clause-told
returns-then-arrive-clause-told g c =
    subst (λ (p : Shown). TellsEach p c.settle-then-arrive.new.self.plant (g.O.Observer.told c.args.observer.now)
    (g.O.Observer.told c.settle-then-arrive.new.observer) c.settle-then-arrive.result)
    (ap (λ (x : Stage). x.plant) c.arrive.ensures.after) c.settle-then-arrive.ensures.told

pub returns-else-arrive-clause-told : goal.returns-else-arrive-clause-told
returns-else-arrive-clause-told g c =
    told_none c.args.self.now.plant.history c.arrive.new.self.plant.history (g.O.Observer.told c.args.observer.now)
    (g.O.Observer.told c.args.observer.now) (ap (λ (x : Stage). x.plant.history) c.arrive.ensures.after) refl

pub returns-in-HearFault-clause-told : goal.returns-in-HearFault-clause-told
returns-in-HearFault-clause-told g c =
    told_none c.args.self.now.plant.history c.arrive-in-HearFault.new.self.plant.history
    (g.O.Observer.told c.args.observer.now) (g.O.Observer.told c.args.observer.now)
    (ap (λ (x : Stage). x.plant.history) c.arrive-in-HearFault.ensures.after) refl
