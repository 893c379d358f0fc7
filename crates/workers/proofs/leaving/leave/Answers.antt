use Rattle.std.proofs.Common.{◌++◌, map, refl, subst, sym, ap, arith, ◌∙◌}
use Rattle.plant.specs.Shown.{Shown}
use Rattle.plantturns.specs.Driven.{IsDriven}
use Rattle.workers.specs.declared.closed.ClosedParts.{ClosedParts}
use Rattle.workers.proofs.Left.{is_full_at, never_asked, quiet_from_start, still_closed}
use Rattle.workers.proofs.leaving.leave.Goals.{in-Ok, in-Err}
use Rattle.workers.proofs.leaving.leave.Goals as goal

pub returns-clause-closed : goal.returns-clause-closed
returns-clause-closed g c =
    λ p logs first closed.
    let new : ClosedParts g.row.B.Denot g.row.C.Denot =
    record { plant = c.settle.new.plant; buses = c.settle.new.lines; clock = c.args.closed.clock; ended = c.match-settle.ended }
    in
    still_closed p logs first g.B.Bus.log g.C.Clock.log c.args.closed new c.len-events.ensures.legal
    (subst
    (λ start. IsDriven start c.settle.new.plant (map g.B.Bus.log c.args.closed.buses.items)
    (map g.B.Bus.log c.settle.new.lines.items))
    c.into_plant-plant.ensures.plant c.settle.ensures.driven)
    refl closed

pub returns-clause-left : goal.returns-clause-left
returns-clause-left g c =
    λ p logs first closed asked. elim c.match-settle.branch [
      | in-Ok w ↦
          quiet_from_start p logs first g.B.Bus.log g.C.Clock.log c.args.closed c.settle.new.plant
          (map g.B.Bus.log c.settle.new.lines.items)
          (let counted = c.requires.count in let long = c.args.closed.buses.ok.0 in omega (arith, counted, long))
          (c.settle.ensures.driven.plant ∙ ap (λ (x : Shown). x.plant) c.into_plant-plant.ensures.plant) closed
          w.in-Ok.ensures.quiet
      | in-Err w ↦
          absurd (never_asked w.in-Err.error (sym w.from-ended.ensures ∙ (sym w.ended-is ∙ asked)))
    ]

pub returns-clause-front : goal.returns-clause-front
returns-clause-front g c = record {
  later = c.settle.ensures.driven.later;
  is =
      c.settle.ensures.driven.history
      ∙ ap (λ (p : Shown). c.settle.ensures.driven.later ++ p.history) c.into_plant-plant.ensures.plant;
}

pub returns-clause-full : goal.returns-clause-full
returns-clause-full g c =
    λ was limit. elim c.match-settle.branch [
      | in-Ok w ↦ absurd (cc (limit, w.ended-is))
      | in-Err w ↦
          is_full_at c.settle.new.plant w.in-Err.error w.in-Err.ensures.stops
          (sym w.from-ended.ensures ∙ (sym w.ended-is ∙ limit))
    ]
