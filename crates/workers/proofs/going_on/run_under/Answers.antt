use Rattle.std.proofs.Common.{◌≡◌, ◌+◌, ◌≤◌, ◌∙◌, List, arith, rules, ap, length, map, subst, sym}
use Rattle.plant.specs.Shown.{Shown, kept}
use Rattle.plantturns.specs.Open.{HasNothingOpen}
use Rattle.workers.specs.declared.closed.ClosedParts.{ClosedParts}
use Rattle.workers.specs.Closings.{IsLeft}
use Rattle.workers.specs.Runs.{GoesOn}
use Rattle.workers.proofs.GoneOn.{in_step_from, limit_back, room_before, still_open_none}
use Rattle.workers.proofs.Whole.{goes_on, left_with}
use Rattle.workers.proofs.going_on.run_under.Goals as goal

pub run_named-run-requires-clause-idle : goal.run_named-run-requires-clause-idle
run_named-run-requires-clause-idle g c κs within =
    still_open_none c.into_plant-plant.result c.set_limit.new.self c.args.limit c.set_limit.ensures
    (subst HasNothingOpen (sym c.into_plant-plant.ensures.plant) c.into_plant-plant.ensures.idle)

pub run_named-run-requires-clause-links : goal.run_named-run-requires-clause-links
run_named-run-requires-clause-links g c κs within =
    let old = c.into_parts-plant.result in
    let left = subst (IsLeft g.B.Bus.log g.C.Clock.log) (sym c.into_parts-plant.ensures.value)
    c.into_parts-plant.ensures.left in
    let same =
    ap (λ (p : Shown). p.history) c.set_limit.ensures ∙ ap (λ (p : Shown). p.history) c.into_plant-plant.ensures.plant in
    in_step_from g.B.Bus.log g.C.Clock.log old left.p left.logs left.first left.closed c.set_limit.new.self same

pub returns-in-Ok-run-clause-ok : goal.returns-in-Ok-run-clause-ok
returns-in-Ok-run-clause-ok g c =
    let old = c.into_parts-plant.result in
    let same = c.into_parts-plant.ensures.value in
    let left = subst (IsLeft g.B.Bus.log g.C.Clock.log) (sym same) c.into_parts-plant.ensures.left in
    let is =
    c.set_limit.ensures
    ∙ ap (λ (p : Shown). record p { limit = c.args.limit }) c.into_plant-plant.ensures.plant in
    let run = c.in-Ok-run.ensures in
    let counted = run.count in
    let long = old.buses.ok.0 in
    subst (λ (was : ClosedParts g.row.B.Denot g.row.C.Denot). GoesOn c.args.limit g.B.Bus.log g.C.Clock.log was
    c.in-Ok-run.left) same
    (goes_on g.B.Bus.log g.C.Clock.log c.set_limit.new.self c.in-Ok-run.left run.full run.limit c.args.limit old
    left is run.closed run.ended run.front (omega (arith, counted, long)))

pub as_before-parts-requires-clause-idle : goal.as_before-parts-requires-clause-idle
as_before-parts-requires-clause-idle g c =
    still_open_none c.into_parts-plant.result.plant c.in-Err.refused.plant c.args.limit
    (c.in-Err.ensures.err.0
    ∙ (c.set_limit.ensures ∙ ap (λ (p : Shown). record p { limit = c.args.limit }) c.into_plant-plant.ensures.plant))
    c.into_plant-plant.ensures.idle

pub as_before-parts-requires-clause-room : goal.as_before-parts-requires-clause-room
as_before-parts-requires-clause-room g c =
    let before = c.into_plant-plant.result in
    let after = c.in-Err.refused.plant in
    let plant : before ≡ c.args.closed.plant =
    c.into_plant-plant.ensures.plant
    ∙ ap (λ (was : ClosedParts g.row.B.Denot g.row.C.Denot). was.plant) c.into_parts-plant.ensures.value in
    let within =
    subst (λ (p : Shown). length p.history + kept p ≤ p.limit) (c.plant-2.ensures.value ∙ sym plant)
    c.len-events.ensures.within in
    let same : c.limit-before.result ≡ before.limit =
    c.limit-before.ensures.value ∙ ap (λ (p : Shown). p.limit) (c.plant.ensures.value ∙ sym plant) in
    subst (λ n. length after.history + kept after ≤ n) (sym same)
    (room_before before after c.args.limit (c.in-Err.ensures.err.0 ∙ c.set_limit.ensures) within)

pub invariant_of-closed : goal.invariant_of-closed
invariant_of-closed g c =
    let old = c.into_parts-plant.result in
    let before = c.into_plant-plant.result in
    let left = subst (IsLeft g.B.Bus.log g.C.Clock.log) (sym c.into_parts-plant.ensures.value)
    c.into_parts-plant.ensures.left in
    let plant : before ≡ c.args.closed.plant =
    c.into_plant-plant.ensures.plant
    ∙ ap (λ (was : ClosedParts g.row.B.Denot g.row.C.Denot). was.plant) c.into_parts-plant.ensures.value in
    let same : c.limit-before.result ≡ before.limit =
    c.limit-before.ensures.value ∙ ap (λ (p : Shown). p.limit) (c.plant.ensures.value ∙ sym plant) in
    let links = c.as_before-parts.ensures.links in
    left_with g.B.Bus.log g.B.Bus.log g.C.Clock.log old c.as_before-parts.result
    (limit_back before c.in-Err.refused.plant c.as_before-parts.result.plant c.args.limit c.limit-before.result
    (c.in-Err.ensures.err.0 ∙ c.set_limit.ensures) same c.as_before-parts.ensures.plant
    ∙ c.into_plant-plant.ensures.plant)
    (links.1 ∙ c.in-Err.ensures.err.2)
    (ap (λ (buses : List g.row.B.Denot). map g.B.Bus.log buses) (search rules))
    left
