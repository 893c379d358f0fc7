use Rattle.std.proofs.Common.{◌≡◌, ◌∷◌, [], ℕ, IfSome, Option, arith, refl, subst, sym}
use Rattle.plantevents.specs.declared.activator.PendingEvent.{PendingEvent}
use Rattle.plantevents.specs.declared.event.Event.TheVariants.{Heard}
use Rattle.plantevents.specs.Plants.{activator}
use Rattle.refusalsplant.proofs.TaskTurns.{first_count}
use Rattle.refusalsplant.proofs.tasks.count_goes_on_from_its_first_value.Goals as goal

pub first_pending-requires : goal.first_pending-requires
first_pending-requires c =
    let p = c.args.plant.now.plant in
    let fresh = c.in_ok-tasks.ensures.follows p c.requires.setups in
    let heard = c.note_frame.ensures.follows p [] fresh refl in
    record { known = let many = heard.count in let count = c.requires.setups.count in let some = c.requires.some in omega arith }

pub returns : goal.returns
returns c =
    let p = c.args.plant.now.plant in
    let frame = c.args.frame in
    let fresh = c.in_ok-tasks.ensures.follows p c.requires.setups in
    let heard = c.note_frame.ensures.follows p [] fresh refl in
    subst (λ (o : Option PendingEvent). IfSome o (λ e. e.count ≡ 101))
    (sym (c.first_pending.ensures.value p (Heard 0 frame ∷ []) heard))
    (first_count (activator p 0) c.args.source frame c.requires.bus c.requires.message)
