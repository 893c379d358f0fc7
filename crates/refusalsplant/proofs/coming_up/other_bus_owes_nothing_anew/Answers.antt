use Rattle.std.proofs.Common.{◌≡◌, ◌∙◌, Some, sym, subst}
use Rattle.plantevents.specs.declared.event.Event.TheVariants.{Up}
use Rattle.plant.specs.declared.refusal.CallRefusal.TheVariants.{NothingReady}
use Rattle.plant.specs.Refusals.{first_refusal, hand_cases}
use Rattle.plant.specs.Shown.{Shown, grown}
use Rattle.refusalsplant.proofs.ComingUp.{same_handouts}
use Rattle.refusalsplant.proofs.Refusing.{has_nothing, refused}
use Rattle.refusalsplant.proofs.coming_up.other_bus_owes_nothing_anew.Goals as goal

pub returns-in-Ok : goal.returns-in-Ok
returns-in-Ok c =
    let p = c.args.plant.now in
    let first = has_nothing (grown p (Up 0)) 1 c.requires.known c.requires.up c.requires.idle
    (same_handouts p.plant p.history ∙ c.requires.nothing) in
    refused (hand_cases c.up.new.self 1) NothingReady c.allows_hand.result c.allows_hand.ensures.refused
    (subst (λ (s : Shown). first_refusal (hand_cases s 1) ≡ Some NothingReady) (sym c.in-Ok.ensures.ok) first)
