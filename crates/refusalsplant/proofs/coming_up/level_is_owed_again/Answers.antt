use Rattle.std.proofs.Common.{◌≡◌, ◌≢◌, [], ◌∷◌, subst}
use Rattle.plantevents.specs.declared.event.Event.TheVariants.{Up}
use Rattle.plantevents.specs.Waiting.{handouts}
use Rattle.plant.specs.declared.refusal.CallRefusal.TheVariants.{NothingReady}
use Rattle.plant.specs.Refusals.{hand_cases}
use Rattle.plant.specs.Shown.{Shown}
use Rattle.refusalsplant.proofs.ComingUp.{has_handout, lamp, lamp_anew}
use Rattle.refusalsplant.proofs.Refusing.{gave, was_nothing}
use Rattle.refusalsplant.proofs.coming_up.level_is_owed_again.Goals as goal

pub returns-in-Ok : goal.returns-in-Ok
returns-in-Ok c = λ is.
    let p = c.args.plant.now.plant in
    let h = c.args.plant.now.history in
    let q = c.up.new.self in
    let refused = gave (hand_cases q 0) NothingReady c.allows_hand.result c.allows_hand.ensures.refused is in
    let none = subst (λ (s : Shown). handouts s.plant 0 s.history ≡ []) c.in-Ok.ensures.ok (was_nothing q 0 refused) in
    let owes = (c.what_coming_up_changes.ensures.owed p 0 2 h lamp).1
    (lamp_anew p h c.requires.located c.requires.class c.requires.lit) in
    has_handout p (Up 0 ∷ h) lamp owes (c.what_is_handed_out.ensures.nothing p 0 (Up 0 ∷ h)).0 none
