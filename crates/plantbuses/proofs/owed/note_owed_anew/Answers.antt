use Rattle.std.proofs.Common.{◌≡◌, ◌<◌, ◌∙◌, ℕ, [], ◌∷◌, sym, ap, subst, arith}
use Rattle.std.proofs.lemmas.List.{get_or_read}
use Rattle.std.specs.Prelude.{slice_set}
use Rattle.plantevents.specs.declared.event.Event.TheVariants.{Up}
use Rattle.plantbuses.specs.KeptSteps.{BusFollows, bus_at, no_bus}
use Rattle.plantbuses.specs.OutputSteps.{AreOutputsOf, outputs_at}
use Rattle.plantbuses.specs.OwedSteps.{OwedFollow}
use Rattle.plantbuses.proofs.ComingUp.{owed_up}
use Rattle.plantbuses.proofs.owed.note_owed_anew.Goals as goal

pub returns : goal.returns
returns c = λ p h located follows imaged before.
    let b = c.args.bus in let n = c.from-number.result in let items = c.args.owed.now.items in
    let is : n ≡ b = c.from-number.ensures in let new = c.bus_owed.result in
    let many = before.0 in let lt = c.requires.known in let known : b < p.plan.buses = omega arith in
    let outputs = get_or_read c.args.outputs.now n c.index-outputs-number.result
    (let l = c.requires.located in omega arith) c.index-outputs-number.is []
    ∙ ap (outputs_at c.args.outputs.now) is in
    let bus = get_or_read c.args.buses.now n c.index-buses-number.result (let l = c.requires.kept in omega arith)
    c.index-buses-number.is no_bus ∙ ap (bus_at c.args.buses.now) is in
    let made = c.bus_owed.ensures p b (Up b ∷ h) (subst (AreOutputsOf p b) (sym outputs) (located.1 b known))
    (subst (BusFollows p b (Up b ∷ h)) (sym bus) (follows.1 b known)) imaged in
    subst (λ (m : ℕ). OwedFollow p (Up b ∷ h) (slice_set items m new)) (sym is)
    (owed_up p b h items new lt made before)
