use Rattle.std.proofs.Common.{◌≡◌, ℕ, List, ◌∷◌, false, sym, subst, ap, ◌∙◌}
use Rattle.std.specs.Prelude.{slice_index_or}
use Rattle.plantevents.specs.declared.role.Role.TheVariants.{Bus}
use Rattle.plantevents.specs.Legal.{IsUp}
use Rattle.plant.specs.Shown.{Shown, plant_of}
use Rattle.plant.specs.Refusals.{is_full_for}
use Rattle.plant.proofs.Growing.{heard_says, image_heard, hear_room, place_counted}
use Rattle.plant.proofs.Found.{writes_same}
use Rattle.wordlines.specs.declared.sources.BoundSource.{BoundSource}
use Rattle.ilplan.specs.Plans.{Planned}
use Rattle.ilmachine.specs.Images.{value_of}
use Rattle.plantevents.specs.Variables.{newest}
use Rattle.plant.specs.IndexSteps.{numbers_on}
use Rattle.plant.specs.InputSteps.{input_at}
use Rattle.plant.specs.KeptSteps.{CountsFollow}
use Rattle.plantevents.specs.declared.event.Event.TheVariants.{Heard}
use Rattle.plant.proofs.Indexed.{kept_on}
use Rattle.plant.proofs.plant.Plant.note_frame.Goals as goal

pub note_heard-requires-clause-few : goal.note_heard-requires-clause-few
note_heard-requires-clause-few c =
    let up = subst (λ (p : Shown). IsUp p.plant p.history c.args.bus) (sym c.self.view_is)
    c.in_ok-allows_frame.ensures.up in
    hear_room _ _ c.args.bus c.self.invariant up

pub use_place_of-requires-clause-counted : goal.use_place_of-requires-clause-counted
use_place_of-requires-clause-counted c =
    let up = subst (λ (p : Shown). IsUp p.plant p.history c.args.bus) (sym c.self.view_is)
    c.in_ok-allows_frame.ensures.up in
    place_counted _ _ c.args.bus c.self.invariant up

pub count_message-requires-clause-bound : goal.count_message-requires-clause-bound
count_message-requires-clause-bound c =
    let p = c.self.inside in
    let up = subst (λ (p : Shown). IsUp p.plant p.history c.args.bus) (sym c.self.view_is)
    c.in_ok-allows_frame.ensures.up in
    let kept = kept_on p.setup.plan p.inputs.items c.args.bus c.index-inputs.result.now c.self.invariant.each_input
    up.known (c.index-inputs.ensures
    ∙ ap (λ n. slice_index_or p.inputs.items n c.index-inputs.result.now) c.from.ensures) in
    let sources = c.sources.ensures.value ∙ ap (λ (x : Planned). x.sources) c.plan.ensures.value in
    c.sources-2.ensures ∙ (kept.bound ∙ ap (numbers_on c.args.bus 0) (sym sources))

pub write_message-requires-clause-inputs : goal.write_message-requires-clause-inputs
write_message-requires-clause-inputs c =
    let p = c.self.inside in
    let up = subst (λ (p : Shown). IsUp p.plant p.history c.args.bus) (sym c.self.view_is)
    c.in_ok-allows_frame.ensures.up in
    rw c.plan-2.ensures.value (kept_on p.setup.plan p.inputs.items c.args.bus c.index-inputs.result.now
    c.self.invariant.each_input up.known (c.index-inputs.ensures
    ∙ ap (λ n. slice_index_or p.inputs.items n c.index-inputs.result.now) c.from.ensures))

pub invariant_of-self : goal.invariant_of-self
invariant_of-self c =
    let p = c.self.inside in let says = c.self.invariant in let b = c.args.bus in let f = c.args.frame in
    let plant = plant_of p.setup p.workers in let h = p.history.items in
    let up = subst (λ (p : Shown). IsUp p.plant p.history b) (sym c.self.view_is) c.in_ok-allows_frame.ensures.up in
    let room = subst (λ (p : Shown). is_full_for (Bus b) p ≡ false) (sym c.self.view_is)
    c.in_ok-allows_frame.ensures.room in
    let sources = c.sources.ensures.value ∙ ap (λ (x : Planned). x.sources) c.plan.ensures.value in
    let globals = plant.plan.globals in
    let counted : CountsFollow globals plant.plan.sources (Heard b f ∷ h) c.count_message.new.counts.items =
    subst (λ (s : List BoundSource). CountsFollow globals s (Heard b f ∷ h) c.count_message.new.counts.items) sources
    (c.count_message.ensures.follow globals h (subst (λ (s : List BoundSource). CountsFollow globals s h p.counts.items)
    (sym sources)
    says.each_source)) in
    let imaged = image_heard plant b f h c.count_message.new.counts.items p.image c.write_message.new.image
    says.each_variable (writes_same plant b f h c.count_message.new.counts.items counted) c.write_message.ensures.layout
    (λ v. c.write_message.ensures.values v ∙ ap (λ o. newest o (value_of p.image v))
    (ap (λ (x : Planned). input_at x c.deref.result.now b f v) c.plan-2.ensures.value
    ∙ ap (λ (cs : List ℕ). input_at plant.plan cs b f v) c.deref.ensures.value)) c.write_message.ensures.blocks in
    rw (c.push.ensures, c.use_place_of.ensures.used) (heard_says _ _ b f _ _ _ _ _ says up room
    c.use_place_of.ensures.freed
    (c.note_frame.ensures.follows plant h says.each_task says.place) imaged counted
    (c.note_heard.ensures plant f h says.each_bus))
