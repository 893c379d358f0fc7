use Rattle.std.proofs.Common.{arith, ◌≡◌, ◌<◌, ◌∙◌, refl, sym, ap, subst, Option, Some, None, is_some, false}
use Rattle.std.proofs.lemmas.List.{get_or_read}
use Rattle.plantevents.specs.Histories.{OpenHand, hand as open_hand}
use Rattle.plantbuses.specs.KeptSteps.{KeptBus, bus_at, no_bus}
use Rattle.plant.specs.Shown.{Shown}
use Rattle.plant.proofs.plant.Plant.handout_for.Goals as goal

none_open : (found : Option OpenHand) → is_some found ≡ false → found ≡ None
none_open None h = refl
none_open (Some transaction) h = absurd (cc)

pub returns-clause-idle : goal.returns-clause-idle
returns-clause-idle c =
    let buses = c.self.inside.buses.items in
    let known = subst (λ (p : Shown). c.args.bus < p.plant.plan.buses) (sym c.self.view_is)
    c.in_ok-is_up.ensures.allowed.known in
    let held = (c.self.invariant.each_bus.1 c.args.bus known).handed in
    let none : c.hand.result.now ≡ None = none_open c.hand.result.now (sym c.is_some.ensures ∙ c.if-is_some.false) in
    let read = get_or_read buses c.from.result c.index.result.now
    (let e = c.from.ensures in let m = c.self.invariant.each_bus.0 in omega arith) c.index.ensures no_bus in
    let found : c.index.result.now ≡ bus_at buses c.args.bus = read ∙ ap (bus_at buses) c.from.ensures in
    subst (λ (p : Shown). open_hand c.args.bus p.history ≡ None) c.self.view_is
    (sym held ∙ (sym (ap (λ (bus : KeptBus). bus.hand) found) ∙ (sym c.hand.ensures.value ∙ none)))
