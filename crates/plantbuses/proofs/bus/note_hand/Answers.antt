use Rattle.std.proofs.Common.{◌≡◌, ◌∙◌, ap, subst, arith}
use Rattle.std.proofs.lemmas.List.{get_or_read}
use Rattle.plantbuses.specs.KeptSteps.{KeptBus, bus_at, no_bus}
use Rattle.plantbuses.specs.HandingSteps.{IsAfterHand}
use Rattle.plantbuses.proofs.Handing.{buses_handed}
use Rattle.plantbuses.proofs.bus.note_hand.Goals as goal

pub returns : goal.returns
returns c p h follows at =
    let items = c.args.buses.now.items in
    let before = c.index_mut.result.now in
    let read = get_or_read items c.from.result before (let e = c.from.ensures in let k = c.requires.known in
    omega arith) c.index_mut.ensures.value no_bus in
    let here : before ≡ bus_at items c.args.bus = read ∙ ap (bus_at items) c.from.ensures in
    let is = subst (λ (b : KeptBus). IsAfterHand c.args.place c.args.next b c.note_hand.new.self) here
    c.note_hand.ensures in
    rw c.from.ensures (buses_handed p c.args.bus h c.args.place c.args.next items c.note_hand.new.self c.requires.known
    is c.requires.class follows at)
