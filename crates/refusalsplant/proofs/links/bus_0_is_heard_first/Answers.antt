use Rattle.std.proofs.Common.{◌≡◌, ◌<◌, ◌++◌, ◌∷◌, List, Result, Ok, Err, OnOk, length, map, arith}
use Rattle.std.proofs.lemmas.List.{length-map}
use Rattle.plantevents.specs.declared.event.Event.{Event}
use Rattle.plantdriving.specs.Driven.{IsHeardFirst}
use Rattle.refusalsplant.specs.Hearings.{IsOfHearing}
use Rattle.refusalsplant.proofs.HeardFirst.{heard_first}
use Rattle.refusalsplant.proofs.Results.{on_ok}
use Rattle.refusalsplant.proofs.links.bus_0_is_heard_first.Goals as goal

pub returns : goal.returns
returns g c =
    let p = c.args.plant.now in
    let q = c.settle.new.plant in
    let before = map g.B.Bus.log c.args.lines.now.items in
    let after = map g.B.Bus.log c.settle.new.lines.items in
    let there : 0 < length before =
    let many = length-map c.args.lines.now.items g.B.Bus.log in
    let count = c.requires.count in
    let known = c.requires.known in
    omega arith in
    on_ok (IsHeardFirst p q before after)
    ((e : Event) (later : List Event) → q.history ≡ later ++ e ∷ p.history → IsOfHearing 0 e) c.settle.result
    c.settle.ensures.heard (λ first.
    heard_first p q before after (map g.B.Bus.log c.args.firsts.now.items) first c.requires.linked there c.requires.known
    c.requires.up c.requires.comes)
