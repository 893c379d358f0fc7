use Rattle.std.proofs.Common.{◌≡◌, ◌<◌, ◌∙◌, ap, sym, subst, arith}
use Rattle.std.proofs.lemmas.List.{get_or_read}
use Rattle.std.specs.Prelude.{MatchOption}
use Rattle.plantbuses.specs.declared.owed.OwedLevels.{OwedLevels}
use Rattle.plantbuses.specs.AddressSets.{HasNone, IsLeast}
use Rattle.plantbuses.specs.OwedSteps.{IsLeastOwed, addresses_of, owed_on, no_levels}
use Rattle.plantbuses.proofs.OwedBits.{least_is}
use Rattle.plant.specs.Shown.{Shown, plant_of}
use Rattle.plant.proofs.plant.Plant.least_owed.Goals as goal

pub returns : goal.returns
returns c =
    let p = c.self.inside in let says = c.self.invariant in let plant = plant_of p.setup p.workers in
    let b = c.args.bus in let class = c.args.class in let items = p.owed.items in
    let known = subst (λ (s : Shown). b < s.plant.plan.buses) (sym c.self.view_is) c.requires in
    let read = get_or_read items c.from.result c.index.result.now
    (let e = c.from.ensures in let m = says.each_owed.0 in omega arith) c.index.ensures no_levels in
    let here : c.index.result.now ≡ owed_on items b = read ∙ ap (owed_on items) c.from.ensures in
    let least = subst (λ (l : OwedLevels). MatchOption c.least.result (HasNone (addresses_of class l))
    (IsLeast (addresses_of class l))) here c.least.ensures in
    subst (λ (s : Shown). IsLeastOwed s.plant b class s.history c.least.result) c.self.view_is
    (least_is plant b class p.history.items (owed_on items b) c.least.result (says.each_owed.1 b known) least)
