use Rattle.std.proofs.Common.{◌≡◌, ◌<◌, length, subst, sym, arith, ◌∷◌, get_or-set_same, ◌∙◌}
use Rattle.std.proofs.lemmas.List.{get_or_default}
use Rattle.std.specs.Prelude.{slice_index_or}
use Rattle.plantevents.specs.declared.event.Event.TheVariants.{Heard}
use Rattle.plant.specs.KeptSteps.{IsCount, source_in}
use Rattle.plant.proofs.messages.count_for.Goals as goal

pub returns-clause-here : goal.returns-clause-here
returns-clause-here c globals h was =
    let counts = c.args.counts.now.items in let i = c.args.i in
    let inside : i < length counts = omega arith in
    let is : slice_index_or counts i 0 ≡ c.index.result.now = get_or_default counts i 0 _ inside ∙ sym
    c.index.ensures in
    subst (IsCount globals (source_in c.args.sources.now i) (Heard c.args.bus c.args.frame ∷ h))
    (sym (get_or-set_same counts i c.count_after.result 0 inside))
    (c.count_after.ensures globals h (subst (IsCount globals (source_in c.args.sources.now i) h) is was))
