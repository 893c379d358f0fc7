use Rattle.std.proofs.Common.{◌∙◌, sym}
use Rattle.plantbuses.proofs.StoredLevels.{place_is, place_known}
use Rattle.plantbuses.proofs.levels.level_of.Goals as goal

pub returns-clause-value : goal.returns-clause-value
returns-clause-value c =
    c.level_place.ensures.value
    ∙ sym (place_is c.args.plan.now c.args.global c.global.result.now c.global.ensures.value)

pub returns-clause-known : goal.returns-clause-known
returns-clause-known c =
    place_known c.args.plan.now c.args.global c.global.result.now c.level_place.result
    c.buses-lawful.ensures.lawful c.global.ensures.value c.level_place.ensures.value
