use Rattle.std.proofs.Common.{rules}
use Rattle.plantbuses.proofs.LocatedLevels.{free_row}
use Rattle.plantbuses.proofs.outputs.no_levels.Goals as goal

pub returns : goal.returns
returns c =
    free_row c.from.result c.in_ok-levels.levels.items
    (c.in_ok-levels.ensures.items_if_clones_equal (search rules)) c.from.ensures
