use Rattle.std.proofs.Common.{◌≡◌, drop}
use Rattle.std.specs.Prelude.{slice_get}
use Rattle.std.specs.List.{filter_map}
use Rattle.ilplan.specs.declared.global.Location.TheVariants.{Level}
use Rattle.commissioning.specs.Differences.{level_at}
use Rattle.commissioning.proofs.declared.first_level_at.Given as goal

-- no variable so far sends a level there
abbrev pub invariant-loop-number : goal.invariant-loop-number
invariant-loop-number l =
    slice_get (filter_map (level_at (Level l.bus l.address)) (drop l.number l.plan.globals)) 0
    ≡ slice_get (filter_map (level_at (Level l.bus l.address)) l.plan.globals) 0
