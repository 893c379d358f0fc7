use Rattle.std.proofs.Common.{◌≡◌, ◌++◌, take, drop, map}
use Rattle.simbus.specs.Kept.{gear_after_fields}
use Rattle.simbus.proofs.equipment.gears_take.Given as goal

abbrev pub invariant-loop-live : goal.invariant-loop-live
invariant-loop-live l =
    take l.live-index l.gears ++ map (gear_after_fields l.is_pair l.fields) (drop l.live-index l.gears)
    ≡ map (gear_after_fields l.is_pair l.fields) l.initial.gears
