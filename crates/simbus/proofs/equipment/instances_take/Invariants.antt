use Rattle.std.proofs.Common.{◌≡◌, ◌++◌, take, drop, map}
use Rattle.simbus.specs.Kept.{live_instance_after_fields}
use Rattle.simbus.proofs.equipment.instances_take.Given as goal

abbrev pub invariant-loop-live : goal.invariant-loop-live
invariant-loop-live l =
    take l.live-index l.instances ++ map (live_instance_after_fields l.is_pair l.dtr0 l.fields)
    (drop l.live-index l.instances)
    ≡ map (live_instance_after_fields l.is_pair l.dtr0 l.fields) l.initial.instances
