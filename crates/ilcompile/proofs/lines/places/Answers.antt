use Rattle.std.proofs.Common.{List, refl}
use Rattle.std.specs.Prelude.{flat_map}
use Rattle.ilsource.specs.Words.{places_in}
use Rattle.ilplan.specs.Plans.{PlannedInstance}
use Rattle.ilcompile.specs.Layout.{places_of_programs, programs_of}
use Rattle.ilcompile.proofs.TwoPasses.{one_joined}
use Rattle.ilcompile.proofs.lines.places.Goals as goal

pub loop-instance-preserved : goal.loop-instance-preserved
loop-instance-preserved c =
    one_joined (λ (left : List PlannedInstance). places_of_programs (programs_of left)) c.args.instances.now
    c.loop-instance.instance-index c.instance-item.result (flat_map places_in c.instance-item.result.lines)
    c.loop-instance.places.items c.push_places.new.places.items _ c.loop-instance-test.true c.instance-item.is refl
    c.loop-instance.invariant (rw c.lines.ensures.value at c.in_ok-push_places.ensures)
