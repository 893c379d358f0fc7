use Rattle.std.proofs.Common.{◌-◌, []}
use Rattle.buslink.specs.Attempts.{Spells}
use Rattle.buslink.specs.PerformingSteps.{IsTried}
use Rattle.buslink.proofs.Trying.{SpellOne, performed, spare_kept}
use Rattle.buslink.proofs.Failures.{failed_where_risen}
use Rattle.buslink.proofs.performing.perform.Goals as goal

pub returns-clause-bus : goal.returns-clause-bus
returns-clause-bus g c =
    let spells : Spells c.args.transaction.now c.args.tries c.try_again.new.marks.items c.in-Some.report =
    rw c.as_slice.ensures.value at c.in-Some.ensures.report in
    let tried : IsTried c.args.transaction.now (c.args.tries - 1) [] c.try_again.new.marks.items
    (g.B.Bus.log c.args.bus.now) (g.B.Bus.log c.try_again.new.bus) =
    rw c.new-marks.ensures at c.try_again.ensures in
    let one : SpellOne c.args.transaction.now c.args.tries c.try_again.new.marks.items =
    rw c.as_slice.ensures.value at c.in-Some.ensures.one in
    performed c.args.transaction.now c.args.tries c.try_again.new.marks.items c.in-Some.report
    (g.B.Bus.log c.args.bus.now) (g.B.Bus.log c.try_again.new.bus) one tried spells

pub returns-clause-spare_kept : goal.returns-clause-spare_kept
returns-clause-spare_kept g c =
    let spells : Spells c.args.transaction.now c.args.tries c.try_again.new.marks.items c.in-Some.report =
    rw c.as_slice.ensures.value at c.in-Some.ensures.report in
    let tried : IsTried c.args.transaction.now (c.args.tries - 1) [] c.try_again.new.marks.items
    (g.B.Bus.log c.args.bus.now) (g.B.Bus.log c.try_again.new.bus) =
    rw c.new-marks.ensures at c.try_again.ensures in
    let one : SpellOne c.args.transaction.now c.args.tries c.try_again.new.marks.items =
    rw c.as_slice.ensures.value at c.in-Some.ensures.one in
    spare_kept c.args.transaction.now c.args.tries c.try_again.new.marks.items c.in-Some.report
    (g.B.Bus.log c.args.bus.now) (g.B.Bus.log c.try_again.new.bus) one tried spells

pub returns-clause-failed : goal.returns-clause-failed
returns-clause-failed g c =
    let spells : Spells c.args.transaction.now c.args.tries c.try_again.new.marks.items c.in-Some.report =
    rw c.as_slice.ensures.value at c.in-Some.ensures.report in
    failed_where_risen c.args.transaction.now c.args.tries c.try_again.new.marks.items c.in-Some.report
    (g.B.Bus.log c.args.bus.now) (g.B.Bus.log c.try_again.new.bus) spells (returns-clause-bus g c)
