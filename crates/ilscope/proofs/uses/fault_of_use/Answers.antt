use Rattle.ildeclared.specs.Faults.{OfCause}
use Rattle.ildeclared.specs.declared.fault.NameCause.TheVariants.{Unknown, WritesInput}
use Rattle.ildeclared.proofs.Least.{both_next, either_next}
use Rattle.ilscope.specs.UseFaults.{IsUnknownUse, StoresToInput, WritesOutput}
use Rattle.ilscope.proofs.uses.fault_of_use.Goals as goal
use Rattle.std.proofs.Common.{◌⊎◌}

pub returns : goal.returns
returns c p at =
    let tree = c.args.scope.now.tree in
    let used = c.args.used in
    rw (c.lesser_of.ensures, c.lesser_of-written.ensures)
    (both_next c.args.after (OfCause Unknown (λ place. IsUnknownUse tree p place used))
    (OfCause WritesInput (λ place. WritesOutput tree.text p place used ⊎ StoresToInput tree p place used))
    c.unknown_use.result _ (c.unknown_use.ensures p at)
    (either_next c.args.after WritesInput (λ place. WritesOutput tree.text p place used)
    (λ place. StoresToInput tree p place used)
    c.output_written.result c.input_written.result (c.output_written.ensures p at) (c.input_written.ensures p at)))
