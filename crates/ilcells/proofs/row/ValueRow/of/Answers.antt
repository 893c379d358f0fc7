use Rattle.std.proofs.Common.{◌∙◌, ◌+◌, ap, take, false, List}
use Rattle.iltypes.specs.declared.value.Value.{Value}
use Rattle.iltypes.specs.declared.value.Value.TheVariants as values
use Rattle.ilcells.specs.Banks.{kinds_of}
use Rattle.ilcells.proofs.RowWrites.{kind_there, kinds_set, written_more}
use Rattle.ilcells.proofs.row.ValueRow.of.Goals as goal

pub set-requires : goal.set-requires
set-requires c =
    let l = c.loop-slot in
    kind_there l.row c.args.values.now l.slot (values.Bool false) l.invariant.kinds c.loop-slot-test.true

pub loop-slot-preserved : goal.loop-slot-preserved
loop-slot-preserved c =
    let l = c.loop-slot in
    let vs = c.args.values.now in
    let none = values.Bool false in
    record {
      kinds = ap kinds_of c.set.ensures ∙ kinds_set l.row vs l.slot none l.invariant.kinds c.loop-slot-test.true;
      written = ap (λ (r : List Value). take (l.slot + 1) r) c.set.ensures
          ∙ written_more l.row vs l.slot none l.invariant.kinds c.loop-slot-test.true l.invariant.written;
    }
