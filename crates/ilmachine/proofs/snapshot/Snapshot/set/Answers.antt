use Rattle.std.proofs.Common.{List, sym, subst}
use Rattle.std.specs.Arc.{arc_value}
use Rattle.iltypes.specs.declared.value.Value.{Value}
use Rattle.iltypes.specs.Values.{AreOf}
use Rattle.ilverify.specs.Listings.{lasting_types}
use Rattle.ilmachine.specs.Snapshots.{ScanStart, MayHave}
use Rattle.ilmachine.proofs.RowKinds.{may_set, set_slot}
use Rattle.ilmachine.proofs.snapshot.Snapshot.set.Goals as goal

pub set-requires : goal.set-requires
set-requires c =
    let f = c.self.inside in
    let may = subst (λ (s : ScanStart). MayHave (lasting_types s.verified.code) c.args.slot c.args.value)
    (sym c.self.view_is) c.requires in
    may_set f.row (lasting_types (arc_value f.prepared).code) c.args.slot c.args.value c.self.invariant.values may

pub invariant_of-self : goal.invariant_of-self
invariant_of-self c =
    let f = c.self.inside in
    let slots = lasting_types (arc_value f.prepared).code in
    let may = subst (λ (s : ScanStart). MayHave (lasting_types s.verified.code) c.args.slot c.args.value)
    (sym c.self.view_is) c.requires in
    record {
      values = subst (λ (vs : List Value). AreOf vs slots) (sym c.set.ensures)
          (set_slot f.row slots c.args.slot c.args.value c.self.invariant.values may);
      blocks = c.self.invariant.blocks;
    }
