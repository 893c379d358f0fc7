use Rattle.std.proofs.Common.{◌∙◌, ◌≤◌, ◌+◌, List, sym, ap, arith, refl, inl, inr}
use Rattle.ilverify.specs.declared.known.Known.{Known}
use Rattle.ilverify.specs.Rules.{reset}
use Rattle.ilverify.proofs.SlotResets.{reset_none, reset_more, reset_ends}
use Rattle.ilverify.proofs.slots.Slots.declared.Goals as goal

pub loop-slot-init : goal.loop-slot-init
loop-slot-init c = record {
  from = omega arith;
  to = inl refl;
  is = c.in_ok-slots.ensures
      ∙ sym (reset_none c.args.from c.args.from c.args.types.now c.args.self.now (omega arith));
}

pub loop-slot-preserved : goal.loop-slot-preserved
loop-slot-preserved c =
    let i = c.loop-slot.invariant in
    let slot = c.loop-slot.slot in
    record {
      from = omega (arith, i.from);
      to = inr (omega (arith, c.loop-slot-test.true));
      is = c.in_ok-declare.ensures.ok
          ∙ ap (λ (slots : List Known). reset slot (slot + 1) c.args.types.now slots) i.is
          ∙ reset_more c.args.from slot c.args.types.now c.args.self.now i.from;
    }

pub returns : goal.returns
returns c =
    let i = c.loop-slot.invariant in
    let past : c.args.to ≤ c.loop-slot.slot = omega (arith, c.loop-slot-test.false) in
    reset_ends c.args.from c.loop-slot.slot c.args.to c.args.types.now c.args.self.now c.loop-slot.slots i.to past i.is
