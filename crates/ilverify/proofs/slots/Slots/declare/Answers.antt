use Rattle.std.proofs.Common.{◌≡◌, ◌∙◌, sym}
use Rattle.std.specs.Prelude.{slice_set}
use Rattle.std.proofs.lemmas.Result.{on_ok_weaker}
use Rattle.ilverify.specs.Knowns.{known_of_type}
use Rattle.ilverify.proofs.SlotResets.{reset_past, reset_one}
use Rattle.ilverify.proofs.slots.Slots.declare.Goals as goal

pub returns-in_default-clause-ok : goal.returns-in_default-clause-ok
returns-in_default-clause-ok c =
    sym (reset_past c.args.slot c.args.types.now c.args.self.now (sym c.type_at.ensures ∙ c.in_default.is))

pub returns-clause-ok : goal.returns-clause-ok
returns-clause-ok c =
    let there = sym c.type_at.ensures ∙ c.in-Some.is in
    on_ok_weaker c.declare_as.result
    (λ (f : c.declare_as.new.self ≡ slice_set c.args.self.now c.args.slot (known_of_type c.in-Some.declared)).
    f ∙ sym (reset_one c.args.slot c.args.types.now c.args.self.now c.in-Some.declared there))
    c.declare_as.ensures.ok
