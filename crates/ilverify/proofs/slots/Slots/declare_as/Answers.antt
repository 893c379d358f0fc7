use Rattle.std.proofs.Common.{◌≡◌, ◌∙◌, sym, ap, Some}
use Rattle.std.specs.Prelude.{slice_get}
use Rattle.ilverify.specs.declared.known.Known.{Known}
use Rattle.ilverify.specs.Knowns.{known_of_type}
use Rattle.ilverify.proofs.SlotResets.{set_same}
use Rattle.ilverify.proofs.slots.Slots.declare_as.Goals as goal

pub returns-in-Some-clause-ok : goal.returns-in-Some-clause-ok
returns-in-Some-clause-ok c =
    let there : slice_get c.args.self.now c.args.slot ≡ Some (known_of_type c.args.declared) =
    sym c.get.ensures.value ∙ c.in-Some.is ∙ ap (λ (k : Known). Some k) (c.says.ensures.0 c.if-says.true) in
    sym (set_same c.args.self.now c.args.slot (known_of_type c.args.declared) there)
