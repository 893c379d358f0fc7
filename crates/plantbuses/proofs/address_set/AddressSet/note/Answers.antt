use Rattle.std.proofs.Common.{ap, sym, ◌∙◌, arith}
use Rattle.std.specs.Int.{w128, bit_at}
use Rattle.std.proofs.lemmas.Nat.Bits.{bit_at_set_same, bit_at_set_other, bit_at_clear_same, bit_at_clear_other}
use Rattle.plantbuses.specs.AddressSets.{one_if}
use Rattle.plantbuses.proofs.address_set.AddressSet.note.Goals as goal

pub returns-then-is_in-clause-here : goal.returns-then-is_in-clause-here
returns-then-is_in-clause-here c =
    bit_at_set_same w128 c.self.inside.bits c.args.address (omega arith) ∙ ap one_if (sym c.if-is_in.true)

pub returns-then-is_in-clause-others : goal.returns-then-is_in-clause-others
returns-then-is_in-clause-others c a lt ne =
    bit_at_set_other w128 c.self.inside.bits c.args.address (omega arith) a ne
    ∙ ap (λ (n : _). bit_at n a) c.self.view_is

pub returns-else-is_in-clause-here : goal.returns-else-is_in-clause-here
returns-else-is_in-clause-here c =
    bit_at_clear_same w128 c.self.inside.bits c.args.address (omega arith) ∙ ap one_if (sym c.if-is_in.false)

pub returns-else-is_in-clause-others : goal.returns-else-is_in-clause-others
returns-else-is_in-clause-others c a lt ne =
    bit_at_clear_other w128 c.self.inside.bits c.args.address (omega arith) a lt ne
    ∙ ap (λ (n : _). bit_at n a) c.self.view_is

pub invariant_of-self : goal.invariant_of-self
invariant_of-self c a past lt =
    bit_at_set_other w128 c.self.inside.bits c.args.address (omega arith) a (λ e. absurd (omega arith))
    ∙ c.self.invariant a past lt

pub invariant_of-self-else-is_in : goal.invariant_of-self-else-is_in
invariant_of-self-else-is_in c a past lt =
    bit_at_clear_other w128 c.self.inside.bits c.args.address (omega arith) a lt (λ e. absurd (omega arith))
    ∙ c.self.invariant a past lt
