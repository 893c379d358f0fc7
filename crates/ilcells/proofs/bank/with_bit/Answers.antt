use Rattle.std.proofs.Common.{◌∙◌, sym, ap, w64}
use Rattle.std.specs.Prelude.{◌==◌}
use Rattle.std.proofs.lemmas.Nat.Bits.{bit_at_set_same, bit_at_set_other, bit_at_clear_same, bit_at_clear_other}
use Rattle.ilcells.proofs.bank.with_bit.Goals as goal

pub returns-then-truth-clause-written : goal.returns-then-truth-clause-written
returns-then-truth-clause-written c =
    ap (λ n. n == 1) (bit_at_set_same w64 c.args.word c.args.place c.requires) ∙ sym c.if-truth.true

pub returns-then-truth-clause-others : goal.returns-then-truth-clause-others
returns-then-truth-clause-others c =
    λ i h apart. bit_at_set_other w64 c.args.word c.args.place c.requires i apart

pub returns-else-truth-clause-written : goal.returns-else-truth-clause-written
returns-else-truth-clause-written c =
    ap (λ n. n == 1) (bit_at_clear_same w64 c.args.word c.args.place c.requires) ∙ sym c.if-truth.false

pub returns-else-truth-clause-others : goal.returns-else-truth-clause-others
returns-else-truth-clause-others c =
    λ i h apart. bit_at_clear_other w64 c.args.word c.args.place c.requires i h apart
