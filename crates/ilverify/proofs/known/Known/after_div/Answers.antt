use Rattle.std.proofs.Common.{pos, inl, inr}
use Rattle.iltypes.specs.Ranges.{Holds}
use Rattle.iltypes.specs.declared.operator.Operator.TheVariants as operators
use Rattle.ilverify.proofs.ResultRanges.{div_by_zero, verdict_of, quotients}
use Rattle.ilverify.proofs.known.Known.after_div.Goals as goal

pub returns-then-contains : goal.returns-then-contains
returns-then-contains c = div_by_zero c.args.left c.args.right (c.contains.ensures.0 c.if-contains.true)

pub returns : goal.returns
returns c =
    let n : ¬ Holds c.args.right (pos 0) = λ h. let t = c.contains.ensures.1 h in let f = c.if-contains.false in absurd
    (cc) in
    let none = c.div.ensures.none in
    rw c.fitting.ensures
    (verdict_of operators.Div _ c.args.left c.args.right c.div.result (quotients c.args.left c.args.right n)
    (λ e. elim (none.0 e) [ inl h ↦ absurd (n h) | inr l ↦ l ], λ l. none.1 (inr l))
    c.div.ensures.least)
