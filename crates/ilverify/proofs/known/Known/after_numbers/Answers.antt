use Rattle.iltypes.specs.declared.operator.Operator.TheVariants as operators
use Rattle.ilverify.proofs.ResultRanges.{verdict_of, sums, differences, products, min_of, max_of}
use Rattle.ilverify.proofs.known.Known.after_numbers.Goals as goal

pub returns-in-Add : goal.returns-in-Add
returns-in-Add c =
    rw (c.in-Add.is, c.fitting.ensures)
    (verdict_of operators.Add _ c.args.left c.args.right c.add.result (sums c.args.left c.args.right)
    c.add.ensures.none c.add.ensures.least)

pub returns-in-Sub : goal.returns-in-Sub
returns-in-Sub c =
    rw (c.in-Sub.is, c.fitting-in-Sub.ensures)
    (verdict_of operators.Sub _ c.args.left c.args.right c.sub.result (differences c.args.left c.args.right)
    c.sub.ensures.none c.sub.ensures.least)

pub returns-in-Mul : goal.returns-in-Mul
returns-in-Mul c =
    rw (c.in-Mul.is, c.fitting-in-Mul.ensures)
    (verdict_of operators.Mul _ c.args.left c.args.right c.mul.result (products c.args.left c.args.right)
    c.mul.ensures.none c.mul.ensures.least)

pub returns-in-Min : goal.returns-in-Min
returns-in-Min c = rw c.in-Min.is (min_of c.args.left c.args.right c.min.result c.min.ensures)

pub returns-in-Max : goal.returns-in-Max
returns-in-Max c = rw c.in-Max.is (max_of c.args.left c.args.right c.max.result c.max.ensures)
