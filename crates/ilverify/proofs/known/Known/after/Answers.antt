use Rattle.std.proofs.Common.{Err}
use Rattle.ilverify.specs.declared.cause.Cause.TheVariants.{WrongType}
use Rattle.ilverify.specs.declared.known.Known.TheVariants as knowns
use Rattle.ilverify.proofs.ResultCauses.{refused, wrong_type, mixed}
use Rattle.ilverify.proofs.known.Known.after.Goals as goal

pub returns-in-Bool-Bool-clause-refused : goal.returns-in-Bool-Bool-clause-refused
returns-in-Bool-Bool-clause-refused c =
    rw (c.in-Bool-Bool.is-0, c.in-Bool-Bool.is-1) (refused c.args.operator _ _ c.after_truths.result
    c.after_truths.ensures)

pub returns-in-Int-Int-clause-refused : goal.returns-in-Int-Int-clause-refused
returns-in-Int-Int-clause-refused c =
    rw (c.in-Int-Int.is-0, c.in-Int-Int.is-1) (refused c.args.operator _ _ c.after_numbers.result
    c.after_numbers.ensures)

pub returns-in-Bool-Int-clause-refused : goal.returns-in-Bool-Int-clause-refused
returns-in-Bool-Int-clause-refused c =
    rw (c.in-Bool-Int.is-0, c.in-Bool-Int.is-1)
    (refused c.args.operator _ _ (Err WrongType)
    (wrong_type c.args.operator knowns.Bool (knowns.Int _) (mixed c.args.operator c.in-Bool-Int.field-0-1)))
