use Rattle.ilverify.proofs.FunctionRanges.{function_refused}
use Rattle.ilverify.proofs.known.Known.after_function.Goals as goal

pub returns-in-Bool-clause-refused : goal.returns-in-Bool-clause-refused
returns-in-Bool-clause-refused c =
    rw c.in-Bool.is (function_refused c.args.function _ c.function_of_truth.result c.function_of_truth.ensures)

pub returns-in-Int-clause-refused : goal.returns-in-Int-clause-refused
returns-in-Int-clause-refused c =
    rw c.in-Int.is (function_refused c.args.function _ c.function_of_number.result c.function_of_number.ensures)
