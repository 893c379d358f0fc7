use Rattle.std.proofs.Common.{ap, get_or, arith}
use Rattle.ilblocks.specs.Stores.{Store}
use Rattle.ilcode.specs.declared.function.FunctionBody.{FunctionBody}
use Rattle.ilmachine.proofs.FunctionResults.{read_function, result_within, result_small, is_result}
use Rattle.ilmachine.proofs.state.State.left_by.Goals as goal

-- what a list of functions has past its end
abbrev none : FunctionBody
none = record { start = 0; first = 0; inputs = 0; slots = 0 }

pub overflow_add-left : goal.overflow_add-left
overflow_add-left c =
    let code = c.args.code.now in
    let fs = c.functions.result.now in
    let is = read_function code fs c.args.function none c.functions.ensures.value c.requires.there in
    let small = result_small code c.args.self.now c.args.function (get_or fs c.args.function none)
    c.functions.ensures.lawful is in
    omega (arith, small)

pub get-requires : goal.get-requires
get-requires c =
    let code = c.args.code.now in
    let fs = c.functions.result.now in
    let is = read_function code fs c.args.function none c.functions.ensures.value c.requires.there in
    result_within code c.args.self.now c.self.inside.row c.args.function (get_or fs c.args.function none)
    c.functions.ensures.lawful is c.requires.typed (ap (λ (s : Store). s.slots) c.self.view_is)

pub returns : goal.returns
returns c =
    let code = c.args.code.now in
    let fs = c.functions.result.now in
    let is = read_function code fs c.args.function none c.functions.ensures.value c.requires.there in
    is_result code c.args.self.now c.self.inside.row c.args.function (get_or fs c.args.function none) c.get.result
    c.of.result is (ap (λ (s : Store). s.slots) c.self.view_is) c.get.ensures c.of.ensures
