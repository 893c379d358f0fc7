use Rattle.std.proofs.Common.{List, sym, subst}
use Rattle.iltypes.specs.declared.value.Value.{Value}
use Rattle.ilblocks.specs.Stores.{Lasting}
use Rattle.ilplan.specs.Beginnings.{MayBegin}
use Rattle.livekeep.specs.KeptPlans.{global_firsts}
use Rattle.livekeep.proofs.Begun.{may_begin}
use Rattle.livekeep.proofs.first_values.first_values_of.Goals as goal

pub returns-clause-may_begin : goal.returns-clause-may_begin
returns-clause-may_begin c =
    let plan = c.args.plan.now in
    let kept = c.args.kept.now.values in
    let tasks = c.in_ok-tasks.tasks.items in
    subst (λ (globals : List Value). MayBegin plan globals tasks) (sym c.in_ok-globals.ensures)
    (subst (λ (states : List Lasting). MayBegin plan (global_firsts plan kept) states) (sym c.in_ok-tasks.ensures)
    (may_begin plan kept c.buses-lawful.ensures.lawful))
