use Rattle.std.proofs.Common.{ℕ, ◌+◌, Bool, List, length, take, replicate, false, sym, ap, ◌∙◌, subst}
use Rattle.std.specs.List.{list_any}
use Rattle.ilplan.specs.UsageSteps.{AreAdded}
use Rattle.ilplan.proofs.CallsAdded.{both_added}
use Rattle.ilsyms.specs.FunctionSteps.{calls_at}
use Rattle.ilsyms.specs.TaskSetSteps.{is_among}
use Rattle.ilsyms.specs.declared.tasks.TaskInstance.{TaskInstance}
use Rattle.ilsyms.proofs.FunctionsUsed.{calls_more}
use Rattle.ilsyms.proofs.Lists.{written_back}
use Rattle.ilsyms.proofs.usage.called_functions.Goals as goal

pub loop-instance-preserved : goal.loop-instance-preserved
loop-instance-preserved c =
    let calls = c.args.calls.now in
    let given = c.args.instances.now in
    let i = c.loop-instance.instance-index in
    let below = c.loop-instance-test.true in
    let zeros = replicate c.args.count false in
    let called : List TaskInstance → ℕ → Bool =
    λ is n. list_any (λ x. is_among n (calls_at calls x.program)) is in
    let own = c.as_slice.result.now in
    let long = ap (λ (bs : List Bool). length bs) c.deref_mut.ensures.value in
    let whole = written_back c.loop-instance.called.items c.mark.new.used c.loop-instance.called.len
    (sym (sym long ∙ c.deref_mut.ensures.len)) (c.mark.ensures.many ∙ long) in
    let added = both_added c.args.count (called (take i given)) (λ n. is_among n own) (called (take (i + 1) given))
    zeros c.loop-instance.called.items c.mark.new.used
    (calls_more calls given i _ own _ below (c.requires i _ below)
    (c.as_slice.ensures.value ∙ c.index-calls-instance.is))
    c.loop-instance.invariant
    (subst (λ (bs : List Bool). AreAdded c.args.count (λ n. is_among n own) bs c.mark.new.used)
    c.deref_mut.ensures.value c.mark.ensures) in
    subst (λ (bs : List Bool). AreAdded c.args.count (called (take (i + 1) given)) zeros bs) (sym whole) added
