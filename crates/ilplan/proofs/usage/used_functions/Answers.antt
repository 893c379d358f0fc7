use Rattle.std.proofs.Common.{◌≡◌, ℕ, List, ◌++◌, Bool, length, take, drop, subst, sym, ap, ◌∙◌, arith}
use Rattle.std.proofs.lemmas.List.{append-nil, drop_all, take_all}
use Rattle.ilplan.specs.Functions.{calls}
use Rattle.ilplan.specs.UsageSteps.{AreAdded}
use Rattle.ilplan.proofs.CallsAdded.{instance_added}
use Rattle.ilplan.proofs.usage.used_functions.Goals as goal

-- what is written back to a vector is all of it
written_back : (n : ℕ) (after before : List Bool) → length after ≡ length before → n ≡ length before
    → take n (after ++ drop (length after) before) ≡ after
written_back n after before same long =
    ap (λ rest. take n (after ++ rest)) (drop_all (length after) before (omega arith))
    ∙ (ap (take n) (append-nil after) ∙ take_all n after (omega arith))

pub loop-instance-preserved : goal.loop-instance-preserved
loop-instance-preserved c =
    let used = c.loop-instance.used in
    let instance = c.instance-item.result in
    let was : AreAdded (length c.args.functions.now) (calls instance.lines) c.deref_mut.result.now c.add_lines.new.used =
    rw c.lines.ensures.value at c.add_lines.ensures in
    let added = subst (λ before. AreAdded (length c.args.functions.now) (calls instance.lines) before c.add_lines.new.used)
    c.deref_mut.ensures.value was in
    let all = written_back used.len c.add_lines.new.used used.items added.many used.ok.0 in
    instance_added (length c.args.functions.now) c.args.instances.now c.loop-instance.instance-index instance _ _ _
    c.loop-instance-test.true c.instance-item.is c.loop-instance.invariant
    (subst (AreAdded (length c.args.functions.now) (calls instance.lines) used.items) (sym all) added)
