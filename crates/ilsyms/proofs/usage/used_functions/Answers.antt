use Rattle.std.proofs.Common.{◌≡◌, ℕ, ◌+◌, ◌-◌, ◌<◌, Bool, List, [], length, false, true, get_or, sym, ap, ◌∙◌, subst}
use Rattle.std.proofs.Common.{arith}
use Rattle.std.specs.List.{list_any}
use Rattle.std.proofs.Math.ListN.{length-map}
use Rattle.std.proofs.lemmas.List.{get_or_default}
use Rattle.ilscope.specs.Declarations.{declared_functions, declared_programs}
use Rattle.ilplan.specs.Plans.{all_lines}
use Rattle.ilplan.specs.UsageSteps.{AreAdded, AreFound}
use Rattle.ilsyms.specs.FunctionSteps.{Needs, calls_at, calls_of_program, needs_of}
use Rattle.ilsyms.specs.Resolved.{planned_function, planned_functions, planned_instances}
use Rattle.ilsyms.specs.TaskSetSteps.{is_among}
use Rattle.ilsyms.specs.TaskSteps.{instances_of}
use Rattle.ilsyms.specs.Variables.{blocks_of, slots_of}
use Rattle.ilsyms.proofs.FunctionsUsed.{all_called, found_at_first, not_used_more, used_more}
use Rattle.ilsyms.proofs.Lists.{written_back}
use Rattle.ilsyms.proofs.TaskInstances.{number_there}
use Rattle.ilsyms.proofs.usage.used_functions.Goals as goal

pub called_functions-requires : goal.called_functions-requires
called_functions-requires c =
    λ k d below.
    let tree = c.args.scope.now.tree in
    let low = number_there tree c.args.instances.now c.requires.there k d below in
    let calls = ap (λ (ns : List (List ℕ)). length ns) c.requires.calls in
    let size = length-map (declared_programs tree) (calls_of_program tree) in
    omega (arith, low, calls, size)

pub loop-number-init : goal.loop-number-init
loop-number-init c =
    let tree = c.args.scope.now.tree in
    let given = c.args.instances.now in
    let is = instances_of tree given in
    let many = ap (λ (ns : List Needs). length ns) c.requires.needs
    ∙ length-map (declared_functions tree) (needs_of tree) in
    found_at_first tree (all_lines (planned_instances tree is))
    (λ n. list_any (λ i. is_among n (calls_at c.args.calls.now i.program)) given) (length c.args.needs.now)
    c.in_ok-used.used.items
    (λ n. ap (λ (ns : List (List ℕ)). list_any (λ i. is_among n (calls_at ns i.program)) given) c.requires.calls
    ∙ all_called tree (slots_of tree is) (blocks_of is) given n)
    many c.in_ok-used.ensures

pub loop-number-preserved-then-index : goal.loop-number-preserved-then-index
loop-number-preserved-then-index c =
    let tree = c.args.scope.now.tree in
    let lines = all_lines (planned_instances tree (instances_of tree c.args.instances.now)) in
    let i = c.loop-number.number - 1 in
    let on : c.loop-number.number ≡ i + 1 = omega (arith, c.loop-number-test.true) in
    let size = ap (λ (ns : List Needs). length ns) c.requires.needs in
    let all = length-map (declared_functions tree) (needs_of tree) in
    let below : i < length (declared_functions tree) = omega (arith, on, size, all, c.loop-number.auto.number) in
    let one = c.index-needs-number.result in
    let marks = c.loop-number.used.items in
    let was = subst (λ (n : ℕ). AreFound lines (planned_functions tree) n marks) on c.loop-number.invariant in
    let long = ap (λ (bs : List Bool). length bs) c.deref_mut.ensures.value in
    let whole = written_back marks c.mark.new.used c.loop-number.used.len
    (sym (sym long ∙ c.deref_mut.ensures.len)) (c.mark.ensures.many ∙ long) in
    let called : List ℕ → ℕ → Bool = λ ns n. is_among n ns in
    subst (λ (bs : List Bool). AreFound lines (planned_functions tree) i bs) (sym whole)
    (used_more tree lines i one below
    (c.index-needs-number.is ∙ ap (λ (ns : List Needs). get_or ns i one) c.requires.needs) marks was c.mark.new.used
    (get_or_default marks i false true (let many = was.many in let other = length-map (declared_functions tree)
    (planned_function tree) in omega (arith, many, other, below)) ∙ ap (λ b. get_or marks i b) (sym c.if-index.true)
    ∙ sym c.index.ensures ∙ c.if-index.true)
    (subst (λ (bs : List Bool). AreAdded i (called one.calls) bs c.mark.new.used) c.deref_mut.ensures.value
    (subst (λ (ns : List ℕ). AreAdded i (called ns) c.deref_mut.result.now c.mark.new.used) c.calls.ensures.value
    c.mark.ensures)))

pub loop-number-preserved : goal.loop-number-preserved
loop-number-preserved c =
    let tree = c.args.scope.now.tree in
    let lines = all_lines (planned_instances tree (instances_of tree c.args.instances.now)) in
    let i = c.loop-number.number - 1 in
    let on : c.loop-number.number ≡ i + 1 = omega (arith, c.loop-number-test.true) in
    let size = ap (λ (ns : List Needs). length ns) c.requires.needs in
    let all = length-map (declared_functions tree) (needs_of tree) in
    let below : i < length (declared_functions tree) = omega (arith, on, size, all, c.loop-number.auto.number) in
    let one : Needs = get_or c.args.needs.now i (record { calls = []; slots = []; words = []; uses = [] }) in
    let was = subst
    (λ (n : ℕ). AreFound lines (planned_functions tree) n c.loop-number.used.items) on c.loop-number.invariant in
    not_used_more tree lines i one below
    (get_or_default c.args.needs.now i (record { calls = []; slots = []; words = []; uses = [] }) one
    (omega (arith, on, c.loop-number.auto.number))
    ∙ ap (λ (ns : List Needs). get_or ns i one) c.requires.needs)
    c.loop-number.used.items was
    (ap (λ b. get_or c.loop-number.used.items i b) (sym c.if-index.false)
    ∙ sym c.index.ensures ∙ c.if-index.false)
