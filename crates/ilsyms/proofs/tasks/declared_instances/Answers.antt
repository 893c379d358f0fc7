use Rattle.std.proofs.Common.{◌≡◌, ◌<◌, ◌≤◌, length, ap, sym, ◌∙◌, List, [], ◌∷◌, ◌++◌, map}
use Rattle.std.specs.Prelude.{ℕ, filter_map, Some}
use Rattle.std.proofs.lemmas.List.{map-append}
use Rattle.ilsource.specs.declared.configuration.InstanceDeclaration.{InstanceDeclaration}
use Rattle.ilsource.specs.declared.configuration.TaskDeclaration.{TaskDeclaration}
use Rattle.ilsyms.specs.declared.tasks.Assigned.{Assigned}
use Rattle.ilsyms.specs.declared.tasks.TaskInstance.{TaskInstance}
use Rattle.ilsyms.specs.TaskSteps.{instance_at, assigned, given_to}
use Rattle.ilsyms.specs.Tasks.{instances_in}
use Rattle.ilsyms.proofs.TaskInstances.{row_more, rows_all, instances_stand, declared_rows}
use Rattle.ilsyms.proofs.tasks.declared_instances.Goals as goal

pub loop-number-preserved : goal.loop-number-preserved
loop-number-preserved c =
    let tree = c.args.scope.now.tree in
    let declared = c.args.configuration.now.instances in
    let n = c.loop-number.number in
    let below : n < length c.args.configuration.now.tasks =
    rw (sym c.tasks-number-end.ensures.value) c.loop-number-test.true
    in
    let given : c.in_ok-instances_in.field-0 ≡ filter_map (given_to n) (filter_map (assigned tree) declared) =
    c.in_ok-instances_in.ensures
    ∙ ap (λ (given : List Assigned). filter_map (given_to n) given)
    (c.deref.ensures.value ∙ c.in_ok-assigned.ensures
    ∙ ap (λ (is : List InstanceDeclaration). filter_map (assigned tree) is) c.instances.ensures.value)
    in
    ap (λ (ts : List (List TaskInstance)). map (map (instance_at tree)) ts) c.in_ok-push.ensures.items
    ∙ map-append (map (instance_at tree)) c.loop-number.tasks.items (c.in_ok-instances_in.field-0 ∷ [])
    ∙ (λ j. c.loop-number.invariant j
    ++ (ap (λ (ts : List TaskInstance). map (instance_at tree) ts) given ∙ instances_stand tree n declared) j ∷ [])
    ∙ sym (row_more (λ k. map Some (instances_in tree declared k)) c.args.configuration.now.tasks n below)

pub returns : goal.returns
returns c =
    let tree = c.args.scope.now.tree in
    let configuration = c.args.configuration.now in
    let all : length configuration.tasks ≤ c.loop-number.number =
    rw (sym c.tasks-number-end.ensures.value) c.loop-number-test.false
    in
    c.loop-number.invariant
    ∙ ap (λ (ts : List (ℕ × TaskDeclaration)). map (λ t. map Some (instances_in tree configuration.instances t.0)) ts)
    (rows_all configuration.tasks 0 c.loop-number.number all)
    ∙ sym (declared_rows tree configuration c.requires)
