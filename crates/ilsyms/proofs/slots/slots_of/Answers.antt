use Rattle.std.proofs.Common.{◌∙◌, ◌+◌, ◌++◌, List, ap, take, sym, arith, append-nil, append_assoc}
use Rattle.std.proofs.lemmas.List.{take_all}
use Rattle.std.proofs.lemmas.Grind.{flat_map-append}
use Rattle.ilsyms.specs.TaskSteps.{instances_of}
use Rattle.ilsyms.specs.Tasks.{NamedProgram}
use Rattle.ilsyms.specs.Variables.{global_slots, slots_in, own_slots}
use Rattle.ilsyms.proofs.TaskInstances.{number_there, taken_more, as_many}
use Rattle.ilsyms.proofs.slots.slots_of.Goals as goal

pub program_of-requires : goal.program_of-requires
program_of-requires c =
    number_there c.args.scope.now.tree c.args.instances.now c.requires c.loop-instance.instance-index _
    c.loop-instance-test.true

pub loop-instance-preserved : goal.loop-instance-preserved
loop-instance-preserved c =
    let is = instances_of c.args.scope.now.tree c.args.instances.now in
    let first = global_slots c.args.scope.now.tree is in
    let k = c.loop-instance.instance-index in
    let more = taken_more c.args.scope.now.tree c.args.instances.now c.requires k _ c.loop-instance-test.true
    c.program_of.result.now c.program_of.ensures
    in
    c.in_ok-add_slots.ensures _ c.loop-instance.invariant
    ∙ ap (take (4096 + 1))
    (append_assoc first (own_slots (take k is)) _
    ∙ ap (λ ss. first ++ ss)
    (ap (λ ss. own_slots (take k is) ++ ss) (sym (append-nil _))
    ∙ sym (flat_map-append slots_in (take k is) _)
    ∙ ap (λ (js : List NamedProgram). own_slots js) (sym more)))

pub returns : goal.returns
returns c =
    let is = instances_of c.args.scope.now.tree c.args.instances.now in
    let many = as_many c.args.scope.now.tree c.args.instances.now c.requires in
    c.loop-instance.invariant
    ∙ ap (λ (js : List NamedProgram). take (4096 + 1) (global_slots c.args.scope.now.tree is ++ own_slots js))
    (take_all c.loop-instance.instance-index is (omega (arith, many, c.loop-instance-test.false)))
