use Rattle.std.proofs.Common.{◌≡◌, ℕ, ◌∙◌, refl, ap, sym, length, List, [], ◌∷◌, ◌++◌, arith, subst, map}
use Rattle.std.specs.Prelude.{Some}
use Rattle.std.specs.List.{position_or_len}
use Rattle.std.proofs.lemmas.List.{take_all}
use Rattle.ilsource.specs.declared.instruction.Line.{Line}
use Rattle.ilsource.specs.Words.{AreShallow}
use Rattle.ilsource.specs.Programs.{Written, AreSorted}
use Rattle.ilsource.specs.declared.name.Name.{Name}
use Rattle.ilsource.specs.declared.symbol.Symbol.{Symbol}
use Rattle.ildeclared.specs.declared.global.DeclaredGlobal.{DeclaredGlobal}
use Rattle.ilscope.specs.Declarations.{DeclaredProgram, body_at}
use Rattle.ilscope.specs.declared.body_number.BodyNumber.TheVariants as bodies
use Rattle.ilplan.specs.Plans.{PlannedInstance}
use Rattle.ilplan.specs.declared.slot.Slot.{Slot}
use Rattle.ilplan.specs.declared.instance.FunctionBlock.{FunctionBlock}
use Rattle.ilsyms.specs.declared.tasks.TaskInstance.{TaskInstance}
use Rattle.ilscope.specs.Labels.{AreNumbered}
use Rattle.ilsyms.specs.NumberingSteps.{AreGlobalSlots, numbering_of}
use Rattle.ilsyms.specs.PlanningSteps.{is_of_instance}
use Rattle.ilsyms.specs.Resolved.{planned_instance}
use Rattle.ilsyms.specs.TaskSteps.{instances_of}
use Rattle.ilsyms.specs.Tasks.{NamedProgram}
use Rattle.ilsyms.specs.Variables.{blocks_of, lines_of, slots_of}
use Rattle.ilsyms.proofs.NumberingBodies.{program_is}
use Rattle.ilsyms.proofs.PlanningInstances.{blocks_fit, blocks_more, planned_more, renamed, shallow_more, slots_fit}
use Rattle.ilsyms.proofs.PlanningInstances.{slots_more, sorted_more}
use Rattle.ilsyms.proofs.SlotOrder.{first_own}
use Rattle.ilsyms.proofs.TaskInstances.{among, as_many, number_there, stands}
use Rattle.ilsyms.proofs.planning.plan_instances.Goals as goal

no_instance : TaskInstance
no_instance = record { name = record { from = 0; to = 0 }; program = 0 }

pub program_of-program-requires : goal.program_of-program-requires
program_of-program-requires c =
    number_there c.args.scope.now.tree c.args.instances.now c.requires.there c.loop-instance.instance-index _
    c.loop-instance-test.true

pub new-numbering-requires : goal.new-numbering-requires
new-numbering-requires c =
    let tree = c.args.scope.now.tree in
    let given = c.args.instances.now in
    let all = instances_of tree given in
    let k = c.loop-instance.instance-index in
    let below = c.loop-instance-test.true in
    let is = stands tree given c.requires.there k _ below c.program_of-program.result.now
    c.program_of-program.ensures in
    let within = among tree given c.requires.there k no_instance below in
    let slots = slots_fit tree all k _ is within in
    let blocks = blocks_fit tree all k _ is within in
    let first_slot = c.loop-instance.invariant.first_slot in
    let first_block = c.loop-instance.invariant.first_block in
    let as_slots = ap (λ (ss : List Slot). length ss) c.requires.slots in
    let as_blocks = ap (λ (bs : List FunctionBlock). length bs) c.requires.blocks in
    let program = c.program_of-program.result.now in
    let here : body_at tree (bodies.Program _) ≡ Some program = c.program_of-program.ensures in
    let its = program_is tree (bodies.Program _) program here in
    let lines : c.lines-lines.result.now ≡ program.program.lines =
    c.lines-lines.ensures.value ∙ ap (λ (w : Written). w.lines) c.program.ensures.value
    in
    let many = ap (λ (p : DeclaredProgram). length p.variables) its in
    let many_blocks = ap (λ (p : DeclaredProgram). length p.blocks) its in
    record {
      there = rw here refl;
      all =
          ap (λ (ls : List (Line Symbol Name)). length ls)
          (lines ∙ ap (λ (p : DeclaredProgram). p.program.lines) (sym its));
      own_slots = omega (arith, slots, first_slot, as_slots, many);
      own_blocks = omega (arith, blocks, first_block, as_blocks, c.requires.few_blocks, many_blocks);
      few_blocks = omega (arith, c.requires.few_blocks);
      few_functions = omega (arith, c.requires.few_functions);
      globals =
          subst (λ (n : ℕ). AreGlobalSlots c.args.slots.now n c.deref.result.now)
          (ap (λ (gs : List DeclaredGlobal). length gs) c.globals.ensures.value)
          (subst (λ (ns : List ℕ). AreGlobalSlots c.args.slots.now (length c.globals.result.now) ns)
          (sym c.deref.ensures.value) c.in_ok-global_slots.ensures);
    }

pub loop-instance-init : goal.loop-instance-init
loop-instance-init c =
    let tree = c.args.scope.now.tree in
    let all = instances_of tree c.args.instances.now in
    let first = first_own tree all in
    let here = c.first_own-first_slot.ensures
    ∙ ap (λ (ss : List Slot). position_or_len (λ s. is_of_instance s.variable) ss) c.requires.slots in
    record {
      instances = c.new-planned.ensures.items;
      first_slot = omega (arith, first, here);
      first_block = omega arith;
      shallow = tt;
      sorted = tt;
    }

pub loop-instance-preserved : goal.loop-instance-preserved
loop-instance-preserved c =
    let tree = c.args.scope.now.tree in
    let given = c.args.instances.now in
    let all = instances_of tree given in
    let k = c.loop-instance.instance-index in
    let below = c.loop-instance-test.true in
    let program = c.program_of-program.result.now in
    let is = stands tree given c.requires.there k _ below program c.program_of-program.ensures in
    let within = among tree given c.requires.there k no_instance below in
    let so_far = c.loop-instance.invariant in
    let lines : c.program.result.now.lines ≡ program.program.lines =
    ap (λ (w : Written). w.lines) c.program.ensures.value in
    let read = c.lines-lines.ensures.value ∙ lines in
    let here : body_at tree (bodies.Program _) ≡ Some program = c.program_of-program.ensures in
    let its = program_is tree (bodies.Program _) program here in
    let named =
    c.in_ok-lines.ensures
    ∙ (λ i. renamed (c.new-numbering.ensures i) (read i))
    ∙ (λ i. renamed (numbering_of tree (its i) c.args.slots.now c.loop-instance.first_slot (length c.args.blocks.now)
    c.loop-instance.first_block c.in_ok-labels.labels) program.program.lines)
    in
    let numbered : AreNumbered tree.text program.program.lines c.in_ok-labels.labels =
    subst (λ (ls : List (Line Symbol Name)). AreNumbered tree.text ls c.in_ok-labels.labels) read
    c.in_ok-labels.ensures.numbers
    in
    record {
      instances =
          c.in_ok-push.ensures.items
          ∙ ap (λ (one : PlannedInstance). c.loop-instance.planned.items ++ one ∷ []) c.new.ensures
          ∙ planned_more tree all k _ is within c.requires.apart c.args.slots.now c.loop-instance.first_slot
          (length c.args.blocks.now) c.loop-instance.first_block c.requires.slots so_far.first_slot
          (ap (λ (bs : List FunctionBlock). length bs) c.requires.blocks) so_far.first_block
          c.in_ok-labels.labels numbered c.in_ok-lines.lines.items named c.loop-instance.planned.items so_far.instances;
      first_slot =
          let more = slots_more tree all k _ is within in
          let own = ap length c.variables.ensures.value in
          let first = so_far.first_slot in
          omega (arith, more, own, first);
      first_block =
          let more = blocks_more tree all k _ is within in
          let own = ap length c.blocks-in-loop-instance.ensures.value in
          let first = so_far.first_block in
          omega (arith, more, own, first);
      shallow =
          shallow_more tree all k _ is within so_far.shallow (subst AreShallow lines c.lines-lines.ensures.shallow);
      sorted = sorted_more tree all k _ is within so_far.sorted (subst AreSorted lines c.lines-lines.ensures.sorted);
    }

pub returns : goal.returns
returns c =
    let tree = c.args.scope.now.tree in
    let all = instances_of tree c.args.instances.now in
    let many = as_many tree c.args.instances.now c.requires.there in
    let whole = take_all c.loop-instance.instance-index all (omega (arith, many, c.loop-instance-test.false)) in
    record {
      instances =
          c.loop-instance.invariant.instances
          ∙ ap (λ (is : List NamedProgram). map (planned_instance tree (slots_of tree all) (blocks_of all)) is)
          whole;
      shallow = subst (λ (is : List NamedProgram). AreShallow (lines_of is)) whole c.loop-instance.invariant.shallow;
      sorted = subst (λ (is : List NamedProgram). AreSorted (lines_of is)) whole c.loop-instance.invariant.sorted;
    }
