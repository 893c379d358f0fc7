use Rattle.std.proofs.Common.{◌≡◌, ◌∙◌, ◌++◌, List, length, replicate, refl, ap, sym, arith, subst}
use Rattle.std.specs.Prelude.{Some, option_map}
use Rattle.std.proofs.Math.ListN.{length-map}
use Rattle.ilsource.specs.Programs.{WrittenFunction}
use Rattle.ilsource.specs.declared.instruction.Line.{Line}
use Rattle.ilsource.specs.declared.name.Name.{Name}
use Rattle.ilsource.specs.declared.symbol.Symbol.{Symbol}
use Rattle.ilscope.specs.Configured.{globals_of}
use Rattle.ilscope.specs.Declarations.{DeclaredProgram, as_program, body_at}
use Rattle.ilscope.specs.declared.body_number.BodyNumber.TheVariants as bodies
use Rattle.ilplan.specs.declared.slot.Slot.{Slot}
use Rattle.ilscope.specs.Labels.{AreNumbered}
use Rattle.ilsyms.specs.NumberingSteps.{numbering_of}
use Rattle.ilsyms.specs.Variables.{as_instance, own_slot, slots_in}
use Rattle.ilsyms.proofs.FunctionLines.{function_lines, no_global_slots}
use Rattle.ilsyms.proofs.NumberingBodies.{program_is}
use Rattle.ilsyms.proofs.PlanFunctions.{few_functions}
use Rattle.ilsyms.proofs.PlanTasks.{if_ok}
use Rattle.ilsyms.proofs.PlanningInstances.{renamed}
use Rattle.ilsyms.proofs.functions.lines_of.Goals as goal

pub new-numbering-requires : goal.new-numbering-requires
new-numbering-requires c =
    let tree = c.args.scope.now.tree in
    let f = c.args.function.now in
    let here : body_at tree (bodies.Function c.args.number) ≡ Some (as_program f) =
    ap (option_map as_program) c.requires.there in
    let its = program_is tree (bodies.Function c.args.number) (as_program f) here in
    let lines : c.lines-lines.result.now ≡ f.function.lines =
    c.lines-lines.ensures.value ∙ ap (λ (w : WrittenFunction). w.lines) c.function.ensures.value in
    let own : c.deref.result.now ≡ slots_in (as_instance f) = c.deref.ensures.value ∙ c.in_ok-slots.ensures in
    let slots = ap (λ (ss : List Slot). length ss) own in
    let variables = length-map (f.inputs ++ f.variables) (own_slot f.function.name) in
    let many = ap (λ (p : DeclaredProgram). length p.variables) its in
    let blocks = ap (λ (p : DeclaredProgram). length p.blocks) its in
    let none = c.in_ok-global_slots.ensures.items_if_clones_equal (λ y e. e) in
    let slots_len = c.len.ensures ∙ sym c.deref.ensures.len in
    record {
      there = rw here refl;
      all =
          ap (λ (ls : List (Line Symbol Name)). length ls)
          (lines ∙ ap (λ (p : DeclaredProgram). p.program.lines) (sym its));
      own_slots = omega (arith, slots, variables, many, c.deref.type_inv.0);
      own_blocks = omega (arith, blocks);
      few_blocks = omega arith;
      few_functions = let few = few_functions tree c.args.scope.now.wiring c.requires.named in omega (arith, few);
      globals =
          no_global_slots tree f c.deref.result.now own (length (globals_of tree)) c.deref-2.result.now
          (c.deref-2.ensures.value ∙ none
          ∙ (λ i. replicate (length (c.globals.ensures.value i)) (slots_len i)));
    }

pub returns-clause-lines : goal.returns-clause-lines
returns-clause-lines c =
    let tree = c.args.scope.now.tree in
    let f = c.args.function.now in
    let here : body_at tree (bodies.Function c.args.number) ≡ Some (as_program f) =
    ap (option_map as_program) c.requires.there in
    let its = program_is tree (bodies.Function c.args.number) (as_program f) here in
    let read : c.lines-lines.result.now ≡ f.function.lines =
    c.lines-lines.ensures.value ∙ ap (λ (w : WrittenFunction). w.lines) c.function.ensures.value in
    let own : c.deref.result.now ≡ slots_in (as_instance f) = c.deref.ensures.value ∙ c.in_ok-slots.ensures in
    let labels = c.in_ok-labels.labels in
    let numbered : AreNumbered tree.text f.function.lines labels =
    subst (λ (ls : List (Line Symbol Name)). AreNumbered tree.text ls labels) read c.in_ok-labels.ensures.numbers in
    let named =
    (λ i. renamed (c.new-numbering.ensures i) (read i))
    ∙ (λ i. renamed (numbering_of tree (its i) c.deref.result.now 0 0 0 labels) f.function.lines) in
    if_ok c.lines.result _ _
    (λ v e. function_lines tree f c.deref.result.now own labels numbered v.items (e ∙ named)) c.lines.ensures
