use Rattle.std.proofs.Common.{◌≡◌, ◌∙◌, ap, refl, List, ℕ, map, subst}
use Rattle.std.specs.Prelude.{flat_map}
use Rattle.ilsource.specs.Names.{text_of}
use Rattle.ilsource.specs.SourceTrees.{Tree}
use Rattle.ilsource.specs.declared.source.Element.{Element}
use Rattle.ildeclared.specs.Faults.{IsNextOf, OfCause}
use Rattle.ildeclared.specs.Globals.{globals_in, value_types_in}
use Rattle.ildeclared.specs.Kept.{types_in}
use Rattle.ildeclared.specs.declared.fault.NameCause.TheVariants.{Twice}
use Rattle.ilscope.specs.Configured.{declared_globals_of, task_declarations}
use Rattle.ilscope.specs.Declarations.{name_of}
use Rattle.ilscope.specs.ScopeSteps.{IsGlobalOrTaskTwice}
use Rattle.ilscope.specs.Tables.{lowered}
use Rattle.ilscope.proofs.FilledTables.{filled, found_in_tables, moved_gathered, moved_numbers, moved_twice}
use Rattle.ilscope.proofs.tables.Tables.of.Goals as goal

pub invariant_of-tables : goal.invariant_of-tables
invariant_of-tables c =
    let tree : Tree = c.args.source.now in
    let lower : List ℕ = c.in_ok-lower.lower.items in
    let elements = c.in_ok-gathered.gathered in
    let g = elements.gathering in
    let configured = c.in_ok-configured.configured in
    let says = c.in_ok-configured.ensures in
    let lower_is : lower ≡ lowered tree.text = c.in_ok-lower.ensures ∙ ap lowered c.text.ensures.value in
    let gathered =
    moved_gathered c.args.after c.deref.result.now lower c.elements.result.now tree.elements g.types g.programs.items
    g.variable_numbers.items g.block_numbers.items g.external_numbers.items g.functions.items g.own_numbers.items
    g.least c.deref.ensures.value
    c.elements.ensures c.in_ok-gathered.ensures.gathered
    in
    let global_names = map (λ g. g.name) configured.globals.items in
    let task_names = map (λ t. t.name) (task_declarations tree) in
    let program_names = map (λ p. p.program.name) g.programs.items in
    let function_names = map (λ f. f.function.name) g.functions.items in
    let parts = c.into_parts-types.ensures in
    rw (
      parts.types,
      parts.programs,
      parts.variable_numbers,
      parts.block_numbers,
      parts.external_numbers,
      parts.functions,
      parts.own_numbers,
    )
    (filled c.args.after tree lower g.types g.programs.items g.variable_numbers.items g.block_numbers.items
    g.external_numbers.items
    g.functions.items g.own_numbers.items g.least lower_is gathered configured.globals.items
    configured.value_types.items configured.global_numbers
    configured.task_numbers elements.program_numbers elements.function_numbers
    (says.globals
    ∙ ap (λ (l : List ℕ). flat_map (globals_in (types_in l g.types)) (declared_globals_of tree))
    c.deref-2.ensures.value)
    (says.value_types
    ∙ ap (λ (l : List ℕ). flat_map (value_types_in (types_in l g.types)) (declared_globals_of tree))
    c.deref-2.ensures.value)
    (moved_numbers c.deref-2.result.now lower global_names global_names configured.global_numbers
    c.deref-2.ensures.value refl says.global_numbers)
    (moved_numbers c.deref-2.result.now lower task_names task_names configured.task_numbers c.deref-2.ensures.value refl
    says.task_numbers)
    (moved_numbers c.deref.result.now lower program_names program_names elements.program_numbers c.deref.ensures.value
    refl c.in_ok-gathered.ensures.programs)
    (moved_numbers c.deref.result.now lower function_names function_names elements.function_numbers
    c.deref.ensures.value refl c.in_ok-gathered.ensures.functions))

pub returns-clause-least : goal.returns-clause-least
returns-clause-least c =
    let tree : Tree = c.args.source.now in
    let lower : List ℕ = c.in_ok-lower.lower.items in
    let elements = c.in_ok-gathered.gathered in
    let g = elements.gathering in
    let configured = c.in_ok-configured.configured in
    let says = c.in_ok-configured.ensures in
    let lower_is : lower ≡ lowered tree.text = c.in_ok-lower.ensures ∙ ap lowered c.text.ensures.value in
    let gathered =
    moved_gathered c.args.after c.deref.result.now lower c.elements.result.now tree.elements g.types g.programs.items
    g.variable_numbers.items g.block_numbers.items g.external_numbers.items g.functions.items g.own_numbers.items
    g.least c.deref.ensures.value
    c.elements.ensures c.in_ok-gathered.ensures.gathered
    in
    let tasks = task_declarations tree in
    rw (c.lesser_of-found.ensures, c.into_parts-types.ensures.least, c.lesser_of.ensures)
    (found_in_tables c.args.after tree lower g.types g.programs.items g.variable_numbers.items g.block_numbers.items
    g.external_numbers.items g.functions.items g.own_numbers.items g.least lower_is gathered configured.globals.items
    elements.element_twice
    configured.configured_twice
    (says.globals
    ∙ ap (λ (l : List ℕ). flat_map (globals_in (types_in l g.types)) (declared_globals_of tree))
    c.deref-2.ensures.value)
    (moved_twice c.args.after c.deref.result.now lower (map name_of c.elements.result.now) (map name_of tree.elements)
    elements.element_twice c.deref.ensures.value (ap (λ (es : List Element). map name_of es) c.elements.ensures)
    c.in_ok-gathered.ensures.twice)
    (subst (λ (l : List ℕ). IsNextOf c.args.after (OfCause Twice
    (IsGlobalOrTaskTwice (text_of l) configured.globals.items tasks)) configured.configured_twice)
    c.deref-2.ensures.value says.twice))
