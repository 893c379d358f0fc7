use Rattle.std.proofs.Common.{◌≡◌, ℕ, List, map, ap, ◌∙◌}
use Rattle.std.specs.Prelude.{Option, Some, None, slice_get}
use Rattle.std.specs.Option.{option_map_or}
use Rattle.limits.specs.Limits.{most_instances}
use Rattle.ilsource.specs.Configurations.{Configured}
use Rattle.ilsource.specs.SourceTrees.{Tree}
use Rattle.ilsource.specs.declared.configuration.InstanceDeclaration.{InstanceDeclaration}
use Rattle.ilsource.specs.declared.name.Name.{Name}
use Rattle.ilscope.specs.Declarations.{declared_programs, DeclaredProgram}
use Rattle.ilsyms.proofs.ExcessFaults.{places_of_names}
use Rattle.ilsyms.proofs.excess.instance_past.Goals as goal

-- the names of instances, by the configuration
abbrev names_by : List DeclaredProgram → Option Configured → List Name
names_by programs o =
    option_map_or (λ c. map (λ i. i.name) c.instances) o (map (λ (p : DeclaredProgram). p.program.name) programs)

pub returns-in-Some : goal.returns-in-Some
returns-in-Some c =
    let tree = c.args.scope.now.tree in
    let configuration = c.in-Some.configuration.now in
    let is : Some configuration ≡ tree.configuration =
    c.in-Some.ensures ∙ ap (λ (t : Tree). t.configuration) c.source.ensures.value in
    c.declared_past.ensures
    ∙ ap (λ (ns : List ℕ). slice_get ns most_instances)
    (places_of_names (λ (i : InstanceDeclaration). i.name) configuration.instances
    ∙ ap (λ (o : Option Configured). map (λ (n : Name). n.from) (names_by (declared_programs tree) o)) is)

pub returns-in-None : goal.returns-in-None
returns-in-None c =
    let tree = c.args.scope.now.tree in
    let is : None ≡ tree.configuration =
    c.in-None.ensures ∙ ap (λ (t : Tree). t.configuration) c.source.ensures.value in
    c.program_past.ensures
    ∙ ap (λ (ns : List ℕ). slice_get ns most_instances)
    (ap (λ (ps : List DeclaredProgram). map (λ (p : DeclaredProgram). p.program.name.from) ps) c.programs.ensures.value
    ∙ places_of_names (λ (p : DeclaredProgram). p.program.name) (declared_programs tree)
    ∙ ap (λ (o : Option Configured). map (λ (n : Name). n.from) (names_by (declared_programs tree) o)) is)
