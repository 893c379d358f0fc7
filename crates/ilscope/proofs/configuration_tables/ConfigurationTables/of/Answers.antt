use Rattle.std.proofs.Common.{ap, refl, List, ℕ, map}
use Rattle.ilsource.specs.Names.{text_of}
use Rattle.ildeclared.specs.declared.fault.NameCause.TheVariants.{Twice}
use Rattle.ildeclared.specs.declared.global.DeclaredGlobal.{DeclaredGlobal}
use Rattle.ildeclared.proofs.Least.{either_next}
use Rattle.ilscope.specs.Configured.{task_declarations}
use Rattle.ilscope.specs.Faults.{IsTwiceIn}
use Rattle.ilscope.proofs.FilledTables.{moved_numbers, moved_twice}
use Rattle.ilscope.proofs.configuration_tables.ConfigurationTables.of.Goals as goal

pub returns-clause-global_numbers : goal.returns-clause-global_numbers
returns-clause-global_numbers c =
    moved_numbers c.args.lower.now c.args.lower.now (map (λ g. g.name) c.deref.result.now)
    (map (λ g. g.name) c.in_ok-globals.globals.items) c.in_ok-global_numbers.global_numbers refl
    (ap (λ (gs : List DeclaredGlobal). map (λ g. g.name) gs) c.deref.ensures.value)
    c.in_ok-global_numbers.ensures.numbers

pub returns-clause-twice : goal.returns-clause-twice
returns-clause-twice c =
    let lower : List ℕ = c.args.lower.now in
    let globals : List DeclaredGlobal = c.in_ok-globals.globals.items in
    let tasks = map (λ t. t.name) (task_declarations c.args.source.now) in
    rw c.lesser_of-configured_twice.ensures
    (either_next c.args.after Twice (IsTwiceIn (text_of lower) (map (λ g. g.name) globals))
    (IsTwiceIn (text_of lower) tasks)
    c.in_ok-global_numbers.globals_twice c.in_ok-task_numbers.tasks_twice
    (moved_twice c.args.after lower lower (map (λ g. g.name) c.deref.result.now) (map (λ g. g.name) globals)
    c.in_ok-global_numbers.globals_twice refl
    (ap (λ (gs : List DeclaredGlobal). map (λ g. g.name) gs) c.deref.ensures.value)
    c.in_ok-global_numbers.ensures.twice)
    c.in_ok-task_numbers.ensures.twice)
