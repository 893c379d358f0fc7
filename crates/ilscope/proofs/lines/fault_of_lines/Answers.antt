use Rattle.std.proofs.Common.{ℕ, map, inl, inr}
use Rattle.ildeclared.specs.Faults.{SomeOf}
use Rattle.ildeclared.specs.declared.fault.NameCause.{NameCause}
use Rattle.ildeclared.proofs.FoundOrder.{next_same, or_else}
use Rattle.ildeclared.proofs.Least.{both_next}
use Rattle.ildeclared.proofs.Parts.{some_in_either, some_in_map, some_of_either, some_of_map}
use Rattle.ilscope.specs.Declarations.{as_program, declared_functions, declared_programs, DeclaredProgram}
use Rattle.ilscope.specs.UseFaults.{IsFaultOfBody}
use Rattle.ilscope.proofs.lines.fault_of_lines.Goals as goal

pub returns : goal.returns
returns c =
    let tree = c.args.scope.now.tree in
    let programs = declared_programs tree in
    let functions = declared_functions tree in
    let P : ℕ → NameCause → DeclaredProgram → Type 0 = λ place cause p. IsFaultOfBody tree p place cause in
    rw c.lesser_of.ensures
    (next_same c.args.after _ _ _
    (λ place cause s. some_in_either (P place cause) programs (map as_program functions)
    (or_else (λ p. inl p) (λ f. inr (some_in_map (P place cause) as_program functions f)) s))
    (λ place cause s. or_else (λ p. inl p) (λ f. inr (some_of_map (P place cause) as_program functions f))
    (some_of_either (P place cause) programs (map as_program functions) s))
    (both_next c.args.after (λ place cause. SomeOf (P place cause) programs)
    (λ place cause. SomeOf (λ f. P place cause (as_program f)) functions)
    c.in_ok-programs.programs c.in_ok-functions.functions c.in_ok-programs.ensures c.in_ok-functions.ensures))
