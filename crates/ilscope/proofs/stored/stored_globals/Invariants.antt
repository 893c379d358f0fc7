use Rattle.std.proofs.Common.{◌≡◌, ◌<◌, ℕ, length, take}
use Rattle.std.specs.Prelude.{◌↔◌, All, Some, slice_get}
use Rattle.ildeclared.specs.Faults.{SomeOf}
use Rattle.ilscope.specs.Configured.{globals_of}
use Rattle.ilscope.specs.Declarations.{declared_programs, DeclaredProgram}
use Rattle.ilscope.specs.UseFaults.{StoresTo}
use Rattle.ilscope.proofs.stored.stored_globals.Given as goal

abbrev pub invariant-loop-used : goal.invariant-loop-used
invariant-loop-used l =
    record {
      stored : (p : DeclaredProgram) → slice_get (declared_programs l.scope.tree) l.number ≡ Some p → (global : ℕ)
          → SomeOf (λ (its : ℕ). its ≡ global) l.stored.items
          ↔ SomeOf (StoresTo l.scope.tree global p) (take l.used-index l.used-items);
      there : All (λ its. its < length (globals_of l.scope.tree)) l.stored.items;
    }
