-- The program or function that is numbered is there.
use Rattle.std.proofs.Common.{◌≡◌, refl}
use Rattle.std.specs.Prelude.{Option, Some, None, IsSome, unwrap_or}
use Rattle.ilsource.specs.SourceTrees.{Tree}
use Rattle.ilscope.specs.Declarations.{DeclaredProgram, body_at}
use Rattle.ilscope.specs.declared.body_number.BodyNumber.{BodyNumber}
use Rattle.ilsyms.specs.NumberingSteps.{no_program, program_at}

pub is_there : (tree : Tree) (body : BodyNumber) → IsSome (body_at tree body)
    → body_at tree body ≡ Some (program_at tree body)
is_there tree body h = by (body_at tree body) h
  where
    by : (o : Option DeclaredProgram) → IsSome o → o ≡ Some (unwrap_or o no_program)
    by None h = absurd cc
    by (Some p) h = refl

-- it is this one
pub program_is : (tree : Tree) (body : BodyNumber) (p : DeclaredProgram) → body_at tree body ≡ Some p
    → program_at tree body ≡ p
program_is tree body p e = by (body_at tree body) e
  where
    by : (o : Option DeclaredProgram) → o ≡ Some p → unwrap_or o no_program ≡ p
    by None e = absurd cc
    by (Some q) e = cc
