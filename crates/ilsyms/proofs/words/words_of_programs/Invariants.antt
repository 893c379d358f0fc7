use Rattle.std.proofs.Common.{◌≡◌, map, take}
use Rattle.ilscope.specs.Declarations.{declared_programs}
use Rattle.ilsyms.specs.WordSteps.{places_of_program}
use Rattle.ilsyms.proofs.words.words_of_programs.Given as goal

abbrev pub invariant-loop-program : goal.invariant-loop-program
invariant-loop-program l =
    l.words.items ≡ map places_of_program (take l.program-index (declared_programs l.fn.scope.tree))
