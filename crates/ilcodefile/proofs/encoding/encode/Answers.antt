use Rattle.std.proofs.Common.{sym, subst, List, ℕ, ◌<◌, ◌^◌}
use Rattle.std.specs.List.{AllByRecursion}
use Rattle.ilcode.specs.declared.function.FunctionBody.{FunctionBody}
use Rattle.ilcodefile.specs.BodySteps.{IsSmall}
use Rattle.ilcodefile.proofs.BodyOrder.{small_functions}
use Rattle.ilcodefile.proofs.Lengths.{small_starts}
use Rattle.ilcodefile.proofs.encoding.encode.Goals as goal

pub push_starts-requires : goal.push_starts-requires
push_starts-requires c =
    subst (λ (ns : List ℕ). AllByRecursion (λ (n : ℕ). n < 2 ^ 32) ns) (sym c.starts-2.ensures.value)
    (small_starts c.args.code.now c.buses.ensures.lawful)

pub push_functions-requires : goal.push_functions-requires
push_functions-requires c =
    subst (λ (fs : List FunctionBody). AllByRecursion IsSmall fs) (sym c.functions-2.ensures.value)
    (small_functions c.args.code.now c.buses.ensures.lawful)
