use Rattle.std.proofs.Common.{◌≡◌, map, take}
use Rattle.std.specs.Prelude.{Some, slice_get}
use Rattle.limits.specs.Limits.{most_inputs}
use Rattle.ildeclared.specs.Faults.{IsNextOf, OfCause, SomeOf}
use Rattle.ildeclared.specs.declared.fault.NameCause.TheVariants.{TooMany}
use Rattle.ilsyms.proofs.excess.too_many_inputs.Given as goal

abbrev pub invariant-loop-function : goal.invariant-loop-function
invariant-loop-function l =
    IsNextOf l.after
    (λ place cause. SomeOf
    (λ f. OfCause TooMany (λ at. slice_get (map (λ v. v.name.from) f.inputs) most_inputs ≡ Some at) place cause)
    (take l.function-index l.functions))
    l.least
