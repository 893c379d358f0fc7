use Rattle.std.proofs.Common.{take}
use Rattle.ildeclared.specs.Faults.{IsNextOf, OfCause, SomeOf, IsBadAddressAt}
use Rattle.ildeclared.specs.declared.fault.NameCause.TheVariants.{BadAddress}
use Rattle.ildeclared.proofs.located.bad_addresses.Given as goal

abbrev pub invariant-loop-address : goal.invariant-loop-address
invariant-loop-address l =
    IsNextOf l.after (OfCause BadAddress (λ place. SomeOf (IsBadAddressAt l.wiring place)
    (take l.address-index l.addresses))) l.least
