use Rattle.std.proofs.Common.{◌≡◌, ℕ, take}
use Rattle.std.specs.HashSet.{contains}
use Rattle.std.specs.List.{list_any}
use Rattle.ildeclared.specs.AddressSteps.{key_of, same_key}
use Rattle.ildeclared.specs.Faults.{IsAddressTwice, IsNextOf, OfCause}
use Rattle.ildeclared.specs.declared.fault.NameCause.TheVariants.{Twice}
use Rattle.ildeclared.proofs.addresses.twice_addresses.Given as goal

abbrev pub invariant-loop-address : goal.invariant-loop-address
invariant-loop-address l = record {
  seen : (key : ℕ × ℕ × ℕ)
      → contains same_key l.seen key ≡ list_any (λ a. same_key (key_of a) key) (take l.address-index l.addresses);
  least : IsNextOf l.after (OfCause Twice (IsAddressTwice (take l.address-index l.addresses))) l.least;
}
