use Rattle.ildeclared.specs.Faults.{IsBadAddressAt}
use Rattle.ildeclared.specs.declared.fault.NameCause.TheVariants.{BadAddress}
use Rattle.ildeclared.proofs.OneCause.{more_of_cause, whole_of_cause}
use Rattle.ildeclared.proofs.located.bad_addresses.Goals as goal

pub loop-address-preserved : goal.loop-address-preserved
loop-address-preserved c =
    rw c.lesser_of-least.ensures
    (more_of_cause c.args.after BadAddress (λ x place. IsBadAddressAt c.args.wiring.now place x) c.args.addresses.now
    c.loop-address.address-index _
    c.loop-address.least c.bad_address.result c.loop-address-test.true c.loop-address.invariant c.bad_address.ensures)

pub returns : goal.returns
returns c =
    whole_of_cause c.args.after BadAddress (λ x place. IsBadAddressAt c.args.wiring.now place x) c.args.addresses.now
    c.loop-address.address-index c.loop-address.least
    c.loop-address-test.false c.loop-address.invariant
