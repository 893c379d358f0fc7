use Rattle.std.proofs.Common.{◌∙◌, List, ap, not, subst}
use Rattle.std.proofs.lemmas.List.{take_all}
use Rattle.std.specs.HashSet.{contains}
use Rattle.ilsource.specs.declared.address.DirectAddress.{DirectAddress}
use Rattle.ildeclared.specs.AddressSteps.{same_key}
use Rattle.ildeclared.specs.Faults.{IsAddressTwice, IsNextOf, OfCause}
use Rattle.ildeclared.specs.declared.fault.NameCause.TheVariants.{Twice}
use Rattle.ildeclared.proofs.TwiceAddresses.{seen_more, twice_more}
use Rattle.ildeclared.proofs.addresses.twice_addresses.Goals as goal

pub loop-address-preserved : goal.loop-address-preserved
loop-address-preserved c =
    record {
      seen =
          seen_more c.args.addresses.now c.loop-address.address-index _ c.loop-address-test.true
          (contains same_key c.loop-address.seen) (contains same_key c.insert.new.self) c.key_of.result c.key_of.ensures
          c.in_ok-is_new.ensures.updates.0 c.loop-address.invariant.seen;
      least =
          rw c.lesser_of-least.ensures
          (twice_more c.args.addresses.now c.loop-address.address-index _ c.loop-address-test.true c.args.after
          c.in_ok-is_new.is_new
          c.key_of.result c.loop-address.least c.found_where.result c.key_of.ensures
          (c.in_ok-is_new.ensures.added ∙ ap not (c.loop-address.invariant.seen c.key_of.result))
          c.loop-address.invariant.least c.found_where.ensures);
    }

pub returns : goal.returns
returns c =
    subst (λ (xs : List DirectAddress). IsNextOf c.args.after (OfCause Twice (IsAddressTwice xs)) c.loop-address.least)
    (take_all c.loop-address.address-index c.args.addresses.now c.loop-address-test.false)
    c.loop-address.invariant.least
