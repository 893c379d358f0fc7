use Rattle.std.proofs.Common.{◌+◌, ◌<◌, sym, subst}
use Rattle.plantbuses.specs.KeptSteps.{KeptBus}
use Rattle.plantbuses.specs.OfferSteps.{dropped_in}
use Rattle.plantbuses.proofs.offers.offer.Goals as goal

pub offer-requires : goal.offer-requires
offer-requires c = record {
  countable = subst (λ (b : KeptBus). dropped_in b c.of-class.result + 1 < 18446744073709551616) (sym c.bus.view_is)
      (c.requires.countable c.of-class.result);
}
