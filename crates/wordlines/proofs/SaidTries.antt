-- The attempts of buses, as lines say them: what one line more keeps, and that each bus may be given those that it has.
use Rattle.std.proofs.Common.{ℕ, List, [], ◌∷◌, Bool, true, false, arith}
use Rattle.std.specs.Prelude.{All, ◌==◌, if◌then◌else◌}
use Rattle.std.proofs.lemmas.List.Elements.{All-push, All-head, All-tail}
use Rattle.std.proofs.lemmas.List.Quantifiers.{all_pairs_push}
use Rattle.limits.specs.Limits.{AreTries}
use Rattle.wordlines.specs.declared.tries.BusTries.{BusTries}
use Rattle.wordlines.specs.Bindings.{HasNoTries, with_tries}
use Rattle.wordlines.specs.Wirings.{Wiring, IsSaidOf, IsTried, IsWithinLimits, tries_in}

abbrev DifferInBus : BusTries → BusTries → Type 0
DifferInBus earlier later = ¬ IsSaidOf later.bus earlier

-- the attempts of one bus more
pub one_more_tries : (wiring : Wiring) (said : BusTries) → IsWithinLimits wiring → AreTries said.tries
    → HasNoTries said wiring → IsWithinLimits (with_tries said wiring)
one_more_tries wiring said limits tries new =
    record {
      buses = limits.buses;
      sources = limits.sources;
      once = limits.once;
      tries = All-push (IsTried wiring.buses) wiring.tries said limits.tries
          (record { bus = new.bus; tries = tries });
      tried_once = all_pairs_push DifferInBus wiring.tries said limits.tried_once new.free;
    }

either_fits : (test : Bool) (one other : ℕ) → AreTries one → AreTries other → AreTries (if test then one else other)
either_fits true one other h k = h
either_fits false one other h k = k

-- a bus has a number of attempts that it may be given
pub tries_fit : (buses : ℕ) (said : List BusTries) (bus : ℕ) → All (IsTried buses) said → AreTries (tries_in said bus)
tries_fit buses [] bus all = record { first = omega arith; last = omega arith }
tries_fit buses (one ∷ more) bus all =
    either_fits (one.bus == bus) one.tries (tries_in more bus) (All-head (IsTried buses) one more all).tries
    (tries_fit buses more bus (All-tail (IsTried buses) one more all))
