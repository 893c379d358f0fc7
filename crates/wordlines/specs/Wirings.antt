-- What a binding says (profile): how many buses there are, which source of events is bound at which place of a bus, and
-- how many attempts a bus has for a transaction.
use Rattle.std.specs.Prelude.{◌≡◌, ℕ, ◌<◌, ◌≤◌, ◌==◌, if◌then◌else◌, List, [], ◌∷◌, All, AllPairs, Contains}
use Rattle.limits.specs.Limits.{most_buses, most_sources, usual_tries, AreTries}
use Rattle.dalievent.specs.declared.messages.EventSource.{EventSource}
use Rattle.dalievent.specs.EventSchemes.{a_limit}
use Rattle.wordlines.specs.declared.sources.BoundSource.{BoundSource}
use Rattle.wordlines.specs.declared.tries.BusTries.{BusTries}

-- the number of buses, and the sources that are bound and what is said of attempts, each in the order of its lines
pub record Wiring : Type 0 where
  pub buses : ℕ
  pub sources : List BoundSource
  pub tries : List BusTries

-- one bus, of which nothing else is said
abbrev pub one_bus : Wiring
one_bus = record { buses = 1; sources = []; tries = [] }

-- a number of buses: one at least
pub record IsBusCount (buses : ℕ) : Type 0 where
  pub first : 1 ≤ buses
  pub last : buses ≤ most_buses

-- the source is bound at this place of this bus
abbrev pub IsAt : ℕ → ℕ → BoundSource → Type 0
IsAt bus number bound = (bound.bus ≡ bus) × (bound.number ≡ number)

-- no source is bound there
abbrev pub IsFree : Wiring → ℕ → ℕ → Type 0
IsFree wiring bus number = All (λ bound. ¬ IsAt bus number bound) wiring.sources

-- this source is bound there
abbrev pub IsBoundAt : Wiring → ℕ → ℕ → EventSource → Type 0
IsBoundAt wiring bus number source =
    Contains wiring.sources (record { bus = bus; number = number; source = source })

-- both parts are in the ranges of the scheme (IEC 62386-103, clause 9)
pub record HasPartsInRange (source : EventSource) : Type 0 where
  pub a : source.a < a_limit source.scheme
  pub b : source.b < 32

pub record IsInRange (bound : BoundSource) : Type 0 where
  pub number : bound.number < most_sources
  pub parts : HasPartsInRange bound.source

-- the source's bus is one of so many
pub record IsOnBus (buses : ℕ) (bound : BoundSource) : Type 0 where
  pub bus : bound.bus < buses
  pub ranges : IsInRange bound

-- the attempts that a bus has for a transaction: those that are said of it, or the usual number
abbrev pub tries_in : List BusTries → ℕ → ℕ
tries_in [] bus = usual_tries
tries_in (said ∷ more) bus = if said.bus == bus then said.tries else tries_in more bus

-- this is said of the bus
abbrev pub IsSaidOf : ℕ → BusTries → Type 0
IsSaidOf bus said = said.bus ≡ bus

-- it is said of one of so many buses, and is a number of attempts that a bus may be given
pub record IsTried (buses : ℕ) (said : BusTries) : Type 0 where
  pub bus : said.bus < buses
  pub tries : AreTries said.tries

-- each source is on one of the buses, and no place is bound twice; the attempts of each bus are said once at most
pub record IsWithinLimits (wiring : Wiring) : Type 0 where
  pub buses : IsBusCount wiring.buses
  pub sources : All (IsOnBus wiring.buses) wiring.sources
  pub once : AllPairs (λ earlier later. ¬ IsAt later.bus later.number earlier) wiring.sources
  pub tries : All (IsTried wiring.buses) wiring.tries
  pub tried_once : AllPairs (λ earlier later. ¬ IsSaidOf later.bus earlier) wiring.tries
