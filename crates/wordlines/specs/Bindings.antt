-- Which bytes are a binding, what it says, and which line of others is at fault (profile): lines of words, of which
-- `buses N` comes first, and once, and then each source of events with a place of its own, and the attempts of buses.
use Rattle.std.specs.Prelude.{◌≡◌, ℕ, ◌<◌, ◌⊎◌, List, [], ◌∷◌, ◌++◌, Option, Some, None, Result, All}
use Rattle.std.specs.Prelude.{option_map, IsSomeAnd, ⊤}
use Rattle.std.specs.Str.Lines.{lines}
use Rattle.wordlines.specs.LineFiles.{LeadTo, AreBadAt, KeepSome, IsReport}
use Rattle.wordlines.specs.LineRules.{LineRules}
pub use Rattle.wordlines.specs.LineFiles.{GivesIfRoom, IsTooLong}
use Rattle.wordlines.specs.declared.fault.LineFault.{LineFault}
use Rattle.wordlines.specs.declared.sources.BoundSource.{BoundSource}
use Rattle.wordlines.specs.declared.tries.BusTries.{BusTries}
use Rattle.wordlines.specs.declared.binding_lines.BindingLine.{BindingLine}
use Rattle.wordlines.specs.declared.binding_lines.BindingLine.TheVariants.{Buses, Bound, Tries}
use Rattle.wordlines.specs.Spelling.{SpellsBuses, SpellsBound, SpellsTries}
use Rattle.wordlines.specs.Wirings.{Wiring, IsFree, IsSaidOf}

-- the words of a line say this
abbrev pub Says : List (List ℕ) → BindingLine → Type 0
Says words (Buses number) = SpellsBuses words number
Says words (Bound bound) = SpellsBound words bound
Says words (Tries said) = SpellsTries words said

-- the source's bus is there, and its place is free
pub record HasPlaceFor (bound : BoundSource) (wiring : Wiring) : Type 0 where
  pub bus : bound.bus < wiring.buses
  pub free : IsFree wiring bound.bus bound.number

-- the bus is there, and nothing is said of its attempts
pub record HasNoTries (said : BusTries) (wiring : Wiring) : Type 0 where
  pub bus : said.bus < wiring.buses
  pub free : All (λ earlier. ¬ IsSaidOf said.bus earlier) wiring.tries

-- the line may stand after lines that said this wiring, or none yet
abbrev pub Follows : Option Wiring → BindingLine → Type 0
Follows before (Buses number) = before ≡ None
Follows before (Bound bound) = IsSomeAnd before (HasPlaceFor bound)
Follows before (Tries said) = IsSomeAnd before (HasNoTries said)

-- a wiring with one source more
abbrev pub with_source : BoundSource → Wiring → Wiring
with_source bound wiring =
    record { buses = wiring.buses; sources = wiring.sources ++ bound ∷ []; tries = wiring.tries }

-- a wiring with the attempts of one bus more
abbrev pub with_tries : BusTries → Wiring → Wiring
with_tries said wiring =
    record { buses = wiring.buses; sources = wiring.sources; tries = wiring.tries ++ said ∷ [] }

-- what is said after it
abbrev pub wiring_after : Option Wiring → BindingLine → Option Wiring
wiring_after before (Buses number) = Some (record { buses = number; sources = []; tries = [] })
wiring_after before (Bound bound) = option_map (with_source bound) before
wiring_after before (Tries said) = option_map (with_tries said) before

abbrev pub binding_rules : LineRules BindingLine (Option Wiring)
binding_rules = record { Says = Says; Follows = Follows; after = wiring_after }

-- the bytes are a binding, and it says this
abbrev pub IsBinding : List ℕ → Wiring → Type 0
IsBinding bytes wiring = LeadTo binding_rules None bytes (Some wiring)

-- the bytes are no binding, and this line is at fault: the first bad line, and line 1 where none is bad and none says
-- the number of buses
abbrev pub IsBadBinding : List ℕ → ℕ → Type 0
IsBadBinding bytes line = AreBadAt binding_rules None bytes line ⊎ (LeadTo binding_rules None bytes None × (line ≡ 1))

-- the line binds a source or says the attempts of a bus, which is kept
abbrev pub IsBound : BindingLine → Type 0
IsBound (Buses number) = ⊥
IsBound (Bound bound) = ⊤
IsBound (Tries said) = ⊤

-- some line binds a source, or says the attempts of a bus, after those before it
abbrev pub BindsSome : List (List ℕ) → Type 0
BindsSome all = KeepSome binding_rules None IsBound all

abbrev pub BindFault : Type 0
BindFault = LineFault Wiring

-- what is reported of bytes: a binding, the line at fault, that they are too many, or, where a source or the attempts
-- of a bus are to be kept, that memory was refused
abbrev pub IsJudged : List ℕ → Result Wiring BindFault → Type 0
IsJudged bytes result = IsReport (IsBinding bytes) (IsBadBinding bytes) (BindsSome (lines bytes)) bytes result
