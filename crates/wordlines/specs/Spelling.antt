-- What the words of a line say (profile): `buses N`, or `source b.k` and a source of events, by the keyword of its
-- event scheme (IEC 62386-103, clause 9) and its two parts, or `tries b n`. Numbers are decimal, each in its range.
use Rattle.std.specs.Prelude.{◌≡◌, ℕ, ◌-◌, List, [], ◌∷◌, codes, Some}
use Rattle.limits.specs.Limits.{most_buses, most_sources, most_tries, AreTries}
use Rattle.wordlines.specs.WordLines.{number_upto, AreAroundDot}
use Rattle.daliframe.specs.declared.schemes.EventScheme.{EventScheme}
use Rattle.daliframe.specs.declared.schemes.EventScheme.TheVariants.{Instance, Device, DeviceInstance}
use Rattle.daliframe.specs.declared.schemes.EventScheme.TheVariants.{DeviceGroup, InstanceGroup}
use Rattle.dalievent.specs.declared.messages.EventSource.{EventSource}
use Rattle.dalievent.specs.EventSchemes.{a_limit}
use Rattle.wordlines.specs.declared.sources.BoundSource.{BoundSource}
use Rattle.wordlines.specs.declared.tries.BusTries.{BusTries}
use Rattle.wordlines.specs.Wirings.{IsBusCount}

-- the words are `buses N`
pub record SpellsBuses (words : List (List ℕ)) (number : ℕ) : Type 0 where
  pub digits : List ℕ
  pub are : words ≡ codes "buses" ∷ digits ∷ []
  pub spell : number_upto most_buses digits ≡ Some number
  pub count : IsBusCount number

-- the word is `b.k`: a bus, and the number of a place there
pub record SpellsPlace (word : List ℕ) (bus number : ℕ) : Type 0 where
  pub front : List ℕ
  pub back : List ℕ
  pub are : AreAroundDot word front back
  pub spells_bus : number_upto (most_buses - 1) front ≡ Some bus
  pub spells_number : number_upto (most_sources - 1) back ≡ Some number

-- the keyword of an event scheme
abbrev pub scheme_word : EventScheme → List ℕ
scheme_word Instance = codes "instance"
scheme_word Device = codes "device"
scheme_word DeviceInstance = codes "device-instance"
scheme_word DeviceGroup = codes "device-group"
scheme_word InstanceGroup = codes "instance-group"

-- the words are the keyword of the source's scheme and its parts, such as `instance T N`
pub record SpellsSource (words : List (List ℕ)) (source : EventSource) : Type 0 where
  pub first : List ℕ
  pub second : List ℕ
  pub are : words ≡ scheme_word source.scheme ∷ first ∷ second ∷ []
  pub spells_a : number_upto (a_limit source.scheme - 1) first ≡ Some source.a
  pub spells_b : number_upto 31 second ≡ Some source.b

-- the words are `source b.k` and the words of a source
pub record SpellsBound (words : List (List ℕ)) (bound : BoundSource) : Type 0 where
  pub place : List ℕ
  pub rest : List (List ℕ)
  pub are : words ≡ codes "source" ∷ place ∷ rest
  pub at : SpellsPlace place bound.bus bound.number
  pub is : SpellsSource rest bound.source

-- the words are `tries b n`
pub record SpellsTries (words : List (List ℕ)) (said : BusTries) : Type 0 where
  pub front : List ℕ
  pub back : List ℕ
  pub are : words ≡ codes "tries" ∷ front ∷ back ∷ []
  pub spells_bus : number_upto (most_buses - 1) front ≡ Some said.bus
  pub spells_tries : number_upto most_tries back ≡ Some said.tries
  pub are_tries : AreTries said.tries
