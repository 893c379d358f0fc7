-- The names of the variables that can be watched (profile).
use Rattle.std.specs.Prelude.{◌≡◌, ℕ, ◌<◌, ◌⊎◌, List, ◌∷◌, ◌++◌, length, IsSomeAnd}
use Rattle.std.specs.Borrow.{Bor}
use Rattle.std.specs.List.{All, Contains}
use Rattle.ilplan.specs.declared.slot.SlotOwner.{SlotOwner}
use Rattle.ilplan.specs.Plans.{Planned, instance_name, slot_at, variable_name}
use Rattle.plantplay.specs.Names.{IsAlike, IsNamed}
use Rattle.plantplay.specs.declared.watch.Place.{Place}
use Rattle.plantplay.specs.declared.watch.Place.TheVariants.{Global, Own}

-- `.`
abbrev pub dot : ℕ
dot = 46

-- The name is that of a variable of a program instance: what stands before its first dot is the instance's name, and what
-- stands behind it the variable's, both in any letter case.
pub record IsNameOf (name instance variable : List ℕ) : Type 0 where
  pub before : List ℕ
  pub behind : List ℕ
  pub spelled : name ≡ before ++ dot ∷ behind
  pub first : ¬ Contains before dot
  pub of_instance : IsAlike instance before
  pub of_variable : IsAlike variable behind

-- a variable that a program instance has, and no global one, has the name
abbrev pub IsOwnNamed : Planned → List ℕ → SlotOwner → Type 0
IsOwnNamed plan name owner =
    IsSomeAnd (instance_name plan owner)
    (λ instance. IsSomeAnd (variable_name plan owner) (λ variable. IsNameOf name instance variable))

-- the slot of a task is there, and is the variable of a program instance of the name
abbrev pub IsSlotNamed : Planned → List ℕ → ℕ → ℕ → Type 0
IsSlotNamed plan name task slot = IsSomeAnd (slot_at plan task slot) (λ s. IsOwnNamed plan name s.variable)

-- the variable of the name is there
abbrev pub IsPlaceOf : Planned → List ℕ → Place → Type 0
IsPlaceOf plan name (Global number) = (number < length plan.globals) × IsNamed plan name number
IsPlaceOf plan name (Own task slot) = IsSlotNamed plan name task slot

-- the name is that of a global variable, or of a variable of a program instance
abbrev pub IsWatchable : Planned → List ℕ → Type 0
IsWatchable plan name = (place : Place) × IsPlaceOf plan name place

abbrev pub AreWatchable : Planned → List (Bor (List ℕ)) → Type 0
AreWatchable plan names = All (λ name. IsWatchable plan name.now) names
