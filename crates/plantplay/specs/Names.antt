-- When a declared name is the one that is named (profile).
use Rattle.std.specs.Prelude.{◌≡◌, ℕ, List, map, IsSomeAnd}
use Rattle.std.specs.Char.{to_ascii_lowercase}
use Rattle.ilplan.specs.declared.slot.SlotOwner.TheVariants as owners
use Rattle.ilplan.specs.Plans.{Planned, variable_name}

-- both are the same, without regard to letter case
abbrev pub IsAlike : List ℕ → List ℕ → Type 0
IsAlike a b = map to_ascii_lowercase a ≡ map to_ascii_lowercase b

-- the global variable of this number is declared, and has this name in any letter case
abbrev pub IsNamed : Planned → List ℕ → ℕ → Type 0
IsNamed plan name number =
    IsSomeAnd (variable_name plan (owners.Global number)) (λ declared. IsAlike declared name)
