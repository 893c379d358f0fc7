-- What the numbers in the fields of constants and slots stand for.
use Rattle.std.specs.Prelude.{◌≡◌, ℕ, ℤ}
use Rattle.iltypes.specs.declared.value.IlType.{IlType}
use Rattle.iltypes.specs.declared.value.IlType.TheVariants as types
use Rattle.iltypes.specs.declared.value.Value.{Value}
use Rattle.iltypes.specs.declared.value.Value.TheVariants as values
use Rattle.ilcodefile.specs.Files.{truth}

-- what a constant's fields hold
abbrev pub Holds : Value → ℕ → ℤ → Type 0
Holds (values.Bool b) k y = (k ≡ 0) × (y ≡ truth b)
Holds (values.Int z) k y = (k ≡ 1) × (y ≡ z)

-- what the fields of a slot's type hold
abbrev pub HoldsType : IlType → ℕ → ℤ → ℤ → Type 0
HoldsType types.Bool k lo hi = k ≡ 0
HoldsType (types.Int range) k lo hi = (k ≡ 1) × (range.lo ≡ lo) × (range.hi ≡ hi)
