-- Sets of addresses, as bits.
use Rattle.std.specs.Prelude.{◌≡◌, ℕ, ◌<◌, ◌≤◌, Bool, true, false}
use Rattle.std.specs.Int.{bit_at}

abbrev pub one_if : Bool → ℕ
one_if true = 1
one_if false = 0

-- none above 80
abbrev pub HasNoOther : ℕ → Type 0
HasNoOther bits = (a : ℕ) → 81 ≤ a → a < 128 → bit_at bits a ≡ 0

abbrev pub HasNone : ℕ → Type 0
HasNone bits = (a : ℕ) → bit_at bits a ≡ 0

abbrev pub IsLeast : ℕ → ℕ → Type 0
IsLeast bits a = (a < 81) × (bit_at bits a ≡ 1) × ((b : ℕ) → b < a → bit_at bits b ≡ 0)
