-- The longest token at the front of some bytes, and what a token can hold.
use Rattle.std.specs.Prelude.{◌≡◌, ℕ, ◌^◌, ◌<◌, ◌≤◌, List, ◌++◌, length, FitsSigned}
use Rattle.std.specs.Int.{w64}
use Rattle.iltokens.specs.declared.lexed.What.{What}
use Rattle.iltokens.specs.declared.lexed.What.TheVariants as whats
use Rattle.iltokens.specs.Spellings.{Spells}

-- the limits of a value: 64 signed bits; 32 bits of milliseconds; 63 bits of a bus and of a place
abbrev pub IsWithin : What → Type 0
IsWithin (whats.Number n) = FitsSigned w64 n
IsWithin (whats.Time n) = n < 2 ^ 32
IsWithin (whats.Address kind bus place) = (bus < 2 ^ 63) × (place < 2 ^ 63)
IsWithin _ = Unit {0}

-- This front of the bytes spells the token, and no longer front spells any, be it in its limits or not.
pub record IsLongest (bytes front : List ℕ) (what : What) : Type 0 where
  pub after : List ℕ
  pub parts : bytes ≡ front ++ after
  pub spells : Spells what front
  pub longest : (other after : List ℕ) (any : What)
      → bytes ≡ other ++ after → Spells any other → length other ≤ length front

-- no front of the bytes spells a token, be it in its limits or not
abbrev pub SpellsNone : List ℕ → Type 0
SpellsNone bytes = (front after : List ℕ) (any : What) → bytes ≡ front ++ after → Spells any front → ⊥
