-- Blanks are spaces (32), tabs (9) and comments (IEC 61131-3, 2.1.5): `(*` up to the next `*)`, with any bytes inside.
use Rattle.std.specs.Prelude.{◌≡◌, ◌≢◌, ◌⊎◌, ◌++◌, ℕ, List, [], ◌∷◌}

-- no `*)` stands in the bytes
abbrev pub NoClose : List ℕ → Type 0
NoClose [] = Unit {0}
NoClose (b ∷ []) = Unit {0}
NoClose (b ∷ c ∷ bs) = (b ≡ 42 → c ≡ 41 → ⊥) × NoClose (c ∷ bs)

-- `(*`, any bytes and the first `*)` after the opening; so comments do not nest, and `(*)` is none
abbrev pub IsComment : List ℕ → Type 0
IsComment u = (inside : List ℕ) × (u ≡ 40 ∷ 42 ∷ inside ++ 42 ∷ 41 ∷ []) × NoClose (inside ++ 42 ∷ [])

-- a space, a tab or a comment
abbrev pub IsBlank : List ℕ → Type 0
IsBlank u = (u ≡ 32 ∷ []) ⊎ ((u ≡ 9 ∷ []) ⊎ IsComment u)

-- blanks one after the other
pub data AreBlanks : List ℕ → Type 0 where
  none : AreBlanks []
  more : (u v : List ℕ) → IsBlank u → AreBlanks v → AreBlanks (u ++ v)

-- a comment opens and does not end
abbrev pub OpensComment : List ℕ → Type 0
OpensComment bs = (inside : List ℕ) × (bs ≡ 40 ∷ 42 ∷ inside) × NoClose inside

abbrev pub NoOpening : ℕ → List ℕ → Type 0
NoOpening b [] = Unit {0}
NoOpening b (c ∷ bs) = b ≡ 40 → c ≡ 42 → ⊥

-- neither a blank nor an opening comment begins the bytes
abbrev pub BeginsNoBlank : List ℕ → Type 0
BeginsNoBlank [] = Unit {0}
BeginsNoBlank (b ∷ bs) = (b ≢ 32) × (b ≢ 9) × NoOpening b bs
