-- Where reading stops.
use Rattle.std.specs.Prelude.{◌≡◌, List, [], ◌∷◌, ◌++◌, Result, Ok, Err}
use Rattle.iltokens.specs.Items.{◌>>=◌, Item}

-- The tokens before rest are a front of what the item derives. With the first of rest they are not; where nothing is
-- left, they are not whole.
abbrev pub StopsBefore : {T A : Type 0} → Item T A → List T → List T → List T → Type 0
StopsBefore {A} a ts front [] = (ts ≡ front) × a.part front × ((x : A) → a.whole front x → ⊥)
StopsBefore a ts front (t ∷ v) = (ts ≡ front ++ t ∷ v) × a.part front × (a.part (front ++ t ∷ []) → ⊥)

abbrev pub FaultAt : {T A : Type 0} → Item T A → List T → List T → Type 0
FaultAt {T} a ts rest = (front : List T) × StopsBefore a ts front rest

-- ---- all of the tokens

abbrev pub ended : {T A : Type 0} → A → List T → Result A (List T)
ended x [] = Ok x
ended x (t ∷ ts) = Err (t ∷ ts)

abbrev pub whole_read : {T A : Type 0} → Item T A → List T → Result A (List T)
whole_read a ts = a.read ts >>= λ p. ended p.0 p.1
