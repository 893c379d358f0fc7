-- How many words may still follow where calls are open: those of the body from here, and those of each caller from
-- where it goes on.
use Rattle.std.proofs.Common.{◌≡◌, ℕ, ◌+◌, ◌≤◌, Option, Some, None, refl, arith}
use Rattle.std.specs.Prelude.{min, max}
use Rattle.ilverify.specs.Tables.{cap, plus}
use Rattle.ilverify.specs.Through.{plus_if, max_if}
use Rattle.ilverify.specs.BoundSteps.{longest_behind}
use Rattle.ilverify.specs.LongestWays.{then_more}

-- and those of its callers after them
abbrev pub span : Option ℕ → ℕ → Option ℕ → ℕ
span through longest None = longest
span through longest (Some rest) = max longest (then_more through rest)

-- equal, but where both are past the limit
pub record IsNear (a b : ℕ) : Type 0 where
  pub below : a ≤ b
  pub above : min b cap ≤ a

pub near_self : (a : ℕ) → IsNear a a
near_self a = record { below = omega arith; above = omega arith }

pub near_is : (a b : ℕ) → a ≡ b → IsNear a b
near_is a b e = record { below = omega arith; above = omega arith }

pub near_trans : (a b c : ℕ) → IsNear a b → IsNear b c → IsNear a c
near_trans a b c h g = record {
  below = omega (arith, h.below, g.below);
  above = omega (arith, h.above, g.above);
}

-- one word before
pub near_more : (t : Option ℕ) (l : ℕ) (r : Option ℕ) → IsNear (span (plus_if (Some 1) t) (plus 1 l) r) (1 + span t l r)
near_more None l None = record { below = omega arith; above = omega arith }
near_more (Some t) l None = record { below = omega arith; above = omega arith }
near_more None l (Some r) = record { below = omega arith; above = omega arith }
near_more (Some t) l (Some r) = record { below = omega arith; above = omega arith }

-- one after the other
pub near_joined : (t : Option ℕ) (l : ℕ) (u : Option ℕ) (k : ℕ) (r : Option ℕ)
    → IsNear (span (plus_if t u) (max l (longest_behind t k)) r) (span t l (Some (span u k r)))
near_joined None l u k None = record { below = omega arith; above = omega arith }
near_joined None l u k (Some r) = record { below = omega arith; above = omega arith }
near_joined (Some t) l None k None = record { below = omega arith; above = omega arith }
near_joined (Some t) l None k (Some r) = record { below = omega arith; above = omega arith }
near_joined (Some t) l (Some u) k None = record { below = omega arith; above = omega arith }
near_joined (Some t) l (Some u) k (Some r) = record { below = omega arith; above = omega arith }

-- either way
pub span_either : (t : Option ℕ) (l : ℕ) (u : Option ℕ) (k : ℕ) (r : Option ℕ)
    → span (max_if t u) (max l k) r ≡ max (span t l r) (span u k r)
span_either t l u k None = refl
span_either None l None k (Some r) = omega arith
span_either None l (Some u) k (Some r) = omega arith
span_either (Some t) l None k (Some r) = omega arith
span_either (Some t) l (Some u) k (Some r) = omega arith

pub span_nowhere : (r : Option ℕ) → span None 0 r ≡ 0
span_nowhere None = refl
span_nowhere (Some r) = refl
