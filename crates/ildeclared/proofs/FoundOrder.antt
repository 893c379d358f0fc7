-- Which of two faults is reported, and the least of the same faults.
use Rattle.std.proofs.Common.{◌≡◌, ℕ, ◌<◌, ◌≤◌, Bool, true, false, ◌||◌, ◌&&◌, ◌≢◌, refl, sym}
use Rattle.std.proofs.Common.{arith, ◌⊎◌, inl, inr}
use Rattle.std.specs.Prelude.{Option, Some, None, nat_lt, ◌==◌}
use Rattle.std.proofs.lemmas.Grind.{common_steps}
use Rattle.ildeclared.specs.Causes.{name_fault_number}
use Rattle.ildeclared.specs.Faults.{Beyond, IsLeastOf, IsNextOf, IsNotAfter}
use Rattle.ildeclared.specs.Order.{comes_before}
use Rattle.ildeclared.specs.declared.fault.NameCause.{NameCause}
use Rattle.ildeclared.specs.declared.found.Found.{Found}

lt_true : (a b : ℕ) → nat_lt a b ≡ true → a < b
lt_true a b e = grind (arith, common_steps)

lt_false : (a b : ℕ) → nat_lt a b ≡ false → b ≤ a
lt_false a b e = grind (arith, common_steps)

eq_true : (a b : ℕ) → (a == b) ≡ true → a ≡ b
eq_true a b e = grind (arith, common_steps)

eq_false : (a b : ℕ) → (a == b) ≡ false → a ≢ b
eq_false a b e = grind (arith, common_steps)

before_true : (a b x y : ℕ) (u v w : Bool) → nat_lt a b ≡ u → (a == b) ≡ v → nat_lt x y ≡ w → (u || (v && w)) ≡ true
    → (a < b) ⊎ ((a ≡ b) × (x ≤ y))
before_true a b x y true v w e f g h = inl (lt_true a b e)
before_true a b x y false true true e f g h = let l : x < y = lt_true x y g in inr (eq_true a b f, omega arith)
before_true a b x y false true false e f g h = absurd cc
before_true a b x y false false w e f g h = absurd cc

before_false : (a b x y : ℕ) (u v w : Bool) → nat_lt a b ≡ u → (a == b) ≡ v → nat_lt x y ≡ w → (u || (v && w)) ≡ false
    → (b < a) ⊎ ((b ≡ a) × (y ≤ x))
before_false a b x y true v w e f g h = absurd cc
before_false a b x y false true true e f g h = absurd cc
before_false a b x y false true false e f g h = inr (sym (eq_true a b f), lt_false x y g)
before_false a b x y false false w e f g h = let l : b ≤ a = lt_false a b e in let n : a ≢ b =
    eq_false a b f in inl (omega arith)

-- the first is reported before the second, and the second is not reported after the first
pub is_before : (f g : Found) → comes_before f g ≡ true → IsNotAfter f.at f.cause g.at g.cause
is_before f g e = before_true f.at g.at (name_fault_number f.cause) (name_fault_number g.cause) _ _ _ refl refl refl e

pub is_not_before : (f g : Found) → comes_before f g ≡ false → IsNotAfter g.at g.cause f.at f.cause
is_not_before f g e = before_false f.at g.at (name_fault_number f.cause)
    (name_fault_number g.cause) _ _ _ refl refl refl e

pub later : (a b c x y z : ℕ) → (a < b) ⊎ ((a ≡ b) × (x ≤ y)) → (b < c) ⊎ ((b ≡ c) × (y ≤ z))
    → (a < c) ⊎ ((a ≡ c) × (x ≤ z))
later a b c x y z (inl p) (inl q) = inl (omega arith)
later a b c x y z (inl p) (inr q) = inl (omega arith)
later a b c x y z (inr p) (inl q) = inl (omega arith)
later a b c x y z (inr p) (inr q) = inr (omega arith, omega arith)

pub best_same : (P Q : ℕ → NameCause → Type 0) (o : Option Found)
    → ((place : ℕ) (cause : NameCause) → P place cause → Q place cause) →
    ((place : ℕ) (cause : NameCause) → Q place cause → P place cause) → IsLeastOf P o → IsLeastOf Q o
best_same P Q None to from l = λ place cause q. l place cause (from place cause q)
best_same P Q (Some f) to from l =
    record { is = to f.at f.cause l.is; least = λ place cause q. l.least place cause (from place cause q) }

-- the same of those that come after another
pub next_same : (after : Option Found) (P Q : ℕ → NameCause → Type 0) (o : Option Found)
    → ((place : ℕ) (cause : NameCause) → P place cause → Q place cause) →
    ((place : ℕ) (cause : NameCause) → Q place cause → P place cause) → IsNextOf after P o → IsNextOf after Q o
next_same after P Q o to from h =
    best_same (Beyond after P) (Beyond after Q) o (λ place cause p. (to place cause p.0, p.1))
    (λ place cause q. (from place cause q.0, q.1)) h

-- after none each comes, so that the next is the least
pub first_next : (P : ℕ → NameCause → Type 0) (o : Option Found) → IsNextOf None P o → IsLeastOf P o
first_next P o h = best_same (Beyond None P) P o (λ place cause p. p.0) (λ place cause p. (p, tt)) h

pub or_else : {A B C : Type 0} → (A → C) → (B → C) → A ⊎ B → C
or_else f g (inl a) = f a
or_else f g (inr b) = g b
