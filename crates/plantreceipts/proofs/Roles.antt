-- Roles and their seats: no two roles have one.
use Rattle.std.proofs.Common.{◌≡◌, ◌≢◌, ℕ, ◌<◌, ◌/◌, ◌%◌, refl, sym, ap, arith}
use Rattle.limits.specs.Limits.{most_seats}
use Rattle.plantevents.specs.declared.role.Role.{Role}
use Rattle.plantevents.specs.declared.role.Role.TheVariants.{Worker, Bus, Clock}
use Rattle.plantevents.specs.Plants.{Plant}
use Rattle.plantreceipts.specs.Receipts.{IsRole, index_of, seat_of}

pub index_below : (p : Plant) (r : Role) → IsRole p r → index_of r < most_seats
index_below p (Worker w) known = omega arith
index_below p (Bus b) known = omega arith
index_below p Clock known = omega arith

pub index_apart : (p : Plant) (r q : Role) → IsRole p r → IsRole p q → index_of r ≡ index_of q → r ≡ q
index_apart p (Worker v) (Worker w) a b is = ap Worker is
index_apart p (Worker v) (Bus c) a b is = absurd (omega arith)
index_apart p (Worker v) Clock a b is = absurd (omega arith)
index_apart p (Bus c) (Worker w) a b is = absurd (omega arith)
index_apart p (Bus c) (Bus d) a b is = let e : c ≡ d = omega arith in ap Bus e
index_apart p (Bus c) Clock a b is = absurd (omega arith)
index_apart p Clock (Worker w) a b is = absurd (omega arith)
index_apart p Clock (Bus c) a b is = absurd (omega arith)
index_apart p Clock Clock a b is = refl

same_index : (i j : ℕ) → i / 9 ≡ j / 9 → i % 9 ≡ j % 9 → i ≡ j
same_index i j a b = omega arith

pub seat_apart : (p : Plant) (r q : Role) → IsRole p r → IsRole p q → r ≢ q → seat_of q ≢ seat_of r
seat_apart p r q a b apart is =
    apart (index_apart p r q a b
    (same_index (index_of r) (index_of q) (sym (ap (λ (s : ℕ × ℕ). s.0) is)) (sym (ap (λ (s : ℕ × ℕ). s.1) is))))
