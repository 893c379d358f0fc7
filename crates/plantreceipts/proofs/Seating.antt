-- The tallies of the seats are taken one after another, and the numbers are those of the roles that have a seat.
use Rattle.std.proofs.Common.{◌≡◌, ◌≢◌, ℕ, ◌+◌, ◌-◌, ◌<◌, ◌≤◌, Bool, List, [], ◌∷◌, ◌++◌, length, remove}
use Rattle.std.proofs.Common.{◌∙◌, ⊎_elim, refl, sym, ap, subst, arith}
use Rattle.std.proofs.lemmas.List.{length-append}
use Rattle.std.specs.Prelude.{slice_index_or, true, false}
use Rattle.limits.specs.Limits.{most_buses, most_seats, most_workers}
use Rattle.plantevents.specs.declared.role.Role.{Role}
use Rattle.plantevents.specs.declared.role.Role.TheVariants.{Worker, Bus, Clock}
use Rattle.plantevents.specs.Parts.{is_same_role}
use Rattle.plantevents.proofs.Parting.{role_tells}
use Rattle.ilplan.specs.Plans.{Planned}
use Rattle.plant.specs.Shown.{Shown, is_reserved}
use Rattle.plantreceipts.specs.Receipts.{ShareParts, AreFresh, IsFresh, IsRole, index_of, seat_of, seat_at}
use Rattle.plantreceipts.specs.Seats.{AreCounted, AreUnused, IsNextTally}
use Rattle.plantreceipts.specs.Tokens.{one_if}
use Rattle.buslink.proofs.Eaching.{each_first, each_rest, each_push, each_none}
use Rattle.plantreceipts.proofs.Roles.{index_apart, seat_apart}

length_remove : {T : Type 0} (tallies : List T) → 0 < length tallies → length (remove tallies 0) + 1 ≡ length tallies
length_remove [] some = absurd (omega arith)
length_remove (x ∷ xs) some = omega arith

pub next_unused : {T : Type 0} (seat : T → ℕ × ℕ) (amount : T → ℕ) (n : ℕ) (tallies : List T) (tally : T)
    → n < most_seats → AreUnused seat amount n tallies → tally ≡ slice_index_or tallies 0 tally
    → IsNextTally seat amount n tally (remove tallies 0)
next_unused {T = T} seat amount n tallies tally low unused is =
    let P : ℕ → T → Type 0 = λ k t. (seat t ≡ seat_at k) × (amount t ≡ 0) in
    let some : 0 < length tallies = omega (arith, unused.count) in
    let first = each_first P n tallies tally some unused.each is in
    record {
      seated = first.0;
      unused = first.1;
      rest = record {
        count = let e = length_remove tallies some in omega (arith, unused.count, e);
        each = each_rest P n tallies unused.each;
      };
    }

-- no Share yet
pub fresh_none : (start : Shown) (role : ℕ → Role) (shares : List ShareParts) → shares ≡ []
    → AreFresh start role 0 shares
fresh_none start role shares none =
    subst (λ xs. AreFresh start role 0 xs) (sym none) (refl, each_none (λ k s. IsFresh start (role k) s) 0)

-- one Share more
fresh_push : (start : Shown) (role : ℕ → Role) (n : ℕ) (shares : List ShareParts) (s : ShareParts)
    → AreFresh start role n shares → IsFresh start (role n) s → AreFresh start role (n + 1) (shares ++ s ∷ [])
fresh_push start role n shares s fresh more =
    let many : length (shares ++ s ∷ []) ≡ n + 1 =
    let l = length-append shares (s ∷ []) in let e = fresh.0 in omega (arith, l, e) in
    let last : n ≡ 0 + length shares = let e = fresh.0 in omega (arith, e) in (
      many,
      each_push (λ k x. IsFresh start (role k) x) 0 shares s fresh.1
          (subst (λ m. IsFresh start (role m) s) last more),
    )

pub fresh_pushed : (start : Shown) (role : ℕ → Role) (n : ℕ) (shares after : List ShareParts) (s : ShareParts)
    → AreFresh start role n shares → IsFresh start (role n) s → after ≡ shares ++ s ∷ []
    → AreFresh start role (n + 1) after
fresh_pushed start role n shares after s fresh more pushed =
    subst (λ xs. AreFresh start role (n + 1) xs) (sym pushed) (fresh_push start role n shares s fresh more)

-- ---- how many

-- the plan says how many buses there are
pub buses_known : (p q : Shown) (s t : Planned) (n : ℕ) → p ≡ q → s ≡ p.plant.plan → t ≡ s → n ≡ t.buses
    → n ≡ q.plant.plan.buses
buses_known p q s t n start plan value buses =
    buses ∙ ap (λ (x : Planned). x.buses) (value ∙ plan) ∙ ap (λ (x : Shown). x.plant.plan.buses) start

-- one of them is one of those that have a seat
pub one_of : (k n count most : ℕ) → n ≡ count → count ≤ most → k < n → (k < count) × (k < most)
one_of k n count most is few low = (omega arith, omega arith)

-- the end of a loop over them
pub at_end : (k n count : ℕ) → k ≤ n → n ≤ k → n ≡ count → k ≡ count
at_end k n count low high is = omega arith

-- the seats that are passed over after them
pub workers_passed : (k n count left : ℕ) → k ≤ n → n ≤ k → n ≡ count → count ≤ most_workers → left ≡ most_workers - n
    → (k + left ≡ most_workers) × (k + left ≤ most_seats)
workers_passed k n count left low high is few rest = (omega arith, omega arith)

pub buses_passed : (k n count left : ℕ) → k ≤ n → n ≤ k → n ≡ count → count ≤ most_buses → left ≡ most_buses - n
    → (most_workers + k + left ≡ most_workers + most_buses) × (most_workers + k + left ≤ most_seats)
buses_passed k n count left low high is few rest = (omega arith, omega arith)

-- ---- numbers

-- the number of one role more
counted_more : (start : Shown) (before after : ℕ × ℕ → ℕ) (role : Role) → IsRole start.plant role
    → after (seat_of role) ≡ one_if (is_reserved role start)
    → ((k : ℕ × ℕ) → k ≢ seat_of role → after k ≡ before k) → AreCounted start before (index_of role)
    → AreCounted start after (index_of role + 1)
counted_more start before after role known mine others counted other is low =
    ⊎_elim
    (λ (same : (is_same_role role other ≡ true) × (role ≡ other)).
    subst (λ (r : Role). after (seat_of r) ≡ one_if (is_reserved r start)) same.1 mine)
    (λ (apart : (is_same_role role other ≡ false) × (role ≢ other)).
    others (seat_of other) (seat_apart start.plant role other known is apart.1)
    ∙ counted other is
    (let away : index_of role ≢ index_of other =
    λ (e : index_of role ≡ index_of other). apart.1 (index_apart start.plant role other known is e) in
    omega (arith, away)))
    (role_tells role other)

pub counted_next : (start : Shown) (before after : ℕ × ℕ → ℕ) (role : Role) (seat : ℕ × ℕ) (reserved : Bool)
    → IsRole start.plant role → seat ≡ seat_of role → reserved ≡ is_reserved role start → after seat ≡ one_if reserved
    → ((k : ℕ × ℕ) → k ≢ seat → after k ≡ before k) → AreCounted start before (index_of role)
    → AreCounted start after (index_of role + 1)
counted_next start before after role seat reserved known seated kept mine others =
    counted_more start before after role known
    (subst (λ (k : ℕ × ℕ). after k ≡ one_if (is_reserved role start)) seated (mine ∙ ap one_if kept))
    (subst (λ (s : ℕ × ℕ). (k : ℕ × ℕ) → k ≢ s → after k ≡ before k) seated others)

-- there is no role below the first seat
pub counted_none : (start : Shown) (number : ℕ × ℕ → ℕ) → AreCounted start number 0
counted_none start number role known low = absurd (omega arith)

-- no role has a seat between the workers and the buses, and between the buses and the clock
pub workers_counted : (start : Shown) (number : ℕ × ℕ → ℕ) → AreCounted start number start.plant.workers
    → AreCounted start number most_workers
workers_counted start number counted (Worker w) is low = counted (Worker w) is is.0
workers_counted start number counted (Bus b) is low = absurd (omega arith)
workers_counted start number counted Clock is low = absurd (omega arith)

pub buses_counted : (start : Shown) (number : ℕ × ℕ → ℕ)
    → AreCounted start number (most_workers + start.plant.plan.buses)
    → AreCounted start number (most_workers + most_buses)
buses_counted start number counted (Worker w) is low = let i = is.1 in counted (Worker w) is (omega arith)
buses_counted start number counted (Bus b) is low = let i = is.0 in counted (Bus b) is (omega arith)
buses_counted start number counted Clock is low = absurd (omega arith)
