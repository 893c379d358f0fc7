-- A plant that is full stays full: an event takes a place of the history, and frees one at most.
use Rattle.std.proofs.Common.{◌≡◌, ℕ, eqb, ◌+◌, ◌-◌, ◌≤◌, Bool, true, false, not, ◌∷◌, length, Some, None}
use Rattle.std.proofs.Common.{sym, ap, arith}
use Rattle.std.proofs.lemmas.Bool.{ne_eqb}
use Rattle.std.proofs.lemmas.Grind.{common_steps}
use Rattle.std.specs.Prelude.{if◌then◌else◌, nat_lt, is_some}
use Rattle.plantevents.specs.declared.event.Event.{Event}
use Rattle.plantevents.specs.declared.event.Event.TheVariants.{Tick, Heard, Take, Commit, Hand, Done, Down, Up}
use Rattle.plantevents.specs.declared.role.Role.{Role}
use Rattle.plantevents.specs.declared.role.Role.TheVariants.{Worker, Bus, Clock}
use Rattle.plantevents.specs.Histories.{scan, is_down}
use Rattle.plant.specs.Shown.{Shown, grown, reserving, kept, is_full, unreported}
use Rattle.plant.proofs.Counting.{one_most, count_near, count_unset, count_set, sum_near}

handed_near : (same : Bool) (n : ℕ) → n ≤ (if same then n + 1 else n) + 1
handed_near true n = omega arith
handed_near false n = omega arith

reported_near : (same : Bool) (n : ℕ) → n ≤ (if same then n - 1 else n) + 1
reported_near true n = omega arith
reported_near false n = omega arith

-- one place is freed at most
near : (p : Shown) (e : Event) → kept p ≤ kept (grown p e) + 1
near p (Tick m) = let most = one_most p.reserved.clock in omega arith
near p (Heard b f) = let less = count_unset p.reserved.buses b in omega arith
near p (Take w t s) =
    let less =
    count_near (λ v. is_some (scan v p.history)) (λ v. is_some (scan v (Take w t s ∷ p.history))) p.plant.workers w
    (λ v ne. ap (λ (same : Bool). is_some (if same
    then Some (record { place = length p.history; task = t; snapshot = s })
    else scan v p.history)) (ne_eqb w v (λ e. ne (sym e)))) in omega arith
near p (Commit w n r) =
    let less =
    count_near (λ v. is_some (scan v p.history)) (λ v. is_some (scan v (Commit w n r ∷ p.history))) p.plant.workers w
    (λ v ne. ap (λ (same : Bool). is_some (if same then None else scan v p.history)) (ne_eqb w v (λ e. ne (sym e))))
    in omega arith
near p (Hand b s t) =
    let less =
    sum_near (λ c. unreported c p.history) (λ c. unreported c (Hand b s t ∷ p.history)) p.plant.plan.buses b
    (handed_near (eqb b b) (unreported b p.history))
    (λ c ne. ap (λ (same : Bool). if same then unreported c p.history + 1 else unreported c p.history)
    (ne_eqb b c (λ e. ne (sym e)))) in omega arith
near p (Done b n r) =
    let less =
    sum_near (λ c. unreported c p.history) (λ c. unreported c (Done b n r ∷ p.history)) p.plant.plan.buses b
    (reported_near (eqb b b) (unreported b p.history))
    (λ c ne. ap (λ (same : Bool). if same then unreported c p.history - 1 else unreported c p.history)
    (ne_eqb b c (λ e. ne (sym e)))) in omega arith
near p (Down b) =
    let less =
    count_near (λ c. not (is_down c p.history)) (λ c. not (is_down c (Down b ∷ p.history))) p.plant.plan.buses b
    (λ c ne. ap (λ (same : Bool). not (if same then true else is_down c p.history)) (ne_eqb b c (λ e. ne (sym e))))
    in omega arith
near p (Up b) =
    let less =
    count_near (λ c. not (is_down c p.history)) (λ c. not (is_down c (Up b ∷ p.history))) p.plant.plan.buses b
    (λ c ne. ap (λ (same : Bool). not (if same then false else is_down c p.history)) (ne_eqb b c (λ e. ne (sym e))))
    in omega arith

-- no place is freed by one that is kept back
no_fewer : (p : Shown) (r : Role) → kept p ≤ kept (reserving r p)
no_fewer p Clock = let most = one_most p.reserved.clock in omega arith
no_fewer p (Bus b) = let more = count_set p.reserved.buses b in omega arith
no_fewer p (Worker w) = omega arith

above : (limit few many : ℕ) → few ≤ many → nat_lt limit few ≡ true → nat_lt limit many ≡ true
above limit few many le is = grind (arith, common_steps)

pub full_after : (p : Shown) (e : Event) → is_full p ≡ true → is_full (grown p e) ≡ true
full_after p e full =
    let n = near p e in
    above p.limit (length p.history + kept p + 2) (length (e ∷ p.history) + kept (grown p e) + 2) (omega arith) full

pub full_with_place : (p : Shown) (r : Role) → is_full p ≡ true → is_full (reserving r p) ≡ true
full_with_place p r full =
    let n = no_fewer p r in
    above p.limit (length p.history + kept p + 2) (length p.history + kept (reserving r p) + 2) (omega arith) full
