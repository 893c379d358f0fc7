-- How many requests were dropped: their count has room for those of one scan more.
use Rattle.std.proofs.Common.{ℕ, ◌+◌, ◌*◌, ◌<◌, ◌≤◌, Bool, true, false, List, [], ◌∷◌, length}
use Rattle.std.proofs.Common.{arith}
use Rattle.std.specs.Prelude.{◌&&◌, not, nat_lt, if◌then◌else◌}
use Rattle.gearcmd.specs.declared.requests.Request.{Request}
use Rattle.gearcmd.specs.declared.requests.TaskKind.{TaskKind}
use Rattle.busqueue.specs.declared.class.Class.{Class}
use Rattle.busqueue.specs.Queues.{class_number}
use Rattle.plantevents.specs.Scans.{Scan}
use Rattle.plantevents.specs.declared.event.Event.{Event}
use Rattle.plantevents.specs.declared.event.Event.TheVariants.{Tick, Heard, Take, Commit, Hand, Done, Down, Up}
use Rattle.plantevents.specs.Plants.{Plant}
use Rattle.plantevents.specs.Histories.{scan}
use Rattle.plantevents.specs.Waiting.{most_waiting, is_for, after_offer, refused_count, kind_scanned}
use Rattle.plantevents.specs.Waiting.{waiting, dropped}
use Rattle.plantevents.specs.Legal.{AreLegal, IsCommit}
use Rattle.plantbuses.specs.KeptSteps.{bus_at}
use Rattle.plantbuses.specs.OfferSteps.{dropped_in}
use Rattle.plant.specs.Shown.{Shown}
use Rattle.plant.specs.KeptSteps.{KeptPlant, Says}

one_at_most : (b : Bool) → (if b then 1 else 0) ≤ 1
one_at_most true = omega arith
one_at_most false = omega arith

refused_few : (b c : ℕ) (kind : TaskKind) (queue requests : List Request)
    → refused_count b c kind queue requests ≤ length requests
refused_few b c kind queue [] = omega arith
refused_few b c kind queue (r ∷ more) =
    let rest = refused_few b c kind (after_offer b c kind queue r) more in
    let one = one_at_most (is_for b c kind r && not (nat_lt (length queue) most_waiting)) in omega arith

-- a scan has no more requests than its outbox holds
asked_few : (p : Plant) (h : List Event) (w n : ℕ) (result : Scan) → IsCommit p h w n result
    → length result.after.requests ≤ 16
asked_few p h w n result may = let asks = may.meant.run.asks in omega arith

pub dropped_few : (p : Plant) (b c : ℕ) (h : List Event) → AreLegal p h → dropped p b c h ≤ 16 * length h
dropped_few p b c [] legal = omega arith
dropped_few p b c (Commit w n r ∷ h) legal =
    let rest = dropped_few p b c h legal.1 in
    let few = refused_few b c (kind_scanned p (scan w h)) (waiting p b c h) r.after.requests in
    let asks = asked_few p h w n r legal.0 in omega arith
dropped_few p b c (Tick m ∷ h) legal = let rest = dropped_few p b c h legal.1 in omega arith
dropped_few p b c (Heard d f ∷ h) legal = let rest = dropped_few p b c h legal.1 in omega arith
dropped_few p b c (Take w t s ∷ h) legal = let rest = dropped_few p b c h legal.1 in omega arith
dropped_few p b c (Hand d s x ∷ h) legal = let rest = dropped_few p b c h legal.1 in omega arith
dropped_few p b c (Done d n r ∷ h) legal = let rest = dropped_few p b c h legal.1 in omega arith
dropped_few p b c (Down d ∷ h) legal = let rest = dropped_few p b c h legal.1 in omega arith
dropped_few p b c (Up d ∷ h) legal = let rest = dropped_few p b c h legal.1 in omega arith

-- the count has room for as many as a scan may ask for
pub drop_room : (p : Shown) (k : KeptPlant) (b : ℕ) (c : Class) (requests : List Request) → Says p k
    → b < length k.buses → length requests ≤ 16
    → dropped_in (bus_at k.buses b) c + length requests < 18446744073709551616
drop_room p k b c requests says lt few =
    let many = says.each_bus.0 in let known : b < p.plant.plan.buses = omega arith in
    let e = (says.each_bus.1 b known).drops c in
    let f = dropped_few p.plant b (class_number c) p.history says.legal in
    let w = says.within in let l = says.place in let m = says.most in omega arith
