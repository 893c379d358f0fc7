-- What a Share shows open is open in the plant.
use Rattle.std.proofs.Common.{◌≡◌, ℕ, ◌<◌, List, sym, ap, ◌∙◌, subst}
use Rattle.gearcmd.specs.FrameLists.{FrameList}
use Rattle.ilmachine.specs.Scans.{Scan}
use Rattle.plantevents.specs.declared.role.Role.{Role}
use Rattle.plantevents.specs.declared.role.Role.TheVariants.{Worker, Bus, Clock}
use Rattle.plantevents.specs.Histories.{scan, hand}
use Rattle.plantevents.specs.Parts.{Placed, part, shown_scan, shown_hand}
use Rattle.plantevents.specs.Plants.{Plant}
use Rattle.plant.specs.Matches.{IsOpenScan, IsOwnScan, IsOpenTransaction}
use Rattle.plant.specs.Shown.{Shown}
use Rattle.plantreceipts.specs.Receipts.{ShareParts, IsRole, whole}
use Rattle.plantlock.specs.Answers.{IsOwn, ShowsScan, ShowsTransaction}

-- ---- the scan of a worker

pub scan_shown : (p : Shown) (s : ShareParts) (w : ℕ) → s.role ≡ Worker w → whole s ≡ part s.role p.history
    → scan w p.history ≡ shown_scan (part (Worker w) p.history) → scan w p.history ≡ shown_scan (whole s)
scan_shown p s w role agree shown =
    shown ∙ ap shown_scan (sym (agree ∙ ap (λ (r : Role). part r p.history) role))

pub scan_own : (p : Shown) (part : List Placed) (w : ℕ) (result : Scan) → scan w p.history ≡ shown_scan part
    → IsOwn part result → IsOwnScan p w result
scan_own p part w result shown own running is number = own running (sym shown ∙ is) number

worker_known : (start p : Shown) (role : Role) (w : ℕ) → role ≡ Worker w → IsRole start.plant role
    → p.plant ≡ start.plant → w < p.plant.workers
worker_known start p role w is known same =
    let k : IsRole start.plant (Worker w) = subst (λ (r : Role). IsRole start.plant r) is known in
    subst (λ (q : Plant). w < q.workers) (sym same) k.0

pub scan_open : (start p : Shown) (part : List Placed) (role : Role) (w : ℕ) (result : Scan) → role ≡ Worker w
    → IsRole start.plant role → p.plant ≡ start.plant → scan w p.history ≡ shown_scan part → ShowsScan part result
    → IsOpenScan p w result
scan_open start p part role w result is known same shown shows = record {
  known = worker_known start p role w is known same;
  running = shows.running;
  is_open = shown ∙ shows.is_open;
  number = shows.number;
  snapshot = shows.snapshot;
}

-- ---- the transaction of a bus

pub hand_shown : (p : Shown) (s : ShareParts) (b : ℕ) → s.role ≡ Bus b → whole s ≡ part s.role p.history
    → hand b p.history ≡ shown_hand (part (Bus b) p.history) → hand b p.history ≡ shown_hand (whole s)
hand_shown p s b role agree shown =
    shown ∙ ap shown_hand (sym (agree ∙ ap (λ (r : Role). part r p.history) role))

pub transaction_open : (p : Shown) (part : List Placed) (b n : ℕ) (transaction : FrameList) → b < p.plant.plan.buses
    → hand b p.history ≡ shown_hand part → ShowsTransaction part n transaction → IsOpenTransaction p b n transaction
transaction_open p part b n transaction known shown shows = record {
  known = known;
  handed = shows.handed;
  is_open = shown ∙ shows.is_open;
  number = shows.number;
  same = shows.same;
}
