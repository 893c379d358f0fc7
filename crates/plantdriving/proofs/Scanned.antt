-- A scan is taken and committed.
use Rattle.std.proofs.Common.{◌≡◌, ℕ, ◌+◌, ◌<◌, Bool, true, false, [], ◌∷◌, None, Some, refl, sym, ap, ◌∙◌, subst, length, arith}
use Rattle.std.specs.Prelude.{if◌then◌else◌, ◌==◌}
use Rattle.plantevents.specs.Snapshots.{ScanStart}
use Rattle.plantevents.specs.Scans.{Scan}
use Rattle.plantevents.specs.declared.event.Event.TheVariants.{Take, Commit}
use Rattle.plantevents.specs.Histories.{scan}
use Rattle.plant.specs.Matches.{IsOpenScan}
use Rattle.plant.specs.Shown.{Shown, grown}
use Rattle.plantdriving.specs.Open.{HasNothingOpen}
use Rattle.plantdriving.specs.TurnSteps.{IsScanStep}
use Rattle.plantdriving.proofs.Linked.{at_own}

scanned_open : (p : Shown) (w t n : ℕ) (s : ScanStart) (result : Scan) → HasNothingOpen p
    → HasNothingOpen (grown (grown p (Take w t s)) (Commit w n result))
scanned_open p w t n s result idle = record {
  no_scan = λ v known. elim (w == v) as (λ (k : Bool). (if k then None
      else (if k then Some (record { place = length p.history; task = t; snapshot = s }) else scan v p.history))
      ≡ None) [
        | true ↦ refl
        | false ↦ idle.no_scan v known
      ];
  no_hand = idle.no_hand;
}

pub step_scanned : (w t n : ℕ) (s : ScanStart) (result : Scan) (p r q : Shown) → r ≡ grown p (Take w t s)
    → q ≡ grown r (Commit w n result) → IsScanStep p q
step_scanned w t n s result p r q taken committed =
    subst (λ (x : Shown). IsScanStep p x) (sym (committed ∙ ap (λ (x : Shown). grown x (Commit w n result)) taken))
    (record {
      later = record {
        later = Commit w n result ∷ Take w t s ∷ [];
        history = refl;
        plant = refl;
        limit = refl;
        given = refl;
        idle = scanned_open p w t n s result;
      };
      buses = λ b. record { sent = refl; heard = refl; downs = refl; ups = refl };
    })

pub longer_by_scan : (w t n : ℕ) (s : ScanStart) (result : Scan) (p r q : Shown) → r ≡ grown p (Take w t s)
    → q ≡ grown r (Commit w n result) → length p.history < length q.history
longer_by_scan w t n s result p r q taken committed =
    let one : length r.history ≡ length p.history + 1 = ap (λ (x : Shown). length x.history) taken ∙ omega arith in
    let two : length q.history ≡ length r.history + 1 = ap (λ (x : Shown). length x.history) committed ∙ omega arith in
    omega (arith, one, two)

-- the scan that was just taken is open
pub scan_is_open : (p r : Shown) (w t : ℕ) (s : ScanStart) (made : Scan) → w < p.plant.workers
    → r ≡ grown p (Take w t s) → made.number ≡ length p.history → made.snapshot ≡ s → IsOpenScan r w made
scan_is_open p r w t s made known is number snapshot =
    subst (λ (x : Shown). IsOpenScan x w made) (sym is) (record {
      known = known;
      running = record { place = length p.history; task = t; snapshot = s };
      is_open = at_own w (Some (record { place = length p.history; task = t; snapshot = s })) (scan w p.history);
      number = number;
      snapshot = snapshot;
    })
