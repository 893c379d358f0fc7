-- What a Share shows open just after a Take and a Hand.
use Rattle.std.proofs.Common.{◌≡◌, ℕ, List, ◌∷◌, ◌++◌, refl, ap, ◌∙◌}
use Rattle.gearcmd.specs.FrameLists.{FrameList}
use Rattle.ilmachine.specs.Snapshots.{ScanStart}
use Rattle.ilmachine.specs.Scans.{Scan}
use Rattle.plantevents.specs.declared.event.Event.{Event}
use Rattle.plantevents.specs.declared.event.Event.TheVariants.{Take, Hand}
use Rattle.plantevents.specs.declared.event.Origin.{Origin}
use Rattle.plantevents.specs.Parts.{Placed, placed, shown_scan, shown_hand}
use Rattle.plantlock.specs.Answers.{ShowsScan, ShowsTransaction}
use Rattle.plantlock.specs.Receipts.{ShareParts, IsNoted, whole}

pub noted_whole : (n : ℕ) (e : Event) (s t : ShareParts) → IsNoted n e s t → whole t ≡ placed n e ∷ whole s
noted_whole n e s t is =
    ap (λ (x : List Placed). x ++ t.before) is.receipts
    ∙ ap (λ (x : List Placed). placed n e ∷ (s.receipts ++ x)) is.before

pub shows_taken : (n w task : ℕ) (snapshot : ScanStart) (s t : ShareParts) (scan : Scan)
    → IsNoted n (Take w task snapshot) s t → scan.number ≡ n → scan.snapshot ≡ snapshot → ShowsScan (whole t) scan
shows_taken n w task snapshot s t scan noted number same = record {
  running = record { place = n; task = task; snapshot = snapshot };
  is_open = ap shown_scan (noted_whole n (Take w task snapshot) s t noted);
  number = number;
  snapshot = same;
}

pub shows_handed : (n b : ℕ) (origin : Origin) (transaction other : FrameList) (s t : ShareParts)
    → IsNoted n (Hand b origin transaction) s t → other ≡ transaction → ShowsTransaction (whole t) n other
shows_handed n b origin transaction other s t noted same = record {
  handed = record { place = n; origin = origin; transaction = transaction };
  is_open = ap shown_hand (noted_whole n (Hand b origin transaction) s t noted);
  number = refl;
  same = same;
}
