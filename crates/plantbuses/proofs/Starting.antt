-- What is kept of buses and workers to which nothing has happened.
use Rattle.std.proofs.Common.{◌≡◌, ℕ, ◌+◌, ◌<◌, List, [], ◌∷◌, ◌++◌, length}
use Rattle.std.proofs.Common.{Option, None, sym, ◌∙◌, subst, arith, below_more}
use Rattle.std.proofs.Common.{length-append}
use Rattle.std.proofs.lemmas.List.{get_or_append_left}
use Rattle.std.proofs.Math.Seq.{get_or-append_seam}
use Rattle.std.specs.Prelude.{slice_index_or}
use Rattle.plantevents.specs.Plants.{Plant}
use Rattle.plantevents.specs.Histories.{OpenScan}
use Rattle.plantbuses.specs.KeptSteps.{KeptBus, BusFollows, bus_at, no_bus, AreFresh, AreIdle}

-- one bus more
pub fresh_more : (buses : List KeptBus) (n : ℕ) (bus : KeptBus) → AreFresh n buses
    → ((p : Plant) (b : ℕ) → BusFollows p b [] bus) → AreFresh (n + 1) (buses ++ bus ∷ [])
fresh_more buses n bus before new = (
  (let e = before.0 in omega (arith, length-append buses (bus ∷ []))),
  λ p. below_more (λ b. BusFollows p b [] (bus_at (buses ++ bus ∷ []) b)) n
      (λ b lt. let inside : b < length buses = let e = before.0 in omega arith in
      subst (BusFollows p b []) (sym (get_or_append_left buses (bus ∷ []) no_bus b inside)) (before.1 p b lt))
      (subst (λ (m : ℕ). BusFollows p m [] (bus_at (buses ++ bus ∷ []) m)) before.0
      (subst (BusFollows p (length buses) []) (sym (get_or-append_seam buses bus [] no_bus)) (new p (length buses)))),
)

-- one worker more
pub idle_more : (scans : List (Option OpenScan)) (n : ℕ) → AreIdle n scans → AreIdle (n + 1) (scans ++ None ∷ [])
idle_more scans n before = (
  (let e = before.0 in omega (arith, length-append scans (None ∷ []))),
  below_more (λ w. slice_index_or (scans ++ None ∷ []) w None ≡ None) n
      (λ w lt. let inside : w < length scans = let e = before.0 in omega arith in
      get_or_append_left scans (None ∷ []) None w inside ∙ before.1 w lt)
      (subst (λ (m : ℕ). slice_index_or (scans ++ None ∷ []) m None ≡ None) before.0
      (get_or-append_seam scans None [] None)),
)
