-- Each request is accepted or dropped.
use Rattle.std.proofs.Common.{◌≡◌, ℕ, ◌+◌, Bool, true, false, not, ◌&&◌, cond, List, [], ◌∷◌, ◌++◌, length, filter}
use Rattle.std.proofs.Common.{refl, arith, length-append}
use Rattle.std.specs.Prelude.{if◌then◌else◌, nat_lt}
use Rattle.gearcmd.specs.declared.requests.Request.{Request}
use Rattle.gearcmd.specs.declared.requests.TaskKind.{TaskKind}
use Rattle.plantevents.specs.declared.event.Event.{Event}
use Rattle.plantevents.specs.declared.event.Event.TheVariants.{Tick, Heard, Take, Commit, Hand, Done, Down, Up}
use Rattle.plantevents.specs.Plants.{Plant}
use Rattle.plantevents.specs.Histories.{scan}
use Rattle.plantevents.specs.Waiting.{most_waiting, kind_scanned, is_for, refused_count, waiting, dropped}
use Rattle.plantevents.specs.Acceptances.{accepted_of_scan, accepted_requests, asked_count}

each_is : (b c : ℕ) (kind : TaskKind) (q rs : List Request)
    → length (accepted_of_scan b c kind q rs) + refused_count b c kind q rs ≡ length (filter (is_for b c kind) rs)
each_is b c kind q [] = refl
each_is b c kind q (r ∷ rs) =
    elim (is_for b c kind r) as (λ (x : Bool).
    length (if x && nat_lt (length q) most_waiting then r ∷ accepted_of_scan b c kind (q
    ++ r ∷ []) rs else accepted_of_scan b c kind q rs)
    + ((if x && not (nat_lt (length q) most_waiting) then 1 else 0) + refused_count b c kind (if x && nat_lt
    (length q) most_waiting then q ++ r ∷ [] else q) rs)
    ≡ length (cond x (r ∷ filter (is_for b c kind) rs) (filter (is_for b c kind) rs))) [
      | true ↦ elim (nat_lt (length q) most_waiting) as (λ (y : Bool).
          length (if y then r ∷ accepted_of_scan b c kind (q ++ r ∷ []) rs else accepted_of_scan b c kind q rs)
          + ((if not y then 1 else 0) + refused_count b c kind (if y then q ++ r ∷ [] else q) rs)
          ≡ length (r ∷ filter (is_for b c kind) rs)) [
            | true ↦ let more = each_is b c kind (q ++ r ∷ []) rs in omega arith
            | false ↦ let more = each_is b c kind q rs in omega arith
          ]
      | false ↦ let more = each_is b c kind q rs in omega arith
    ]

pub accepted_or_dropped : (p : Plant) (b c : ℕ) (h : List Event)
    → length (accepted_requests p b c h) + dropped p b c h ≡ asked_count p b c h
accepted_or_dropped p b c [] = refl
accepted_or_dropped p b c (Tick m ∷ h) = accepted_or_dropped p b c h
accepted_or_dropped p b c (Heard d f ∷ h) = accepted_or_dropped p b c h
accepted_or_dropped p b c (Take w t s ∷ h) = accepted_or_dropped p b c h
accepted_or_dropped p b c (Commit w n result ∷ h) =
    let before = accepted_or_dropped p b c h in
    let kind = kind_scanned p (scan w h) in
    let more = each_is b c kind (waiting p b c h) result.after.requests in
    let len = length-append (accepted_requests p b c h) (accepted_of_scan b c kind
    (waiting p b c h) result.after.requests) in omega arith
accepted_or_dropped p b c (Hand d s t ∷ h) = accepted_or_dropped p b c h
accepted_or_dropped p b c (Done d n r ∷ h) = accepted_or_dropped p b c h
accepted_or_dropped p b c (Down d ∷ h) = accepted_or_dropped p b c h
accepted_or_dropped p b c (Up d ∷ h) = accepted_or_dropped p b c h
