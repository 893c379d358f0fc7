-- What a part shows is so in the whole history.
use Rattle.std.proofs.Common.{◌≡◌, ℕ, Bool, true, false, List, [], ◌∷◌, length, Some, None, refl}
use Rattle.std.specs.Prelude.{if◌then◌else◌, ◌==◌}
use Rattle.plantevents.specs.declared.role.Role.TheVariants.{Worker, Bus, Clock}
use Rattle.plantevents.specs.declared.event.Event.{Event}
use Rattle.plantevents.specs.declared.event.Event.TheVariants.{Tick, Heard, Take, Commit, Hand, Done, Down, Up}
use Rattle.plantevents.specs.Histories.{moment, scan, hand, is_down}
use Rattle.plantevents.specs.Parts.{Placed, part, shown_moment, shown_scan, shown_hand, shown_down}

-- an event and its place
abbrev at : Event → List Event → Placed
at e h = record { place = length h; event = e }

pub moment_shown : (h : List Event) → moment h ≡ shown_moment (part Clock h)
moment_shown [] = refl
moment_shown (Tick m ∷ h) = refl
moment_shown (Heard b f ∷ h) = moment_shown h
moment_shown (Take w t s ∷ h) = moment_shown h
moment_shown (Commit w n r ∷ h) = moment_shown h
moment_shown (Hand b s t ∷ h) = moment_shown h
moment_shown (Done b n r ∷ h) = moment_shown h
moment_shown (Down b ∷ h) = moment_shown h
moment_shown (Up b ∷ h) = moment_shown h

pub scan_shown : (w : ℕ) (h : List Event) → scan w h ≡ shown_scan (part (Worker w) h)
scan_shown w [] = refl
scan_shown w (Tick m ∷ h) = scan_shown w h
scan_shown w (Heard b f ∷ h) = scan_shown w h
scan_shown w (Take v t s ∷ h) =
    elim (v == w) as (λ (x : Bool). (if x then Some (record { place = length h; task = t; snapshot = s }) else scan w h)
    ≡ shown_scan (if x then at (Take v t s) h ∷ part (Worker w) h else part (Worker w) h)) [
      | true ↦ refl
      | false ↦ scan_shown w h
    ]
scan_shown w (Commit v n r ∷ h) =
    elim (v == w) as (λ (x : Bool). (if x then None else scan w h)
    ≡ shown_scan (if x then at (Commit v n r) h ∷ part (Worker w) h else part (Worker w) h)) [
      | true ↦ refl
      | false ↦ scan_shown w h
    ]
scan_shown w (Hand b s t ∷ h) = scan_shown w h
scan_shown w (Done b n r ∷ h) = scan_shown w h
scan_shown w (Down b ∷ h) = scan_shown w h
scan_shown w (Up b ∷ h) = scan_shown w h

pub hand_shown : (b : ℕ) (h : List Event) → hand b h ≡ shown_hand (part (Bus b) h)
hand_shown b [] = refl
hand_shown b (Tick m ∷ h) = hand_shown b h
hand_shown b (Heard c f ∷ h) =
    elim (c == b) as (λ (x : Bool).
    hand b h ≡ shown_hand (if x then at (Heard c f) h ∷ part (Bus b) h else part (Bus b) h)) [
      | true ↦ hand_shown b h
      | false ↦ hand_shown b h
    ]
hand_shown b (Take w t s ∷ h) = hand_shown b h
hand_shown b (Commit w n r ∷ h) = hand_shown b h
hand_shown b (Hand c s t ∷ h) =
    elim (c == b) as (λ (x : Bool). (if x then Some (record {
      place = length h;
      origin = s;
      transaction =
          t;
    }) else hand b h)
    ≡ shown_hand (if x then at (Hand c s t) h ∷ part (Bus b) h else part (Bus b) h)) [
      | true ↦ refl
      | false ↦ hand_shown b h
    ]
hand_shown b (Done c n r ∷ h) =
    elim (c == b) as (λ (x : Bool). (if x then None else hand b h)
    ≡ shown_hand (if x then at (Done c n r) h ∷ part (Bus b) h else part (Bus b) h)) [
      | true ↦ refl
      | false ↦ hand_shown b h
    ]
hand_shown b (Down c ∷ h) =
    elim (c == b) as (λ (x : Bool). (if x then None else hand b h)
    ≡ shown_hand (if x then at (Down c) h ∷ part (Bus b) h else part (Bus b) h)) [
      | true ↦ refl
      | false ↦ hand_shown b h
    ]
hand_shown b (Up c ∷ h) =
    elim (c == b) as (λ (x : Bool).
    hand b h ≡ shown_hand (if x then at (Up c) h ∷ part (Bus b) h else part (Bus b) h)) [
      | true ↦ hand_shown b h
      | false ↦ hand_shown b h
    ]

pub down_shown : (b : ℕ) (h : List Event) → is_down b h ≡ shown_down (part (Bus b) h)
down_shown b [] = refl
down_shown b (Tick m ∷ h) = down_shown b h
down_shown b (Heard c f ∷ h) =
    elim (c == b) as (λ (x : Bool).
    is_down b h ≡ shown_down (if x then at (Heard c f) h ∷ part (Bus b) h else part (Bus b) h)) [
      | true ↦ down_shown b h
      | false ↦ down_shown b h
    ]
down_shown b (Take w t s ∷ h) = down_shown b h
down_shown b (Commit w n r ∷ h) = down_shown b h
down_shown b (Hand c s t ∷ h) =
    elim (c == b) as (λ (x : Bool).
    is_down b h ≡ shown_down (if x then at (Hand c s t) h ∷ part (Bus b) h else part (Bus b) h)) [
      | true ↦ down_shown b h
      | false ↦ down_shown b h
    ]
down_shown b (Done c n r ∷ h) =
    elim (c == b) as (λ (x : Bool).
    is_down b h ≡ shown_down (if x then at (Done c n r) h ∷ part (Bus b) h else part (Bus b) h)) [
      | true ↦ down_shown b h
      | false ↦ down_shown b h
    ]
down_shown b (Down c ∷ h) =
    elim (c == b) as (λ (x : Bool). (if x then true else is_down b h)
    ≡ shown_down (if x then at (Down c) h ∷ part (Bus b) h else part (Bus b) h)) [
      | true ↦ refl
      | false ↦ down_shown b h
    ]
down_shown b (Up c ∷ h) =
    elim (c == b) as (λ (x : Bool). (if x then false else is_down b h)
    ≡ shown_down (if x then at (Up c) h ∷ part (Bus b) h else part (Bus b) h)) [
      | true ↦ refl
      | false ↦ down_shown b h
    ]
