-- What a part shows of the links is so in the whole history, and the history counts it.
use Rattle.std.proofs.Common.{◌≡◌, ℕ, ◌+◌, Bool, true, false, List, [], ◌∷◌, ◌++◌, length, refl, sym, ap, ◌∙◌}
use Rattle.std.proofs.lemmas.List.{length-append}
use Rattle.std.specs.Prelude.{if◌then◌else◌, ◌==◌}
use Rattle.buslink.specs.declared.marks.Sent.{Sent}
use Rattle.plantevents.specs.declared.role.Role.TheVariants.{Bus, Clock}
use Rattle.plantevents.specs.declared.event.Event.{Event}
use Rattle.plantevents.specs.declared.event.Event.TheVariants.{Tick, Heard, Take, Commit, Hand, Done, Down, Up}
use Rattle.plantevents.specs.Histories.{sent_in, heard_in, downs_in, ups_in, given_in, frames, heards}
use Rattle.plantevents.specs.Parts.{placed, part, shown_sent, shown_heard, shown_downs, shown_ups}
use Rattle.plantevents.specs.Parts.{shown_given}

pub sent_shown : (b : ℕ) (h : List Event) → sent_in b h ≡ shown_sent (part (Bus b) h)
sent_shown b [] = refl
sent_shown b (Tick m ∷ h) = sent_shown b h
sent_shown b (Heard c f ∷ h) =
    elim (c == b) as (λ (x : Bool).
    sent_in b h ≡ shown_sent (if x then placed (length h) (Heard c f) ∷ part (Bus b) h else part (Bus b) h)) [
      | true ↦ sent_shown b h
      | false ↦ sent_shown b h
    ]
sent_shown b (Take w t s ∷ h) = sent_shown b h
sent_shown b (Commit w n r ∷ h) = sent_shown b h
sent_shown b (Hand c s t ∷ h) =
    elim (c == b) as (λ (x : Bool).
    sent_in b h ≡ shown_sent (if x then placed (length h) (Hand c s t) ∷ part (Bus b) h else part (Bus b) h)) [
      | true ↦ sent_shown b h
      | false ↦ sent_shown b h
    ]
sent_shown b (Done c n r ∷ h) =
    elim (c == b) as (λ (x : Bool). (if x then sent_in b h ++ r.attempts else sent_in b h)
    ≡ shown_sent (if x then placed (length h) (Done c n r) ∷ part (Bus b) h else part (Bus b) h)) [
      | true ↦ ap (λ (before : List Sent). before ++ r.attempts) (sent_shown b h)
      | false ↦ sent_shown b h
    ]
sent_shown b (Down c ∷ h) =
    elim (c == b) as (λ (x : Bool).
    sent_in b h ≡ shown_sent (if x then placed (length h) (Down c) ∷ part (Bus b) h else part (Bus b) h)) [
      | true ↦ sent_shown b h
      | false ↦ sent_shown b h
    ]
sent_shown b (Up c ∷ h) =
    elim (c == b) as (λ (x : Bool).
    sent_in b h ≡ shown_sent (if x then placed (length h) (Up c) ∷ part (Bus b) h else part (Bus b) h)) [
      | true ↦ sent_shown b h
      | false ↦ sent_shown b h
    ]

pub heard_shown : (b : ℕ) (h : List Event) → heard_in b h ≡ shown_heard (part (Bus b) h)
heard_shown b [] = refl
heard_shown b (Tick m ∷ h) = heard_shown b h
heard_shown b (Heard c f ∷ h) =
    elim (c == b) as (λ (x : Bool). (if x then heard_in b h ++ f ∷ [] else heard_in b h)
    ≡ shown_heard (if x then placed (length h) (Heard c f) ∷ part (Bus b) h else part (Bus b) h)) [
      | true ↦ ap (λ (before : List ℕ). before ++ f ∷ []) (heard_shown b h)
      | false ↦ heard_shown b h
    ]
heard_shown b (Take w t s ∷ h) = heard_shown b h
heard_shown b (Commit w n r ∷ h) = heard_shown b h
heard_shown b (Hand c s t ∷ h) =
    elim (c == b) as (λ (x : Bool).
    heard_in b h ≡ shown_heard (if x then placed (length h) (Hand c s t) ∷ part (Bus b) h else part (Bus b) h)) [
      | true ↦ heard_shown b h
      | false ↦ heard_shown b h
    ]
heard_shown b (Done c n r ∷ h) =
    elim (c == b) as (λ (x : Bool).
    heard_in b h ≡ shown_heard (if x then placed (length h) (Done c n r) ∷ part (Bus b) h else part (Bus b) h)) [
      | true ↦ heard_shown b h
      | false ↦ heard_shown b h
    ]
heard_shown b (Down c ∷ h) =
    elim (c == b) as (λ (x : Bool).
    heard_in b h ≡ shown_heard (if x then placed (length h) (Down c) ∷ part (Bus b) h else part (Bus b) h)) [
      | true ↦ heard_shown b h
      | false ↦ heard_shown b h
    ]
heard_shown b (Up c ∷ h) =
    elim (c == b) as (λ (x : Bool).
    heard_in b h ≡ shown_heard (if x then placed (length h) (Up c) ∷ part (Bus b) h else part (Bus b) h)) [
      | true ↦ heard_shown b h
      | false ↦ heard_shown b h
    ]

pub downs_shown : (b : ℕ) (h : List Event) → downs_in b h ≡ shown_downs (part (Bus b) h)
downs_shown b [] = refl
downs_shown b (Tick m ∷ h) = downs_shown b h
downs_shown b (Heard c f ∷ h) =
    elim (c == b) as (λ (x : Bool).
    downs_in b h ≡ shown_downs (if x then placed (length h) (Heard c f) ∷ part (Bus b) h else part (Bus b) h)) [
      | true ↦ downs_shown b h
      | false ↦ downs_shown b h
    ]
downs_shown b (Take w t s ∷ h) = downs_shown b h
downs_shown b (Commit w n r ∷ h) = downs_shown b h
downs_shown b (Hand c s t ∷ h) =
    elim (c == b) as (λ (x : Bool).
    downs_in b h ≡ shown_downs (if x then placed (length h) (Hand c s t) ∷ part (Bus b) h else part (Bus b) h)) [
      | true ↦ downs_shown b h
      | false ↦ downs_shown b h
    ]
downs_shown b (Done c n r ∷ h) =
    elim (c == b) as (λ (x : Bool).
    downs_in b h ≡ shown_downs (if x then placed (length h) (Done c n r) ∷ part (Bus b) h else part (Bus b) h)) [
      | true ↦ downs_shown b h
      | false ↦ downs_shown b h
    ]
downs_shown b (Down c ∷ h) =
    elim (c == b) as (λ (x : Bool). (if x then downs_in b h + 1 else downs_in b h)
    ≡ shown_downs (if x then placed (length h) (Down c) ∷ part (Bus b) h else part (Bus b) h)) [
      | true ↦ ap (λ (before : ℕ). before + 1) (downs_shown b h)
      | false ↦ downs_shown b h
    ]
downs_shown b (Up c ∷ h) =
    elim (c == b) as (λ (x : Bool).
    downs_in b h ≡ shown_downs (if x then placed (length h) (Up c) ∷ part (Bus b) h else part (Bus b) h)) [
      | true ↦ downs_shown b h
      | false ↦ downs_shown b h
    ]

pub ups_shown : (b : ℕ) (h : List Event) → ups_in b h ≡ shown_ups (part (Bus b) h)
ups_shown b [] = refl
ups_shown b (Tick m ∷ h) = ups_shown b h
ups_shown b (Heard c f ∷ h) =
    elim (c == b) as (λ (x : Bool).
    ups_in b h ≡ shown_ups (if x then placed (length h) (Heard c f) ∷ part (Bus b) h else part (Bus b) h)) [
      | true ↦ ups_shown b h
      | false ↦ ups_shown b h
    ]
ups_shown b (Take w t s ∷ h) = ups_shown b h
ups_shown b (Commit w n r ∷ h) = ups_shown b h
ups_shown b (Hand c s t ∷ h) =
    elim (c == b) as (λ (x : Bool).
    ups_in b h ≡ shown_ups (if x then placed (length h) (Hand c s t) ∷ part (Bus b) h else part (Bus b) h)) [
      | true ↦ ups_shown b h
      | false ↦ ups_shown b h
    ]
ups_shown b (Done c n r ∷ h) =
    elim (c == b) as (λ (x : Bool).
    ups_in b h ≡ shown_ups (if x then placed (length h) (Done c n r) ∷ part (Bus b) h else part (Bus b) h)) [
      | true ↦ ups_shown b h
      | false ↦ ups_shown b h
    ]
ups_shown b (Down c ∷ h) =
    elim (c == b) as (λ (x : Bool).
    ups_in b h ≡ shown_ups (if x then placed (length h) (Down c) ∷ part (Bus b) h else part (Bus b) h)) [
      | true ↦ ups_shown b h
      | false ↦ ups_shown b h
    ]
ups_shown b (Up c ∷ h) =
    elim (c == b) as (λ (x : Bool). (if x then ups_in b h + 1 else ups_in b h)
    ≡ shown_ups (if x then placed (length h) (Up c) ∷ part (Bus b) h else part (Bus b) h)) [
      | true ↦ ap (λ (before : ℕ). before + 1) (ups_shown b h)
      | false ↦ ups_shown b h
    ]

pub given_shown : (h : List Event) → given_in h ≡ shown_given (part Clock h)
given_shown [] = refl
given_shown (Tick m ∷ h) = ap (λ (before : List ℕ). before ++ m ∷ []) (given_shown h)
given_shown (Heard c f ∷ h) = given_shown h
given_shown (Take w t s ∷ h) = given_shown h
given_shown (Commit w n r ∷ h) = given_shown h
given_shown (Hand c s t ∷ h) = given_shown h
given_shown (Done c n r ∷ h) = given_shown h
given_shown (Down c ∷ h) = given_shown h
given_shown (Up c ∷ h) = given_shown h

-- ---- counts

pub frames_counted : (b : ℕ) (h : List Event) → frames b h ≡ length (sent_in b h)
frames_counted b [] = refl
frames_counted b (Tick m ∷ h) = frames_counted b h
frames_counted b (Heard c f ∷ h) = frames_counted b h
frames_counted b (Take w t s ∷ h) = frames_counted b h
frames_counted b (Commit w n r ∷ h) = frames_counted b h
frames_counted b (Hand c s t ∷ h) = frames_counted b h
frames_counted b (Done c n r ∷ h) =
    elim (c == b) as (λ (x : Bool). (if x then frames b h + length r.attempts else frames b h)
    ≡ length (if x then sent_in b h ++ r.attempts else sent_in b h)) [
      | true ↦ ap (λ (n : ℕ). n + length r.attempts) (frames_counted b h)
          ∙ sym (length-append (sent_in b h) r.attempts)
      | false ↦ frames_counted b h
    ]
frames_counted b (Down c ∷ h) = frames_counted b h
frames_counted b (Up c ∷ h) = frames_counted b h

pub heards_counted : (b : ℕ) (h : List Event) → heards b h ≡ length (heard_in b h)
heards_counted b [] = refl
heards_counted b (Tick m ∷ h) = heards_counted b h
heards_counted b (Heard c f ∷ h) =
    elim (c == b) as (λ (x : Bool). (if x then heards b h + 1 else heards b h)
    ≡ length (if x then heard_in b h ++ f ∷ [] else heard_in b h)) [
      | true ↦ ap (λ (n : ℕ). n + 1) (heards_counted b h) ∙ sym (length-append (heard_in b h) (f ∷ []))
      | false ↦ heards_counted b h
    ]
heards_counted b (Take w t s ∷ h) = heards_counted b h
heards_counted b (Commit w n r ∷ h) = heards_counted b h
heards_counted b (Hand c s t ∷ h) = heards_counted b h
heards_counted b (Done c n r ∷ h) = heards_counted b h
heards_counted b (Down c ∷ h) = heards_counted b h
heards_counted b (Up c ∷ h) = heards_counted b h
