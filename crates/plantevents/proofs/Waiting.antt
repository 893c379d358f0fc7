-- What waits is what was accepted, without what was handed out.
use Rattle.std.proofs.Common.{◌≡◌, ⊎_elim, ℕ, ◌≢◌, ◌+◌, ◌<◌, ◌≤◌, Bool, true, false, eqb, ◌&&◌, List, [], ◌∷◌, ◌++◌}
use Rattle.std.proofs.Common.{length, drop, refl, sym, ap, ◌∙◌, subst, arith, append_assoc, length-append}
use Rattle.std.proofs.Common.{length-drop, Some}
use Rattle.std.proofs.lemmas.List.{append-nil}
use Rattle.std.proofs.lemmas.Bool.Decides.{eqb_tells}
use Rattle.std.specs.Prelude.{if◌then◌else◌, nat_lt, ◌==◌, slice_get, map, flat_map}
use Rattle.gearcmd.specs.declared.requests.Request.{Request}
use Rattle.gearcmd.specs.declared.requests.TaskKind.{TaskKind}
use Rattle.gearcmd.specs.FrameLists.{FrameList}
use Rattle.plantevents.specs.declared.event.Origin.{Origin}
use Rattle.plantevents.specs.declared.event.Event.{Event}
use Rattle.plantevents.specs.declared.event.Event.TheVariants.{Tick, Heard, Take, Commit, Hand, Done, Down, Up}
use Rattle.plantevents.specs.Plants.{Plant}
use Rattle.plantevents.specs.Histories.{scan}
use Rattle.plantevents.specs.Waiting.{most_waiting, kind_scanned, is_for, is_queued, after_offers, waiting, owed}
use Rattle.plantevents.specs.Waiting.{OwedLevel}
use Rattle.plantevents.specs.Waiting.{Handout, request_handout, level_handout, class_handouts, classes, handouts}
use Rattle.plantevents.specs.Acceptances.{accepted_of_scan, accepted_requests, handed_count}
use Rattle.plantevents.specs.Legal.{AreLegal}
use Rattle.plantevents.proofs.Dropped.{drop_front, drop_one}

pub after_offers_are : (b c : ℕ) (kind : TaskKind) (q rs : List Request)
    → after_offers b c kind q rs ≡ q ++ accepted_of_scan b c kind q rs
after_offers_are b c kind q [] = sym (append-nil q)
after_offers_are b c kind q (r ∷ rs) =
    elim (is_for b c kind r && nat_lt (length q) most_waiting) as (λ (v : Bool).
    after_offers b c kind (if v then q ++ r ∷ [] else q) rs
    ≡ q ++ (if v then r ∷ accepted_of_scan b c kind (q ++ r ∷ []) rs else accepted_of_scan b c kind q rs)) [
      | true ↦ after_offers_are b c kind (q ++ r ∷ []) rs ∙ append_assoc q (r ∷ []) (accepted_of_scan b c kind (q
          ++ r ∷ []) rs)
      | false ↦ after_offers_are b c kind q rs
    ]

-- the first of lists that are joined is the first of one of them
first_joined : (f : ℕ → List Handout) (cs : List ℕ) (o : Handout) → slice_get (flat_map f cs) 0 ≡ Some o
    → (c : ℕ) × (slice_get (f c) 0 ≡ Some o)
first_joined f [] o is = absurd (cc)
first_joined f (c ∷ cs) o is =
    elim (f c) as (λ (xs : List Handout). f c ≡ xs → slice_get (xs ++ flat_map f cs) 0 ≡ Some o
    → (d : ℕ) × (slice_get (f d) 0 ≡ Some o)) [
      | [] ↦ λ none first. first_joined f cs o first
      | x ∷ xs ↦ λ some first. (c, subst (λ (ys : List Handout). slice_get ys 0 ≡ Some o) (sym some) first)
    ] refl is

-- what is handed out as a request of class c waits there
no_level : (c d : ℕ) (o : OwedLevel) (x : Handout) → is_queued c x.origin x.transaction ≡ true
    → Some (level_handout d o) ≡ Some x → ⊥
no_level c d o x queued first =
    let same : level_handout d o ≡ x = cc in
    let level : false ≡ true = subst (λ (y : Handout). is_queued c y.origin y.transaction ≡ true) (sym same) queued in
    absurd (cc)

a_request : (c d : ℕ) (r : Request) (x : Handout) → is_queued c x.origin x.transaction ≡ true
    → Some (request_handout d r) ≡ Some x → d ≡ c
a_request c d r x queued first =
    let same : request_handout d r ≡ x = cc in
    let class : eqb d c ≡ true = subst (λ (y : Handout). is_queued c y.origin y.transaction ≡ true) (sym same) queued in
    ⊎_elim (λ (k : (eqb d c ≡ true) × (d ≡ c)). k.1) (λ (k : (eqb d c ≡ false) × (d ≢ c)). absurd (cc)) (eqb_tells d c)

waits : (c d : ℕ) (q : List Request) (levels : List OwedLevel) (x : Handout) → is_queued c x.origin x.transaction ≡ true
    → slice_get (map (request_handout d) q ++ map (level_handout d) levels) 0 ≡ Some x → (d ≡ c) × (0 < length q)
waits c d [] [] x queued first = absurd (cc)
waits c d [] (o ∷ levels) x queued first = absurd (no_level c d o x queued first)
waits c d (r ∷ q) levels x queued first = (a_request c d r x queued first, omega arith)

some_wait : (p : Plant) (b c : ℕ) (h : List Event) (x : Handout) → is_queued c x.origin x.transaction ≡ true
    → slice_get (handouts p b h) 0 ≡ Some x → 0 < length (waiting p b c h)
some_wait p b c h x queued first =
    let from = first_joined (class_handouts p b h) classes x first in
    let found = waits c from.0 (waiting p b from.0 h) (owed p b from.0 h) x queued from.1 in
    subst (λ (d : ℕ). 0 < length (waiting p b d h)) found.0 found.1

both : (x y : Bool) → (x && y) ≡ true → (x ≡ true) × (y ≡ true)
both true true e = (refl, refl)
both true false e = absurd (cc)
both false y e = absurd (cc)

-- a Hand of a request takes one of what was accepted and not handed out
hand_takes : (p : Plant) (b c d : ℕ) (s : Origin) (t : FrameList) (h : List Event) → (x : Bool)
    → (d == b && is_queued c s t) ≡ x
    → slice_get (handouts p d h) 0 ≡ Some (record { origin = s; transaction = t })
    → (handed_count b c h ≤ length (accepted_requests p b c h))
    × (waiting p b c h ≡ drop (handed_count b c h) (accepted_requests p b c h))
    → ((if x then handed_count b c h + 1 else handed_count b c h) ≤ length (accepted_requests p b c h))
    × ((if x then drop 1 (waiting p b c h) else waiting p b c h)
    ≡ drop (if x then handed_count b c h + 1 else handed_count b c h) (accepted_requests p b c h))
hand_takes p b c d s t h false is first before = before
hand_takes p b c d s t h true is first before =
    let parts = both (d == b) (is_queued c s t) is in
    let bus : d ≡ b = ⊎_elim (λ (k : (eqb d b ≡ true) × (d ≡ b)). k.1) (λ (k : (eqb d b ≡ false) × (d ≢ b)).
    absurd (cc)) (eqb_tells d b) in
    let one : 0 < length (waiting p b c h) =
    some_wait p b c h (record { origin = s; transaction = t }) parts.1
    (subst (λ (e : ℕ). slice_get (handouts p e h) 0 ≡ Some (record { origin = s; transaction = t })) bus first) in
    let len = ap length before.1 ∙ length-drop (handed_count b c h) (accepted_requests p b c h) in
    let e = before.0 in (
      omega arith,
      ap (λ q. drop 1 q) before.1
          ∙ drop_one (handed_count b c h) (accepted_requests p b c h),
    )

pub waiting_law : (p : Plant) (b c : ℕ) (h : List Event) → AreLegal p h
    → (handed_count b c h ≤ length (accepted_requests p b c h))
    × (waiting p b c h ≡ drop (handed_count b c h) (accepted_requests p b c h))
waiting_law p b c [] legal = (omega arith, refl)
waiting_law p b c (Tick m ∷ h) legal = waiting_law p b c h legal.1
waiting_law p b c (Heard d f ∷ h) legal = waiting_law p b c h legal.1
waiting_law p b c (Take w t s ∷ h) legal = waiting_law p b c h legal.1
waiting_law p b c (Commit w n result ∷ h) legal =
    let before = waiting_law p b c h legal.1 in
    let more = accepted_of_scan b c (kind_scanned p (scan w h)) (waiting p b c h) result.after.requests in (
      (let e = before.0 in omega (arith, length-append (accepted_requests p b c h) more)),
      after_offers_are b c (kind_scanned p (scan w h)) (waiting p b c h) result.after.requests
          ∙ ap (λ q. q ++ more) before.1 ∙ drop_front (handed_count b c h) (accepted_requests p b c h) more before.0,
    )
waiting_law p b c (Hand d s t ∷ h) legal =
    hand_takes p b c d s t h (d == b && is_queued c s t) refl legal.0.first (waiting_law p b c h legal.1)
waiting_law p b c (Done d n r ∷ h) legal = waiting_law p b c h legal.1
waiting_law p b c (Down d ∷ h) legal = waiting_law p b c h legal.1
waiting_law p b c (Up d ∷ h) legal = waiting_law p b c h legal.1
