-- What went over the links from one history to a longer one.
use Rattle.std.proofs.Common.{◌≡◌, ℕ, zero, suc, ◌+◌, ◌≤◌, List, [], ◌∷◌, ◌++◌, sym, ap, ◌∙◌, arith}
use Rattle.std.proofs.Common.{Bool, true, false, All}
use Rattle.std.proofs.lemmas.List.{append-nil, append_assoc}
use Rattle.std.proofs.lemmas.List.Elements.{All-head, All-tail}
use Rattle.std.specs.Prelude.{if◌then◌else◌, ◌==◌}
use Rattle.buslink.specs.declared.marks.Sent.{Sent}
use Rattle.buslink.specs.BusLog.{BusLog, one_more}
use Rattle.plantevents.specs.declared.event.Event.{Event}
use Rattle.plantevents.specs.declared.event.Event.TheVariants.{Tick, Heard, Take, Commit, Hand, Done, Down, Up}
use Rattle.plantevents.specs.Histories.{moment, sent_in, heard_in, downs_in, ups_in, given_in}
use Rattle.plantturns.specs.Links.{so_many_more}
use Rattle.plantturns.specs.Links.{IsLinked}

-- ---- first what was before, then what follows

pub sent_on : (b : ℕ) (later h : List Event) → sent_in b (later ++ h) ≡ sent_in b h ++ sent_in b later
sent_on b [] h = sym (append-nil (sent_in b h))
sent_on b (Tick m ∷ later) h = sent_on b later h
sent_on b (Heard c f ∷ later) h = sent_on b later h
sent_on b (Take w t s ∷ later) h = sent_on b later h
sent_on b (Commit w n r ∷ later) h = sent_on b later h
sent_on b (Hand c s t ∷ later) h = sent_on b later h
sent_on b (Done c n r ∷ later) h =
    elim (c == b) as (λ (x : Bool). (if x then sent_in b (later ++ h) ++ r.attempts else sent_in b (later ++ h))
    ≡ sent_in b h ++ (if x then sent_in b later ++ r.attempts else sent_in b later)) [
      | true ↦
          ap (λ (before : List Sent). before ++ r.attempts) (sent_on b later h)
          ∙ append_assoc (sent_in b h) (sent_in b later) r.attempts
      | false ↦ sent_on b later h
    ]
sent_on b (Down c ∷ later) h = sent_on b later h
sent_on b (Up c ∷ later) h = sent_on b later h

pub heard_on : (b : ℕ) (later h : List Event) → heard_in b (later ++ h) ≡ heard_in b h ++ heard_in b later
heard_on b [] h = sym (append-nil (heard_in b h))
heard_on b (Tick m ∷ later) h = heard_on b later h
heard_on b (Heard c f ∷ later) h =
    elim (c == b) as (λ (x : Bool). (if x then heard_in b (later ++ h) ++ f ∷ [] else heard_in b (later ++ h))
    ≡ heard_in b h ++ (if x then heard_in b later ++ f ∷ [] else heard_in b later)) [
      | true ↦
          ap (λ (before : List ℕ). before ++ f ∷ []) (heard_on b later h)
          ∙ append_assoc (heard_in b h) (heard_in b later) (f ∷ [])
      | false ↦ heard_on b later h
    ]
heard_on b (Take w t s ∷ later) h = heard_on b later h
heard_on b (Commit w n r ∷ later) h = heard_on b later h
heard_on b (Hand c s t ∷ later) h = heard_on b later h
heard_on b (Done c n r ∷ later) h = heard_on b later h
heard_on b (Down c ∷ later) h = heard_on b later h
heard_on b (Up c ∷ later) h = heard_on b later h

pub downs_on : (b : ℕ) (later h : List Event) → downs_in b (later ++ h) ≡ downs_in b later + downs_in b h
downs_on b [] h = omega arith
downs_on b (Tick m ∷ later) h = downs_on b later h
downs_on b (Heard c f ∷ later) h = downs_on b later h
downs_on b (Take w t s ∷ later) h = downs_on b later h
downs_on b (Commit w n r ∷ later) h = downs_on b later h
downs_on b (Hand c s t ∷ later) h = downs_on b later h
downs_on b (Done c n r ∷ later) h = downs_on b later h
downs_on b (Down c ∷ later) h =
    elim (c == b) as (λ (x : Bool). (if x then downs_in b (later ++ h) + 1 else downs_in b (later ++ h))
    ≡ (if x then downs_in b later + 1 else downs_in b later) + downs_in b h) [
      | true ↦ let before = downs_on b later h in omega (arith, before)
      | false ↦ downs_on b later h
    ]
downs_on b (Up c ∷ later) h = downs_on b later h

pub ups_on : (b : ℕ) (later h : List Event) → ups_in b (later ++ h) ≡ ups_in b later + ups_in b h
ups_on b [] h = omega arith
ups_on b (Tick m ∷ later) h = ups_on b later h
ups_on b (Heard c f ∷ later) h = ups_on b later h
ups_on b (Take w t s ∷ later) h = ups_on b later h
ups_on b (Commit w n r ∷ later) h = ups_on b later h
ups_on b (Hand c s t ∷ later) h = ups_on b later h
ups_on b (Done c n r ∷ later) h = ups_on b later h
ups_on b (Down c ∷ later) h = ups_on b later h
ups_on b (Up c ∷ later) h =
    elim (c == b) as (λ (x : Bool). (if x then ups_in b (later ++ h) + 1 else ups_in b (later ++ h))
    ≡ (if x then ups_in b later + 1 else ups_in b later) + ups_in b h) [
      | true ↦ let before = ups_on b later h in omega (arith, before)
      | false ↦ ups_on b later h
    ]

pub given_on : (later h : List Event) → given_in (later ++ h) ≡ given_in h ++ given_in later
given_on [] h = sym (append-nil (given_in h))
given_on (Tick m ∷ later) h =
    ap (λ (before : List ℕ). before ++ m ∷ []) (given_on later h) ∙ append_assoc (given_in h) (given_in later) (m ∷ [])
given_on (Heard c f ∷ later) h = given_on later h
given_on (Take w t s ∷ later) h = given_on later h
given_on (Commit w n r ∷ later) h = given_on later h
given_on (Hand c s t ∷ later) h = given_on later h
given_on (Done c n r ∷ later) h = given_on later h
given_on (Down c ∷ later) h = given_on later h
given_on (Up c ∷ later) h = given_on later h

more_and_more : (n m count : ℕ) → so_many_more (n + m) count ≡ so_many_more n (so_many_more m count)
more_and_more zero m count =
    let none : 0 + m ≡ m = omega arith in ap (λ k. so_many_more k count) none
more_and_more (suc n) m count =
    let next : suc n + m ≡ suc (n + m) = omega arith in
    ap (λ k. so_many_more k count) next ∙ ap one_more (more_and_more n m count)

-- a count of the past and of what follows
counted_on : (n past both first middle last : ℕ) → both ≡ n + past → middle ≡ so_many_more past first
    → last ≡ so_many_more n middle → last ≡ so_many_more both first
counted_on n past both first middle last all was is =
    is
    ∙ (ap (λ k. so_many_more n k) was
    ∙ (sym (more_and_more n past first) ∙ ap (λ k. so_many_more k first) (sym all)))

-- a count of what follows, from that of the past and of both
counted_since : (n past both first middle last : ℕ) → both ≡ n + past → middle ≡ so_many_more past first
    → last ≡ so_many_more both first → last ≡ so_many_more n middle
counted_since n past both first middle last all was is =
    is
    ∙ (ap (λ k. so_many_more k first) all
    ∙ (more_and_more n past first ∙ ap (λ k. so_many_more n k) (sym was)))

-- ---- the links

-- what is so of the past and of what follows is so of both
pub linked_on : (first log after : BusLog) (b : ℕ) (later h : List Event) → IsLinked first b h log
    → IsLinked log b later after → IsLinked first b (later ++ h) after
linked_on first log after b later h was is = record {
  same = record {
    number = is.same.number ∙ was.same.number;
    arrivals = is.same.arrivals ∙ was.same.arrivals;
  };
  sent =
      is.sent
      ∙ (ap (λ (x : List Sent). x ++ sent_in b later) was.sent
      ∙ (append_assoc first.sent (sent_in b h) (sent_in b later)
      ∙ ap (λ (x : List Sent). first.sent ++ x) (sym (sent_on b later h))));
  heard =
      is.heard
      ∙ (ap (λ (x : List ℕ). x ++ heard_in b later) was.heard
      ∙ (append_assoc first.heard (heard_in b h) (heard_in b later)
      ∙ ap (λ (x : List ℕ). first.heard ++ x) (sym (heard_on b later h))));
  failed =
      counted_on (downs_in b later) (downs_in b h) (downs_in b (later ++ h)) first.failures log.failures after.failures
      (downs_on b later h) was.failed is.failed;
  mended =
      counted_on (ups_in b later) (ups_in b h) (ups_in b (later ++ h)) first.mends log.mends after.mends
      (ups_on b later h) was.mended is.mended;
}

-- what is so of the past, and of both, is so of what follows
pub linked_since : (first log after : BusLog) (b : ℕ) (later h : List Event) → IsLinked first b h log
    → IsLinked first b (later ++ h) after → IsLinked log b later after
linked_since first log after b later h was is = record {
  same = record {
    number = is.same.number ∙ sym was.same.number;
    arrivals = is.same.arrivals ∙ sym was.same.arrivals;
  };
  sent =
      is.sent
      ∙ (ap (λ (x : List Sent). first.sent ++ x) (sent_on b later h)
      ∙ (sym (append_assoc first.sent (sent_in b h) (sent_in b later))
      ∙ ap (λ (x : List Sent). x ++ sent_in b later) (sym was.sent)));
  heard =
      is.heard
      ∙ (ap (λ (x : List ℕ). first.heard ++ x) (heard_on b later h)
      ∙ (sym (append_assoc first.heard (heard_in b h) (heard_in b later))
      ∙ ap (λ (x : List ℕ). x ++ heard_in b later) (sym was.heard)));
  failed =
      counted_since (downs_in b later) (downs_in b h) (downs_in b (later ++ h)) first.failures log.failures after.failures
      (downs_on b later h) was.failed is.failed;
  mended =
      counted_since (ups_in b later) (ups_in b h) (ups_in b (later ++ h)) first.mends log.mends after.mends
      (ups_on b later h) was.mended is.mended;
}

-- ---- the moment

last_is : (P : ℕ → Type 0) (xs : List ℕ) (x : ℕ) → All P (xs ++ x ∷ []) → P x
last_is P [] x all = All-head P x [] all
last_is P (y ∷ xs) x all = last_is P xs x (All-tail P y (xs ++ x ∷ []) all)

pub all_later : (P : ℕ → Type 0) (xs ys : List ℕ) → All P (xs ++ ys) → All P ys
all_later P [] ys all = all
all_later P (x ∷ xs) ys all = all_later P xs ys (All-tail P x (xs ++ ys) all)

-- the moment of a history is among those that were given
pub moment_within : (h : List Event) (most : ℕ) → All (λ earlier. earlier ≤ most) (given_in h) → moment h ≤ most
moment_within [] most all = omega arith
moment_within (Tick m ∷ h) most all = last_is (λ earlier. earlier ≤ most) (given_in h) m all
moment_within (Heard c f ∷ h) most all = moment_within h most all
moment_within (Take w t s ∷ h) most all = moment_within h most all
moment_within (Commit w n r ∷ h) most all = moment_within h most all
moment_within (Hand c s t ∷ h) most all = moment_within h most all
moment_within (Done c n r ∷ h) most all = moment_within h most all
moment_within (Down c ∷ h) most all = moment_within h most all
moment_within (Up c ∷ h) most all = moment_within h most all
