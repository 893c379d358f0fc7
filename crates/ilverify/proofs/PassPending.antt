-- The entries that the pass keeps, and the certificate that they are of.
use Rattle.std.proofs.Common.{◌≡◌, ℕ, zero, suc, ◌+◌, ◌<◌, List, [], ◌∷◌, length, Option, Some, None, refl, sym}
use Rattle.std.proofs.Common.{ap}
use Rattle.std.proofs.Common.{◌∙◌, subst, arith, length-set, ◌⊎◌, inl, inr, Bool}
use Rattle.std.specs.Prelude.{IsTrue, slice_get, slice_set}
use Rattle.std.specs.List.{AllZip}
use Rattle.std.specs.Option.{option_map}
use Rattle.std.proofs.lemmas.Bool.{cases_eq, cases_lt}
use Rattle.std.proofs.lemmas.List.{set_past}
use Rattle.ilcode.specs.declared.word.Word.{Word}
use Rattle.ilcode.specs.Listings.{Listing, IsLawful, end_of, body_at}
use Rattle.ilcode.specs.Steps.{is_start}
use Rattle.ilverify.specs.declared.change.Changes.{Changes}
use Rattle.ilverify.specs.declared.entry.Entry.{Entry}
use Rattle.ilverify.specs.Changes.{ways_of}
use Rattle.ilverify.specs.Entries.{IsOpenedInto, IsInto, opening, arriving}
use Rattle.ilverify.specs.declared.nesting.KnownOpened.{KnownOpened}
use Rattle.ilverify.specs.Refusals.{HasToClose}
use Rattle.ilverify.specs.Rules.{Ways, AreWaysOf, IsRule}
use Rattle.ilverify.specs.Certificates.{Certificate, are_closed, is_closed, is_met}
use Rattle.ilverify.specs.PassSteps.{CanJoin, CanMeetIf, IsMeetingAt, Meets, MeetsIf, coming, target_of, AreFollowed}
use Rattle.ilverify.specs.PassSteps.{AreTyped}
use Rattle.ilverify.specs.PassSteps.{AreBounded, IsFound}
use Rattle.ilverify.proofs.PassForward.{coming_in, coming_out, skipped, target_forward, passed}
use Rattle.ilverify.proofs.PassGrowth.{Takes, takes_none, takes_in, takes_out}
use Rattle.ilverify.proofs.Lists.{same_set, other_set}
use Rattle.ilverify.proofs.PassEntries.{into_self}
use Rattle.ilverify.proofs.PassWays.{next_shaped, target_shaped, met_closes, target_closes, closed_bounded}
use Rattle.ilverify.proofs.PassWays.{arriving_typed}

-- ---- lists after one write

-- what was written stands at its place, what was there before at another
pub cases_set : {A : Type 0} (xs : List A) (i j : ℕ) (v w : A) → slice_get (slice_set xs i v) j ≡ Some w
    → ((j ≡ i) × (v ≡ w)) ⊎ ((j ≡ i → ⊥) × (slice_get xs j ≡ Some w))
cases_set xs i j v w e =
    elim (cases_eq j i) [
      | inl q ↦ inl (q, same_set xs i v w (subst (λ (k : ℕ). slice_get (slice_set xs i v) k ≡ Some w) q e))
      | inr d ↦ inr (d, sym (other_set xs i j v d) ∙ e)
    ]

pub set_twice : {A : Type 0} (xs : List A) (i : ℕ) (v w : A) → slice_set (slice_set xs i v) i w ≡ slice_set xs i w
set_twice [] i v w = refl
set_twice (x ∷ xs) zero v w = refl
set_twice (x ∷ xs) (suc i) v w = ap (λ l. x ∷ l) (set_twice xs i v w)

-- lists of one length that have the same at a place have it after the same write
same_after : {A : Type 0} (xs ys : List A) (i j : ℕ) (v : A) → length xs ≡ length ys
    → slice_get xs j ≡ slice_get ys j → slice_get (slice_set xs i v) j ≡ slice_get (slice_set ys i v) j
same_after [] [] i j v n e = refl
same_after [] (y ∷ ys) i j v n e = absurd (omega arith)
same_after (x ∷ xs) [] i j v n e = absurd (omega arith)
same_after (x ∷ xs) (y ∷ ys) zero zero v n e = refl
same_after (x ∷ xs) (y ∷ ys) zero (suc j) v n e = e
same_after (x ∷ xs) (y ∷ ys) (suc i) zero v n e = e
same_after (x ∷ xs) (y ∷ ys) (suc i) (suc j) v n e = same_after xs ys i j v (omega arith) e

-- ---- what meets in the entries that are kept meets in the certificate

-- the certificate takes in the way as the kept entries do
pub record Lifts (pending new certificate : Certificate) (to : ℕ) (way : Option Entry) : Type 0 where
  pub grown : Certificate
  pub takes : Takes certificate to way grown
  pub long : length new ≡ length pending
  pub same : (place : ℕ) → slice_get pending place ≡ slice_get certificate place
      → slice_get new place ≡ slice_get grown place

pub from_old : (at : Option (Option Entry)) (way entry old : Entry) → at ≡ Some (Some old) → IsMeetingAt at way entry
    → IsInto old entry
from_old None way entry old e m = absurd (cc)
from_old (Some None) way entry old e m = absurd (cc)
from_old (Some (Some x)) way entry old e m =
    let q : x ≡ old = cc in subst (λ (y : Entry). IsInto y entry) q m.from_one

pub from_way : (at : Option (Option Entry)) (way entry : Entry) → IsMeetingAt at way entry → IsInto way entry
from_way None way entry m = subst (IsInto way) (sym m) (into_self way)
from_way (Some None) way entry m = subst (IsInto way) (sym m) (into_self way)
from_way (Some (Some old)) way entry m = m.from_other

pub least_at : (at : Option (Option Entry)) (way entry wider : Entry) → IsMeetingAt at way entry → IsInto way wider
    → ((old : Entry) → at ≡ Some (Some old) → IsInto old wider) → IsInto entry wider
least_at None way entry wider m i all = subst (λ (x : Entry). IsInto x wider) (sym m) i
least_at (Some None) way entry wider m i all = subst (λ (x : Entry). IsInto x wider) (sym m) i
least_at (Some (Some old)) way entry wider m i all = m.least wider (all old refl) i

lifted_in : (pending new certificate : Certificate) (to : ℕ) (way : Entry) → length pending ≡ length certificate
    → slice_get pending to ≡ slice_get certificate to → to < length certificate → Meets pending to way new
    → Lifts pending new certificate to (Some way)
lifted_in pending new certificate to way n e lt m =
    let at = slice_get pending to in
    record {
      grown = slice_set certificate to (Some m.entry);
      takes = takes_in certificate to way m.entry lt (from_way at way m.entry m.meeting)
          (λ old f. from_old at way m.entry old (e ∙ f) m.meeting)
          (λ wider i all. least_at at way m.entry wider m.meeting i (λ old f. all old (sym e ∙ f)));
      long = ap length m.is ∙ length-set pending to (Some m.entry);
      same = λ place s. ap (λ (l : Certificate). slice_get l place) m.is
          ∙ same_after pending certificate to place (Some m.entry) n s;
    }

pub lifted : (pending new certificate : Certificate) (to : ℕ) (way : Option Entry)
    → length pending ≡ length certificate → slice_get pending to ≡ slice_get certificate to
    → MeetsIf pending to way new → Lifts pending new certificate to way
lifted pending new certificate to None n e m = record {
  grown = certificate;
  takes = takes_none certificate to;
  long = ap length m;
  same = λ place s. ap (λ (l : Certificate). slice_get l place) m ∙ s;
}
lifted pending new certificate to (Some way) n e m =
    elim (cases_lt to (length certificate)) [
      | inl lt ↦ lifted_in pending new certificate to way n e lt m
      | inr ge ↦
          let past : new ≡ pending = m.is ∙ set_past pending to (Some m.entry) (omega (arith, n, ge)) in
          record {
            grown = certificate;
            takes = takes_out certificate to (Some way) ge;
            long = ap length past;
            same = λ place s. ap (λ (l : Certificate). slice_get l place) past ∙ s;
          }
    ]

-- ---- entries past the place say no more than is known before the first word

none_open : (nesting : List KnownOpened) → AllZip IsOpenedInto nesting [] → nesting ≡ []
none_open [] h = refl
none_open (x ∷ xs) h = absurd h

-- so may any two of them meet
pub bounded_meet : (code : Listing) (old way : Entry) → IsInto old (opening code) → IsInto way (opening code)
    → CanJoin old way
bounded_meet code old way i j = record {
  meeting = record { wider = opening code; from_one = i; from_other = j };
  closed = none_open old.nesting i.nesting;
  closed_there = none_open way.nesting j.nesting;
}

abbrev pub IsBoundedIf : Listing → Option Entry → Type 0
IsBoundedIf code way = (entry : Entry) → way ≡ Some entry → IsInto entry (opening code)

pub can_meet : (code : Listing) (at : Option (Option Entry)) (way : Option Entry)
    → ((old : Entry) → at ≡ Some (Some old) → IsInto old (opening code))
    → ((old : Entry) → at ≡ Some (Some old) → IsBoundedIf code way) → CanMeetIf at way
can_meet code at None h g = tt
can_meet code None (Some way) h g = tt
can_meet code (Some None) (Some way) h g = tt
can_meet code (Some (Some old)) (Some way) h g = bounded_meet code old way (h old refl) (g old refl way refl)

meets_bounded : (code : Listing) (place to : ℕ) (way : Option Entry) (old new : Certificate)
    → AreBounded code place old → IsBoundedIf code way → MeetsIf old to way new → AreBounded code place new
meets_bounded code place to None old new b w m later entry lt e =
    b later entry lt (sym (ap (λ (l : Certificate). slice_get l later) m) ∙ e)
meets_bounded code place to (Some way) old new b w m later entry lt e =
    elim (cases_set old to later (Some m.entry) (Some entry)
    (sym (ap (λ (l : Certificate). slice_get l later) m.is) ∙ e)) [
      | inl h ↦
          let q = h.1 in
          let same : m.entry ≡ entry = cc in
          let ahead : place < to = omega (arith, lt, h.0) in
          subst (λ (x : Entry). IsInto x (opening code)) same
          (least_at (slice_get old to) way m.entry (opening code) m.meeting (w way refl)
          (λ before f. b to before ahead f))
      | inr h ↦ b later entry lt h.1
    ]

-- the entry where the next way meets is typed
meeting_typed : (code : Listing) (at : Option (Option Entry)) (way entry : Entry) → AreTyped code way.slots
    → ((old : Entry) → at ≡ Some (Some old) → IsInto old (opening code))
    → ((old : Entry) → at ≡ Some (Some old) → IsInto way (opening code)) → IsMeetingAt at way entry
    → AreTyped code entry.slots
meeting_typed code None way entry t b w m = subst (λ (x : Entry). AreTyped code x.slots) (sym m) t
meeting_typed code (Some None) way entry t b w m = subst (λ (x : Entry). AreTyped code x.slots) (sym m) t
meeting_typed code (Some (Some old)) way entry t b w m = (m.least (opening code) (b old refl) (w old refl)).slots

next_typed : (code : Listing) (place : ℕ) (way : Option Entry) (old new : Certificate) → AreBounded code place old
    → ((entry : Entry) → way ≡ Some entry → AreTyped code entry.slots)
    → ((before : Entry) → slice_get old (place + 1) ≡ Some (Some before) → IsBoundedIf code way)
    → MeetsIf old (place + 1) way new → (entry : Entry) → slice_get new (place + 1) ≡ Some (Some entry)
    → AreTyped code entry.slots
next_typed code place None old new b t w m entry e =
    (b (place + 1) entry (omega arith) (sym (ap (λ (l : Certificate). slice_get l (place + 1)) m) ∙ e)).slots
next_typed code place (Some way) old new b t w m entry e =
    let f = same_set old (place + 1) (Some m.entry) (Some entry)
    (sym (ap (λ (l : Certificate). slice_get l (place + 1)) m.is) ∙ e) in
    let same : m.entry ≡ entry = cc in
    subst (λ (x : Entry). AreTyped code x.slots) same
    (meeting_typed code (slice_get old (place + 1)) way m.entry (t way refl)
    (λ before g. b (place + 1) before (omega arith) g) (λ before g. w before g way refl) m.meeting)

-- what is written at the next place changes no later entry
next_bounded : (code : Listing) (place : ℕ) (way : Option Entry) (old new : Certificate) → AreBounded code place old
    → MeetsIf old (place + 1) way new → AreBounded code (place + 1) new
next_bounded code place None old new b m later entry lt e =
    b later entry (omega arith) (sym (ap (λ (l : Certificate). slice_get l later) m) ∙ e)
next_bounded code place (Some way) old new b m later entry lt e =
    b later entry (omega arith) (sym (other_set old (place + 1) later (Some m.entry) (λ q. omega (arith, q, lt)))
    ∙ sym (ap (λ (l : Certificate). slice_get l later) m.is) ∙ e)

-- ---- the ways from a word

-- what holds of a way that arrives
arriving_all : (P : Entry → Type 0) (code : Listing) (to : ℕ) (way : Option Entry)
    → ((entry : Entry) → way ≡ Some entry → P (arriving code to entry)) → (entry : Entry)
    → option_map (arriving code to) way ≡ Some entry → P entry
arriving_all P code to None h entry e = absurd (cc)
arriving_all P code to (Some way) h entry e =
    let q : arriving code to way ≡ entry = cc in
    subst P q (h way refl)

coming_all : (P : Entry → Type 0) (code : Listing) (end to : ℕ) (way : Option Entry)
    → ((entry : Entry) → way ≡ Some entry → P (arriving code to entry)) → (entry : Entry)
    → coming code end to way ≡ Some entry → P entry
coming_all P code end to way h entry e =
    elim (cases_lt to end) [
      | inl lt ↦ arriving_all P code to way h entry (sym (coming_in code end to way lt) ∙ e)
      | inr ge ↦ let gone = coming_out code end to way (omega (arith, ge)) in absurd (cc)
    ]

-- nothing comes where no value goes
none_comes : (code : Listing) (end to : ℕ) → coming code end to None ≡ None
none_comes code end to =
    elim (cases_lt to end) [
      | inl lt ↦ coming_in code end to None lt
      | inr ge ↦ coming_out code end to None (omega (arith, ge))
    ]

pub target_bounded : (code : Listing) (place end to : ℕ) (met : Bool) (entry : Entry) (word : Word) (ways : Ways)
    → AreTyped code entry.slots → IsRule code place met entry word ways
    → IsBoundedIf code (coming code end to ways.target)
target_bounded code place end to met entry word ways t r =
    coming_all (λ x. IsInto x (opening code)) code end to ways.target
    (λ way e. closed_bounded code place to met entry way word ways r
    (target_closes code place met entry way word ways r.leaves e)
    (target_shaped code place entry way word ways t r.leaves e))

next_arrived : (code : Listing) (place end to : ℕ) (met : Bool) (entry : Entry) (word : Word) (ways : Ways)
    → AreTyped code entry.slots → IsRule code place met entry word ways → HasToClose code place met word
    → IsBoundedIf code (coming code end to ways.next)
next_arrived code place end to met entry word ways t r c =
    coming_all (λ x. IsInto x (opening code)) code end to ways.next
    (λ way e. closed_bounded code place to met entry way word ways r c
    (next_shaped code place entry way word ways t r.leaves e))

next_is_typed : (code : Listing) (place end to : ℕ) (met : Bool) (entry : Entry) (word : Word) (ways : Ways)
    → AreTyped code entry.slots → IsRule code place met entry word ways → (way : Entry)
    → coming code end to ways.next ≡ Some way → AreTyped code way.slots
next_is_typed code place end to met entry word ways t r =
    coming_all (λ x. AreTyped code x.slots) code end to ways.next
    (λ way e. arriving_typed code (is_start code to) way
    (next_shaped code place entry way word ways t r.leaves e).typed)

closed_of : (nesting : List KnownOpened) → AllZip IsOpenedInto nesting [] → IsTrue (are_closed nesting)
closed_of [] h = refl
closed_of (x ∷ xs) h = absurd h

-- where an entry is kept at the next place, a jump leads there
kept_closes : (code : Listing) (place end to : ℕ) (entry : Entry) (word : Word) (ways : Ways)
    (pending between : Certificate) (target : Option Entry) → ways.target ≡ target
    → AreBounded code place pending → AreWaysOf code place entry word ways
    → MeetsIf pending to (coming code end to target) between → (old : Entry)
    → slice_get between (place + 1) ≡ Some (Some old) → HasToClose code place (is_met pending (place + 1)) word
kept_closes code place end to entry word ways pending between (Some way) q b h m old e =
    target_closes code place (is_met pending (place + 1)) entry way word ways h q
kept_closes code place end to entry word ways pending between None q b h m old e =
    let none : MeetsIf pending to None between =
    subst (λ (w : Option Entry). MeetsIf pending to w between) (none_comes code end to) m in
    let f = sym (ap (λ (l : Certificate). slice_get l (place + 1)) none) ∙ e in
    let i = b (place + 1) old (omega arith) f in
    met_closes code place (is_met pending (place + 1)) word
    (subst (λ (x : Option (Option Entry)). IsTrue (is_closed x)) (sym f) (closed_of old.nesting i.nesting))

pub kept_bounded : (code : Listing) (place end to : ℕ) (entry : Entry) (word : Word) (ways : Ways)
    (pending between : Certificate) → AreTyped code entry.slots → AreBounded code place pending
    → IsRule code place (is_met pending (place + 1)) entry word ways
    → MeetsIf pending to (coming code end to ways.target) between → (old : Entry)
    → slice_get between (place + 1) ≡ Some (Some old)
    → IsBoundedIf code (coming code end (place + 1) ways.next)
kept_bounded code place end to entry word ways pending between t b r m old e =
    next_arrived code place end (place + 1) (is_met pending (place + 1)) entry word ways t r
    (kept_closes code place end to entry word ways pending between ways.target refl b r.leaves m old e)

pub between_bounded : (code : Listing) (place end to : ℕ) (met : Bool) (entry : Entry) (word : Word) (ways : Ways)
    (pending between : Certificate) → AreTyped code entry.slots → AreBounded code place pending
    → IsRule code place met entry word ways
    → MeetsIf pending to (coming code end to ways.target) between → AreBounded code place between
between_bounded code place end to met entry word ways pending between t b r m =
    meets_bounded code place to (coming code end to ways.target) pending between b
    (target_bounded code place end to met entry word ways t r) m

-- ---- from word to word

-- past the place that is judged, nothing has changed
pub rest_same : (code : Listing) (n : ℕ) (pending : Certificate) (f : IsFound code n pending) (later : ℕ) → n < later
    → slice_get (slice_set pending n None) later ≡ slice_get f.certificate later
rest_same code n pending f later lt =
    other_set pending n later None (λ q. omega (arith, q, lt)) ∙ f.same later (omega (arith, lt))

pub rest_bounded : (code : Listing) (n : ℕ) (pending : Certificate) → AreBounded code n pending
    → AreBounded code n (slice_set pending n None)
rest_bounded code n pending b later entry lt e =
    b later entry lt (sym (other_set pending n later None (λ q. omega (arith, q, lt))) ∙ e)

-- a word that is not reached is not judged
pub found_skipped : (code : Listing) (n : ℕ) (pending : Certificate) → n < length code.instructions
    → IsFound code n pending → slice_get pending n ≡ Some None → IsFound code (n + 1) (slice_set pending n None)
found_skipped code n pending lt f e = record {
  certificate = f.certificate;
  closest = skipped code f.certificate n f.closest
      (λ entry g. let h = f.same n (omega arith) in let k : ⊥ = cc in k);
  long = length-set pending n None ∙ f.long;
  same = λ later le. rest_same code n pending f later (omega (arith, le));
  typed = λ entry g. (rest_bounded code n pending f.bounded (n + 1) entry (omega arith) g).slots;
  bounded = λ later entry more g. rest_bounded code n pending f.bounded later entry (omega (arith, more)) g;
}

pub found_next : (code : Listing) (n : ℕ) (entry : Entry) (word : Word) (changes : Changes)
    (pending new : Certificate) → IsLawful code → IsFound code n pending → slice_get pending n ≡ Some (Some entry)
    → slice_get code.instructions n ≡ Some word
    → IsRule code n (is_met (slice_set pending n None) (n + 1)) entry word (ways_of code entry changes)
    → AreFollowed code n word entry changes (slice_set pending n None) new → IsFound code (n + 1) new
found_next code n entry word changes pending new lawful f e w r g =
    let a = f.certificate in
    let ways = ways_of code entry changes in
    let rest = slice_set pending n None in
    let to = target_of n word in
    let end = end_of code (body_at code n) in
    let off_way = coming code end to ways.target in
    let on_way = coming code end (n + 1) ways.next in
    let t = f.typed entry e in
    let b = rest_bounded code n pending f.bounded in
    let met : is_met rest (n + 1) ≡ is_met a (n + 1) = ap is_closed
    (rest_same code n pending f (n + 1) (omega arith)) in
    let rule = subst (λ (m : Bool). IsRule code n m entry word ways) met r in
    let ahead = target_forward code n (is_met rest (n + 1)) entry word ways r in
    let long : length rest ≡ length a = length-set pending n None ∙ f.long ∙ sym f.closest.consistent.long in
    let off = lifted rest g.between a to off_way long (rest_same code n pending f to ahead) g.target in
    let between : length g.between ≡ length off.grown = off.long ∙ long ∙ sym off.takes.long in
    let on = lifted g.between new off.grown (n + 1) on_way between
    (off.same (n + 1) (rest_same code n pending f (n + 1) (omega arith))) g.next in
    let bounded = between_bounded code n end to (is_met rest (n + 1)) entry word ways rest g.between t b r g.target in
    record {
      certificate = on.grown;
      closest = passed code a off.grown on.grown n entry word ways lawful f.closest w
          (sym (f.same n (omega arith)) ∙ e) rule off.takes on.takes;
      long = on.long ∙ off.long ∙ length-set pending n None ∙ f.long;
      same = λ later le.
          on.same later (off.same later (rest_same code n pending f later (omega (arith, le))));
      typed = next_typed code n on_way g.between new bounded
          (next_is_typed code n end (n + 1) (is_met rest (n + 1)) entry word ways t r)
          (kept_bounded code n end to entry word ways rest g.between t b r g.target) g.next;
      bounded = next_bounded code n on_way g.between new bounded g.next;
    }
