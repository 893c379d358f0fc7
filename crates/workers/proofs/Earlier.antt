-- Logs of before a history, from those of after it: a run that goes on has them for the first ones.
use Rattle.std.proofs.Common.{◌≡◌, ℕ, zero, suc, ◌+◌, ◌-◌, ◌%◌, ◌^◌, ◌<◌, List, [], ◌∷◌, ◌++◌, length, take}
use Rattle.std.proofs.Common.{refl, sym, ap, ◌∙◌, subst, arith, Some}
use Rattle.std.proofs.Math.Nat.{mod-eq_of_lt, mod-lt}
use Rattle.std.proofs.Math.Seq.{take-append_seam}
use Rattle.std.proofs.lemmas.List.{length-append}
use Rattle.std.specs.Prelude.{slice_get}
use Rattle.buslink.specs.BusLog.{BusLog, one_more}
use Rattle.buslink.specs.ClockLog.{ClockLog}
use Rattle.plantevents.specs.declared.event.Event.{Event}
use Rattle.plantevents.specs.Histories.{sent_in, heard_in, downs_in, ups_in, given_in}
use Rattle.plantturns.specs.Links.{log_of, so_many_more}
use Rattle.plantturns.specs.Links.{IsLinked}

-- ---- what stood before the end of a list

-- what stands before so many at the end
abbrev pub all_but : {X : Type 0} → ℕ → List X → List X
all_but n xs = take (length xs - n) xs

front_back : {X : Type 0} (xs front back : List X) → xs ≡ front ++ back → xs ≡ all_but (length back) xs ++ back
front_back xs front back is =
    let long = ap length is ∙ length-append front back in
    let front_long : length xs - length back ≡ length front = omega (arith, long) in
    is
    ∙ ap (λ (ys : List _). ys ++ back)
    (sym
    (ap (λ (ys : List _). take (length xs - length back) ys) is
    ∙ (ap (λ n. take n (front ++ back)) front_long ∙ take-append_seam front back)))

-- ---- counts, modulo 2^64

abbrev pub one_less : ℕ → ℕ
one_less zero = 2 ^ 64 - 1
one_less (suc n) = n

abbrev pub so_many_fewer : ℕ → ℕ → ℕ
so_many_fewer zero count = count
so_many_fewer (suc n) count = so_many_fewer n (one_less count)

less_below : (count : ℕ) → count < 2 ^ 64 → one_less count < 2 ^ 64
less_below zero below = omega arith
less_below (suc n) below = omega (arith, below)

one_back : (count : ℕ) → count < 2 ^ 64 → one_more (one_less count) ≡ count
one_back zero below = refl
one_back (suc n) below =
    let here : n + 1 ≡ suc n = omega arith in
    ap (λ k. k % 2 ^ 64) here ∙ mod-eq_of_lt below

all_back : (n count : ℕ) → count < 2 ^ 64 → so_many_more n (so_many_fewer n count) ≡ count
all_back zero count below = refl
all_back (suc n) count below =
    ap one_more (all_back n (one_less count) (less_below count below)) ∙ one_back count below

counted_back : (n count first : ℕ) → count ≡ so_many_more n first → count ≡ so_many_more n (so_many_fewer n count)
counted_back zero count first is = refl
counted_back (suc n) count first is =
    let below : count < 2 ^ 64 =
    subst (λ k. k < 2 ^ 64) (sym is) (mod-lt (so_many_more n first + 1) (omega arith))
    in
    sym (all_back (suc n) count below)

-- ---- the logs

abbrev pub bus_before : ℕ → List Event → BusLog → BusLog
bus_before b h log = record log {
  sent = all_but (length (sent_in b h)) log.sent;
  heard = all_but (length (heard_in b h)) log.heard;
  failures = so_many_fewer (downs_in b h) log.failures;
  mends = so_many_fewer (ups_in b h) log.mends;
}

-- of buses the first of which has the number n
abbrev pub buses_before : ℕ → List Event → List BusLog → List BusLog
buses_before n h [] = []
buses_before n h (log ∷ logs) = bus_before n h log ∷ buses_before (n + 1) h logs

abbrev pub clock_before : List Event → ClockLog → ClockLog
clock_before h log = record log { given = all_but (length (given_in h)) log.given }

pub linked_before : (first log : BusLog) (b : ℕ) (h : List Event) → IsLinked first b h log
    → IsLinked (bus_before b h log) b h log
linked_before first log b h is = record {
  same = record { number = refl; arrivals = refl };
  sent = front_back log.sent first.sent (sent_in b h) is.sent;
  heard = front_back log.heard first.heard (heard_in b h) is.heard;
  failed = counted_back (downs_in b h) log.failures first.failures is.failed;
  mended = counted_back (ups_in b h) log.mends first.mends is.mended;
}

pub given_before : (first log : ClockLog) (h : List Event) → log.given ≡ first.given ++ given_in h
    → log.given ≡ (clock_before h log).given ++ given_in h
given_before first log h is = front_back log.given first.given (given_in h) is

pub before_at : (n : ℕ) (h : List Event) (logs : List BusLog) (k : ℕ) (log : BusLog) → slice_get logs k ≡ Some log
    → log_of (buses_before n h logs) k ≡ bus_before (n + k) h log
before_at n h [] k log is = absurd (cc)
before_at n h (one ∷ logs) zero log is =
    let same : one ≡ log = cc in
    let here : n ≡ n + 0 = omega arith in
    ap (λ (l : BusLog). bus_before n h l) same ∙ ap (λ m. bus_before m h log) here
before_at n h (one ∷ logs) (suc k) log is =
    let there : n + 1 + k ≡ n + suc k = omega arith in
    before_at (n + 1) h logs k log is ∙ ap (λ m. bus_before m h log) there
