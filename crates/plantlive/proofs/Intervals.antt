-- The least interval of a plan's first tasks.
use Rattle.std.proofs.Common.{◌≡◌, ◌⊎◌, inl, inr, ⊎_elim, ℕ, ◌+◌, ◌<◌, ◌≤◌, length, sym, ap, subst, ◌∙◌, arith, refl}
use Rattle.std.proofs.lemmas.Bool.{cases_lt}
use Rattle.std.proofs.lemmas.Option.{get_or_from_slice_get, slice_get-get_or}
use Rattle.std.specs.Prelude.{Option, None, Some, min, slice_get}
use Rattle.std.specs.Option.{unwrap_or}
use Rattle.ilplan.specs.declared.activation.Activation.TheVariants.{Cyclic, Event}
use Rattle.ilplan.specs.Plans.{Planned, PlannedTask}
use Rattle.ilplan.specs.Plans as plans
use Rattle.plantlive.specs.Periods.{HasInterval, IsLeast, IsPeriod, most_period, usual_period}

-- one of so many first tasks has this interval
abbrev IsBefore : Planned → ℕ → ℕ → Type 0
IsBefore plan count interval =
    (k : ℕ) × (task : PlannedTask) × (k < count) × (slice_get plan.tasks k ≡ Some task)
    × (task.activation ≡ Cyclic interval)

-- one of these, or the greatest period
abbrev IsAmong : Planned → ℕ → ℕ → Type 0
IsAmong plan count n = IsBefore plan count n ⊎ (n ≡ most_period)

-- the least of these where so many first tasks have an interval
abbrev pub IsLeastBefore : Planned → ℕ → Option ℕ → Type 0
IsLeastBefore plan count None = (interval : ℕ) → ¬ IsBefore plan count interval
IsLeastBefore plan count (Some least) =
    ((interval : ℕ) × IsBefore plan count interval) × IsLeast (IsAmong plan count) least × (1 ≤ least)

pub none_before : (plan : Planned) → IsLeastBefore plan 0 None
none_before plan interval is = let none = is.2 in absurd (omega (arith, none))

-- ---- one task more

more : (plan : Planned) (count interval : ℕ) → IsBefore plan count interval → IsBefore plan (count + 1) interval
more plan count interval is = let far = is.2 in (is.0, is.1, omega (arith, far), is.3, is.4)

-- it is one of the first, or the last one has it
split : (plan : Planned) (count interval : ℕ) (task : PlannedTask) → slice_get plan.tasks count ≡ Some task
    → IsBefore plan (count + 1) interval → IsBefore plan count interval ⊎ (task.activation ≡ Cyclic interval)
split plan count interval task at is =
    let far = is.2 in
    ⊎_elim (λ (near : is.0 < count). inl (is.0, is.1, near, is.3, is.4))
    (λ (last : count ≤ is.0).
    let here : is.0 ≡ count = omega (arith, far, last) in
    let there : slice_get plan.tasks count ≡ Some is.1 = ap (λ k. slice_get plan.tasks k) (sym here) ∙ is.3 in
    let same : task ≡ is.1 = cc (at, there) in
    inr (ap (λ (t : PlannedTask). t.activation) same ∙ is.4))
    (cases_lt is.0 count)

-- ---- an event task

not_cyclic : (task : PlannedTask) (trigger interval : ℕ) → task.activation ≡ Event trigger
    → task.activation ≡ Cyclic interval → ⊥
not_cyclic task trigger interval event cyclic = absurd (cc (event, cyclic))

as_before : (plan : Planned) (count trigger : ℕ) (task : PlannedTask) → slice_get plan.tasks count ≡ Some task
    → task.activation ≡ Event trigger → (interval : ℕ) → IsBefore plan (count + 1) interval
    → IsBefore plan count interval
as_before plan count trigger task at event interval is =
    ⊎_elim (λ (before : IsBefore plan count interval). before)
    (λ (last : task.activation ≡ Cyclic interval). absurd (not_cyclic task trigger interval event last))
    (split plan count interval task at is)

pub event_after : (plan : Planned) (count trigger : ℕ) (task : PlannedTask) (least : Option ℕ)
    → slice_get plan.tasks count ≡ Some task → task.activation ≡ Event trigger → IsLeastBefore plan count least
    → IsLeastBefore plan (count + 1) least
event_after plan count trigger task None at event none =
    λ interval is. none interval (as_before plan count trigger task at event interval is)
event_after plan count trigger task (Some least) at event so = (
  (so.0.0, more plan count so.0.0 so.0.1),
  record {
    is =
        ⊎_elim (λ (before : IsBefore plan count least). inl (more plan count least before))
        (λ (most : least ≡ most_period). inr most) so.1.is;
    least = λ other among.
        so.1.least other
        (⊎_elim (λ (before : IsBefore plan (count + 1) other).
        inl (as_before plan count trigger task at event other before))
        (λ (most : other ≡ most_period). inr most) among);
  },
  so.2,
)

-- ---- a cyclic task

pub positive : (task : PlannedTask) (interval : ℕ) → task.activation ≡ Cyclic interval
    → plans.HasInterval task.activation → 1 ≤ interval
positive task interval cyclic some = subst plans.HasInterval cyclic some

last_is : (plan : Planned) (count interval : ℕ) (task : PlannedTask) → slice_get plan.tasks count ≡ Some task
    → task.activation ≡ Cyclic interval → IsBefore plan (count + 1) interval
last_is plan count interval task at cyclic = (count, task, omega arith, at, cyclic)

same_interval : (task : PlannedTask) (one other : ℕ) → task.activation ≡ Cyclic one → task.activation ≡ Cyclic other
    → other ≡ one
same_interval task one other is is_too = cc (is, is_too)

-- what is among them after it is its interval or was among them before
was_among : (plan : Planned) (count interval other : ℕ) (task : PlannedTask) → slice_get plan.tasks count ≡ Some task
    → task.activation ≡ Cyclic interval → IsAmong plan (count + 1) other
    → IsAmong plan count other ⊎ (other ≡ interval)
was_among plan count interval other task at cyclic among =
    ⊎_elim (λ (before : IsBefore plan (count + 1) other).
    ⊎_elim (λ (first : IsBefore plan count other). inl (inl first))
    (λ (last : task.activation ≡ Cyclic other). inr (same_interval task interval other cyclic last))
    (split plan count other task at before))
    (λ (most : other ≡ most_period). inl (inr most)) among

now_among : (plan : Planned) (count other : ℕ) → IsAmong plan count other → IsAmong plan (count + 1) other
now_among plan count other among =
    ⊎_elim (λ (before : IsBefore plan count other). inl (more plan count other before))
    (λ (most : other ≡ most_period). inr most) among

-- the lesser of the interval and of what was the least
least_of_both : (plan : Planned) (count interval least lesser : ℕ) (task : PlannedTask)
    → slice_get plan.tasks count ≡ Some task → task.activation ≡ Cyclic interval
    → IsLeast (IsAmong plan count) least → lesser ≡ min least interval
    → IsLeast (IsAmong plan (count + 1)) lesser
least_of_both plan count interval least lesser task at cyclic was is = record {
  is =
      ⊎_elim (λ (below : least < interval).
      let same : least ≡ lesser = omega (arith, below, is) in
      subst (λ n. IsAmong plan (count + 1) n) same (now_among plan count least was.is))
      (λ (above : interval ≤ least).
      let same : interval ≡ lesser = omega (arith, above, is) in
      subst (λ n. IsAmong plan (count + 1) n) same (inl (last_is plan count interval task at cyclic)))
      (cases_lt least interval);
  least = λ other among.
      ⊎_elim (λ (before : IsAmong plan count other).
      let within = was.least other before in omega (arith, within, is))
      (λ (same : other ≡ interval). omega (arith, same, is))
      (was_among plan count interval other task at cyclic among);
}

-- before the first interval the greatest period is the least
none_is_most : (plan : Planned) (count : ℕ) → IsLeastBefore plan count None → IsLeast (IsAmong plan count) most_period
none_is_most plan count none = record {
  is = inr refl;
  least = λ other among.
      ⊎_elim (λ (before : IsBefore plan count other). absurd (none other before))
      (λ (same : other ≡ most_period). omega (arith, same)) among;
}

pub cyclic_after : (plan : Planned) (count interval lesser : ℕ) (task : PlannedTask) (least : Option ℕ)
    → slice_get plan.tasks count ≡ Some task → task.activation ≡ Cyclic interval → 1 ≤ interval
    → lesser ≡ min (unwrap_or least most_period) interval → IsLeastBefore plan count least
    → IsLeastBefore plan (count + 1) (Some lesser)
cyclic_after plan count interval lesser task None at cyclic some is so = (
  (interval, last_is plan count interval task at cyclic),
  least_of_both plan count interval most_period lesser task at cyclic (none_is_most plan count so) is,
  omega (arith, some, is),
)
cyclic_after plan count interval lesser task (Some least) at cyclic some is so = (
  (interval, last_is plan count interval task at cyclic),
  least_of_both plan count interval least lesser task at cyclic so.1 is,
  let before = so.2 in omega (arith, some, before, is),
)

-- ---- all tasks

there : (plan : Planned) (interval : ℕ) → HasInterval plan interval → IsBefore plan (length plan.tasks) interval
there plan interval is =
    (is.0, is.1, is.2, slice_get-get_or plan.tasks is.0 is.1 is.2 ∙ ap (λ (t : PlannedTask). Some t) is.3, is.4)

has : (plan : Planned) (interval : ℕ) → IsBefore plan (length plan.tasks) interval → HasInterval plan interval
has plan interval is = (is.0, is.1, is.2, get_or_from_slice_get plan.tasks is.0 is.1 is.1 is.3, is.4)

pub is_period : (plan : Planned) (count period : ℕ) (least : Option ℕ) → count ≡ length plan.tasks
    → IsLeastBefore plan count least → period ≡ unwrap_or least usual_period
    → IsPeriod plan period × (1 ≤ period) × (period ≤ most_period)
is_period plan count period None all none is =
    let none_there = λ (interval : ℕ) (has_it : HasInterval plan interval).
    none interval (subst (λ n. IsBefore plan n interval) (sym all) (there plan interval has_it)) in (
      record {
        cyclic = λ interval has_it. absurd (none_there interval has_it);
        other = λ no. is;
      },
      omega (arith, is),
      omega (arith, is),
    )
is_period plan count period (Some least) all so is =
    let whole = λ (n : ℕ) (among : HasInterval plan n ⊎ (n ≡ most_period)).
    ⊎_elim (λ (has_it : HasInterval plan n).
    inl (subst (λ k. IsBefore plan k n) (sym all) (there plan n has_it)))
    (λ (most : n ≡ most_period). inr most) among in
    let minimal : (n : ℕ) → HasInterval plan n ⊎ (n ≡ most_period) → period ≤ n =
    λ n among. let within = so.1.least n (whole n among) in omega (arith, within, is) in (
      record {
        cyclic = λ interval has_it. record {
          is =
              subst (λ n. HasInterval plan n ⊎ (n ≡ most_period)) (sym is)
              (⊎_elim (λ (before : IsBefore plan count least).
              inl (has plan least (subst (λ k. IsBefore plan k least) all before)))
              (λ (most : least ≡ most_period). inr most) so.1.is);
          least = minimal;
        };
        other = λ no.
            absurd (no so.0.0 (has plan so.0.0 (subst (λ k. IsBefore plan k so.0.0) all so.0.1)));
      },
      let some = so.2 in omega (arith, some, is),
      minimal most_period (inr refl),
    )
