-- Where the variable of a name is, and where there is none.
use Rattle.std.proofs.Common.{◌≡◌, ℕ, ◌+◌, ◌<◌, ◌≤◌, ◌↔◌, List, Option, Some, None, ◌∙◌, ap, arith, inl, inr, length}
use Rattle.std.proofs.Common.{refl, subst, sym}
use Rattle.std.proofs.lemmas.Bool.{cases_eq, cases_lt}
use Rattle.std.specs.Prelude.{IsSomeAnd, IsTrue, MatchOption, is_some, option_and_then, slice_get}
use Rattle.std.proofs.lemmas.Option.{slice_get_past}
use Rattle.ilplan.specs.declared.slot.Slot.{Slot}
use Rattle.ilplan.specs.Plans.{Planned, PlannedTask, slot_at}
use Rattle.plantplay.specs.Names.{IsNamed}
use Rattle.plantplay.specs.Watched.{IsOwnNamed, IsPlaceOf, IsSlotNamed, IsWatchable}
use Rattle.plantplay.specs.declared.watch.Place.{Place}
use Rattle.plantplay.specs.declared.watch.Place.TheVariants.{Global, Own}

module _ (plan : Planned) (name : List ℕ) where
  no_slot : (task slot : ℕ) → slot_at plan task slot ≡ None → ¬ IsSlotNamed plan name task slot
  no_slot task slot none is =
      subst (λ (s : Option Slot). IsSomeAnd s (λ it. IsOwnNamed plan name it.variable)) none is

  -- no task has a slot of the name that is not there
  pub past_tasks : (task slot : ℕ) → length plan.tasks ≤ task → ¬ IsSlotNamed plan name task slot
  past_tasks task slot past =
      no_slot task slot
      (ap (λ (t : Option PlannedTask). option_and_then (λ it. slice_get it.slots slot) t)
      (slice_get_past plan.tasks task past))

  pub past_slots : (task slot : ℕ) (t : PlannedTask) → slice_get plan.tasks task ≡ Some t → length t.slots ≤ slot
      → ¬ IsSlotNamed plan name task slot
  past_slots task slot t is past =
      no_slot task slot
      (ap (λ (o : Option PlannedTask). option_and_then (λ it. slice_get it.slots slot) o) is
      ∙ slice_get_past t.slots slot past)

  -- where the slots of the tasks that are there do not have the name, none has it
  pub in_no_task : (n : ℕ) → length plan.tasks ≤ n
      → ((task slot : ℕ) → task < n → ¬ IsSlotNamed plan name task slot) → (task slot : ℕ)
      → ¬ IsSlotNamed plan name task slot
  in_no_task n all none task slot =
      elim (cases_lt task n) [
        | inl below ↦ none task slot below
        | inr past ↦ past_tasks task slot (omega (arith, all, past))
      ]

  pub in_no_slot : (task n : ℕ) (t : PlannedTask) → slice_get plan.tasks task ≡ Some t → length t.slots ≤ n
      → ((slot : ℕ) → slot < n → ¬ IsSlotNamed plan name task slot) → (slot : ℕ) → ¬ IsSlotNamed plan name task slot
  in_no_slot task n t is all none slot =
      elim (cases_lt slot n) [
        | inl below ↦ none slot below
        | inr past ↦ past_slots task slot t is (omega (arith, all, past))
      ]

  -- one task more, or one slot more, does not have the name
  pub task_more : (n : ℕ) → ((task slot : ℕ) → task < n → ¬ IsSlotNamed plan name task slot)
      → ((slot : ℕ) → ¬ IsSlotNamed plan name n slot) → (task slot : ℕ) → task < n + 1
      → ¬ IsSlotNamed plan name task slot
  task_more n none this task slot below =
      elim (cases_eq task n) [
        | inl is ↦ subst (λ (k : ℕ). ¬ IsSlotNamed plan name k slot) (sym is) (this slot)
        | inr other ↦ none task slot (omega (arith, below, other))
      ]

  pub slot_more : (task n : ℕ) → ((slot : ℕ) → slot < n → ¬ IsSlotNamed plan name task slot)
      → ¬ IsSlotNamed plan name task n → (slot : ℕ) → slot < n + 1 → ¬ IsSlotNamed plan name task slot
  slot_more task n none this slot below =
      elim (cases_eq slot n) [
        | inl is ↦ subst (λ (k : ℕ). ¬ IsSlotNamed plan name task k) (sym is) this
        | inr other ↦ none slot (omega (arith, below, other))
      ]

  pub nowhere : ((number : ℕ) → number < length plan.globals → ¬ IsNamed plan name number)
      → ((task slot : ℕ) → ¬ IsSlotNamed plan name task slot) → ¬ IsWatchable plan name
  nowhere globals owns is = at is.0 is.1
    where
      at : (place : Place) → ¬ IsPlaceOf plan name place
      at (Global number) of = globals number of.0 of.1
      at (Own task slot) of = owns task slot of

  -- what is found among the program instances, where no global variable is found
  pub or_own : (found : Option Place) → ((number : ℕ) → number < length plan.globals → ¬ IsNamed plan name number)
      → MatchOption found ((task slot : ℕ) → ¬ IsSlotNamed plan name task slot) (IsPlaceOf plan name)
      → MatchOption found (¬ IsWatchable plan name) (IsPlaceOf plan name)
  or_own None globals owns = nowhere globals owns
  or_own (Some place) globals is = is

  pub has_place : (found : Option Place) → MatchOption found (¬ IsWatchable plan name) (IsPlaceOf plan name)
      → IsTrue (is_some found) ↔ IsWatchable plan name
  has_place None none = (λ yes. absurd (cc), λ is. absurd (none is))
  has_place (Some place) is = (λ _. (place, is), λ _. refl)
