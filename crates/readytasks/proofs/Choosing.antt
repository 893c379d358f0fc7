-- The choice: the first of the list whose scan is not open, and by what the history says.
use Rattle.std.proofs.Common.{◌≡◌, ⊎_elim, inr, ℕ, ◌+◌, ◌<◌, ◌≤◌, Bool, true, false, not, ◌&&◌, List, length, get_or}
use Rattle.std.proofs.Common.{Option, Some, None, refl, sym, ap, ◌∙◌, subst, arith}
use Rattle.std.proofs.lemmas.Bool.{cases_lt}
use Rattle.std.proofs.lemmas.List.{get_or_default}
use Rattle.plantevents.specs.Choices.{Rank, Precedes, IsFirstFree, Chooses}
use Rattle.readytasks.specs.TaskSets.{KeptTask, task_at}
use Rattle.readytasks.specs.TaskSetSteps.{is_ready, is_free_at, rank_at}
use Rattle.readytasks.specs.ReadyLists.{Leads, IsReadyList}
use Rattle.readytasks.proofs.Listing.{is_at, place_listed}

precedes_itself : (a : Rank) → Precedes a a
precedes_itself a = inr (refl, inr (refl, omega arith))

precedes_where_it_leads : (a b : Rank) → Leads a b → Precedes a b
precedes_where_it_leads a b l = grind arith

idle_where_free : (ready scanned : Bool) → (ready && not scanned) ≡ true → (ready ≡ true) × (scanned ≡ false)
idle_where_free true true is = absurd (cc)
idle_where_free true false is = (refl, refl)
idle_where_free false scanned is = absurd (cc)

not_free : (ready scanned : Bool) → (ready ≡ true → scanned ≡ true) → (ready && not scanned) ≡ false
not_free true scanned is = rw (is refl) refl
not_free false scanned is = refl

-- a task that is ready has a place in the list
place_where_ready : (tasks : List KeptTask) (moment : ℕ) (list : List ℕ) (t : ℕ) → IsReadyList tasks moment list
    → t < length tasks → is_ready (task_at tasks t) moment ≡ true
    → (j : ℕ) × (j < length list) × (get_or list j 0 ≡ t)
place_where_ready tasks moment list t is lt ready =
    let there = place_listed list t (is.listed t lt ∙ ready) in
    (there.0, there.1, get_or_default list there.0 0 t there.1 ∙ there.2)

module _ (tasks : List KeptTask) (moment : ℕ) (list : List ℕ) (is : IsReadyList tasks moment list) where
  pub first_chosen : (t k : ℕ) → k < length list → get_or list k 0 ≡ t → (task_at tasks t).is_scanned ≡ false
      → ((j : ℕ) → j < k → (task_at tasks (get_or list j 0)).is_scanned ≡ true)
      → IsFirstFree (is_free_at tasks moment) (rank_at tasks) (length tasks) t
  first_chosen t k kl here idle before =
      let known : t < length tasks = subst (λ (u : ℕ). u < length tasks) here (is.order.known k 0 kl) in
      let ready : is_ready (task_at tasks t) moment ≡ true = sym (is.listed t known) ∙ is_at list t k 0 kl here in
      record {
        known = known;
        free = rw (ready, idle) refl;
        first = λ u ul free.
            let so = idle_where_free (is_ready (task_at tasks u) moment) (task_at tasks u).is_scanned free in
            let there = place_where_ready tasks moment list u is ul so.0 in
            ⊎_elim
            (λ (earlier : there.0 < k).
            let busy : (task_at tasks u).is_scanned ≡ true =
            subst (λ (v : ℕ). (task_at tasks v).is_scanned ≡ true) there.2 (before there.0 earlier) in
            let other : (task_at tasks u).is_scanned ≡ false = so.1 in
            absurd (cc))
            (λ (no_earlier : k ≤ there.0).
            ⊎_elim
            (λ (at : there.0 < k + 1).
            let same : k ≡ there.0 = omega arith in
            let it : t ≡ u = sym here ∙ ap (λ (m : ℕ). get_or list m 0) same ∙ there.2 in
            subst (λ (v : ℕ). Precedes (rank_at tasks t) (rank_at tasks v)) it (precedes_itself (rank_at tasks t)))
            (λ (later : k + 1 ≤ there.0).
            precedes_where_it_leads (rank_at tasks t) (rank_at tasks u)
            (subst (λ (v : ℕ). Leads (rank_at tasks v) (rank_at tasks u)) here
            (subst (λ (v : ℕ). Leads (rank_at tasks (get_or list k 0)) (rank_at tasks v)) there.2
            (is.order.ordered k there.0 0 (omega arith) there.1))))
            (cases_lt there.0 (k + 1)))
            (cases_lt there.0 k);
      }

  pub none_chosen : ((j : ℕ) → j < length list → (task_at tasks (get_or list j 0)).is_scanned ≡ true)
      → (t : ℕ) → t < length tasks → is_free_at tasks moment t ≡ false
  none_chosen busy t lt =
      not_free (is_ready (task_at tasks t) moment) (task_at tasks t).is_scanned
      (λ ready. let there = place_where_ready tasks moment list t is lt ready in
      subst (λ (v : ℕ). (task_at tasks v).is_scanned ≡ true) there.2 (busy there.0 there.1))

-- the choice by what is kept is that by what the history says, where the two say the same of each that is free
pub chooses_same : (free kept : ℕ → Bool) (rank kept_rank : ℕ → Rank) (n : ℕ) (best : Option ℕ)
    → ((t : ℕ) → t < n → kept t ≡ free t) → ((t : ℕ) → t < n → free t ≡ true → kept_rank t ≡ rank t)
    → Chooses kept kept_rank n best → Chooses free rank n best
chooses_same free kept rank kept_rank n None same ranks none = λ t lt. sym (same t lt) ∙ none t lt
chooses_same free kept rank kept_rank n (Some t) same ranks is =
    let so : free t ≡ true = sym (same t is.known) ∙ is.free in
    record {
      known = is.known;
      free = so;
      first = λ u lt f.
          subst (λ (r : Rank). Precedes r (rank u)) (ranks t is.known so)
          (subst (λ (r : Rank). Precedes (kept_rank t) r) (ranks u lt f) (is.first u lt (same u lt ∙ f)));
    }
