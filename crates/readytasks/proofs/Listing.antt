-- The list of the tasks that are ready: one task more or fewer, and other tasks.
use Rattle.std.proofs.Common.{◌≡◌, ◌≢◌, ⊎_elim, ℕ, ◌+◌, ◌-◌, ◌<◌, ◌≤◌, true, false, ◌||◌, eqb, List, [], ◌∷◌, ◌++◌, length, take, drop, suc}
use Rattle.std.proofs.Common.{get_or, set, get_or-set_same, get_or-set_other, length-set, refl, sym, ◌∙◌, subst, arith, eq-eqb}
use Rattle.std.specs.List.{AllPairs, Contains, insert, remove}
use Rattle.std.proofs.lemmas.Bool.{cases_lt, ne_eqb}
use Rattle.std.proofs.lemmas.Bool.Decides.{Decides-eqb, eqb_tells}
use Rattle.std.proofs.lemmas.List.{length_push, get_or_default}
use Rattle.std.proofs.lemmas.List.Edits.{length-insert, get_or-insert_below, get_or-insert_at, get_or-insert_above, length-remove, get_or-remove_below, get_or-remove_above}
use Rattle.std.proofs.lemmas.List.Elements.{All-push, All-cons, All-contains, All-append, All-take, All-drop}
use Rattle.std.proofs.lemmas.List.Folds.{list_any_none, list_any_at}
use Rattle.std.proofs.lemmas.List.Quantifiers.{all_pairs_push, all_pairs_remove}
use Rattle.std.proofs.lemmas.List.Sorted.{list_any-IsPermutation, IsPermutation-insert, IsPermutation-remove, All-permutation}
use Rattle.std.proofs.lemmas.Map.Made.{IsDistinct-from_AllPairs}
use Rattle.std.proofs.lemmas.Map.Steps.{length-le_from_distinct_below}
use Rattle.std.proofs.lemmas.Map.Views.{Contains-from_any}
use Rattle.plantevents.specs.Choices.{Rank}
use Rattle.readytasks.specs.TaskSets.{KeptTask, task_at, no_task}
use Rattle.readytasks.specs.TaskSetSteps.{is_ready, rank_at}
use Rattle.readytasks.specs.ReadyLists.{IsOrderOf, IsReadyList, Leads, AreInOrder, IsPlaceFor, is_listed}

-- ---- ranks

leads_not_itself : (a : Rank) → ¬ (Leads a a)
leads_not_itself a l = grind arith

pub leads_on : (a b c : Rank) → Leads a b → Leads b c → Leads a c
leads_on a b c l m = grind arith

pub leads_back : (a b : Rank) → ¬ (Leads a b) → a.number ≢ b.number → Leads b a
leads_back a b not_so apart = grind arith

-- ---- a list as it is

pub is_at : (xs : List ℕ) (t k d : ℕ) → k < length xs → get_or xs k d ≡ t → is_listed xs t ≡ true
is_at xs t k d lt same = list_any_at (λ u. eqb t u) xs k d lt (eq-eqb t _ (sym same))

pub not_at : (xs : List ℕ) (t k d : ℕ) → k < length xs → is_listed xs t ≡ false → get_or xs k d ≢ t
not_at xs t k d lt absent same = let there = is_at xs t k d lt same in absurd (cc)

pub place_listed : (xs : List ℕ) (t : ℕ) → is_listed xs t ≡ true → Contains xs t
place_listed xs t is = Contains-from_any (λ x y. (Decides-eqb x y).0) t xs is

pub nowhere : (xs : List ℕ) (t : ℕ) → ((k : ℕ) → k < length xs → get_or xs k 0 ≢ t) → is_listed xs t ≡ false
nowhere xs t none =
    list_any_none (λ u. eqb t u) xs
    (λ k d lt. ne_eqb t _ (λ same. none k lt (get_or_default xs k 0 d lt ∙ sym same)))

-- what holds of each two numbers of a list, with one number more
all_pairs_insert : (R : ℕ → ℕ → Type 0) (xs : List ℕ) (n y : ℕ) → n ≤ length xs → AllPairs R xs
    → ((k d : ℕ) → k < n → R (get_or xs k d) y) → ((k d : ℕ) → n ≤ k → k < length xs → R y (get_or xs k d))
    → AllPairs R (insert xs n y)
all_pairs_insert R xs n y le pairs front back i j d ij jl =
    let len = length-insert xs n y le in
    ⊎_elim
    (λ (jn : j < n).
    subst (λ (u : ℕ). R u (get_or (insert xs n y) j d)) (sym (get_or-insert_below xs n y d i (omega arith) le))
    (subst (λ (v : ℕ). R (get_or xs i d) v) (sym (get_or-insert_below xs n y d j jn le)) (pairs i j d ij (omega arith))))
    (λ (nj : n ≤ j).
    ⊎_elim
    (λ (i_n : i < n).
    subst (λ (u : ℕ). R u (get_or (insert xs n y) j d)) (sym (get_or-insert_below xs n y d i i_n le))
    (⊎_elim
    (λ (at : j < n + 1).
    let here : n ≡ j = omega arith in
    subst (λ (v : ℕ). R (get_or xs i d) (get_or (insert xs n y) v d)) here
    (subst (λ (v : ℕ). R (get_or xs i d) v) (sym (get_or-insert_at xs n y d le)) (front i d i_n)))
    (λ (past : n + 1 ≤ j).
    later j d past (λ v. R (get_or xs i d) v) (pairs i (j - 1) d (omega arith) (omega arith)))
    (cases_lt j (n + 1))))
    (λ (n_i : n ≤ i).
    later j d (omega arith) (λ v. R (get_or (insert xs n y) i d) v)
    (⊎_elim
    (λ (at : i < n + 1).
    let here : n ≡ i = omega arith in
    subst (λ (u : ℕ). R (get_or (insert xs n y) u d) (get_or xs (j - 1) d)) here
    (subst (λ (u : ℕ). R u (get_or xs (j - 1) d)) (sym (get_or-insert_at xs n y d le)) (back (j - 1) d (omega arith) (omega arith))))
    (λ (past : n + 1 ≤ i).
    later i d past (λ u. R u (get_or xs (j - 1) d)) (pairs (i - 1) (j - 1) d (omega arith) (omega arith)))
    (cases_lt i (n + 1))))
    (cases_lt i n))
    (cases_lt j n)
  where
    later : (k d : ℕ) → n + 1 ≤ k → (P : ℕ → Type 0) → P (get_or xs (k - 1) d) → P (get_or (insert xs n y) k d)
    later k d past P here =
        let back_one : k - 1 + 1 ≡ k = omega arith in
        subst (λ (m : ℕ). P (get_or (insert xs n y) m d)) back_one
        (subst P (sym (get_or-insert_above xs n y d (k - 1) (omega arith) le)) here)

module _ (rank : ℕ → Rank) where
  apart : (xs : List ℕ) → AllPairs (λ t u. Leads (rank t) (rank u)) xs → AllPairs (λ t u. t ≢ u) xs
  apart xs ordered i j d ij lt same =
      leads_not_itself (rank (get_or xs i d))
      (subst (λ (u : ℕ). Leads (rank (get_or xs i d)) (rank u)) (sym same) (ordered i j d ij lt))

  -- there is room for a number that is not there yet
  pub room : (n : ℕ) (xs : List ℕ) (t : ℕ) → AreInOrder rank n xs → t < n → is_listed xs t ≡ false → length xs < n
  room n xs t order lt absent =
      let distinct = IsDistinct-from_AllPairs Decides-eqb (xs ++ t ∷ [])
      (all_pairs_push (λ u v. u ≢ v) xs t (apart xs order.ordered) (λ k d kl. not_at xs t k d kl absent)) in
      let below = length-le_from_distinct_below (xs ++ t ∷ []) n distinct
      (λ q is. All-contains (λ u. u < n) (xs ++ t ∷ []) q (All-push (λ u. u < n) xs t order.known lt) (place_listed (xs ++ t ∷ []) q is)) in
      omega (arith, length_push xs t)

  -- the same order by other ranks, which are those of its numbers
  pub same_order : (other : ℕ → Rank) (n : ℕ) (xs : List ℕ) → ((t : ℕ) → is_listed xs t ≡ true → other t ≡ rank t)
      → AreInOrder rank n xs → AreInOrder other n xs
  same_order other n xs same order = record {
    known = order.known;
    ordered = λ i j d ij lt.
        let il : i < length xs = omega arith in
        subst (λ (r : Rank). Leads r (other (get_or xs j d))) (sym (same _ (is_at xs _ i d il refl)))
        (subst (λ (r : Rank). Leads (rank (get_or xs i d)) r) (sym (same _ (is_at xs _ j d lt refl)))
        (order.ordered i j d ij lt));
  }

  -- what leads one number before a place, or is it, where the one just before the place does not follow t
  pub place_behind : (n : ℕ) (xs : List ℕ) (t place : ℕ) → ((u : ℕ) → (rank u).number ≡ u) → AreInOrder rank n xs
      → is_listed xs t ≡ false → place ≤ length xs
      → ((0 < place) → ¬ (Leads (rank t) (rank (get_or xs (place - 1) 0))))
      → ((k : ℕ) → place ≤ k → k < length xs → Leads (rank t) (rank (get_or xs k 0))) → IsPlaceFor rank xs t place
  place_behind n xs t place numbered order absent within not_so before = record {
    within = within;
    behind = λ k lt.
        let last : Leads (rank (get_or xs (place - 1) 0)) (rank t) =
        leads_back (rank t) (rank (get_or xs (place - 1) 0)) (not_so (omega arith))
        (λ same. not_at xs t (place - 1) 0 (omega arith) absent (sym (sym (numbered t) ∙ same ∙ numbered _))) in
        ⊎_elim
        (λ (earlier : k < place - 1). leads_on _ _ _ (order.ordered k (place - 1) 0 earlier (omega arith)) last)
        (λ (at : place - 1 ≤ k). let here : place - 1 ≡ k = omega arith in
        subst (λ (m : ℕ). Leads (rank (get_or xs m 0)) (rank t)) here last)
        (cases_lt k (place - 1));
    before = before;
  }

  -- ---- a number more

  pub in_place : (n : ℕ) (xs : List ℕ) (t place : ℕ) → AreInOrder rank n xs → t < n → IsPlaceFor rank xs t place
      → AreInOrder rank n (insert xs place t)
  in_place n xs t place order lt is = record {
    known = All-permutation (λ u. u < n) (t ∷ xs) (insert xs place t) (IsPermutation-insert xs place t) (All-cons (λ u. u < n) t xs lt order.known);
    ordered = all_pairs_insert (λ u v. Leads (rank u) (rank v)) xs place t is.within order.ordered
        (λ k d kl. subst (λ (u : ℕ). Leads (rank u) (rank t)) (get_or_default xs k 0 d (let w = is.within in omega arith)) (is.behind k kl))
        (λ k d pk kl. subst (λ (u : ℕ). Leads (rank t) (rank u)) (get_or_default xs k 0 d kl) (is.before k pk kl));
  }

  -- ---- a number fewer

  pub out_of_place : (n : ℕ) (xs : List ℕ) (place : ℕ) → place < length xs → AreInOrder rank n xs → AreInOrder rank n (remove xs place)
  out_of_place n xs place lt order = record {
    known = All-append (λ u. u < n) (take place xs) (drop (suc place) xs) (All-take (λ u. u < n) place xs order.known) (All-drop (λ u. u < n) (suc place) xs order.known);
    ordered = all_pairs_remove (λ u v. Leads (rank u) (rank v)) xs place lt order.ordered;
  }

  pub gone : (n : ℕ) (xs : List ℕ) (place t : ℕ) → place < length xs → get_or xs place 0 ≡ t → AreInOrder rank n xs
      → is_listed (remove xs place) t ≡ false
  gone n xs place t lt is order =
      nowhere (remove xs place) t
      (λ k kl same.
      let len = length-remove xs place lt in
      ⊎_elim
      (λ (before : k < place). apart xs order.ordered k place 0 before lt (sym (get_or-remove_below xs place 0 k before lt) ∙ same ∙ sym is))
      (λ (behind : place ≤ k). apart xs order.ordered place (k + 1) 0 (omega arith) (omega arith) (is ∙ sym same ∙ get_or-remove_above xs place 0 k behind lt))
      (cases_lt k place))

pub joined : (xs : List ℕ) (t place u : ℕ) → is_listed (insert xs place t) u ≡ (eqb u t || is_listed xs u)
joined xs t place u = sym (list_any-IsPermutation (λ v. eqb u v) (t ∷ xs) (insert xs place t) (IsPermutation-insert xs place t))

pub others_stay : (xs : List ℕ) (place t u : ℕ) → place < length xs → get_or xs place 0 ≡ t → u ≢ t
    → is_listed (remove xs place) u ≡ is_listed xs u
others_stay xs place t u lt is ne =
    let no : eqb u t ≡ false = ne_eqb u t ne in
    let whole = list_any-IsPermutation (λ v. eqb u v) xs (t ∷ remove xs place) (IsPermutation-remove xs place t lt (sym is ∙ get_or_default xs place 0 t lt)) in
    sym (rw no at whole)

-- ---- one task, as it is after an event

-- the order of the others is the same, and so is the place of the task, if it is in the list
pub order_after_set : (tasks : List KeptTask) (list : List ℕ) (t : ℕ) (s : KeptTask) → t < length tasks → IsOrderOf tasks list
    → (is_listed list t ≡ true → (s.setup ≡ (task_at tasks t).setup) × (s.since ≡ (task_at tasks t).since))
    → IsOrderOf (set tasks t s) list
order_after_set tasks list t s lt order same =
    subst (λ (n : ℕ). AreInOrder (rank_at (set tasks t s)) n list) (sym (length-set tasks t s))
    (same_order (rank_at tasks) (rank_at (set tasks t s)) (length tasks) list
    (λ u is. ⊎_elim
    (λ (k : (eqb u t ≡ true) × (u ≡ t)).
    let it = same (subst (λ (v : ℕ). is_listed list v ≡ true) k.1 is) in
    subst (λ (v : ℕ). rank_at (set tasks t s) v ≡ rank_at tasks v) (sym k.1)
    (rw (get_or-set_same tasks t s no_task lt, it.0, it.1) refl))
    (λ (k : (eqb u t ≡ false) × (u ≢ t)). rw (get_or-set_other tasks t u s no_task k.1) refl)
    (eqb_tells u t))
    order)

-- the list is that of the tasks that are ready, once the task has changed and is listed so
pub list_after_set : (tasks : List KeptTask) (before after : List ℕ) (t m : ℕ) (s : KeptTask) → t < length tasks
    → length tasks ≤ 16 → IsOrderOf (set tasks t s) after → is_listed after t ≡ is_ready s m
    → ((u : ℕ) → u ≢ t → is_listed after u ≡ is_listed before u)
    → ((u : ℕ) → u < length tasks → u ≢ t → is_listed before u ≡ is_ready (task_at tasks u) m)
    → IsReadyList (set tasks t s) m after
list_after_set tasks before after t m s lt few order here others listed = record {
  few = let len = length-set tasks t s in omega arith;
  order = order;
  listed = λ u ul. ⊎_elim
      (λ (k : (eqb u t ≡ true) × (u ≡ t)).
      subst (λ (v : ℕ). is_listed after v ≡ is_ready (task_at (set tasks t s) v) m) (sym k.1)
      (rw (get_or-set_same tasks t s no_task lt) here))
      (λ (k : (eqb u t ≡ false) × (u ≢ t)).
      let len = length-set tasks t s in
      rw (get_or-set_other tasks t u s no_task k.1) (others u k.1 ∙ listed u (omega arith) k.1))
      (eqb_tells u t);
}
