-- What is kept of all tasks, from what is kept of each.
use Rattle.std.proofs.Common.{◌≡◌, ◌≢◌, ⊎_elim, ℕ, ◌+◌, ◌<◌, Bool, true, false, ◌&&◌, eqb, List, [], ◌∷◌, ◌++◌, length}
use Rattle.std.proofs.Common.{Option, Some, None, refl, sym, ap, subst, arith, below_more, ◌∙◌}
use Rattle.std.proofs.Common.{get_or, set, get_or-set_same, get_or-set_other, length-set}
use Rattle.std.proofs.lemmas.List.{get_or_append_left}
use Rattle.std.proofs.Math.Seq.{get_or-append_seam}
use Rattle.std.proofs.lemmas.Bool.{ne_eqb}
use Rattle.std.proofs.lemmas.Bool.Decides.{eqb_tells}
use Rattle.std.specs.Prelude.{slice_set, slice_index_or}
use Rattle.plantevents.specs.Snapshots.{ScanStart}
use Rattle.plantevents.specs.Scans.{Scan}
use Rattle.dalievent.specs.declared.messages.EventSource.{EventSource}
use Rattle.plantevents.specs.declared.activator.Activator.{Activator}
use Rattle.plantevents.specs.declared.activator.Activator.TheVariants.{Interval, Messages}
use Rattle.plantevents.specs.declared.event.Event.{Event}
use Rattle.plantevents.specs.declared.event.Event.TheVariants.{Take, Commit}
use Rattle.plantevents.specs.Plants.{Plant}
use Rattle.plantevents.specs.Choices.{is_free, rank}
use Rattle.plantevents.specs.Histories.{OpenScan, moment, scan, message_count}
use Rattle.readytasks.specs.declared.setup.TaskSetup.{TaskSetup}
use Rattle.readytasks.specs.TaskSets.{KeptTask, TaskFollows, count_for, TaskSet, Follows, setup_of, task_at, no_task}
use Rattle.readytasks.specs.TaskSetSteps.{is_free_at, rank_at}

-- one task more, to which nothing has happened
pub fresh_more : (setups : ℕ → TaskSetup) (tasks : List KeptTask) (n : ℕ) (s : KeptTask) → length tasks ≡ n
    → ((t : ℕ) → t < n → TaskFollows (setups t) t [] (task_at tasks t)) → ((t : ℕ) → TaskFollows (setups n) t [] s)
    → (t : ℕ) → t < n + 1 → TaskFollows (setups t) t [] (task_at (tasks ++ s ∷ []) t)
fresh_more setups tasks n s len before new =
    below_more (λ t. TaskFollows (setups t) t [] (task_at (tasks ++ s ∷ []) t)) n
    (λ t lt. let inside : t < length tasks = omega arith in
    subst (TaskFollows (setups t) t []) (sym (get_or_append_left tasks (s ∷ []) no_task t inside)) (before t lt))
    (let at_end = ap (λ (m : ℕ). task_at (tasks ++ s ∷ []) m) (sym len) ∙ get_or-append_seam tasks s [] no_task in
    subst (TaskFollows (setups n) n []) (sym at_end) (new n))

-- what holds at each index of a list, after one is set
each_after_set : {X : Type 0} (P : ℕ → X → Type 0) (xs : List X) (n t : ℕ) (x d : X) → length xs ≡ n → P t x
    → ((u : ℕ) → u < n → u ≢ t → P u (slice_index_or xs u d))
    → (u : ℕ) → u < n → P u (slice_index_or (slice_set xs t x) u d)
each_after_set {X} P xs n t x d len here other u lt =
    ⊎_elim
    (λ (k : (eqb u t ≡ true) × (u ≡ t)). let in_list : t < length xs = let e = k.1 in omega arith in
    subst (λ (v : ℕ). P v (get_or (set xs t x) v d)) (sym k.1)
    (subst (P t) (sym (get_or-set_same xs t x d in_list)) here))
    (λ (k : (eqb u t ≡ false) × (u ≢ t)). subst (P u) (sym (get_or-set_other xs t u x d k.1)) (other u lt k.1))
    (eqb_tells u t)

-- an event that concerns one task
pub one_kept : (p : Plant) (h : List Event) (m t : ℕ) (tasks : List KeptTask) (e : Event) (s : KeptTask)
    → Follows p h (record { moment = m; tasks = tasks }) → moment (e ∷ h) ≡ moment h
    → TaskFollows (setup_of p t) t (e ∷ h) s
    → ((setup : TaskSetup) (u : ℕ) (r : KeptTask) → u ≢ t → TaskFollows setup u h r → TaskFollows setup u (e ∷ h) r)
    → Follows p (e ∷ h) (record { moment = m; tasks = slice_set tasks t s })
one_kept p h m t tasks e s all still here other = record {
  moment = all.moment ∙ sym still;
  count = length-set tasks t s ∙ all.count;
  each = each_after_set (λ u r. TaskFollows (setup_of p u) u (e ∷ h) r) tasks (length p.plan.tasks) t s no_task
      all.count here (λ u lt ne. other (setup_of p u) u _ ne (all.each u lt));
}

-- at an event that is no message
count_still : (a : Option Activator) (e : Event) (h : List Event)
    → ((first bus : ℕ) (source : EventSource) → message_count first bus source (e ∷ h) ≡ message_count first bus source h)
    → count_for a (e ∷ h) ≡ count_for a h
count_still None e h still = refl
count_still (Some (Interval milliseconds)) e h still = refl
count_still (Some (Messages bus source first)) e h still = still first bus source

-- a Take of another task
pub others_at_take : (h : List Event) (w t : ℕ) (start : ScanStart) (setup : TaskSetup) (u : ℕ) (r : KeptTask) → u ≢ t
    → TaskFollows setup u h r → TaskFollows setup u (Take w t start ∷ h) r
others_at_take h w t start setup u r ne f =
    let no : eqb t u ≡ false = ne_eqb t u (λ e. ne (sym e)) in
    record {
      declared_so = f.declared_so;
      last_take = rw no f.last_take;
      pending = rw no f.pending;
      count = f.count ∙ sym (count_still setup.activator (Take w t start) h (λ first bus source. refl));
      lost = f.lost;
      few = let e = f.few in omega arith;
      since = rw no (λ is. rw is (f.since is));
      is_scanned = rw no f.is_scanned;
    }

-- a Commit of a scan of another task
pub others_at_commit : (h : List Event) (w n t : ℕ) (result : Scan) (running : OpenScan) (setup : TaskSetup) (u : ℕ)
    (r : KeptTask) → scan w h ≡ Some running → running.task ≡ t → u ≢ t
    → TaskFollows setup u h r → TaskFollows setup u (Commit w n result ∷ h) r
others_at_commit h w n t result running setup u r is of ne f =
    let no : eqb running.task u ≡ false = ne_eqb running.task u (λ e. ne (sym e ∙ of)) in
    record {
      declared_so = f.declared_so;
      last_take = f.last_take;
      pending = f.pending;
      count = f.count ∙ sym (count_still setup.activator (Commit w n result) h (λ first bus source. refl));
      lost = f.lost;
      few = let e = f.few in omega arith;
      since = λ so. rw so (f.since so);
      is_scanned = rw is (rw no f.is_scanned);
    }

and_left : (x y : Bool) → (x && y) ≡ true → x ≡ true
and_left true y e = refl
and_left false y e = absurd (cc)

-- what is kept says of each task whether it is free, and its rank where it is ready
pub free_same : (p : Plant) (h : List Event) (set : TaskSet) → Follows p h set
    → (t : ℕ) → t < length p.plan.tasks → is_free_at set.tasks set.moment t ≡ is_free p h t
free_same p h set all t lt =
    let f = all.each t lt in rw (f.declared_so, f.last_take, f.pending, f.is_scanned, all.moment) refl

pub rank_same : (p : Plant) (h : List Event) (set : TaskSet) → Follows p h set
    → (t : ℕ) → t < length p.plan.tasks → is_free p h t ≡ true → rank_at set.tasks t ≡ rank p h t
rank_same p h set all t lt free =
    let f = all.each t lt in rw (f.declared_so, f.since (and_left _ _ free)) refl
