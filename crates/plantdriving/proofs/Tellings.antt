-- What was told goes on from turn to turn.
use Rattle.std.proofs.Common.{◌≡◌, ◌≢◌, ℕ, suc, ◌+◌, Bool, List, [], ◌∷◌, ◌++◌, length, length-append, None, Some, refl, sym, ap, ◌∙◌, subst, ⊎_elim, arith}
use Rattle.std.proofs.lemmas.List.{append_assoc}
use Rattle.std.specs.Prelude.{Option, Result, Ok, Err, IsErrAnd}
use Rattle.plantevents.specs.Snapshots.{ScanStart}
use Rattle.plantevents.specs.Scans.{Scan}
use Rattle.buslink.specs.Attempts.{ReportParts}
use Rattle.gearcmd.specs.FrameLists.{FrameList}
use Rattle.buslink.specs.declared.marks.Outcome.{Outcome}
use Rattle.buslink.specs.declared.marks.Outcome.TheVariants as outcome
use Rattle.plantevents.specs.declared.event.Event.{Event}
use Rattle.plantevents.specs.declared.event.Event.TheVariants.{Take, Commit, Hand, Done, Down}
use Rattle.plantevents.specs.declared.event.Origin.{Origin}
use Rattle.plantevents.specs.Histories.{OpenScan, scan}
use Rattle.plant.specs.declared.refusal.CallRefusal.TheVariants.{NothingReady, BusDown}
use Rattle.plant.specs.Shown.{Shown, grown}
use Rattle.plantdriving.specs.declared.halt.Halt.{Halt}
use Rattle.plantdriving.specs.declared.halt.Halt.TheVariants.{Refused, Memory, Unwritten}
use Rattle.plantdriving.specs.declared.happened.Happened.{Happened}
use Rattle.plantdriving.specs.declared.happened.Happened.TheVariants as what
use Rattle.plantdriving.specs.declared.happened.Told.{Told}
use Rattle.plantdriving.specs.Tellings.{AreTold, HasToldAll, HasToldSome, HasToldUntil, IsTaskOf, IsToldAt, IsToldOf, TellsEach}
use Rattle.plantdriving.specs.Tellings.{grown_by, noted}
use Rattle.plantdriving.specs.TurnSteps.{IsIdleOr, IsPartTold, IsTold, TellsThese, down_place, report_told}
use Rattle.plantdriving.proofs.Linked.{at_own}

append_none : (ts : List Told) → ts ++ [] ≡ ts
append_none [] = refl
append_none (t ∷ ts) = ap (λ (x : List Told). t ∷ x) (append_none ts)

grown_by_none : (before : Option (List Told)) → before ≡ grown_by [] before
grown_by_none None = refl
grown_by_none (Some ts) = refl

grown_twice : (one two : List Told) (before : Option (List Told))
    → grown_by two (grown_by one before) ≡ grown_by (two ++ one) before
grown_twice one two None = refl
grown_twice one two (Some ts) = ap Some (sym (append_assoc two one ts))

told_behind : (h one two : List Event) (us ts : List Told) → AreTold h one us → AreTold (one ++ h) two ts
    → AreTold h (two ++ one) (ts ++ us)
told_behind h one [] us [] before then = before
told_behind h one [] us (t ∷ ts) before then = absurd then
told_behind h one (e ∷ two) us [] before then = absurd then
told_behind h one (e ∷ two) us (t ∷ ts) before then = (
  subst (λ (g : List Event). IsToldAt g e t) (sym (append_assoc two one h)) then.0,
  told_behind h one two us ts before then.1,
)

-- nothing happened, and nothing was told
pub told_none : (h g : List Event) (before after : Option (List Told)) → g ≡ h → after ≡ before
    → HasToldAll h g before after
told_none h g before after same told = record {
  events = [];
  tellings = [];
  history = same;
  told = told ∙ grown_by_none before;
  each = tt;
}

-- one event happened, and was told
pub told_one : (h g : List Event) (e : Event) (place : ℕ) (happened : Happened) (before after : Option (List Told))
    → g ≡ e ∷ h → place ≡ length h → IsToldOf h e happened → after ≡ noted place happened before
    → HasToldAll h g before after
told_one h g e place happened before after grew at is told = record {
  events = e ∷ [];
  tellings = record { place = place; happened = happened } ∷ [];
  history = grew;
  told = told;
  each = ((at, is), tt);
}

pub told_then : (h g k : List Event) (before between after : Option (List Told)) → HasToldAll h g before between
    → HasToldAll g k between after → HasToldAll h k before after
told_then h g k before between after one two = record {
  events = two.events ++ one.events;
  tellings = two.tellings ++ one.tellings;
  history = two.history
      ∙ (ap (λ (x : List Event). two.events ++ x) one.history ∙ sym (append_assoc two.events one.events h));
  told = two.told
      ∙ (ap (λ (x : Option (List Told)). grown_by two.tellings x) one.told
      ∙ grown_twice one.tellings two.tellings before);
  each = told_behind h one.events two.events one.tellings two.tellings one.each
      (subst (λ (x : List Event). AreTold x two.events two.tellings) one.history two.each);
}

pub some_of_all : (h g : List Event) (before after : Option (List Told)) → HasToldAll h g before after
    → HasToldSome h g before after
some_of_all h g before after all = record { between = g; untold = []; history = refl; told = all }

pub some_then : (h g k : List Event) (before between after : Option (List Told)) → HasToldAll h g before between
    → HasToldSome g k between after → HasToldSome h k before after
some_then h g k before between after all some = record {
  between = some.between;
  untold = some.untold;
  history = some.history;
  told = told_then h g some.between before between after all some.told;
}

-- ---- of tellings that are known

pub told_these : (h g events : List Event) (tellings : List Told) (before after : Option (List Told))
    → g ≡ events ++ h → AreTold h events tellings → after ≡ grown_by tellings before → HasToldAll h g before after
told_these h g events tellings before after grew each told =
    record { events = events; tellings = tellings; history = grew; told = told; each = each }

told_part : (h events : List Event) (rest part : List Told) (before after : Option (List Told))
    → AreTold h events (rest ++ part) → after ≡ grown_by part before → HasToldSome h (events ++ h) before after
told_part h events [] part before after each told =
    some_of_all h (events ++ h) before after (told_these h (events ++ h) events part before after refl each told)
told_part h [] (t ∷ rest) part before after each told = absurd each
told_part h (e ∷ older) (t ∷ rest) part before after each told =
    let s = told_part h older rest part before after each.1 told in
    record { between = s.between; untold = e ∷ s.untold; history = ap (λ (x : List Event). e ∷ x) s.history; told = s.told }

pub told_of_these : (h g events : List Event) (tellings : List Told) (before after : Option (List Told))
    → g ≡ events ++ h → AreTold h events tellings → IsPartTold tellings before after → HasToldSome h g before after
told_of_these h g events tellings before after grew each is =
    subst (λ (x : List Event). HasToldSome h x before after) (sym grew)
    (told_part h events is.rest is.part before after
    (subst (λ (ts : List Told). AreTold h events ts) is.are each) is.told)

-- nothing of it was told, and all of it
pub part_none : (tellings : List Told) (before after : Option (List Told)) → after ≡ before
    → IsPartTold tellings before after
part_none tellings before after same =
    record { part = []; rest = tellings; are = sym (append_none tellings); told = same ∙ grown_by_none before }

pub part_all : (tellings : List Told) (before after : Option (List Told)) → after ≡ grown_by tellings before
    → IsPartTold tellings before after
part_all tellings before after told = record { part = tellings; rest = []; are = refl; told = told }

pub these_stopped : {A E : Type 0} (tellings : List Told) (before after : Option (List Told)) (r : Result A E)
    (Q : E → Type 0) → IsErrAnd r Q → IsPartTold tellings before after → TellsThese tellings before after r
these_stopped tellings before after (Ok done) Q is part = absurd is
these_stopped tellings before after (Err error) Q is part = part

-- all of it was told, whatever was answered
pub these_told : {A E : Type 0} (tellings : List Told) (before after : Option (List Told)) (r : Result A E)
    → after ≡ grown_by tellings before → TellsThese tellings before after r
these_told tellings before after (Ok done) told = told
these_told tellings before after (Err error) told = part_all tellings before after told

-- a report was told, and then that its bus went down
pub report_with_down : (b place next : ℕ) (report : ReportParts) (before one two after : Option (List Told))
    → one ≡ noted place (what.Reported b report) before → two ≡ one → after ≡ noted next (what.WentDown b) two
    → after ≡ grown_by (report_told b report place (Some next)) before
report_with_down b place next report before one two after reported same down =
    down
    ∙ (ap (λ (x : Option (List Told)). noted next (what.WentDown b) x) (same ∙ reported)
    ∙ grown_twice (record { place = place; happened = what.Reported b report } ∷ [])
    (record { place = next; happened = what.WentDown b } ∷ []) before)

-- ---- turns one after another

-- whatever was answered
pub tells_all : {A : Type 0} (p q : Shown) (before after : Option (List Told)) (result : Result A Halt)
    → HasToldAll p.history q.history before after → TellsEach p q before after result
tells_all p q before after (Ok done) all = all
tells_all p q before after (Err (Refused refusal)) all = all
tells_all p q before after (Err Memory) all = all
tells_all p q before after (Err (Unwritten error)) all = some_of_all p.history q.history before after all

pub until_then : (p q r : Shown) (before between after : Option (List Told)) (halt : Halt)
    → HasToldAll p.history q.history before between → HasToldUntil q.history r.history between after halt
    → HasToldUntil p.history r.history before after halt
until_then p q r before between after (Refused refusal) all then =
    told_then p.history q.history r.history before between after all then
until_then p q r before between after Memory all then =
    told_then p.history q.history r.history before between after all then
until_then p q r before between after (Unwritten error) all then =
    some_then p.history q.history r.history before between after all then

pub tells_then : {A : Type 0} (p q r : Shown) (before between after : Option (List Told)) (result : Result A Halt)
    → HasToldAll p.history q.history before between → TellsEach q r between after result
    → TellsEach p r before after result
tells_then p q r before between after (Ok done) all then =
    told_then p.history q.history r.history before between after all then
tells_then p q r before between after (Err halt) all then = until_then p q r before between after halt all then

-- what stops on the way says so
pub stopped_telling : {A : Type 0} (p q : Shown) (before after : Option (List Told)) (halt : Halt) (result : Result A Halt)
    → IsErrAnd result (λ other. other ≡ halt) → HasToldUntil p.history q.history before after halt
    → TellsEach p q before after result
stopped_telling p q before after halt (Ok done) is until = absurd is
stopped_telling p q before after halt (Err other) is until =
    subst (λ (x : Halt). HasToldUntil p.history q.history before after x) (sym is) until

pub stopped_then : {A : Type 0} (p q r : Shown) (before between after : Option (List Told)) (halt : Halt)
    (result : Result A Halt) → IsErrAnd result (λ other. other ≡ halt)
    → HasToldAll p.history q.history before between → HasToldUntil q.history r.history between after halt
    → TellsEach p r before after result
stopped_then p q r before between after halt result is all until =
    stopped_telling p r before after halt result is (until_then p q r before between after halt all until)

-- nothing happened
pub tells_none : {A : Type 0} (p q : Shown) (before : Option (List Told)) (result : Result A Halt)
    → q.history ≡ p.history → TellsEach p q before before result
tells_none p q before result same =
    tells_all p q before before result (told_none p.history q.history before before same refl)

-- one event happened
pub tells_one : {A : Type 0} (p q : Shown) (e : Event) (place : ℕ) (happened : Happened)
    (before after : Option (List Told)) (result : Result A Halt) → q.history ≡ e ∷ p.history
    → place ≡ length p.history → IsToldOf p.history e happened → after ≡ noted place happened before
    → TellsEach p q before after result
tells_one p q e place happened before after result grew at is told =
    tells_all p q before after result (told_one p.history q.history e place happened before after grew at is told)

-- where it is idle it went on
pub idle_telling : (p q : Shown) (before after : Option (List Told)) (halt : Halt) (result : Result Bool Halt)
    → HasToldUntil p.history q.history before after halt → IsIdleOr halt result → TellsEach p q before after result
idle_telling p q before after (Refused refusal) (Ok any) until idle = until
idle_telling p q before after Memory (Ok any) until idle = until
idle_telling p q before after (Unwritten error) (Ok any) until idle =
    absurd (⊎_elim (λ (e : Unwritten error ≡ Refused NothingReady). cc)
    (λ (e : Unwritten error ≡ Refused BusDown). cc) idle.1)
idle_telling p q before after halt (Err other) until idle =
    subst (λ (x : Halt). HasToldUntil p.history q.history before after x) (sym idle.0) until

-- ---- a scan

-- the task that was taken is that of the scan which is open
task_open : (w t : ℕ) (s : ScanStart) (p r : Shown) → r ≡ grown p (Take w t s) → IsTaskOf t (scan w r.history)
task_open w t s p r taken =
    let running : OpenScan = record { place = length p.history; task = t; snapshot = s } in
    (running, ap (λ (x : Shown). scan w x.history) taken ∙ at_own w (Some running) (scan w p.history), refl)

-- a commit is told, or the observer failed
commit_told : (r q : Shown) (w t n next steps : ℕ) (made : Scan) (before after : Option (List Told))
    (result : Result Bool Halt) → q ≡ grown r (Commit w n made) → next ≡ length r.history → steps ≡ made.steps
    → IsTaskOf t (scan w r.history) → IsTold result
    → TellsThese (record { place = next; happened = what.Committed w t steps } ∷ []) before after result
    → TellsEach r q before after result
commit_told r q w t n next steps made before after (Ok any) committed at counted task done told =
    told_these r.history q.history (Commit w n made ∷ [])
    (record { place = next; happened = what.Committed w t steps } ∷ []) before after
    (ap (λ (x : Shown). x.history) committed) ((at, (refl, counted, task)), tt) told
commit_told r q w t n next steps made before after (Err (Unwritten error)) committed at counted task done told =
    told_of_these r.history q.history (Commit w n made ∷ [])
    (record { place = next; happened = what.Committed w t steps } ∷ []) before after
    (ap (λ (x : Shown). x.history) committed) ((at, (refl, counted, task)), tt) told
commit_told r q w t n next steps made before after (Err Memory) committed at counted task done told = absurd done
commit_told r q w t n next steps made before after (Err (Refused refusal)) committed at counted task done told =
    absurd done

pub scan_told : (w t n place next steps : ℕ) (s : ScanStart) (made : Scan) (p r q : Shown)
    (before between after : Option (List Told)) (result : Result Bool Halt) → r ≡ grown p (Take w t s)
    → q ≡ grown r (Commit w n made) → place ≡ length p.history → next ≡ length r.history → steps ≡ made.steps
    → between ≡ noted place (what.Took w t) before → IsTold result
    → TellsThese (record { place = next; happened = what.Committed w t steps } ∷ []) between after result
    → TellsEach p q before after result
scan_told w t n place next steps s made p r q before between after result taken committed at then counted took done told =
    tells_then p r q before between after result
    (told_one p.history r.history (Take w t s) place (what.Took w t) before between
    (ap (λ (x : Shown). x.history) taken) at (refl, refl) took)
    (commit_told r q w t n next steps made between after result committed then counted (task_open w t s p r taken) done
    told)

-- ---- a transaction

-- the events of a report, the newest first
abbrev report_events : ℕ → ℕ → ReportParts → Option ℕ → List Event
report_events b n report None = Done b n report ∷ []
report_events b n report (Some place) = Down b ∷ Done b n report ∷ []

report_grew : (r q : Shown) (b n : ℕ) (report : ReportParts) (o : Outcome) → report.outcome ≡ o
    → (report.outcome ≢ outcome.Failed → q ≡ grown r (Done b n report))
    → (report.outcome ≡ outcome.Failed → q ≡ grown (grown r (Done b n report)) (Down b))
    → q.history ≡ report_events b n report (down_place o (length r.history)) ++ r.history
report_grew r q b n report outcome.Failed is fine failed = ap (λ (x : Shown). x.history) (failed is)
report_grew r q b n report outcome.GaveUp is fine failed =
    ap (λ (x : Shown). x.history) (fine (λ (e : report.outcome ≡ outcome.Failed). absurd (cc)))
report_grew r q b n report (outcome.Done reply) is fine failed =
    ap (λ (x : Shown). x.history) (fine (λ (e : report.outcome ≡ outcome.Failed). absurd (cc)))

report_each : (h : List Event) (b n place : ℕ) (report copy : ReportParts) (o : Outcome) → place ≡ length h
    → report ≡ copy → AreTold h (report_events b n copy (down_place o (length h)))
    (report_told b report place (down_place o (length h)))
report_each h b n place report copy outcome.Failed at same = ((omega arith, refl), ((at, (refl, same)), tt))
report_each h b n place report copy outcome.GaveUp at same = ((at, (refl, same)), tt)
report_each h b n place report copy (outcome.Done reply) at same = ((at, (refl, same)), tt)

-- a transaction was handed out, which was told, and reported; `copy` is the report once more
module _ (b n place : ℕ) (origin : Origin) (t : FrameList) (report copy : ReportParts) (down : Option ℕ)
    (p r q : Shown) (before between after : Option (List Told)) (handed : r ≡ grown p (Hand b origin t))
    (number : n ≡ length p.history) (at : place ≡ length r.history) (same : copy ≡ report)
    (fine : copy.outcome ≢ outcome.Failed → q ≡ grown r (Done b n copy))
    (failed : copy.outcome ≡ outcome.Failed → q ≡ grown (grown r (Done b n copy)) (Down b))
    (gone : down ≡ down_place copy.outcome (length r.history))
    (told : between ≡ noted n (what.Handed b origin t) before) where
  hand_told : HasToldAll p.history r.history before between
  hand_told =
      told_one p.history r.history (Hand b origin t) n (what.Handed b origin t) before between
      (ap (λ (x : Shown). x.history) handed) number (refl, refl, refl) told

  abbrev more : List Event
  more = report_events b n copy (down_place copy.outcome (length r.history))

  grew : q.history ≡ more ++ r.history
  grew = report_grew r q b n copy copy.outcome refl fine failed

  each : AreTold r.history more (report_told b report place down)
  each =
      subst (λ (d : Option ℕ). AreTold r.history more (report_told b report place d)) (sym gone)
      (report_each r.history b n place report copy copy.outcome at (sym same))

  -- and the report was told
  pub sent_all : after ≡ grown_by (report_told b report place down) between → HasToldAll p.history q.history before after
  sent_all is =
      told_then p.history r.history q.history before between after hand_told
      (told_these r.history q.history more (report_told b report place down) between after grew each is)

  -- or a first part of it was
  pub sent_some : IsPartTold (report_told b report place down) between after
      → HasToldSome p.history q.history before after
  sent_some is =
      some_then p.history r.history q.history before between after hand_told
      (told_of_these r.history q.history more (report_told b report place down) between after grew each is)

-- ---- how many were told

told_as_many : (h events : List Event) (tellings : List Told) → AreTold h events tellings
    → length tellings ≡ length events
told_as_many h [] [] _ = refl
told_as_many h [] (t ∷ ts) each = absurd each
told_as_many h (e ∷ older) [] each = absurd each
told_as_many h (e ∷ older) (t ∷ ts) each = ap suc (told_as_many h older ts each.1)

-- of whom nothing was told before, as many were told as events came
pub told_in_all : (h g : List Event) (after : Option (List Told)) → HasToldAll h g (Some []) after
    → (told : List Told) × (after ≡ Some told) × (length told + length h ≡ length g)
told_in_all h g after all =
    let many = told_as_many h all.events all.tellings all.each in
    let told = length-append all.tellings [] in
    let grew = ap (λ (x : List Event). length x) all.history in
    let both = length-append all.events h in
    (all.tellings ++ [], all.told, omega arith)
