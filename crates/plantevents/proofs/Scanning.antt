-- A task is marked as scanned where a worker has a scan of it open.
use Rattle.std.proofs.Common.{◌≡◌, ◌≢◌, ⊎_elim, ℕ, Bool, true, false, not, ◌&&◌, eqb, eq-eqb, List, [], ◌∷◌, length}
use Rattle.std.proofs.Common.{Some, None, refl, sym, ◌∙◌, subst}
use Rattle.std.proofs.lemmas.Bool.{ne_eqb}
use Rattle.std.proofs.lemmas.Bool.Decides.{eqb_tells}
use Rattle.std.specs.Prelude.{if◌then◌else◌}
use Rattle.ilmachine.specs.Snapshots.{ScanStart}
use Rattle.ilmachine.specs.Scans.{Scan}
use Rattle.plantevents.specs.declared.event.Event.{Event}
use Rattle.plantevents.specs.declared.event.Event.TheVariants.{Tick, Heard, Take, Commit, Hand, Done, Down, Up}
use Rattle.plantevents.specs.Plants.{Plant, activator}
use Rattle.plantevents.specs.Histories.{OpenScan, scan, is_scanned}
use Rattle.plantevents.specs.Readiness.{ready}
use Rattle.plantevents.specs.Fronts.{IsScanned}
use Rattle.plantevents.specs.Legal.{AreLegal}

-- the marks are those of the open scans, and no two scans are of one task
record Agree (h : List Event) : Type 0 where
  marked : (w : ℕ) (s : OpenScan) → scan w h ≡ Some s → is_scanned s.task h ≡ true
  open_somewhere : (t : ℕ) → is_scanned t h ≡ true → IsScanned t h
  one : (w v : ℕ) (s r : OpenScan) → scan w h ≡ Some s → scan v h ≡ Some r → s.task ≡ r.task → w ≡ v

no_scan : {s : OpenScan} → None ≡ Some s → ⊥
no_scan e = absurd (cc)

right : (a b : Bool) → (a && not b) ≡ true → b ≡ false
right true true e = sym e
right true false e = refl
right false true e = absurd (cc)
right false false e = refl

agree_take : (v t : ℕ) (snap : ScanStart) (h : List Event) → scan v h ≡ None → is_scanned t h ≡ false → Agree h
    → Agree (Take v t snap ∷ h)
agree_take v t snap h idle unmarked a = record {
  marked = λ w s is.
      ⊎_elim
      (λ (k : (eqb v w ≡ true) × (v ≡ w)).
      let opened : Some (record { place = length h; task = t; snapshot = snap }) ≡ Some s = sym (rw k.0 refl) ∙ is in
      let same : t ≡ s.task = cc in let yes : eqb t s.task ≡ true = eq-eqb t s.task same in rw yes refl)
      (λ (k : (eqb v w ≡ false) × (v ≢ w)).
      let before = a.marked w s (sym (rw k.0 refl) ∙ is) in rw before (either (eqb t s.task)))
      (eqb_tells v w);
  open_somewhere = λ u is.
      ⊎_elim
      (λ (k : (eqb t u ≡ true) × (t ≡ u)). let yes : eqb v v ≡ true = eq-eqb v v refl in
      (v, record { place = length h; task = t; snapshot = snap }, rw yes refl, k.1))
      (λ (k : (eqb t u ≡ false) × (t ≢ u)).
      let e = a.open_somewhere u (sym (rw k.0 refl) ∙ is) in
      let other : eqb v e.0 ≡ false = ne_eqb v e.0 (λ same. no_scan (sym (subst (λ (x : ℕ).
      scan x h ≡ None) same idle) ∙ e.2)) in (e.0, e.1, rw other e.2, e.3))
      (eqb_tells t u);
  one = λ w x s r is are same.
      ⊎_elim
      (λ (k : (eqb v w ≡ true) × (v ≡ w)).
      ⊎_elim
      (λ (l : (eqb v x ≡ true) × (v ≡ x)). sym k.1 ∙ l.1)
      (λ (l : (eqb v x ≡ false) × (v ≢ x)).
      let opened : Some (record { place = length h; task = t; snapshot = snap }) ≡ Some s = sym (rw k.0 refl) ∙ is in
      clash t r.task (let e : t ≡ s.task = cc in e ∙ same) (a.marked x r (sym (rw l.0 refl) ∙ are)) unmarked)
      (eqb_tells v x))
      (λ (k : (eqb v w ≡ false) × (v ≢ w)).
      ⊎_elim
      (λ (l : (eqb v x ≡ true) × (v ≡ x)).
      let opened : Some (record { place = length h; task = t; snapshot = snap }) ≡ Some r = sym (rw l.0 refl) ∙ are in
      clash t s.task (let e : t ≡ r.task = cc in e ∙ sym same) (a.marked w s (sym (rw k.0 refl) ∙ is)) unmarked)
      (λ (l : (eqb v x ≡ false) × (v ≢ x)). a.one w x s r (sym (rw k.0 refl) ∙ is) (sym (rw l.0 refl) ∙ are) same)
      (eqb_tells v x))
      (eqb_tells v w);
}
  where
    either : (b : Bool) → (if b then true else true) ≡ true
    either true = refl
    either false = refl

    clash : {A : Type 0} → (u t : ℕ) → u ≡ t → is_scanned t h ≡ true → is_scanned u h ≡ false → A
    clash u t e is nope = let back = subst (λ (x : ℕ). is_scanned x h ≡ true) (sym e) is in absurd (cc)

agree_commit : (v n : ℕ) (result : Scan) (running : OpenScan) (h : List Event) → scan v h ≡ Some running → Agree h
    → Agree (Commit v n result ∷ h)
agree_commit v n result running h busy a = record {
  marked = λ w s is.
      ⊎_elim
      (λ (e : (eqb v w ≡ true) × (v ≡ w)). let shut : None ≡ Some s = sym (rw e.0 refl) ∙ is in absurd (cc))
      (λ (e : (eqb v w ≡ false) × (v ≢ w)).
      let was : scan w h ≡ Some s = sym (rw e.0 refl) ∙ is in
      let other : eqb running.task s.task ≡ false = ne_eqb running.task s.task (λ same.
      e.1 (a.one v w _ s busy was same)) in
      rw busy (rw other (a.marked w s was)))
      (eqb_tells v w);
  open_somewhere = λ t is.
      ⊎_elim
      (λ (e : (eqb running.task t ≡ true) × (running.task ≡ t)). let shut : false ≡ true =
      sym (rw busy (rw e.0 refl)) ∙ is in absurd (cc))
      (λ (e : (eqb running.task t ≡ false) × (running.task ≢ t)).
      let was : is_scanned t h ≡ true = sym (rw busy (rw e.0 refl)) ∙ is in
      let found = a.open_somewhere t was in
      let other : eqb v found.0 ≡ false = ne_eqb v found.0 (λ same. e.1 (let twice =
      sym (subst (λ (x : ℕ). scan x h ≡ Some running) same busy) ∙ found.2 in let f = found.3 in cc)) in
      (found.0, found.1, rw other found.2, found.3))
      (eqb_tells running.task t);
  one = λ w x s r is are same.
      ⊎_elim
      (λ (e : (eqb v w ≡ true) × (v ≡ w)). let shut : None ≡ Some s = sym (rw e.0 refl) ∙ is in absurd (cc))
      (λ (e : (eqb v w ≡ false) × (v ≢ w)).
      ⊎_elim
      (λ (l : (eqb v x ≡ true) × (v ≡ x)). let shut : None ≡ Some r = sym (rw l.0 refl) ∙ are in absurd (cc))
      (λ (l : (eqb v x ≡ false) × (v ≢ x)). a.one w x s r (sym (rw e.0 refl) ∙ is) (sym (rw l.0 refl) ∙ are) same)
      (eqb_tells v x))
      (eqb_tells v w);
}

same : (e : Event) (h : List Event) → ((w : ℕ) → scan w (e ∷ h) ≡ scan w h)
    → ((t : ℕ) → is_scanned t (e ∷ h) ≡ is_scanned t h)
    → Agree h → Agree (e ∷ h)
same e h scans marks a =
    record {
      marked = λ w s is. marks s.task ∙ a.marked w s (sym (scans w) ∙ is);
      open_somewhere = λ t is.
          let found = a.open_somewhere t (sym (marks t) ∙ is) in (found.0, found.1, scans found.0 ∙ found.2, found.3);
      one = λ w v s r is are alike. a.one w v s r (sym (scans w) ∙ is) (sym (scans v) ∙ are) alike;
    }

agree : (p : Plant) (h : List Event) → AreLegal p h → Agree h
agree p [] legal =
    record {
      marked = λ w s is. absurd (cc);
      open_somewhere = λ t is. absurd (cc);
      one = λ w v s r is are alike. absurd (cc);
    }
agree p (Tick m ∷ h) legal = same (Tick m) h (λ w. refl) (λ t. refl) (agree p h legal.1)
agree p (Heard b f ∷ h) legal = same (Heard b f) h (λ w. refl) (λ t. refl) (agree p h legal.1)
agree p (Take w t s ∷ h) legal =
    agree_take w t s h legal.0.idle (right (ready (activator p t) t h) (is_scanned t h) legal.0.next.free)
    (agree p h legal.1)
agree p (Commit w n r ∷ h) legal =
    agree_commit w n r legal.0.running h legal.0.is_open (agree p h legal.1)
agree p (Hand b s t ∷ h) legal = same (Hand b s t) h (λ w. refl) (λ t. refl) (agree p h legal.1)
agree p (Done b n r ∷ h) legal = same (Done b n r) h (λ w. refl) (λ t. refl) (agree p h legal.1)
agree p (Down b ∷ h) legal = same (Down b) h (λ w. refl) (λ t. refl) (agree p h legal.1)
agree p (Up b ∷ h) legal = same (Up b) h (λ w. refl) (λ t. refl) (agree p h legal.1)

pub scanned_law : (p : Plant) (t : ℕ) (h : List Event) → AreLegal p h
    → (is_scanned t h ≡ true → IsScanned t h) × (IsScanned t h → is_scanned t h ≡ true)
scanned_law p t h legal =
    let a = agree p h legal in
    (a.open_somewhere t, λ found. subst (λ (u : ℕ). is_scanned u h ≡ true) found.3 (a.marked found.0 found.1 found.2))
