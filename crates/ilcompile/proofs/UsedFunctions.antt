-- Which functions a task uses: those that its lines call, and those that they use.
use Rattle.std.proofs.Common.{◌≡◌, ℕ, zero, suc, ◌+◌, ◌<◌, ◌≤◌, List, [], ◌∷◌, Bool, true, false, ◌||◌, cond, map}
use Rattle.std.proofs.Common.{Option, Some, None, refl, sym, ap, ◌∙◌, arith}
use Rattle.std.specs.Prelude.{is_some, length, slice_get, max, ◌==◌}
use Rattle.std.specs.List.{list_any}
use Rattle.std.specs.Option.{option_map_or}
use Rattle.std.proofs.lemmas.Bool.Decides.{nat_tests}
use Rattle.ilsource.specs.declared.instruction.Line.{Line}
use Rattle.ilplan.specs.declared.place.Place.{Place}
use Rattle.ilplan.specs.Functions.{PlannedFunction, calls, depth_in, greatest, those_in, used_from}
use Rattle.ilcompile.specs.LayoutSteps.{picked}
use Rattle.ilcompile.proofs.Slots.{there}

pub either : (b c : Bool) → c ≡ true → (b || c) ≡ true
either true c f = refl
either false c f = f

pub first_one : (b c : Bool) → b ≡ true → (b || c) ≡ true
first_one true c e = refl
first_one false c e = absurd cc

-- one that is there and passes a test
pub any_at : (p : PlannedFunction → Bool) (xs : List (Option PlannedFunction)) (k : ℕ) (g : PlannedFunction)
    → slice_get xs k ≡ Some (Some g) → p g ≡ true → list_any p (those_in xs) ≡ true
any_at p [] k g is e = absurd cc
any_at p (None ∷ xs) zero g is e = absurd cc
any_at p (Some x ∷ xs) zero g is e =
    let q : x ≡ g = cc in first_one (p x) (list_any p (those_in xs)) (ap p q ∙ e)
any_at p (None ∷ xs) (suc k) g is e = any_at p xs k g is e
any_at p (Some x ∷ xs) (suc k) g is e = either (p x) (list_any p (those_in xs)) (any_at p xs k g is e)

module _ (lines : List (Line Place ℕ)) where
  -- a function that is used is one of the plan's
  pub used_is : (fs : List PlannedFunction) (n j : ℕ) (g : PlannedFunction)
      → slice_get (used_from lines n fs) j ≡ Some (Some g) → slice_get fs j ≡ Some g
  used_is [] n j g e = absurd cc
  used_is (f ∷ fs) n zero g e =
      by (calls lines n || list_any (λ h. calls h.lines n) (those_in (used_from lines (n + 1) fs))) e
    where
      by : (b : Bool) → Some (cond b (Some f) None) ≡ Some (Some g) → Some f ≡ Some g
      by true q = cc
      by false q = absurd cc
  used_is (f ∷ fs) n (suc j) g e = used_is fs (n + 1) j g e

  -- one that the lines call is used
  pub used_by_lines : (fs : List PlannedFunction) (n j : ℕ) (f : PlannedFunction) → slice_get fs j ≡ Some f
      → calls lines (n + j) ≡ true → slice_get (used_from lines n fs) j ≡ Some (Some f)
  used_by_lines [] n j f is e = absurd cc
  used_by_lines (x ∷ fs) n zero f is e =
      let q : x ≡ f = cc in
      let z : n + 0 ≡ n = omega arith in
      let called : calls lines n ≡ true = ap (calls lines) (sym z) ∙ e in
      let later = used_from lines (n + 1) fs in
      ap (λ b. Some (cond b (Some x) None))
      (first_one (calls lines n) (list_any (λ h. calls h.lines n) (those_in later)) called)
      ∙ ap (λ y. Some (Some y)) q
  used_by_lines (x ∷ fs) n (suc j) f is e =
      let z : n + suc j ≡ n + 1 + j = omega arith in
      used_by_lines fs (n + 1) j f is (ap (calls lines) (sym z) ∙ e)

  -- and so is one that a function behind it calls that is used
  pub used_by_function : (fs : List PlannedFunction) (n j k : ℕ) (f g : PlannedFunction) → j < k
      → slice_get fs j ≡ Some f → slice_get (used_from lines n fs) k ≡ Some (Some g) → calls g.lines (n + j) ≡ true
      → slice_get (used_from lines n fs) j ≡ Some (Some f)
  used_by_function [] n j k f g lt is used e = absurd cc
  used_by_function (x ∷ fs) n zero zero f g lt is used e = absurd (omega arith)
  used_by_function (x ∷ fs) n zero (suc k) f g lt is used e =
      let q : x ≡ f = cc in
      let z : n + 0 ≡ n = omega arith in
      let later = used_from lines (n + 1) fs in
      let called : calls g.lines n ≡ true = ap (calls g.lines) (sym z) ∙ e in
      ap (λ b. Some (cond b (Some x) None))
      (either (calls lines n) (list_any (λ h. calls h.lines n) (those_in later))
      (any_at (λ h. calls h.lines n) later k g used called))
      ∙ ap (λ y. Some (Some y)) q
  used_by_function (x ∷ fs) n (suc j) zero f g lt is used e = absurd (omega arith)
  used_by_function (x ∷ fs) n (suc j) (suc k) f g lt is used e =
      let z : n + suc j ≡ n + 1 + j = omega arith in
      used_by_function fs (n + 1) j k f g (omega arith) is used (ap (calls g.lines) (sym z) ∙ e)

-- a function that is called is less deep
pub less_deep : (known : List ℕ) (called : List ℕ) (j d : ℕ) → list_any (λ n. n == j) called ≡ true
    → slice_get known j ≡ Some d → d ≤ greatest (map (depth_in known) called)
less_deep known [] j d e is = absurd cc
less_deep known (n ∷ called) j d e is = by (n == j) (λ q. less_deep known called j d q is) refl
  where
    by : (b : Bool) → (list_any (λ m. m == j) called ≡ true → d ≤ greatest (map (depth_in known) called))
        → (n == j) ≡ b → d ≤ greatest (map (depth_in known) (n ∷ called))
    by true later q =
        let same : n ≡ j = grind (arith, nat_tests) in
        let mine : depth_in known n ≡ d = ap (depth_in known) same ∙ at_place (slice_get known j) is in
        omega (arith, mine, most (depth_in known n) (greatest (map (depth_in known) called)))
      where
        at_place : (o : Option ℕ) → o ≡ Some d → option_map_or (λ depth. depth) o 0 ≡ d
        at_place None h = absurd cc
        at_place (Some x) h = cc

        most : (a b : ℕ) → a ≤ max a b
        most a b = omega arith
    by false later q =
        let rest = later (ap (λ b. b || list_any (λ m. m == j) called) (sym q) ∙ e) in omega (arith, rest)

-- ---- all or none

-- each of the functions that is used, by a truth value for each
pub picked_used : (lines : List (Line Place ℕ)) (fs : List PlannedFunction) (k : ℕ)
    → picked fs (map is_some (used_from lines k fs)) ≡ used_from lines k fs
picked_used lines [] k = refl
picked_used lines (f ∷ fs) k =
    by (calls lines k || list_any (λ g. calls g.lines k) (those_in later)) (picked_used lines fs (k + 1))
  where
    later : List (Option PlannedFunction)
    later = used_from lines (k + 1) fs

    by : (b : Bool) → picked fs (map is_some later) ≡ later
        → picked (f ∷ fs) (is_some (cond b (Some f) None) ∷ map is_some later)
        ≡ cond b (Some f) None ∷ later
    by true e = ap (λ gs. Some f ∷ gs) e
    by false e = ap (λ gs. None ∷ gs) e

-- one for each function
pub used_long : (lines : List (Line Place ℕ)) (fs : List PlannedFunction) (k : ℕ)
    → length (used_from lines k fs) ≡ length fs
used_long lines [] k = refl
used_long lines (f ∷ fs) k = ap suc (used_long lines fs (k + 1))

-- no more are used than there are
pub few_used : (lines : List (Line Place ℕ)) (fs : List PlannedFunction) (k : ℕ)
    → length (those_in (used_from lines k fs)) ≤ length fs
few_used lines [] k = omega arith
few_used lines (f ∷ fs) k =
    by (calls lines k || list_any (λ g. calls g.lines k) (those_in later)) (few_used lines fs (k + 1))
  where
    later : List (Option PlannedFunction)
    later = used_from lines (k + 1) fs

    by : (b : Bool) → length (those_in later) ≤ length fs
        → length (those_in (cond b (Some f) None ∷ later)) ≤ length (f ∷ fs)
    by true fewer = omega arith
    by false fewer = omega arith

-- without lines none is
pub none_used : (fs : List PlannedFunction) (k : ℕ) → those_in (used_from [] k fs) ≡ []
none_used [] k = refl
none_used (f ∷ fs) k =
    let later = used_from [] (k + 1) fs in
    let none = none_used fs (k + 1) in
    ap (λ gs. those_in (cond (list_any (λ (g : PlannedFunction). calls g.lines k) gs) (Some f) None ∷ later)) none
    ∙ none

-- where none is used none is called
pub none_called : (lines : List (Line Place ℕ)) (fs : List PlannedFunction) → those_in (used_from lines 0 fs) ≡ []
    → (j : ℕ) → j < length fs → calls lines j ≡ false
none_called lines fs none j lt = by (calls lines j) refl
  where
    by : (b : Bool) → calls lines j ≡ b → b ≡ false
    by false e = refl
    by true e =
        let f = there fs j lt in
        let z : 0 + j ≡ j = omega arith in
        let used = used_by_lines lines fs 0 j f.0 f.1 (ap (calls lines) z ∙ e) in
        let some = any_at (λ (g : PlannedFunction). true) (used_from lines 0 fs) j f.0 used refl in
        let q : false ≡ true = ap (list_any (λ (g : PlannedFunction). true)) (sym none) ∙ some in
        absurd cc
