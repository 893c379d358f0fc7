-- The words of the functions that a task uses are words that 32 bits hold, and the words of all lines that call them.
use Rattle.std.proofs.Common.{◌≡◌, ℕ, zero, suc, ◌+◌, ◌≤◌, List, [], ◌∷◌, ◌++◌, length, Bool, true, false, ◌||◌, cond}
use Rattle.std.proofs.Common.{Option, Some, None, sym, ap, ◌∙◌, arith, append_assoc}
use Rattle.std.specs.Prelude.{flat_map, slice_get, sum_by}
use Rattle.std.specs.List.{AllByRecursion, list_any}
use Rattle.std.proofs.lemmas.List.{length-map}
use Rattle.std.proofs.lemmas.List.Sums.{sum_by-cons}
use Rattle.iltypes.specs.declared.value.Value.{Value}
use Rattle.ilsource.specs.declared.instruction.Line.{Line}
use Rattle.ilsource.specs.Uses.{uses_in}
use Rattle.ilplan.specs.declared.place.Place.{Place}
use Rattle.ilplan.specs.declared.place.Place.TheVariants as places
use Rattle.ilplan.specs.Functions.{PlannedFunction, calls, slots_of_function, starting_values, those_in, used_from}
use Rattle.ilplan.specs.Functions.{words_of_function}
use Rattle.ilplan.specs.Plans.{AreFunctions, IsFunction, Nameable, Takes, in_body, inputs_of}
use Rattle.ilcode.specs.Words.{HasWord}
use Rattle.ilcompile.specs.declared.numbers.Placed.{Placed}
use Rattle.ilcompile.specs.Layout.{numbers_of, place_in_code, placed_from, placed_or, words_of_bodies, words_of_body}
use Rattle.ilcompile.specs.Layout.{words_of_lines, words_of_values}
use Rattle.ilcompile.proofs.Held.{AreWords, IsNearPlaced, all_held, both, line_words, number_within}
use Rattle.ilcompile.proofs.Known.{AreIn, IsKnown}

-- no function has more inputs than the limit
abbrev FewInputs : List PlannedFunction → Type 0
FewInputs fs = AllByRecursion (λ f. length f.inputs ≤ 16) fs

few_inputs : (before fs : List PlannedFunction) → AreFunctions before fs → FewInputs fs
few_inputs before [] h = tt
few_inputs before (f ∷ fs) h = (h.0.most_inputs, few_inputs (before ++ f ∷ []) fs h.1)

-- each function has a near number and near slots
near_from : (lines : List (Line Place ℕ)) (fs : List PlannedFunction) (k number first : ℕ)
    → number + length fs ≤ 4096 → first + sum_by slots_of_function (those_in (used_from lines k fs)) ≤ 4096
    → FewInputs fs → (j many : ℕ) → slice_get (inputs_of fs) j ≡ Some many
    → IsNearPlaced (placed_or (slice_get (placed_from number first (used_from lines k fs)) j)) many
near_from lines [] k number first few room inputs j many e = absurd cc
near_from lines (f ∷ fs) k number first few room inputs j many e =
    by (calls lines k || list_any (λ g. calls g.lines k) (those_in later))
    (λ number first few room. near_from lines fs (k + 1) number first few room inputs.1) room j e
  where
    later : List (Option PlannedFunction)
    later = used_from lines (k + 1) fs

    AreNear : Type 0
    AreNear =
        (number first : ℕ) → number + length fs ≤ 4096 → first + sum_by slots_of_function (those_in later) ≤ 4096
        → (j many : ℕ) → slice_get (inputs_of fs) j ≡ Some many
        → IsNearPlaced (placed_or (slice_get (placed_from number first later) j)) many

    by : (b : Bool) → AreNear → first + sum_by slots_of_function (those_in (cond b (Some f) None ∷ later)) ≤ 4096
        → (j : ℕ) → slice_get (inputs_of (f ∷ fs)) j ≡ Some many
        → IsNearPlaced (placed_or (slice_get (placed_from number first (cond b (Some f) None ∷ later)) j)) many
    by true others h zero q =
        let its : length f.inputs ≡ many = cc in
        let counted = sum_by-cons slots_of_function f (those_in later) in
        (omega arith, omega arith)
    by false others h zero q =
        let its : length f.inputs ≡ many = cc in
        let most = inputs.0 in
        (omega arith, omega arith)
    by true others h (suc j) q =
        let counted = sum_by-cons slots_of_function f (those_in later) in
        others (number + 1) (first + slots_of_function f) (omega arith) (omega arith) j many q
    by false others h (suc j) q = others number first (omega arith) h j many q

-- where functions stand as they are laid out behind so many slots
pub near_functions : (lines : List (Line Place ℕ)) (functions : List PlannedFunction) (slots : ℕ)
    → length functions ≤ 4096 → AreFunctions [] functions
    → slots + sum_by slots_of_function (those_in (used_from lines 0 functions)) ≤ 4096
    → (j many : ℕ) → slice_get (inputs_of functions) j ≡ Some many
    → IsNearPlaced (placed_or (slice_get (placed_from 0 slots (used_from lines 0 functions)) j)) many
near_functions lines functions slots few are room =
    near_from lines functions 0 0 slots (omega arith) room (few_inputs [] functions are)

-- those before some are among all
inputs_before : (before rest : List PlannedFunction) (j many : ℕ) → slice_get (inputs_of before) j ≡ Some many
    → slice_get (inputs_of (before ++ rest)) j ≡ Some many
inputs_before [] rest j many e = absurd cc
inputs_before (f ∷ before) rest zero many e = e
inputs_before (f ∷ before) rest (suc j) many e = inputs_before before rest j many e

values_words : (constants : List Value) (slot : ℕ) (values : List Value) → length constants ≤ 4096
    → slot + length values ≤ 4096 → AreIn constants values → AreWords (words_of_values constants slot values)
values_words constants slot [] few room known = tt
values_words constants slot (v ∷ values) few room known =
    let within = number_within v constants known.0 in
    ((omega arith, omega arith), values_words constants (slot + 1) values few (omega arith) known.1)

-- of all functions, which stand here
module _ (constants : List Value) (stand : List (Option Placed)) (all : List PlannedFunction)
    (few : length constants ≤ 4096)
    (near : (j many : ℕ) → slice_get (inputs_of all) j ≡ Some many → IsNearPlaced (placed_or (slice_get stand j)) many)
  where
    -- what lines call that may name these
    pub near_call : (own : ℕ) (names : Nameable)
        → ((j many : ℕ) → slice_get names.inputs j ≡ Some many → slice_get (inputs_of all) j ≡ Some many)
        → (f : Place) (many : ℕ) → Takes names f many
        → IsNearPlaced (place_in_code (numbers_of constants own stand) f) many
    near_call own names among (places.Slot slot) many takes = absurd takes
    near_call own names among (places.Port block port) many takes = absurd takes
    near_call own names among (places.Block block) many takes = absurd takes
    near_call own names among (places.Function j) many takes = near j many (among j many takes)

    body_words : (before rest : List PlannedFunction) (place first : ℕ) (f : PlannedFunction) → all ≡ before ++ rest
        → IsFunction before f → IsKnown constants f → place + words_of_function f ≤ 65536
        → first + slots_of_function f ≤ 4096 → AreWords (words_of_body (numbers_of constants first stand) place f)
    body_words before rest place first f is function known words slots =
        let n = numbers_of constants first stand in
        let names = in_body before f in
        let end = place + words_of_function f in
        let start = place + length f.variables in
        let slot = first + length f.inputs in
        let values = length-map f.variables (λ v. v.initial) in
        let among = λ (j many : ℕ) (e : slice_get (inputs_of before) j ≡ Some many).
        ap (λ xs. slice_get (inputs_of xs) j) is ∙ inputs_before before rest j many e in
        both HasWord (words_of_values constants slot (starting_values f)) (words_of_lines n end start f.lines)
        (values_words constants slot (starting_values f) few (omega (arith, values, slots)) known.starting)
        (line_words n names (near_call first names among) f.lines start end words (omega arith)
        function.lines.shallow function.lines.given
        (all_held n names few slots (omega arith) (flat_map uses_in f.lines) known.lines function.lines.named))

    pub bodies_words : (lines : List (Line Place ℕ)) (fs before : List PlannedFunction) (k place first : ℕ)
        → all ≡ before ++ fs → AreFunctions before fs
        → AllByRecursion (IsKnown constants) (those_in (used_from lines k fs))
        → place + sum_by words_of_function (those_in (used_from lines k fs)) ≤ 65536
        → first + sum_by slots_of_function (those_in (used_from lines k fs)) ≤ 4096
        → AreWords (words_of_bodies constants stand place first (those_in (used_from lines k fs)))
    bodies_words lines [] before k place first is are known words slots = tt
    bodies_words lines (f ∷ fs) before k place first is are known words slots =
        by (calls lines k || list_any (λ g. calls g.lines k) (those_in later))
        (λ place first. bodies_words lines fs (before ++ f ∷ []) (k + 1) place first
        (is ∙ sym (append_assoc before (f ∷ []) fs)) are.1) known words slots
      where
        later : List (Option PlannedFunction)
        later = used_from lines (k + 1) fs

        AreHeldBehind : Type 0
        AreHeldBehind =
            (place first : ℕ) → AllByRecursion (IsKnown constants) (those_in later)
            → place + sum_by words_of_function (those_in later) ≤ 65536
            → first + sum_by slots_of_function (those_in later) ≤ 4096
            → AreWords (words_of_bodies constants stand place first (those_in later))

        by : (b : Bool) → AreHeldBehind → AllByRecursion (IsKnown constants) (those_in (cond b (Some f) None ∷ later))
            → place + sum_by words_of_function (those_in (cond b (Some f) None ∷ later)) ≤ 65536
            → first + sum_by slots_of_function (those_in (cond b (Some f) None ∷ later)) ≤ 4096
            → AreWords (words_of_bodies constants stand place first (those_in (cond b (Some f) None ∷ later)))
        by false others k1 w s = others place first k1 w s
        by true others k1 w s =
            let end = place + words_of_function f in
            let slot = first + slots_of_function f in
            let counted = sum_by-cons words_of_function f (those_in later) in
            let numbered = sum_by-cons slots_of_function f (those_in later) in
            both HasWord (words_of_body (numbers_of constants first stand) place f)
            (words_of_bodies constants stand end slot (those_in later))
            (body_words before (f ∷ fs) place first f is are.0 k1.0 (omega arith) (omega arith))
            (others end slot k1.1 (omega arith) (omega arith))
