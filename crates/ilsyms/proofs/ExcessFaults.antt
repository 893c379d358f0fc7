-- The least fault of what exceeds a limit of a task, and of all limits, is the least of its parts.
use Rattle.std.proofs.Common.{◌≡◌, ℕ, zero, suc, ◌+◌, ◌<◌, ◌≤◌, List, [], ◌∷◌, map, take, refl, sym, ap, ◌∙◌, subst}
use Rattle.std.proofs.Common.{◌⊎◌, inl, inr, arith, ◌++◌, length, nat_lt, Bool, true, false}
use Rattle.std.specs.Prelude.{◌↔◌, Option, Some, flat_map, option_map, slice_get}
use Rattle.std.proofs.Math.ListN.{length-map}
use Rattle.std.proofs.lemmas.Bool.Decides.{nat_tests}
use Rattle.std.proofs.lemmas.List.{length-take-le, take_all}
use Rattle.std.proofs.lemmas.Option.{slice_get-map}
use Rattle.limits.specs.Limits.{most_blocks, most_functions, most_inputs, most_instances, most_slots, most_tasks}
use Rattle.limits.specs.Limits.{most_words}
use Rattle.ilsource.specs.Words.{places_in}
use Rattle.ilsource.specs.SourceTrees.{Tree}
use Rattle.ilsource.specs.declared.name.Name.{Name}
use Rattle.ilsource.specs.declared.symbol.Symbol.{Symbol}
use Rattle.ilsource.specs.declared.uses.Use.{Use}
use Rattle.ildeclared.specs.Faults.{IsNextOf, OfCause, SomeOf}
use Rattle.ildeclared.specs.Order.{lesser_of_two}
use Rattle.ildeclared.specs.declared.fault.NameCause.TheVariants.{TooMany}
use Rattle.ildeclared.specs.declared.found.Found.{Found}
use Rattle.ildeclared.proofs.FoundOrder.{or_else}
use Rattle.ilscope.specs.Configured.{task_declarations}
use Rattle.ilscope.specs.Declarations.{declared_functions}
use Rattle.ilscope.specs.Uses.{uses_of}
use Rattle.ildeclared.proofs.Least.{either_next}
use Rattle.ilplan.specs.declared.slot.Slot.{Slot}
use Rattle.ilsyms.specs.Faults.{AreTooDeep, IsTooMany, IsTooManyIn, IsTooManyOfFunctions, MakesTooManyConstants}
use Rattle.ilsyms.specs.Faults.{all_slot_places, all_uses, all_word_places, depths_of, instance_names, place_of_slot}
use Rattle.ilsyms.specs.Tasks.{NamedProgram, tasks_of}
use Rattle.ilsyms.specs.Variables.{blocks_of, lines_of, slots_of}
use Rattle.ilsyms.proofs.FaultParts.{of_same}
use Rattle.ilsyms.proofs.MarkedFunctions.{slots_used, used_needs, uses_used, words_used}
use Rattle.ilsyms.proofs.PastParts.{first_of}
use Rattle.ilsyms.proofs.UsesAlike.{too_many_alike}

-- there is a place, and it is this one
abbrev IsAt : Option ℕ → ℕ → Type 0
IsAt place at = place ≡ Some at

at_same : (after : Option Found) (p q : Option ℕ) (o : Option Found) → p ≡ q → IsNextOf after
    (OfCause TooMany (IsAt p)) o
    → IsNextOf after (OfCause TooMany (IsAt q)) o
at_same after p q o e h = subst (λ (r : Option ℕ). IsNextOf after (OfCause TooMany (IsAt r)) o) e h

-- the element with a number is that of a longer front
within : {X : Type 0} (xs : List X) (n m : ℕ) → n < m → slice_get (take m xs) n ≡ slice_get xs n
within xs n zero low = absurd (omega (arith, low))
within [] n (suc m) low = refl
within (x ∷ xs) zero (suc m) low = refl
within (x ∷ xs) (suc n) (suc m) low = within xs n m (omega (arith, low))

got_of_front : {X : Type 0} (xs : List X) (n : ℕ) → slice_get (take (n + 1) xs) n ≡ slice_get xs n
got_of_front xs n = within xs n (n + 1) (omega arith)

-- the places of the names of elements
pub places_of_names : {X : Type 0} (name_of : X → Name) (xs : List X)
    → map (λ x. (name_of x).from) xs ≡ map (λ (n : Name). n.from) (map name_of xs)
places_of_names name_of [] = refl
places_of_names name_of (x ∷ xs) = ap (λ ns. (name_of x).from ∷ ns) (places_of_names name_of xs)

-- of more elements than the limit one more is enough to find what exceeds it, also among what comes after them
pub past_front : {X : Type 0} (place : X → ℕ) (xs : List X) (more : List ℕ) (limit : ℕ)
    → slice_get (map place (take (limit + 1) xs) ++ more) limit ≡ slice_get (map place xs ++ more) limit
past_front {X = X} place xs more limit = by (nat_lt limit (length xs)) refl
  where
    by : (b : Bool) → nat_lt limit (length xs) ≡ b
        → slice_get (map place (take (limit + 1) xs) ++ more) limit ≡ slice_get (map place xs ++ more) limit
    by true e =
        let low : limit < length xs = grind (arith, nat_tests, e) in
        let front = take (limit + 1) xs in
        let taken = length-take-le (limit + 1) xs (omega (arith, low)) in
        let some = length-map front place in
        let all = length-map xs place in
        first_of (map place front) more limit (omega (arith, taken, some))
        ∙ slice_get-map place front limit
        ∙ ap (option_map place) (got_of_front xs limit)
        ∙ sym (slice_get-map place xs limit)
        ∙ sym (first_of (map place xs) more limit (omega (arith, low, all)))
    by false e =
        let high : length xs ≤ limit = grind (arith, nat_tests, e) in
        ap (λ (ys : List X). slice_get (map place ys ++ more) limit)
        (take_all (limit + 1) xs (omega (arith, high)))

module _ (tree : Tree) (instances : List NamedProgram) where
  abbrev slot_past : Option ℕ
  slot_past = slice_get (all_slot_places tree instances) most_slots

  abbrev block_past : Option ℕ
  block_past = slice_get (map (λ b. b.name.from) (blocks_of instances)) most_blocks

  abbrev word_past : Option ℕ
  word_past = slice_get (all_word_places tree instances) most_words

  abbrev MakesTooMany : ℕ → Type 0
  MakesTooMany = MakesTooManyConstants (all_uses tree instances)

  -- what is counted, by the lines of the text
  abbrev pub counted_uses : List (Use Symbol)
  counted_uses = uses_of (lines_of instances) ++ flat_map (λ one. one.uses) (used_needs tree instances)

  -- of a task
  pub least_in_task : (after : Option Found) (slot block word excess : Option ℕ) (a b c d : Option Found)
      → slot ≡ slice_get (map (λ s. place_of_slot tree s.variable) (take (most_slots + 1) (slots_of tree instances))
      ++ flat_map (λ one. one.slots) (used_needs tree instances)) most_slots
      → block ≡ slice_get (map (λ b. b.name.from) (take (most_blocks + 1) (blocks_of instances))) most_blocks
      → word ≡ slice_get (flat_map places_in (lines_of instances)
      ++ flat_map (λ one. one.words) (used_needs tree instances)) most_words
      → ((place : ℕ) → (excess ≡ Some place) ↔ MakesTooManyConstants counted_uses place)
      → IsNextOf after (OfCause TooMany (λ at. slot ≡ Some at)) a
      → IsNextOf after (OfCause TooMany (λ at. block ≡ Some at)) b
      → IsNextOf after (OfCause TooMany (λ at. word ≡ Some at)) c
      → IsNextOf after (OfCause TooMany (λ at. excess ≡ Some at)) d
      → IsNextOf after (OfCause TooMany (λ place. IsTooManyIn tree place instances))
      (lesser_of_two (lesser_of_two a b) (lesser_of_two c d))
  least_in_task after slot block word excess a b c d e f g counted h k l m =
      let slots = e
      ∙ past_front (λ (s : Slot). place_of_slot tree s.variable) (slots_of tree instances)
      (flat_map (λ one. one.slots) (used_needs tree instances)) most_slots
      ∙ ap (λ ps. slice_get (map (λ s. place_of_slot tree s.variable) (slots_of tree instances) ++ ps) most_slots)
      (slots_used tree instances) in
      let blocks = f ∙ slice_get-map (λ b. b.name.from) (take (most_blocks + 1) (blocks_of instances)) most_blocks
      ∙ ap (option_map (λ b. b.name.from)) (got_of_front (blocks_of instances) most_blocks)
      ∙ sym (slice_get-map (λ b. b.name.from) (blocks_of instances) most_blocks) in
      let words = g ∙ ap (λ ps. slice_get (flat_map places_in (lines_of instances) ++ ps) most_words)
      (words_used tree instances) in
      let same = uses_used tree instances in
      of_same after TooMany (λ at. (IsAt slot_past at ⊎ IsAt block_past at) ⊎ (IsAt word_past at ⊎ MakesTooMany at))
      (λ place. IsTooManyIn tree place instances) (lesser_of_two (lesser_of_two a b) (lesser_of_two c d))
      (λ at q. or_else (λ r. or_else inl (λ s. inr (inl s)) r) (λ r. inr (inr r)) q)
      (λ at q. or_else (λ s. inl (inl s)) (λ r. or_else (λ s. inl (inr s)) inr r) q)
      (either_next after TooMany (λ at. IsAt slot_past at ⊎ IsAt block_past at)
      (λ at. IsAt word_past at ⊎ MakesTooMany at)
      (lesser_of_two a b) (lesser_of_two c d)
      (either_next after TooMany (IsAt slot_past) (IsAt block_past) a b (at_same after slot slot_past a slots h)
      (at_same after block block_past b blocks k))
      (either_next after TooMany (IsAt word_past) MakesTooMany c d (at_same after word word_past c words l)
      (of_same after TooMany (IsAt excess) MakesTooMany d
      (λ at o. too_many_alike counted_uses (all_uses tree instances) at same ((counted at).0 o))
      (λ at o. (counted at).1 (too_many_alike (all_uses tree instances) counted_uses at (sym same) o)) m)))

module _ (tree : Tree) where
  abbrev task_past : Option ℕ
  task_past = slice_get (map (λ t. t.name.from) (task_declarations tree)) most_tasks

  abbrev instance_past : Option ℕ
  instance_past = slice_get (map (λ name. name.from) (instance_names tree)) most_instances

  abbrev InTask : ℕ → Type 0
  InTask place = SomeOf (λ t. IsTooManyIn tree place t.instances) (tasks_of tree)

  abbrev function_past : Option ℕ
  function_past = slice_get (map (λ f. f.function.name.from) (declared_functions tree)) most_functions

  abbrev InInputs : ℕ → Type 0
  InInputs place =
      SomeOf (λ f. slice_get (map (λ v. v.name.from) f.inputs) most_inputs ≡ Some place) (declared_functions tree)

  abbrev TooDeep : ℕ → Type 0
  TooDeep = AreTooDeep (declared_functions tree) (depths_of tree)

  -- of functions
  pub least_of_functions : (after : Option Found) (function : Option ℕ) (a b c : Option Found) → function ≡
      function_past
      → IsNextOf after (OfCause TooMany (λ at. function ≡ Some at)) a
      → IsNextOf after (OfCause TooMany InInputs) b
      → IsNextOf after (OfCause TooMany TooDeep) c
      → IsNextOf after (OfCause TooMany (IsTooManyOfFunctions tree)) (lesser_of_two a (lesser_of_two b c))
  least_of_functions after function a b c e h k l =
      of_same after TooMany (λ at. IsAt function_past at ⊎ (InInputs at ⊎ TooDeep at)) (IsTooManyOfFunctions tree)
      (lesser_of_two a (lesser_of_two b c))
      (λ at q. or_else inl (λ r. or_else (λ s. inr (inl s)) (λ s. inr (inr s)) r) q)
      (λ at q. or_else inl (λ r. or_else (λ s. inr (inl s)) (λ s. inr (inr s)) r) q)
      (either_next after TooMany (IsAt function_past) (λ at. InInputs at ⊎ TooDeep at) a (lesser_of_two b c)
      (at_same after function function_past a e h)
      (either_next after TooMany InInputs TooDeep b c k l))

  -- of all limits
  pub least_of_limits : (after : Option Found) (task instance : Option ℕ) (a b c d : Option Found) → task ≡ task_past
      → instance ≡ instance_past
      → IsNextOf after (OfCause TooMany (λ at. task ≡ Some at)) a
      → IsNextOf after (OfCause TooMany (λ at. instance ≡ Some at)) b
      → IsNextOf after (OfCause TooMany (λ place. SomeOf (λ t. IsTooManyIn tree place t.instances) (tasks_of tree))) c
      → IsNextOf after (OfCause TooMany (IsTooManyOfFunctions tree)) d
      → IsNextOf after (OfCause TooMany (IsTooMany tree)) (lesser_of_two (lesser_of_two a b) (lesser_of_two c d))
  least_of_limits after task instance a b c d e f h k l m =
      of_same after TooMany (λ at. (IsAt task_past at ⊎ IsAt instance_past at) ⊎
      (InTask at ⊎ IsTooManyOfFunctions tree at))
      (IsTooMany tree) (lesser_of_two (lesser_of_two a b) (lesser_of_two c d))
      (λ at q. or_else (λ r. or_else inl (λ s. inr (inl s)) r) (λ r. inr (inr r)) q)
      (λ at q. or_else (λ s. inl (inl s)) (λ r. or_else (λ s. inl (inr s)) inr r) q)
      (either_next after TooMany (λ at. IsAt task_past at ⊎ IsAt instance_past at)
      (λ at. InTask at ⊎ IsTooManyOfFunctions tree at) (lesser_of_two a b) (lesser_of_two c d)
      (either_next after TooMany (IsAt task_past) (IsAt instance_past) a b (at_same after task task_past a e h)
      (at_same after instance instance_past b f k))
      (either_next after TooMany InTask (IsTooManyOfFunctions tree) c d l m))
