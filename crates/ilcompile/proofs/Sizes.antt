-- Lines and functions have as many words as are counted, and functions as many slots.
use Rattle.std.proofs.Common.{◌≡◌, ℕ, ◌+◌, List, [], ◌∷◌, ◌++◌, length, map, Option, Some, None, refl, arith}
use Rattle.std.proofs.Common.{suc, sym, ap, ◌∙◌}
use Rattle.std.proofs.Common.{length-append}
use Rattle.std.specs.Prelude.{flat_map, replicate, sum_by}
use Rattle.std.specs.Option.{option_map_or}
use Rattle.std.proofs.lemmas.List.{length-map, length-replicate}
use Rattle.std.proofs.lemmas.List.Sums.{sum_by-cons}
use Rattle.iltypes.specs.declared.condition.Condition.{Condition}
use Rattle.iltypes.specs.declared.condition.Condition.TheVariants.{Always, IfTrue, IfFalse}
use Rattle.iltypes.specs.declared.value.Value.{Value}
use Rattle.ilsource.specs.declared.arguments.Argument.{Argument}
use Rattle.ilsource.specs.declared.instruction.Instruction.{Instruction}
use Rattle.ilsource.specs.declared.instruction.Instruction.TheVariants as instructions
use Rattle.ilsource.specs.declared.instruction.Line.{Line}
use Rattle.ilsource.specs.declared.nested.Piece.{Piece}
use Rattle.ilsource.specs.declared.nested.Action.TheVariants as actions
use Rattle.ilsource.specs.declared.operand.Operand.{Operand}
use Rattle.ilsource.specs.Trees.{piece, pieces_of, give_pieces, call_pieces}
use Rattle.ilsource.specs.Words.{place_of, places_of, places_in}
use Rattle.ilsource.specs.Words as counts
use Rattle.ilplan.specs.declared.place.Place.{Place}
use Rattle.ilplan.specs.Functions.{PlannedFunction, function_types, slots_of_function, starting_values}
use Rattle.ilplan.specs.Functions.{words_of_function}
use Rattle.ilplan.specs.Plans.{PlannedInstance, all_lines}
use Rattle.ilcode.specs.declared.word.Word.TheVariants as words
use Rattle.ilcompile.specs.Layout.{Numbers, place_of_label, word_of, word_of_argument, words_of_call}
use Rattle.ilcompile.specs.Layout.{number_of, jump_over}
use Rattle.ilcompile.specs.Layout.{words_of, words_in, words_of_lines, words_of_programs}
use Rattle.ilcompile.specs.Layout.{bodies_from, numbers_of, places_of_body, words_of_bodies, words_of_body}
use Rattle.ilcompile.specs.Layout.{words_of_values}
use Rattle.ilcompile.specs.declared.numbers.Placed.{Placed}

-- one line more
pub count_more : (line : Line Place ℕ) (lines : List (Line Place ℕ))
    → counts.words_of_lines (line ∷ lines) ≡ counts.words_in line + counts.words_of_lines lines
count_more line lines = sum_by-cons (counts.words_in {N = Place} {L = ℕ}) line lines

pub count_both : (a b : List (Line Place ℕ))
    → counts.words_of_lines (a ++ b) ≡ counts.words_of_lines a + counts.words_of_lines b
count_both [] b = let z : counts.words_of_lines {N = Place} {L = ℕ} [] ≡ 0 = refl in omega (arith, z)
count_both (line ∷ a) b = omega (arith, count_more line (a ++ b), count_more line a, count_both a b)

pub places_counted : (lines : List (Line Place ℕ)) → length (flat_map places_in lines) ≡ counts.words_of_lines lines
places_counted [] = refl
places_counted (line ∷ lines) =
    omega (
      arith,
      length-append (places_in line) (flat_map places_in lines),
      places_counted lines,
      count_more line lines,
    )

-- a call of a function has a word for each operand and two more
pub gives_long : (at : ℕ) (f : Place) (number : ℕ) (os : List (Operand Place))
    → length (give_pieces at f number os) ≡ length os
gives_long at f number [] = refl
gives_long at f number (o ∷ os) = ap suc (gives_long at f (number + 1) os)

pub call_long : (at : ℕ) (f : Place) (os : List (Operand Place)) → length (call_pieces at f os) ≡ length os + 2
call_long at f os =
    omega (arith, length-append (give_pieces at f 1 os) (piece at (actions.Invoke f) ∷ []), gives_long at f 1 os)

module _ (numbers : Numbers) (end next : ℕ) where
  call_places : (condition : Condition) (at : ℕ) (n : Place) (xs : List (Argument Place))
      → length (jump_over next condition ++ words_of_call numbers n xs)
      ≡ length (places_of {L = ℕ} at (instructions.Call condition n xs))
  call_places condition at n xs = go condition
    where
      called : length (words_of_call numbers n xs) ≡ length xs + 1
      called =
          let ws = map (word_of_argument numbers) xs in
          omega (arith, length-append ws (words.Call (number_of n) ∷ []), length-map xs (word_of_argument numbers))

      go : (condition : Condition) → length (jump_over next condition ++ words_of_call numbers n xs)
          ≡ length (places_of {L = ℕ} at (instructions.Call condition n xs))
      go Always = called ∙ sym (length-replicate (length xs + 1) at)
      go IfTrue = omega (arith, called, length-replicate (length xs + 2) at)
      go IfFalse = omega (arith, called, length-replicate (length xs + 2) at)

  word_places : (target : ℕ → ℕ) (at : ℕ) (i : Instruction Place ℕ)
      → length (words_of numbers end next target i) ≡ length (places_of at i)
  word_places target at (instructions.Load negated o) = refl
  word_places target at (instructions.Apply operator o) = refl
  word_places target at (instructions.Deferred operator t close) =
      let ws = map (λ (p : Piece Place). word_of numbers p.action) (pieces_of t) in
      let ps = map place_of (pieces_of t) in
      omega (
        arith,
        length-append ws (words.Close ∷ []),
        length-append ps (close ∷ []),
        length-map (pieces_of t) (λ (p : Piece Place). word_of numbers p.action),
        length-map (pieces_of t) (place_of {N = Place}),
      )
  word_places target at (instructions.Transform function) = refl
  word_places target at (instructions.Limit low high) = refl
  word_places target at (instructions.Store negated n) = refl
  word_places target at (instructions.Set n) = refl
  word_places target at (instructions.Reset n) = refl
  word_places target at (instructions.Jump condition l) = refl
  word_places target at (instructions.Return condition) = refl
  word_places target at (instructions.Call condition n xs) = call_places condition at n xs
  word_places target at (instructions.Invoke f os) =
      omega (
        arith,
        length-map (call_pieces 0 f os) (λ (p : Piece Place). word_of numbers p.action),
        call_long 0 f os,
        length-replicate (length os + 2) at,
      )

  -- a line
  pub line_long : (target : ℕ → ℕ) (line : Line Place ℕ)
      → length (words_in numbers end next target line) ≡ counts.words_in line
  line_long target line = go line.instruction
    where
      go : (i : Option (Instruction Place ℕ))
          → length (option_map_or (words_of numbers end next target) i [])
          ≡ length (option_map_or (places_of line.at) i [])
      go None = refl
      go (Some i) = word_places target line.at i

module _ (numbers : Numbers) where
  -- lines
  pub lines_long : (end place : ℕ) (lines : List (Line Place ℕ))
      → length (words_of_lines numbers end place lines) ≡ counts.words_of_lines lines
  lines_long end place [] = refl
  lines_long end place (line ∷ lines) =
      let next = place + counts.words_in line in
      let target = place_of_label next lines in
      omega (
        arith,
        length-append (words_in numbers end next target line) (words_of_lines numbers end next lines),
        line_long numbers end next target line,
        lines_long end next lines,
        count_more line lines,
      )

  -- programs
  pub programs_long : (place : ℕ) (instances : List PlannedInstance)
      → length (words_of_programs numbers place (map (λ i. i.lines) instances))
      ≡ counts.words_of_lines (all_lines instances)
  programs_long place [] = refl
  programs_long place (i ∷ instances) =
      let end = place + counts.words_of_lines i.lines in
      omega (
        arith,
        length-append (words_of_lines numbers end place i.lines)
            (words_of_programs numbers end (map (λ i. i.lines) instances)),
        lines_long end place i.lines,
        programs_long end instances,
        count_both i.lines (all_lines instances),
      )

-- ---- functions

pub values_words_long : (constants : List Value) (slot : ℕ) (values : List Value)
    → length (words_of_values constants slot values) ≡ length values
values_words_long constants slot [] = refl
values_words_long constants slot (v ∷ values) = ap suc (values_words_long constants (slot + 1) values)

pub body_long : (constants : List Value) (functions : List (Option Placed)) (place first : ℕ) (f : PlannedFunction)
    → length (words_of_body (numbers_of constants first functions) place f) ≡ words_of_function f
body_long constants functions place first f =
    let n = numbers_of constants first functions in
    let end = place + words_of_function f in
    let slot = first + length f.inputs in
    let at = place + length f.variables in
    let giving = words_of_values constants slot (starting_values f) in
    omega (
      arith,
      length-append giving (words_of_lines n end at f.lines),
      values_words_long constants slot (starting_values f),
      length-map f.variables (λ v. v.initial),
      lines_long n end at f.lines,
    )

pub bodies_long : (constants : List Value) (functions : List (Option Placed)) (place first : ℕ)
    (fs : List PlannedFunction)
    → length (words_of_bodies constants functions place first fs) ≡ sum_by words_of_function fs
bodies_long constants functions place first [] = refl
bodies_long constants functions place first (f ∷ fs) =
    let next = place + words_of_function f in
    let slot = first + slots_of_function f in
    omega (
      arith,
      length-append (words_of_body (numbers_of constants first functions) place f)
          (words_of_bodies constants functions next slot fs),
      body_long constants functions place first f,
      bodies_long constants functions next slot fs,
      sum_by-cons words_of_function f fs,
    )

places_of_body_long : (f : PlannedFunction) → length (places_of_body f) ≡ words_of_function f
places_of_body_long f =
    omega (
      arith,
      length-append (replicate (length f.variables) f.at) (flat_map places_in f.lines),
      length-replicate (length f.variables) f.at,
      places_counted f.lines,
    )

pub bodies_placed : (fs : List PlannedFunction) → length (flat_map places_of_body fs) ≡ sum_by words_of_function fs
bodies_placed [] = refl
bodies_placed (f ∷ fs) =
    omega (
      arith,
      length-append (places_of_body f) (flat_map places_of_body fs),
      places_of_body_long f,
      bodies_placed fs,
      sum_by-cons words_of_function f fs,
    )

pub types_long : (f : PlannedFunction) → length (function_types f) ≡ slots_of_function f
types_long f =
    omega (
      arith,
      length-append (map (λ i. i.value_type) f.inputs) (map (λ v. v.value_type) f.variables),
      length-map f.inputs (λ i. i.value_type),
      length-map f.variables (λ v. v.value_type),
    )

pub all_types_long : (fs : List PlannedFunction)
    → length (flat_map function_types fs) ≡ sum_by slots_of_function fs
all_types_long [] = refl
all_types_long (f ∷ fs) =
    omega (
      arith,
      length-append (function_types f) (flat_map function_types fs),
      types_long f,
      all_types_long fs,
      sum_by-cons slots_of_function f fs,
    )

pub bodies_counted : (place first : ℕ) (fs : List PlannedFunction) → length (bodies_from place first fs) ≡ length fs
bodies_counted place first [] = refl
bodies_counted place first (f ∷ fs) =
    ap suc (bodies_counted (place + words_of_function f) (first + slots_of_function f) fs)
