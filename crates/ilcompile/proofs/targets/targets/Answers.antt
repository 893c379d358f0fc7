use Rattle.std.proofs.Common.{◌≡◌, ◌∙◌, ◌+◌, ◌-◌, ◌<◌, ◌++◌, ◌∷◌, [], ℕ, List, Option, Some}
use Rattle.std.proofs.Common.{ap, arith, drop, get_or, length, refl, reverse, sym, take}
use Rattle.std.specs.Prelude.{if◌then◌else◌}
use Rattle.std.proofs.lemmas.List.{reverse-append, take_more}
use Rattle.ilsource.specs.declared.instruction.Instruction.{Instruction}
use Rattle.ilsource.specs.declared.instruction.Instruction.TheVariants as instructions
use Rattle.ilsource.specs.declared.instruction.Line.{Line}
use Rattle.ilsource.specs.Passes.{has_label}
use Rattle.ilsource.specs.Words.{words_in, words_of_lines}
use Rattle.ilplan.specs.PlanMeaning.{number_same}
use Rattle.ilplan.specs.declared.place.Place.{Place}
use Rattle.ilcompile.specs.Layout.{place_of_label}
use Rattle.ilcompile.specs.LayoutSteps.{place_in, target_of, targets_of}
use Rattle.ilcompile.proofs.Sizes.{count_both, count_more}
use Rattle.ilcompile.proofs.TwoPasses.{the_next}
use Rattle.ilcompile.proofs.targets.targets.Goals as goal

-- an instruction has one target at most, and the places of labels decide it
same_target : (f g : ℕ → ℕ) → ((label : ℕ) → f label ≡ g label) → (i : Option (Instruction Place ℕ))
    → reverse (target_of f i) ≡ target_of g i
same_target f g e (Some (instructions.Jump condition label)) = ap (λ (n : ℕ). n ∷ []) (e label)
same_target f g e _ = refl

-- one line more is counted
one_more : (lines : List (Line Place ℕ)) (i : ℕ) (line : Line Place ℕ) → i < length lines → line ≡ get_or lines i line
    → words_of_lines (take (i + 1) lines) ≡ words_of_lines (take i lines) + words_in line
one_more lines i line below is =
    let none : words_of_lines {N = Place} {L = ℕ} [] ≡ 0 = refl in
    let last = count_both (take i lines) (line ∷ []) in
    let one = count_more line [] in
    let all = ap (λ (ls : List (Line Place ℕ)). words_of_lines ls) (take_more lines i line below
    ∙ ap (λ (x : Line Place ℕ). take i lines ++ x ∷ []) (sym is)) in
    omega (arith, all, last, one, none)

pub overflow_cast-place-in-loop-index : goal.overflow_cast-place-in-loop-index
overflow_cast-place-in-loop-index c =
    let lines = c.args.lines.now in
    let i = c.loop-index.index - 1 in
    let on : i + 1 ≡ c.loop-index.index = omega (arith, c.loop-index-test.true) in
    let below : i < length lines = omega (arith, on, c.loop-index.auto.index) in
    let more = one_more lines i c.index-lines-index.result below c.index-lines-index.is in
    let was : c.loop-index.place ≡ c.args.start + words_of_lines (take (i + 1) lines) =
    c.loop-index.invariant.place ∙ ap (λ (n : ℕ). c.args.start + words_of_lines (take n lines)) (sym on) in
    omega (arith, c.words.ensures, more, was, c.loop-index.auto.place-fits)

pub overflow_sub-place : goal.overflow_sub-place
overflow_sub-place c =
    let lines = c.args.lines.now in
    let i = c.loop-index.index - 1 in
    let on : i + 1 ≡ c.loop-index.index = omega (arith, c.loop-index-test.true) in
    let below : i < length lines = omega (arith, on, c.loop-index.auto.index) in
    let more = one_more lines i c.index-lines-index.result below c.index-lines-index.is in
    let was : c.loop-index.place ≡ c.args.start + words_of_lines (take (i + 1) lines) =
    c.loop-index.invariant.place ∙ ap (λ (n : ℕ). c.args.start + words_of_lines (take n lines)) (sym on) in
    omega (arith, c.words.ensures, more, was, c.loop-index.auto.place-fits)

pub loop-index-preserved : goal.loop-index-preserved
loop-index-preserved c =
    let lines = c.args.lines.now in
    let i = c.loop-index.index - 1 in
    let line = c.index-lines-index.result in
    let place = c.loop-index.place - c.words.result in
    let rest = drop c.loop-index.index lines in
    let on : i + 1 ≡ c.loop-index.index = omega (arith, c.loop-index-test.true) in
    let below : i < length lines = omega (arith, on, c.loop-index.auto.index) in
    let more = one_more lines i line below c.index-lines-index.is in
    let was : c.loop-index.place ≡ c.args.start + words_of_lines (take (i + 1) lines) =
    c.loop-index.invariant.place ∙ ap (λ (n : ℕ). c.args.start + words_of_lines (take n lines)) (sym on) in
    let back : c.loop-index.place ≡ place + words_in line =
    omega (arith, c.words.ensures, more, was, c.loop-index.auto.place-fits) in
    let left : line ∷ rest ≡ drop i lines =
    sym (the_next lines i line below c.index-lines-index.is ∙ ap (λ (n : ℕ). line ∷ drop n lines) on) in
    let wanted = place_of_label (place + words_in line) rest in
    let known : (label : ℕ) → place_in c.loop-index.labels label ≡ wanted label =
    λ label. c.loop-index.invariant.labels label ∙ ap (λ (n : ℕ). place_of_label n rest label) back in
    let others = reverse c.loop-index.targets.items in
    record {
      place = omega (arith, more, was, back);
      targets = ap (λ (ts : List ℕ). reverse ts) c.in_ok-push_target.ensures
          ∙ (reverse-append c.loop-index.targets.items (target_of (place_in c.loop-index.labels) line.instruction)
          ∙ (ap (λ (ts : List ℕ). ts ++ others)
          (same_target (place_in c.loop-index.labels) wanted known line.instruction)
          ∙ (ap (λ (ts : List ℕ). target_of wanted line.instruction ++ ts) (c.loop-index.invariant.targets
          ∙ ap (λ (n : ℕ). targets_of n rest) back)
          ∙ ap (λ (ls : List (Line Place ℕ)). targets_of place ls) left)));
      labels = λ label. c.in_ok-set_place.ensures label
          ∙ (ap (λ (n : ℕ). if has_label number_same label line.label then place else n) (known label)
          ∙ ap (λ (ls : List (Line Place ℕ)). place_of_label place ls label) left);
    }
