-- The passes of the compiler over the lines of a program or a body: the targets of jumps from the last line to the
-- first, and the words from the first line to the last.
use Rattle.std.proofs.Common.{◌≡◌, ℕ, zero, suc, ◌+◌, ◌<◌, List, [], ◌∷◌, ◌++◌, length, reverse, Option, Some, None}
use Rattle.std.proofs.Common.{refl, sym, ap, ◌∙◌, arith, subst, append_assoc, length-append, get_or, drop}
use Rattle.std.proofs.Common.{drop-cons, ◌≤◌, map}
use Rattle.std.proofs.lemmas.List.{append-nil, drop_all, drop_more}
use Rattle.limits.specs.Limits.{most_words}
use Rattle.std.specs.List.{AllByRecursion}
use Rattle.std.specs.Option.{option_map_or}
use Rattle.ilsource.specs.declared.instruction.Instruction.{Instruction}
use Rattle.ilsource.specs.declared.instruction.Instruction.TheVariants as instructions
use Rattle.ilsource.specs.declared.instruction.Line.{Line}
use Rattle.ilsource.specs.Words as counts
use Rattle.ilcode.specs.Words.{HasWord}
use Rattle.ilcode.specs.declared.word.Word.{Word}
use Rattle.ilcode.specs.declared.word.Word.TheVariants as words
use Rattle.ilplan.specs.declared.place.Place.{Place}
use Rattle.ilplan.specs.Plans.{PlannedInstance, all_lines}
use Rattle.ilcompile.specs.Layout.{Numbers, place_of_label, words_of, words_in, words_of_lines}
use Rattle.ilcompile.specs.Layout.{words_of_programs, starts_from, programs_of}
use Rattle.ilcompile.specs.LayoutSteps.{target_of, targets_of, IsTaken}
use Rattle.ilcompile.proofs.Held.{front, back}
use Rattle.ilcompile.proofs.Sizes.{count_more, count_both, line_long, lines_long}

-- ---- a word for each element

-- one more: the words of the elements that are left are still to come
pub one_made : {X : Type 0} (f : X → Word) (xs : List X) (i : ℕ) (d : X) (made more all : List Word) (word : Word)
    → i < length xs → made ++ map f (drop i xs) ≡ all → more ≡ made ++ word ∷ [] → word ≡ f (get_or xs i d)
    → more ++ map f (drop (i + 1) xs) ≡ all
one_made {X} f xs i d made more all word below so_far push is =
    let rest = map f (drop (i + 1) xs) in
    ap (λ (ws : List Word). ws ++ rest) push
    ∙ (append_assoc made (word ∷ []) rest
    ∙ (ap (λ (w : Word). made ++ w ∷ rest) is
    ∙ (ap (λ (ys : List X). made ++ map f ys) (sym (drop_more xs i d below)) ∙ so_far)))

pub all_made : {X : Type 0} (f : X → Word) (xs : List X) (n : ℕ) (made all : List Word)
    → made ++ map f (drop n xs) ≡ all → length xs ≤ n → made ≡ all
all_made {X} f xs n made all so_far past =
    sym (append-nil made) ∙ (ap (λ (ys : List X). made ++ map f ys) (sym (drop_all n xs past)) ∙ so_far)

-- each word is near: the next one, and those that are still to come
pub near_next : {X : Type 0} (f : X → Word) (xs : List X) (i : ℕ) (d : X) → i < length xs
    → AllByRecursion HasWord (map f (drop i xs))
    → HasWord (f (get_or xs i d)) × AllByRecursion HasWord (map f (drop (i + 1) xs))
near_next {X} f xs i d below near =
    subst (λ (ys : List X). AllByRecursion HasWord (map f ys)) (drop_more xs i d below) near

pub near_later : {X : Type 0} (f : X → Word) (xs : List X) (i : ℕ) → i < length xs
    → AllByRecursion HasWord (map f (drop i xs)) → AllByRecursion HasWord (map f (drop (i + 1) xs))
near_later f [] i below near = absurd (omega arith)
near_later f (x ∷ xs) zero below near = near.1
near_later {X} f (x ∷ xs) (suc i) below near =
    let z : suc (i + 1) ≡ suc i + 1 = omega arith in
    subst (λ n. AllByRecursion HasWord (map f (drop n (x ∷ xs)))) z (near_later f xs i (omega arith) near)

-- ---- lines

-- an instruction's words depend on no target but its own
same_words : (numbers : Numbers) (end next : ℕ) (one other : ℕ → ℕ) (i : Option (Instruction Place ℕ))
    → target_of one i ≡ target_of other i
    → option_map_or (words_of numbers end next one) i [] ≡ option_map_or (words_of numbers end next other) i []
same_words numbers end next one other None e = refl
same_words numbers end next one other (Some (instructions.Load negated o)) e = refl
same_words numbers end next one other (Some (instructions.Apply operator o)) e = refl
same_words numbers end next one other (Some (instructions.Deferred operator t close)) e = refl
same_words numbers end next one other (Some (instructions.Transform function)) e = refl
same_words numbers end next one other (Some (instructions.Limit low high)) e = refl
same_words numbers end next one other (Some (instructions.Store negated n)) e = refl
same_words numbers end next one other (Some (instructions.Set n)) e = refl
same_words numbers end next one other (Some (instructions.Reset n)) e = refl
same_words numbers end next one other (Some (instructions.Jump condition l)) e =
    let same : one l ≡ other l = cc in ap (λ t. words.Jump condition t ∷ []) same
same_words numbers end next one other (Some (instructions.Return condition)) e = refl
same_words numbers end next one other (Some (instructions.Call condition n xs)) e = refl
same_words numbers end next one other (Some (instructions.Invoke f os)) e = refl

module _ (numbers : Numbers) (end : ℕ) (all : List Word) where
  -- the lines that are left: their words are those that are still to come, and their targets those that are left
  pub record AreLeft (ws : List Word) (ts : List ℕ) (lines : List (Line Place ℕ)) : Type 0 where
    pub words : ws ++ words_of_lines numbers end (length ws) lines ≡ all
    pub targets : reverse ts ≡ targets_of (length ws) lines
    pub limit : length ws + counts.words_of_lines lines ≤ most_words
    pub near : AllByRecursion HasWord (words_of_lines numbers end (length ws) lines)

  -- the next line's words are near
  pub line_near : (ws : List Word) (targets others : List ℕ) (next target : ℕ) (line : Line Place ℕ)
      (lines : List (Line Place ℕ)) → AreLeft ws targets (line ∷ lines) → IsTaken line.instruction targets others target
      → next ≡ length ws + counts.words_in line
      → AllByRecursion HasWord (words_in numbers end next (λ label. target) line)
  line_near ws targets others after target line lines l taken place =
      let next = length ws + counts.words_in line in
      let wanted = place_of_label next lines in
      let its = taken wanted (targets_of next lines) l.targets in
      let same = same_words numbers end next wanted (λ label. target) line.instruction its.1 in
      let mine = front HasWord (words_in numbers end next wanted line) (words_of_lines numbers end next lines) l.near in
      subst (λ n. AllByRecursion HasWord (words_in numbers end n (λ label. target) line)) (sym place)
      (subst (AllByRecursion HasWord) same mine)

  -- one line fewer
  pub fewer_left : (ws more : List Word) (targets others : List ℕ) (next target : ℕ) (line : Line Place ℕ)
      (lines : List (Line Place ℕ)) → AreLeft ws targets (line ∷ lines) → IsTaken line.instruction targets others target
      → next ≡ length ws + counts.words_in line
      → more ≡ ws ++ words_in numbers end next (λ label. target) line → AreLeft more others lines
  fewer_left ws more targets others after target line lines l taken place is =
      let next = length ws + counts.words_in line in
      let wanted = place_of_label next lines in
      let its = taken wanted (targets_of next lines) l.targets in
      let same = same_words numbers end next wanted (λ label. target) line.instruction its.1 in
      let mine = words_in numbers end next wanted line in
      let is' : more ≡ ws ++ mine =
      is ∙ (ap (λ n. ws ++ words_in numbers end n (λ label. target) line) place ∙ ap (λ x. ws ++ x) (sym same)) in
      let line_words = line_long numbers end next wanted line in
      let counted = count_more line lines in
      let limit = l.limit in
      let long : length more ≡ next =
      ap length is' ∙ (length-append ws mine ∙ ap (λ n. length ws + n) line_words) in
      record {
        words = ap (λ n. more ++ words_of_lines numbers end n lines) long
            ∙ (ap (λ x. x ++ words_of_lines numbers end next lines) is'
            ∙ (append_assoc ws mine (words_of_lines numbers end next lines) ∙ l.words));
        targets = its.0 ∙ ap (λ n. targets_of n lines) (sym long);
        limit = omega (arith, long, counted, limit);
        near = subst (λ n. AllByRecursion HasWord (words_of_lines numbers end n lines)) (sym long)
            (back HasWord mine (words_of_lines numbers end next lines) l.near);
      }

-- ---- programs

pub the_next : {X : Type 0} (xs : List X) (i : ℕ) (x : X) → i < length xs → x ≡ get_or xs i x
    → drop i xs ≡ x ∷ drop (i + 1) xs
the_next xs i x h e =
    let z : suc i ≡ i + 1 = omega arith in
    drop-cons xs i x h ∙ (ap (λ y. y ∷ drop (suc i) xs) (sym e) ∙ ap (λ n. x ∷ drop n xs) z)

-- one element more: the places of those that are left are still to come
pub one_joined : {X : Type 0} (F : List X → List ℕ) (xs : List X) (i : ℕ) (x : X) (piece made more all : List ℕ)
    → i < length xs → x ≡ get_or xs i x → F (x ∷ drop (i + 1) xs) ≡ piece ++ F (drop (i + 1) xs)
    → made ++ F (drop i xs) ≡ all → more ≡ made ++ piece → more ++ F (drop (i + 1) xs) ≡ all
one_joined {X} F xs i x piece made more all below is step so_far push =
    let rest = F (drop (i + 1) xs) in
    ap (λ (ps : List ℕ). ps ++ rest) push
    ∙ (append_assoc made piece rest
    ∙ (ap (λ (ps : List ℕ). made ++ ps) (sym step)
    ∙ (ap (λ (ys : List X). made ++ F ys) (sym (the_next xs i x below is)) ∙ so_far)))

-- where the lines that are left have room, the next one has
pub next_fits : (place : ℕ) (lines : List (Line Place ℕ)) (i : ℕ) (line : Line Place ℕ) → i < length lines
    → line ≡ get_or lines i line → place + counts.words_of_lines (drop i lines) ≤ most_words
    → place + counts.words_in line ≤ most_words
next_fits place lines i line below is room =
    let left = ap (λ (ls : List (Line Place ℕ)). counts.words_of_lines ls) (the_next lines i line below is) in
    omega (arith, left, count_more line (drop (i + 1) lines), room)

module _ (numbers : Numbers) (all : List Word) (all_starts : List ℕ) where
  -- the programs that are left: their words and starts are those that are still to come
  pub record ProgramsLeft (ws : List Word) (ss : List ℕ) (instances : List PlannedInstance) : Type 0 where
    pub words : ws ++ words_of_programs numbers (length ws) (programs_of instances) ≡ all
    pub starts : ss ++ starts_from (length ws) (programs_of instances) ≡ all_starts
    pub limit : length ws + counts.words_of_lines (all_lines instances) ≤ most_words
    pub near : AllByRecursion HasWord (words_of_programs numbers (length ws) (programs_of instances))

  -- the next program's words are near
  pub program_near : (ws : List Word) (ss : List ℕ) (i : PlannedInstance) (instances : List PlannedInstance)
      → ProgramsLeft ws ss (i ∷ instances)
      → AllByRecursion HasWord
      (words_of_lines numbers (length ws + counts.words_of_lines i.lines) (length ws) i.lines)
  program_near ws ss i instances l =
      let place = length ws in
      let end = place + counts.words_of_lines i.lines in
      front HasWord (words_of_lines numbers end place i.lines)
      (words_of_programs numbers end (programs_of instances)) l.near

  -- one program fewer
  pub fewer_programs : (ws more : List Word) (ss others : List ℕ) (i : PlannedInstance)
      (instances : List PlannedInstance) → ProgramsLeft ws ss (i ∷ instances) → others ≡ ss ++ length ws ∷ []
      → more ≡ ws ++ words_of_lines numbers (length ws + counts.words_of_lines i.lines) (length ws) i.lines
      → ProgramsLeft more others instances
  fewer_programs ws more ss others i instances l begun is =
      let place = length ws in
      let end = place + counts.words_of_lines i.lines in
      let mine = words_of_lines numbers end place i.lines in
      let programs = programs_of instances in
      let long : length more ≡ end =
      ap length is ∙ (length-append ws mine ∙ ap (λ n. place + n) (lines_long numbers end place i.lines)) in
      let both = count_both i.lines (all_lines instances) in
      let limit = l.limit in
      record {
        words = ap (λ n. more ++ words_of_programs numbers n programs) long
            ∙ (ap (λ x. x ++ words_of_programs numbers end programs) is
            ∙ (append_assoc ws mine (words_of_programs numbers end programs) ∙ l.words));
        starts = ap (λ n. others ++ starts_from n programs) long
            ∙ (ap (λ x. x ++ starts_from end programs) begun
            ∙ (append_assoc ss (place ∷ []) (starts_from end programs) ∙ l.starts));
        limit = omega (arith, long, both, limit);
        near = subst (λ n. AllByRecursion HasWord (words_of_programs numbers n programs)) (sym long)
            (back HasWord mine (words_of_programs numbers end programs) l.near);
      }
