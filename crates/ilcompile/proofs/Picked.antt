-- Functions of which some are used, gone over one after another with whether each is.
use Rattle.std.proofs.Common.{◌≡◌, ℕ, zero, suc, ◌+◌, ◌<◌, ◌≤◌, List, [], ◌∷◌, ◌++◌, length, Bool, true, false, cond}
use Rattle.std.proofs.Common.{Option, Some, None, refl, sym, ap, ◌∙◌, arith, append_assoc, drop, get_or}
use Rattle.std.proofs.Common.{length-append, subst}
use Rattle.std.specs.Prelude.{sum_by}
use Rattle.std.specs.List.{AllByRecursion}
use Rattle.std.proofs.lemmas.List.{drop_all, get_or_default}
use Rattle.std.proofs.lemmas.List.Sums.{sum_by-cons}
use Rattle.limits.specs.Limits.{most_slots, most_words}
use Rattle.iltypes.specs.declared.value.Value.{Value}
use Rattle.ilplan.specs.Functions.{PlannedFunction, slots_of_function, those_in, words_of_function}
use Rattle.ilcode.specs.declared.word.Word.{Word}
use Rattle.ilcode.specs.Words.{HasWord}
use Rattle.ilcompile.specs.declared.numbers.Placed.{Placed}
use Rattle.ilcompile.specs.Layout.{numbers_of, words_of_bodies, words_of_body}
use Rattle.ilcompile.specs.LayoutSteps.{picked}
use Rattle.ilcompile.proofs.Held.{back, front}
use Rattle.ilcompile.proofs.Sizes.{body_long}
use Rattle.ilcompile.proofs.TwoPasses.{the_next}

-- those that are left
abbrev pub left_from : List PlannedFunction → List Bool → ℕ → List (Option PlannedFunction)
left_from fs used i = picked (drop i fs) (drop i used)

-- one that stands at a number
item : (fs : List PlannedFunction) (i : ℕ) → i < length fs → (f : PlannedFunction) × (f ≡ get_or fs i f)
item [] i h = absurd (omega arith)
item (f ∷ fs) zero h = (f, refl)
item (f ∷ fs) (suc i) h = item fs i (omega arith)

-- the next one
next_left : (fs : List PlannedFunction) (used : List Bool) (i : ℕ) (f : PlannedFunction) (b : Bool) → i < length fs
    → length used ≡ length fs → f ≡ get_or fs i f → get_or used i false ≡ b
    → left_from fs used i ≡ cond b (Some f) None ∷ left_from fs used (i + 1)
next_left fs used i f b below long is e =
    let mine = sym e ∙ get_or_default used i false b (omega arith) in
    ap (λ xs. picked xs (drop i used)) (the_next fs i f below is)
    ∙ (ap (picked (f ∷ drop (i + 1) fs)) (the_next used i b (omega arith) mine) ∙ by b)
  where
    by : (b : Bool) → picked (f ∷ drop (i + 1) fs) (b ∷ drop (i + 1) used)
        ≡ cond b (Some f) None ∷ left_from fs used (i + 1)
    by true = refl
    by false = refl

-- it is used
pub used_left : (fs : List PlannedFunction) (used : List Bool) (i : ℕ) (f : PlannedFunction) → i < length fs
    → length used ≡ length fs → f ≡ get_or fs i f → get_or used i false ≡ true
    → left_from fs used i ≡ Some f ∷ left_from fs used (i + 1)
used_left fs used i f below long is e = next_left fs used i f true below long is e

-- or it is not
pub unused_left : (fs : List PlannedFunction) (used : List Bool) (i : ℕ) → i < length fs
    → length used ≡ length fs → get_or used i false ≡ false → left_from fs used i ≡ None ∷ left_from fs used (i + 1)
unused_left fs used i below long e =
    let f = item fs i below in next_left fs used i f.0 false below long f.1 e

-- at the end none is left
pub none_left : (fs : List PlannedFunction) (used : List Bool) (i : ℕ) → length fs ≤ i → left_from fs used i ≡ []
none_left fs used i past = ap (λ xs. picked xs (drop i used)) (drop_all i fs past)

-- what is made of those that are left is still to come
pub made_of_one : {Y : Type 0} (made more piece rest all : List Y) → made ++ (piece ++ rest) ≡ all
    → more ≡ made ++ piece → more ++ rest ≡ all
made_of_one made more piece rest all so_far is =
    ap (λ ys. ys ++ rest) is ∙ (append_assoc made piece rest ∙ so_far)

-- ---- words

module _ (constants : List Value) (stand : List (Option Placed)) (all : List Word) where
  -- the words of the functions that are left are those that are still to come
  pub record BodiesLeft (ws : List Word) (first : ℕ) (left : List (Option PlannedFunction)) : Type 0 where
    pub items : ws ++ words_of_bodies constants stand (length ws) first (those_in left) ≡ all
    pub near : AllByRecursion HasWord (words_of_bodies constants stand (length ws) first (those_in left))
    pub slots : first + sum_by slots_of_function (those_in left) ≤ most_slots
    pub words : length ws + sum_by words_of_function (those_in left) ≤ most_words

  -- the next one's words are near
  pub body_near : (ws : List Word) (first : ℕ) (f : PlannedFunction) (left : List (Option PlannedFunction))
      → BodiesLeft ws first (Some f ∷ left)
      → AllByRecursion HasWord (words_of_body (numbers_of constants first stand) (length ws) f)
  body_near ws first f left l =
      front HasWord (words_of_body (numbers_of constants first stand) (length ws) f)
      (words_of_bodies constants stand (length ws + words_of_function f) (first + slots_of_function f) (those_in left))
      l.near

  -- one function fewer
  pub fewer_bodies : (ws more : List Word) (first next : ℕ) (f : PlannedFunction)
      (left : List (Option PlannedFunction)) → BodiesLeft ws first (Some f ∷ left)
      → more ≡ ws ++ words_of_body (numbers_of constants first stand) (length ws) f
      → next ≡ first + slots_of_function f → BodiesLeft more next left
  fewer_bodies ws more first next f left l is after =
      let mine = words_of_body (numbers_of constants first stand) (length ws) f in
      let long : length more ≡ length ws + words_of_function f =
      ap length is
      ∙ (length-append ws mine ∙ ap (λ n. length ws + n) (body_long constants stand (length ws) first f)) in
      let slots = sum_by-cons slots_of_function f (those_in left) in
      let words = sum_by-cons words_of_function f (those_in left) in
      let others = words_of_bodies constants stand (length ws + words_of_function f) (first + slots_of_function f)
      (those_in left) in
      let same : others ≡ words_of_bodies constants stand (length more) next (those_in left) =
      ap (λ n. words_of_bodies constants stand n (first + slots_of_function f) (those_in left)) (sym long)
      ∙ ap (λ n. words_of_bodies constants stand (length more) n (those_in left)) (sym after) in
      let room = l.slots in
      let limit = l.words in
      record {
        items = ap (λ xs. more ++ xs) (sym same) ∙ made_of_one ws more mine others all l.items is;
        near = subst (AllByRecursion HasWord) same (back HasWord mine others l.near);
        slots = omega arith;
        words = omega arith;
      }
