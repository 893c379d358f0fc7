-- Jumps are at fault by the numbers of lines that are kept under labels exactly where they lead nowhere or back.
use Rattle.std.proofs.Common.{◌≡◌, ℕ, zero, suc, ◌+◌, ◌<◌, ◌≤◌, List, [], ◌∷◌, ◌++◌, length, take, drop, get_or, Bool}
use Rattle.std.proofs.Common.{true, false, refl, sym, ap, ◌∙◌, subst, ◌⊎◌, inl, inr, arith, append_assoc, length-append}
use Rattle.std.specs.Prelude.{Option, Some, None, IsSomeAnd, is_some, option_map, bytes_eq, slice_get, if◌then◌else◌}
use Rattle.std.specs.Map.{lookup}
use Rattle.std.proofs.lemmas.List.{length-take-le}
use Rattle.ilsource.specs.declared.instruction.Line.{Line}
use Rattle.ilsource.specs.declared.name.Name.{Name}
use Rattle.ilsource.specs.declared.symbol.Symbol.{Symbol}
use Rattle.ilsource.specs.Names.{folded, SameName}
use Rattle.ildeclared.specs.Faults.{IsNextOf, OfCause, SomeOf}
use Rattle.ildeclared.specs.Kept.{Kept}
use Rattle.ildeclared.specs.Order.{lesser_of_two}
use Rattle.ildeclared.specs.declared.fault.NameCause.{NameCause}
use Rattle.ildeclared.specs.declared.fault.NameCause.TheVariants.{Unknown, Twice, UnknownLabel, BackwardJump}
use Rattle.ildeclared.specs.declared.fault.NameCause.TheVariants.{BadAddress, InputRangeTooSmall, WrittenTwice}
use Rattle.ildeclared.specs.declared.fault.NameCause.TheVariants.{WritesInput, NoTask, TooMany, BadDeclaration}
use Rattle.ildeclared.specs.declared.found.Found.{Found}
use Rattle.ildeclared.proofs.FoundOrder.{next_same, or_else}
use Rattle.ildeclared.proofs.Least.{both_next, got_at, got_below}
use Rattle.ilscope.specs.Faults.{IsTwiceIn}
use Rattle.ilscope.specs.Tables.{first_at}
use Rattle.ilscope.specs.UseFaults.{labels_of, target_of, JumpsTo, IsFaultOfJumps, IsFaultOfLabels}
use Rattle.ilscope.specs.Labels.{AreNumbered}
use Rattle.ilscope.specs.JumpSteps.{IsCauseOfJump, IsFaultOfJump, IsFaultBefore}
use Rattle.ilscope.proofs.LabelNumbers.{has, label_among, label_found}
use Rattle.ilscope.proofs.Lists.{last_or_before, some_at, at_some}

-- ---- places of a list

-- before, at and after a place
split_at : {X : Type 0} (xs : List X) (i : ℕ) (x : X) → slice_get xs i ≡ Some x
    → xs ≡ take i xs ++ x ∷ drop (suc i) xs
split_at [] i x e = absurd cc
split_at (y ∷ ys) zero x e = let same : y ≡ x = cc in ap (λ z. z ∷ ys) same
split_at (y ∷ ys) (suc i) x e = ap (λ zs. y ∷ zs) (split_at ys i x e)

got_past : {X : Type 0} (front back : List X) (x : X) → slice_get (front ++ x ∷ back) (length front) ≡ Some x
got_past [] back x = refl
got_past (y ∷ front) back x = got_past front back x

-- the first place that passes, in a longer list
first_front : {X : Type 0} (test : X → Bool) (xs ys : List X) (k : ℕ) → first_at test (xs ++ ys) ≡ Some k
    → k < length xs → is_some (first_at test xs) ≡ true
first_front test [] ys k e below = absurd (omega (arith, below))
first_front {X} test (x ∷ xs) ys k e below = by (test x) (first_at test (xs ++ ys)) e (first_front test xs ys)
  where
    by : (b : Bool) (o : Option ℕ) → (if b then Some 0 else option_map suc o) ≡ Some k
        → ((j : ℕ) → o ≡ Some j → j < length xs → is_some (first_at test xs) ≡ true)
        → is_some (if b then Some 0 else option_map suc (first_at test xs)) ≡ true
    by true o e more = refl
    by false None e more = absurd cc
    by false (Some j) e more =
        let next : suc j ≡ k = cc in
        later (first_at test xs) (more j refl (omega (arith, next, below)))
      where
        later : (o : Option ℕ) → is_some o ≡ true → is_some (option_map suc o) ≡ true
        later None h = h
        later (Some n) h = refl

front_first : {X : Type 0} (test : X → Bool) (xs ys : List X) → is_some (first_at test xs) ≡ true
    → (k : ℕ) × (first_at test (xs ++ ys) ≡ Some k) × (k < length xs)
front_first test [] ys h = absurd cc
front_first {X} test (x ∷ xs) ys h = by (test x) (first_at test xs) h (front_first test xs ys)
  where
    by : (b : Bool) (o : Option ℕ) → is_some (if b then Some 0 else option_map suc o) ≡ true
        → (is_some o ≡ true → (k : ℕ) × (first_at test (xs ++ ys) ≡ Some k) × (k < length xs))
        → (k : ℕ) × ((if b then Some 0 else option_map suc (first_at test (xs ++ ys))) ≡ Some k) × (k < suc (length xs))
    by true o h more = (0, refl, omega arith)
    by false None h more = absurd cc
    by false (Some n) h more =
        let rest = more refl in
        (suc rest.0, ap (option_map suc) rest.1, let low = rest.2 in omega (arith, low))

-- ---- jumps

jumps_map : {P Q : Name → Type 0} (place : ℕ) (o : Option Name) → ((label : Name) → P label → Q label)
    → IsSomeAnd o (λ label. P label × (place ≡ label.from)) → IsSomeAnd o (λ label. Q label × (place ≡ label.from))
jumps_map place None h s = s
jumps_map place (Some label) h s = (h label s.0, s.1)

jumps_never : {P : Name → Type 0} (place : ℕ) (o : Option Name) → ((label : Name) → P label → ⊥)
    → IsSomeAnd o (λ label. P label × (place ≡ label.from)) → ⊥
jumps_never place None h s = s
jumps_never place (Some label) h s = h label s.0

-- no other cause
only_two : (o : Option ℕ) (n : ℕ) (cause : NameCause) → ¬ (cause ≡ UnknownLabel) → ¬ (cause ≡ BackwardJump)
    → IsCauseOfJump o n cause → ⊥
only_two None n cause h g c = h c
only_two (Some first) n cause h g c = g c.1

nowhere : (o : Option ℕ) (n : ℕ) → IsCauseOfJump o n UnknownLabel → is_some o ≡ true → ⊥
nowhere None n c s = cc
nowhere (Some first) n c s = let e = c.1 in cc

to_nowhere : (o : Option ℕ) (n : ℕ) → (is_some o ≡ true → ⊥) → IsCauseOfJump o n UnknownLabel
to_nowhere None n h = refl
to_nowhere (Some first) n h = absurd (h refl)

module _ (text : List ℕ) (kept : Kept ℕ) (lines : List (Line Symbol Name)) (numbered : AreNumbered text lines kept)
  where
    abbrev IsCause : ℕ → NameCause → Name → Type 0
    IsCause n cause label = IsCauseOfJump (lookup (bytes_eq (folded text label)) kept) n cause

    leads_nowhere : (n : ℕ) (label : Name) → IsCause n UnknownLabel label
        → ¬ SomeOf (SameName text label) (labels_of lines)
    leads_nowhere n label c s =
        nowhere (first_at (has text label) lines) n
        (subst (λ (o : Option ℕ). IsCauseOfJump o n UnknownLabel) (numbered label) c) (label_found text lines label s)

    unknown_then : (n : ℕ) (label : Name) → (¬ SomeOf (SameName text label) (labels_of lines))
        → IsCause n UnknownLabel label
    unknown_then n label h =
        subst (λ (o : Option ℕ). IsCauseOfJump o n UnknownLabel) (sym (numbered label))
        (to_nowhere (first_at (has text label) lines) n (λ s. h (label_among text lines label s)))

    module _ (front back : List (Line Symbol Name)) (line : Line Symbol Name) (is : lines ≡ front ++ line ∷ back) where
      abbrev upto : List (Line Symbol Name)
      upto = front ++ line ∷ []

      parts : lines ≡ upto ++ back
      parts = is ∙ sym (append_assoc front (line ∷ []) back)

      many : length upto ≡ length front + 1
      many = length-append front (line ∷ [])

      leads_back : (label : Name) → IsCause (length front) BackwardJump label
          → SomeOf (SameName text label) (labels_of upto)
      leads_back label c =
          by (first_at (has text label) lines) refl
          (subst (λ (o : Option ℕ). IsCauseOfJump o (length front) BackwardJump) (numbered label) c)
        where
          by : (o : Option ℕ) → first_at (has text label) lines ≡ o → IsCauseOfJump o (length front) BackwardJump
              → SomeOf (SameName text label) (labels_of upto)
          by None e c = absurd cc
          by (Some first) e c =
              let here = ap (λ (ls : List (Line Symbol Name)). first_at (has text label) ls) (sym parts) ∙ e in
              let low = c.0 in
              let size = many in
              label_among text upto label
              (first_front (has text label) upto back first here (omega (arith, low, size)))

      back_then : (label : Name) → SomeOf (SameName text label) (labels_of upto)
          → IsCause (length front) BackwardJump label
      back_then label s =
          let first = front_first (has text label) upto back (label_found text upto label s) in
          let there : lookup (bytes_eq (folded text label)) kept ≡ Some first.0 =
          numbered label ∙ ap (λ (ls : List (Line Symbol Name)). first_at (has text label) ls) parts ∙ first.1
          in
          let low = first.2 in
          let size = many in
          subst (λ (o : Option ℕ). IsCauseOfJump o (length front) BackwardJump) (sym there)
          (omega (arith, low, size), refl)

    module _ (bound : ℕ) (whole : length lines ≤ bound) (place : ℕ) where
      none_else : (cause : NameCause) → ¬ (cause ≡ UnknownLabel) → ¬ (cause ≡ BackwardJump)
          → IsFaultBefore text kept lines bound place cause → ⊥
      none_else cause h g f =
          jumps_never place (target_of f.line.instruction)
          (λ label c. only_two (lookup (bytes_eq (folded text label)) kept) f.number cause h g c) f.fault

      to_faults : (cause : NameCause) → IsFaultBefore text kept lines bound place cause
          → IsFaultOfJumps text lines place cause
      to_faults UnknownLabel f =
          at_some
          (λ one. JumpsTo (λ label. ¬ SomeOf (SameName text label) (labels_of lines)) place one.instruction) lines
          f.number f.line f.is
          (jumps_map place (target_of f.line.instruction) (λ label c. leads_nowhere f.number label c) f.fault)
      to_faults BackwardJump f =
          let parted = split_at lines f.number f.line f.is in
          let below = got_below lines f.number f.line f.is in
          let size : length (take f.number lines) ≡ f.number = length-take-le f.number lines (omega (arith, below)) in
          record {
            before = take f.number lines;
            line = f.line;
            after = drop (suc f.number) lines;
            is = parted;
            jumps =
                jumps_map place (target_of f.line.instruction)
                (λ label c. leads_back (take f.number lines) (drop (suc f.number) lines) f.line parted label
                (subst (λ (n : ℕ). IsCause n BackwardJump label) (sym size) c)) f.fault;
          }
      to_faults Unknown f = none_else Unknown (λ e. cc) (λ e. cc) f
      to_faults Twice f = none_else Twice (λ e. cc) (λ e. cc) f
      to_faults BadAddress f = none_else BadAddress (λ e. cc) (λ e. cc) f
      to_faults InputRangeTooSmall f = none_else InputRangeTooSmall (λ e. cc) (λ e. cc) f
      to_faults WrittenTwice f = none_else WrittenTwice (λ e. cc) (λ e. cc) f
      to_faults NoTask f = none_else NoTask (λ e. cc) (λ e. cc) f
      to_faults WritesInput f = none_else WritesInput (λ e. cc) (λ e. cc) f
      to_faults TooMany f = none_else TooMany (λ e. cc) (λ e. cc) f
      to_faults BadDeclaration f = none_else BadDeclaration (λ e. cc) (λ e. cc) f

      from_faults : (cause : NameCause) → IsFaultOfJumps text lines place cause
          → IsFaultBefore text kept lines bound place cause
      from_faults UnknownLabel s =
          let at = some_at
          (λ one. JumpsTo (λ label. ¬ SomeOf (SameName text label) (labels_of lines)) place one.instruction) lines s in
          let below = got_below lines at.0 at.1 at.2 in
          record {
            number = at.0;
            line = at.1;
            below = omega (arith, below, whole);
            is = at.2;
            fault = jumps_map place (target_of at.1.instruction) (λ label h. unknown_then at.0 label h) at.3;
          }
      from_faults BackwardJump b =
          let here : slice_get lines (length b.before) ≡ Some b.line =
          ap (λ (ls : List (Line Symbol Name)). slice_get ls (length b.before)) b.is
          ∙ got_past b.before b.after b.line
          in
          let below = got_below lines (length b.before) b.line here in
          record {
            number = length b.before;
            line = b.line;
            below = omega (arith, below, whole);
            is = here;
            fault =
                jumps_map place (target_of b.line.instruction)
                (λ label s. back_then b.before b.after b.line b.is label s) b.jumps;
          }
      from_faults Unknown s = absurd s
      from_faults Twice s = absurd s
      from_faults BadAddress s = absurd s
      from_faults InputRangeTooSmall s = absurd s
      from_faults WrittenTwice s = absurd s
      from_faults NoTask s = absurd s
      from_faults WritesInput s = absurd s
      from_faults TooMany s = absurd s
      from_faults BadDeclaration s = absurd s

    -- the least fault of all lines is that of jumps
    pub all_jumps : (after : Option Found) (bound : ℕ) → length lines ≤ bound → (o : Option Found)
        → IsNextOf after (IsFaultBefore text kept lines bound) o → IsNextOf after (IsFaultOfJumps text lines) o
    all_jumps after bound whole o h =
        next_same after (IsFaultBefore text kept lines bound) (IsFaultOfJumps text lines) o
        (λ place cause f. to_faults bound whole place cause f)
        (λ place cause s. from_faults bound whole place cause s) h

-- with one line more
pub jumps_more : (after : Option Found) (text : List ℕ) (kept : Kept ℕ) (lines : List (Line Symbol Name)) (n : ℕ)
    (line : Line Symbol Name)
    → n < length lines → line ≡ get_or lines n line → (a b : Option Found)
    → IsNextOf after (IsFaultBefore text kept lines n) a → IsNextOf after (IsFaultOfJump text kept n line.instruction) b
    → IsNextOf after (IsFaultBefore text kept lines (n + 1)) (lesser_of_two a b)
jumps_more after text kept lines n line below is a b h k =
    let here : slice_get lines n ≡ Some line = got_at lines n line below is in
    next_same after _ _ (lesser_of_two a b)
    (λ place cause q.
    or_else
    (λ f. record {
      number = f.number;
      line = f.line;
      below = let low = f.below in omega (arith, low);
      is = f.is;
      fault = f.fault;
    })
    (λ g. record { number = n; line = line; below = omega arith; is = here; fault = g }) q)
    (λ place cause f.
    or_else
    (λ low. inl (record { number = f.number; line = f.line; below = low; is = f.is; fault = f.fault }))
    (λ e. inr (at_last place cause f e here)) (last_or_before f.number n f.below))
    (both_next after (IsFaultBefore text kept lines n) (IsFaultOfJump text kept n line.instruction) a b h k)
  where
    at_last : (place : ℕ) (cause : NameCause) (f : IsFaultBefore text kept lines (n + 1) place cause) → f.number ≡ n
        → slice_get lines n ≡ Some line → IsFaultOfJump text kept n line.instruction place cause
    at_last place cause f e here =
        let found : slice_get lines n ≡ Some f.line = ap (λ (m : ℕ). slice_get lines m) (sym e) ∙ f.is in
        let both : Some f.line ≡ Some line = sym found ∙ here in
        let same : f.line ≡ line = cc in
        subst (λ (one : Line Symbol Name). IsFaultOfJump text kept n one.instruction place cause) same
        (subst (λ (m : ℕ). IsFaultOfJump text kept m f.line.instruction place cause) e f.fault)

pub no_jump_before : (after : Option Found) (text : List ℕ) (kept : Kept ℕ) (lines : List (Line Symbol Name))
    → IsNextOf after (IsFaultBefore text kept lines 0) None
no_jump_before after text kept lines place cause f = let below = f.0.below in absurd (omega (arith, below))

-- the faults of labels of a program are those of labels that are given again, and of jumps
pub labels_of_program : (after : Option Found) (text : List ℕ) (lines : List (Line Symbol Name)) (a b : Option Found)
    → IsNextOf after (OfCause Twice (IsTwiceIn (folded text) (labels_of lines))) a → IsNextOf after
    (IsFaultOfJumps text lines) b
    → IsNextOf after (IsFaultOfLabels text lines) (lesser_of_two a b)
labels_of_program after text lines a b h k =
    next_same after _ (IsFaultOfLabels text lines) (lesser_of_two a b)
    (λ place cause q.
    or_else (λ t. subst (λ (c : NameCause). IsFaultOfLabels text lines place c) (sym t.0) t.1) (into place cause) q)
    from
    (both_next after (OfCause Twice (IsTwiceIn (folded text) (labels_of lines))) (IsFaultOfJumps text lines) a b h k)
  where
    into : (place : ℕ) (cause : NameCause) → IsFaultOfJumps text lines place cause
        → IsFaultOfLabels text lines place cause
    into place Unknown s = s
    into place Twice s = absurd s
    into place UnknownLabel s = s
    into place BackwardJump s = s
    into place BadAddress s = s
    into place InputRangeTooSmall s = s
    into place WrittenTwice s = s
    into place NoTask s = s
    into place WritesInput s = s
    into place TooMany s = s
    into place BadDeclaration s = s

    from : (place : ℕ) (cause : NameCause) → IsFaultOfLabels text lines place cause
        → OfCause Twice (IsTwiceIn (folded text) (labels_of lines)) place cause ⊎ IsFaultOfJumps text lines place cause
    from place Unknown s = inr s
    from place Twice s = inl (refl, s)
    from place UnknownLabel s = inr s
    from place BackwardJump s = inr s
    from place BadAddress s = inr s
    from place InputRangeTooSmall s = inr s
    from place WrittenTwice s = inr s
    from place NoTask s = inr s
    from place WritesInput s = inr s
    from place TooMany s = inr s
    from place BadDeclaration s = inr s
