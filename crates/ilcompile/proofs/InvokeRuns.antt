-- What the words of a call of a function do, and those of a tree, which may have calls.
use Rattle.std.proofs.Common.{◌≡◌, ℕ, zero, suc, ◌+◌, ◌<◌, ◌≤◌, List, [], ◌∷◌, ◌++◌, length, map, Bool, true, false}
use Rattle.std.proofs.Common.{cond, Option, Some, None, refl, sym, ap, ◌∙◌, subst, arith, length-append}
use Rattle.std.specs.Prelude.{slice_get, ◌&&◌, nat_lt}
use Rattle.std.specs.Option.{option_and_then}
use Rattle.std.proofs.lemmas.Bool.Decides.{nat_tests}
use Rattle.std.proofs.lemmas.List.{length-map}
use Rattle.limits.specs.Limits.{most_calls, most_nesting}
use Rattle.iltypes.specs.declared.value.IlType.{IlType}
use Rattle.iltypes.specs.declared.value.Value.{Value}
use Rattle.iltypes.specs.Slots.{is_of}
use Rattle.ilsource.specs.declared.operand.Operand.{Operand}
use Rattle.ilsource.specs.declared.nested.Action.TheVariants as actions
use Rattle.ilsource.specs.declared.nested.Piece.{Piece}
use Rattle.ilsource.specs.Functions.{are_of}
use Rattle.ilsource.specs.Meaning.{Access, operand_value, joined, operand_values, given, value}
use Rattle.ilsource.specs.Trees.{Tree, Load, Reload, Apply, Transform, Deferred, Call, piece, give_pieces}
use Rattle.ilsource.specs.Trees.{call_pieces}
use Rattle.ilsource.specs.Trees.{pieces_of, depth}
use Rattle.ilsource.specs.Uses.{uses_of_piece}
use Rattle.ilblocks.specs.Stores.{Store}
use Rattle.ilplan.specs.declared.place.Place.{Place}
use Rattle.ilplan.specs.declared.place.Place.TheVariants as places
use Rattle.ilplan.specs.Plans.{Nameable, IsGiven, Takes}
use Rattle.ilcode.specs.declared.nesting.Opened.{Opened}
use Rattle.ilcode.specs.declared.word.Target.TheVariants as variables
use Rattle.ilcode.specs.declared.word.Word.TheVariants as words
use Rattle.ilcode.specs.Listings.{Listing}
use Rattle.ilcode.specs.Steps.{Configuration, OpenCall, at, effect, invokes, open_call, opened}
use Rattle.ilcode.specs.Steps.{value_of, with_store}
use Rattle.ilcompile.specs.Layout.{Numbers, operand_of, place_in_code, placed_or, word_of}
use Rattle.ilcompile.proofs.Named.{AreNamed, IsOperand}
use Rattle.ilcompile.proofs.Stands.{HasAt, has_front, has_back}
use Rattle.ilcompile.proofs.Sizes.{call_long, gives_long}
use Rattle.ilcompile.proofs.Slots.{Holds, holds_front, get_set_here, set_long}
use Rattle.ilcompile.proofs.Reaches.{Reaches, Stuck, Calm, Region, reaches_then, stuck_later, one_word, stuck_here}
use Rattle.ilcompile.proofs.Shows.{Shows, Callee, Returns, Kept, kept_then, kept_wider, input_types}
use Rattle.ilcompile.proofs.Gives.{Fills, AllGood, GiveWords, all_values, filled, gives_run, stores_value, value_kept}
use Rattle.ilcompile.proofs.Gives.{with_value}
use Rattle.ilcompile.proofs.TreeRuns.{Gives, gives_at, gives_later, operand_same, load_gives, then_load, then_apply}
use Rattle.ilcompile.proofs.TreeRuns.{then_transform, then_deferred}

module _ {S : Type 0} (code : Listing) (numbers : Numbers) (base hi : ℕ) (calls : List OpenCall) (a : Access Place S)
    (Sees : S → Store → Type 0) (names : Nameable) (May : ℕ → Type 0)
    (shows : Shows code numbers base hi calls a Sees names May) (start end : ℕ)
    (region : Region code calls start end) (within : hi ≤ length code.slots) where
  abbrev IsRead : Operand Place → Type 0
  IsRead o = IsOperand numbers.constants names May o

  abbrev ValueAt : Configuration → ℕ → S → List Opened → Option Value → Type 0
  ValueAt = Gives code numbers base hi calls a Sees names May shows start end region

  -- the words of pieces stand from this place on, and what they name is there
  abbrev pub HasPieces : ℕ → List (Piece Place) → Type 0
  HasPieces p ps =
      HasAt (λ x. word_of numbers x.action) (λ x. AreNamed numbers.constants names May (uses_of_piece x))
      code.instructions p ps

  pieces_front : (p : ℕ) (ps qs : List (Piece Place)) → HasPieces p (ps ++ qs) → HasPieces p ps
  pieces_front p ps qs h =
      has_front (λ x. word_of numbers x.action) (λ x. AreNamed numbers.constants names May (uses_of_piece x))
      code.instructions p ps qs h

  pieces_back : (p : ℕ) (ps qs : List (Piece Place)) → HasPieces p (ps ++ qs) → HasPieces (p + length ps) qs
  pieces_back p ps qs h =
      has_back (λ x. word_of numbers x.action) (λ x. AreNamed numbers.constants names May (uses_of_piece x))
      code.instructions p ps qs h

  -- ---- operands that are given

  module _ (s : S) (t : Store) (r : Option Value) (n : List Opened) (sees : Sees s t) where
    reads : (o : Operand Place) → IsRead o → (u : Store) → Kept base hi t u
        → value_of code u (operand_of numbers o) ≡ operand_value a s o
    reads o is u same =
        operand_same code numbers base hi calls a Sees names May shows start end region s u o (shows.kept s t u sees
        same)
        is

    abbrev AllRead : List (Operand Place) → Type 0
    AllRead os = AllGood code calls start end region r n (operand_of numbers) (operand_value a s) IsRead base hi t
        reads os

    all_read : (at : ℕ) (f : Place) (k : ℕ) (os : List (Operand Place)) (p : ℕ) → HasPieces p (give_pieces at f k os)
        → AllRead os
    all_read at f k [] p has = tt
    all_read at f k (o ∷ os) p has = (has.1.0, all_read at f (k + 1) os (p + 1) has.2)

    give_words : (at : ℕ) (f : Place) (first k : ℕ) (os : List (Operand Place)) (p slot : ℕ)
        → (place_in_code numbers f).first ≡ first → first + k ≡ slot → HasPieces p (give_pieces at f k os)
        → GiveWords code calls start end region r n (operand_of numbers) (operand_value a s) IsRead base hi t reads p
        slot
        os
    give_words at f first k [] p slot e z has = tt
    give_words at f first k (o ∷ os) p slot e z has =
        let here : (place_in_code numbers f).first + k ≡ slot = omega arith in (
          has.0 ∙ ap (λ x. Some (words.Give (operand_of numbers o) x)) here,
          give_words at f first (k + 1) os (p + 1) (slot + 1) e (omega arith) has.2,
        )

    values_same : (os : List (Operand Place))
        → all_values code calls start end region r n (operand_of numbers) (operand_value a s) IsRead base hi t reads os
        ≡ operand_values a s os
    values_same [] = refl
    values_same (o ∷ os) = ap (joined (operand_value a s o)) (values_same os)

  values_long : (s : S) (xs : List (Operand Place)) (vs : List Value) → operand_values a s xs ≡ Some vs
      → length vs ≡ length xs
  values_long s [] vs e = let q : [] ≡ vs = cc in ap length (sym q)
  values_long s (x ∷ xs) vs e = by (operand_value a s x) (operand_values a s xs) refl e (values_long s xs)
    where
      by : (h : Option Value) (q : Option (List Value)) → operand_values a s xs ≡ q → joined h q ≡ Some vs
          → ((ws : List Value) → operand_values a s xs ≡ Some ws → length ws ≡ length xs) → length vs ≡ length (x ∷ xs)
      by None q f g k = absurd cc
      by (Some y) None f g k = absurd cc
      by (Some y) (Some ws) f g k =
          let m : y ∷ ws ≡ vs = cc in let long = k ws f in let e = ap length m in omega (arith, long, e)

  -- ---- calls

  -- a function comes back, after the arguments were stored
  come_back : (c d : Configuration) (p : ℕ) (s : S) (t u : Store) (n : List Opened) (o : Option Value) → Sees s t
      → Kept base hi t u → Reaches code c d → Returns code d base hi p u n calls o → ValueAt c p s n o
  come_back c d p s t u n None sees same l h = stuck_later code c d l h
  come_back c d p s t u n (Some v) sees same l h = (
    h.0,
    shows.kept s t h.0 sees (kept_then base hi t u h.0 same h.1),
    reaches_then code c d (at p h.0 (Some v) n calls) l h.2,
  )

  -- the current result is stored to the first input, operands are given to the others, and the function is called
  module _ (k f : ℕ) (os : List (Operand Place))
      (callee : Callee code numbers.functions base hi calls f (length os + 1) (a.give (places.Function f)))
      (p : ℕ) (s : S) (t : Store) (v : Value) (n : List Opened) (sees : Sees s t)
      (has : HasPieces p (call_pieces k (places.Function f) os)) (le : p + (length os + 2) ≤ end) (low : start ≤ p)
      (calm : Calm code p t (Some v) n calls) where
    abbrev name : Place
    name = places.Function f

    abbrev first : ℕ
    first = callee.served.stands.first

    abbrev inputs : List IlType
    inputs = input_types callee.function

    stands : place_in_code numbers name ≡ callee.served.stands
    stands = ap placed_or callee.served.is_placed

    first_is : (place_in_code numbers name).first ≡ first
    first_is = ap (λ x. x.first) stands

    abbrev c : Configuration
    c = at p t (Some v) n calls

    -- the place after the call
    abbrev back : ℕ
    back = p + 1 + length os + 1

    abbrev result : Option Value
    result = option_and_then (a.give name) (joined (Some v) (operand_values a s os))

    stores : slice_get code.instructions p ≡ Some (words.Store false (variables.Slot first))
    stores = has.0 ∙ ap (λ x. Some (words.Store false (variables.Slot x))) first_is

    invoke_word : slice_get code.instructions (p + 1 + length os) ≡ Some (words.Invoke callee.served.stands.number)
    invoke_word =
        subst (λ x. slice_get code.instructions (p + 1 + x) ≡ Some (words.Invoke callee.served.stands.number))
        (gives_long k name 1 os)
        ((pieces_back (p + 1) (give_pieces k name 1 os) (piece k (actions.Invoke name) ∷ []) has.2).0
        ∙ ap (λ x. Some (words.Invoke (x.number))) stands)

    -- the call is carried out
    invoked : (u : Store) (w : Value)
        → effect code (at (p + 1 + length os) u (Some w) n calls) (words.Invoke callee.served.stands.number)
        ≡ Some (at callee.served.body.start u None [] (open_call callee.served.stands.number back n ∷ calls))
    invoked u w =
        let d = at (p + 1 + length os) u (Some w) n calls in
        let deep = callee.served.some in
        let room = callee.room in
        let less : nat_lt (length calls) most_calls ≡ true = grind (arith, nat_tests) in
        let entered = Some (at callee.served.body.start u None []
        (open_call callee.served.stands.number back n ∷ calls)) in
        ap (invokes d callee.served.stands.number) callee.served.is
        ∙ (ap (λ b. cond (b && nat_lt (length calls) most_calls) entered None) callee.callable
        ∙ ap (λ b. cond b entered None) less)

    inputs_typed : Holds code.slots first inputs
    inputs_typed =
        holds_front code.slots first inputs (map (λ v. v.value_type) callee.function.variables) callee.served.typed

    many : length inputs ≡ length os + 1
    many = length-map callee.function.inputs (λ i. i.value_type) ∙ callee.inputs

    inputs_within : first + length inputs ≤ hi
    inputs_within =
        let others = map (λ v. v.value_type) callee.function.variables in
        let e = length-append inputs others in
        let h : first + length (inputs ++ others) ≤ hi = callee.served.to in
        omega (arith, e, h)

    -- all arguments stand in the inputs
    entered_with : (u : Store) (vs : List Value) → Kept base hi t u → length vs ≡ length os
        → are_of inputs (v ∷ vs) ≡ true → Holds u.slots first (v ∷ vs)
        → Reaches code c (at (p + 1 + length os) u (Some v) n calls) → ValueAt c back s n (a.give name (v ∷ vs))
    entered_with u vs same long typed held l =
        let d = at (p + 1 + length os) u (Some v) n calls in
        let e = at callee.served.body.start u None []
        (open_call callee.served.stands.number back n ∷ calls) in
        let enter = one_word code calls start end region (p + 1 + length os) u (Some v) n e
        (words.Invoke callee.served.stands.number) (omega arith)
        (region.quiet (p + 1 + length os) u (Some v) n (omega arith) (omega arith)) invoke_word (invoked u v) in
        let size = same.slots.long ∙ shows.long s t sees in
        come_back c e back s t u n (a.give name (v ∷ vs)) sees same (reaches_then code c d e l enter)
        (callee.served.runs calls back n u (v ∷ vs) size callee.room (let i = callee.inputs in omega arith) typed held)

    module _ (ty : IlType) (tys : List IlType) (are : inputs ≡ ty ∷ tys) where
      ty_here : slice_get code.slots first ≡ Some ty
      ty_here =
          let e = ap length are in
          let z : first ≡ first + 0 = omega arith in
          ap (slice_get code.slots) z ∙ (inputs_typed 0 (omega arith) ∙ ap (λ x. slice_get x 0) are)

      tys_here : Holds code.slots (first + 1) tys
      tys_here i l =
          let e = ap length are in
          let z : first + 1 + i ≡ first + suc i = omega arith in
          ap (slice_get code.slots) z ∙ (inputs_typed (suc i) (omega arith) ∙ ap (λ x. slice_get x (suc i)) are)

      size : length t.slots ≡ length code.slots
      size = shows.long s t sees

      handed : (b : Bool) → is_of ty v ≡ b
          → effect code c (words.Store false (variables.Slot first))
          ≡ with_store c (cond b (Some (with_value t first v)) None)
      handed b e = ap (with_store c) (stores_value code t first v ty b ty_here e)

      -- where an argument is not of its type, there is no value
      refused : (vs : List Value) → length vs ≡ length os → are_of (ty ∷ tys) (v ∷ vs) ≡ false
          → a.give name (v ∷ vs) ≡ None
      refused vs long e =
          let i = callee.inputs in
          callee.served.strict (v ∷ vs) (omega arith) (ap (λ x. are_of x (v ∷ vs)) are ∙ e)

      -- after the first argument
      after_first : (t1 : Store) → Kept base hi t t1 → slice_get t1.slots first ≡ Some v → is_of ty v ≡ true
          → Reaches code c (at (p + 1) t1 (Some v) n calls) → (o : Option (List Value)) → operand_values a s os ≡ o
          → Fills code calls start end region (Some v) n (at (p + 1) t1 (Some v) n calls) (p + 1 + length os) (first
          + 1)
          (length os) t1 (filled tys o)
          → ValueAt c back s n (option_and_then (a.give name) (joined (Some v) o))
      after_first t1 same here typed l None e h = stuck_later code c (at (p + 1) t1 (Some v) n calls) l h
      after_first t1 same here typed l (Some vs) e h = by (are_of tys vs) refl h
        where
          d : Configuration
          d = at (p + 1) t1 (Some v) n calls

          long : length vs ≡ length os
          long = values_long s os vs e

          held : (u : Store) → slice_get u.slots first ≡ Some v → Holds u.slots (first + 1) vs
              → Holds u.slots first (v ∷ vs)
          held u f g zero q = let z : first + 0 ≡ first = omega arith in ap (slice_get u.slots) z ∙ f
          held u f g (suc i) q =
              let z : first + suc i ≡ first + 1 + i = omega arith in ap (slice_get u.slots) z ∙ g i (omega arith)

          by : (b : Bool) → are_of tys vs ≡ b
              → Fills code calls start end region (Some v) n d (p + 1 + length os) (first + 1) (length os) t1
              (cond b (Some vs) None)
              → ValueAt c back s n (a.give name (v ∷ vs))
          by false q h =
              subst (ValueAt c back s n) (sym (refused vs long (ap (λ x. x && are_of tys vs) typed ∙ q)))
              (stuck_later code c d l h)
          by true q h =
              let u = h.0 in
              let from : base ≤ first = callee.served.from in
              let wide : first + length inputs ≤ hi = inputs_within in
              let counted : length inputs ≡ length os + 1 = many in
              let lt : first < first + 1 = omega arith in
              entered_with u vs
              (kept_then base hi t t1 u same
              (kept_wider (first + 1) (first + 1 + length os) base hi t1 u (omega arith) (omega arith) h.2))
              long (ap (λ x. are_of x (v ∷ vs)) are ∙ (ap (λ x. x && are_of tys vs) typed ∙ q))
              (held u (h.2.slots.below first lt ∙ here) h.1)
              (reaches_then code c d (at (p + 1 + length os) u (Some v) n calls) l h.3)

      by_first : (b : Bool) → is_of ty v ≡ b → ValueAt c back s n result
      by_first false e = by (operand_values a s os) refl
        where
          halt : Stuck code c
          halt =
              stuck_here code calls start end region p t (Some v) n (words.Store false (variables.Slot first)) (omega
              arith)
              calm stores (handed false e)

          by : (o : Option (List Value)) → operand_values a s os ≡ o
              → ValueAt c back s n (option_and_then (a.give name) (joined (Some v) o))
          by None q = halt
          by (Some vs) q =
              subst (ValueAt c back s n)
              (sym (refused vs (values_long s os vs q) (ap (λ x. x && are_of tys vs) e))) halt
      by_first true e =
          let from : base ≤ first = callee.served.from in
          let wide : first + length inputs ≤ hi = inputs_within in
          let counted : length inputs ≡ length os + 1 = many in
          let rest : length inputs ≡ suc (length tys) = ap length are in
          let t1 = with_value t first v in
          let d = at (p + 1) t1 (Some v) n calls in
          let one = value_kept base hi t first v from (omega arith) in
          let l = one_word code calls start end region p t (Some v) n d (words.Store false (variables.Slot first))
          (omega arith) calm stores (handed true e) in
          let sized : length t.slots ≡ length code.slots = size in
          let mine = pieces_front (p + 1) (give_pieces k name 1 os) (piece k (actions.Invoke name) ∷ []) has.2 in
          let fills = gives_run code calls start end region (Some v) n (operand_of numbers) (operand_value a s)
          IsRead base
          hi t (reads s t (Some v) n sees) os tys (p + 1) (first + 1) t1 one
          (all_read s t (Some v) n sees k name 1 os (p + 1) mine)
          (give_words s t (Some v) n sees k name first 1 os (p + 1) (first + 1) first_is refl mine)
          tys_here (omega arith) (omega arith) (omega arith) (omega arith) (set_long t.slots first v ∙ size)
          (omega arith) (omega arith) (λ u lt. region.quiet (p + 1) u (Some v) n (omega arith) lt) in
          after_first t1 one (get_set_here t.slots first v (omega arith)) e l (operand_values a s os) refl
          (subst
          (λ x. Fills code calls start end region (Some v) n d (p + 1 + length os) (first + 1) (length os) t1
          (filled tys x))
          (values_same s t (Some v) n sees os) fills)

    call_gives_by : (ts : List IlType) → inputs ≡ ts → ValueAt c back s n result
    call_gives_by [] e = let q = ap length e in let m = many in absurd (omega arith)
    call_gives_by (ty ∷ tys) e = by_first ty tys e (is_of ty v) refl

    call_gives : ValueAt c (p + (length os + 2)) s n result
    call_gives =
        gives_at code numbers base hi calls a Sees names May shows start end region c back (p + (length os + 2)) s n
        result
        (omega arith) (call_gives_by inputs refl)

  -- a call, whatever the result was: without one it is stuck
  pub call_runs : (k f : ℕ) (os : List (Operand Place)) (p : ℕ) (s : S) (t : Store) (r : Option Value)
      (n : List Opened) → Sees s t → May f → Takes names (places.Function f) (length os + 1)
      → HasPieces p (call_pieces k (places.Function f) os) → p + (length os + 2) ≤ end → start ≤ p
      → Calm code p t r n calls
      → ValueAt (at p t r n calls) (p + (length os + 2)) s n
      (given a (places.Function f) r (operand_values a s os))
  call_runs k f os p s t None n sees may takes has le low calm =
      stuck_here code calls start end region p t None n
      (words.Store false (variables.Slot ((place_in_code numbers (places.Function f)).first))) (omega arith) calm has.0
      refl
  call_runs k f os p s t (Some v) n sees may takes has le low calm =
      call_gives k f os (shows.callee f (length os + 1) may takes) p s t v n sees has le low calm

  -- a value, and then a call
  then_call : (k f : ℕ) (os : List (Operand Place)) (c : Configuration) (p : ℕ) (s : S) (n : List Opened)
      (o : Option Value) → May f → Takes names (places.Function f) (length os + 1)
      → HasPieces p (call_pieces k (places.Function f) os) → p + (length os + 2) ≤ end → start < p → ValueAt c p s n o
      → ValueAt c (p + (length os + 2)) s n (given a (places.Function f) o (operand_values a s os))
  then_call k f os c p s n None may takes has le low g = g
  then_call k f os c p s n (Some v) may takes has le low g =
      gives_later code numbers base hi calls a Sees names May shows start end region c (at p g.0 (Some v) n calls)
      (p + (length os + 2)) s n (given a (places.Function f) (Some v) (operand_values a s os)) g.2
      (call_runs k f os p s g.0 (Some v) n g.1 may takes has le (omega arith)
      (region.quiet p g.0 (Some v) n low (omega arith)))

  -- ---- trees

  -- a call in a tree names a function
  tree_call : (t : Tree Place) (k : ℕ) (f : Place) (os : List (Operand Place)) (c : Configuration) (p : ℕ) (s : S)
      (n : List Opened) → Takes names f (length os + 1) → HasPieces p (call_pieces k f os) → p + (length os + 2) ≤ end
      → start < p → ValueAt c p s n (value a s t)
      → ValueAt c (p + (length os + 2)) s n (value a s (Call t k f os))
  tree_call t k (places.Function f) os c p s n takes has le low g =
      then_call k f os c p s n (value a s t) has.1.0 takes has le low g
  tree_call t k (places.Slot slot) os c p s n takes has le low g = absurd takes
  tree_call t k (places.Port block port) os c p s n takes has le low g = absurd takes
  tree_call t k (places.Block block) os c p s n takes has le low g = absurd takes

  -- the words of a tree give its value
  pub tree_runs : (t : Tree Place) (p : ℕ) (s : S) (store : Store) (r : Option Value) (n : List Opened) → Sees s store
      → IsGiven names t → HasPieces p (pieces_of t) → length n + depth t ≤ most_nesting
      → p + length (pieces_of t) ≤ end → start < p
      → ValueAt (at p store r n calls) (p + length (pieces_of t)) s n (value a s t)
  tree_runs (Load k negated x) p s store r n sees fits has few le low =
      load_gives code numbers base hi calls a Sees names May shows start end region p s store n sees (omega arith)
      negated
      x r has.1.0 (region.quiet p store r n low (omega arith)) has.0
  tree_runs (Reload t k negated x) p s store r n sees fits has few le low =
      let last = piece k (actions.Load negated x) ∷ [] in
      let e = length-append (pieces_of t) last in
      let back = pieces_back p (pieces_of t) last has in
      let q : p + length (pieces_of t) + 1 ≡ p + length (pieces_of t ++ last) = omega arith in
      gives_at code numbers base hi calls a Sees names May shows start end region (at p store r n calls) _ _ s n
      (value a s (Reload t k negated x)) q
      (then_load code numbers base hi calls a Sees names May shows start end region (at p store r n calls)
      (p + length (pieces_of t)) s n negated x (value a s t) back.1.0 (omega arith) (omega arith) back.0
      (tree_runs t p s store r n sees fits (pieces_front p (pieces_of t) last has) few (omega arith) low))
  tree_runs (Apply t k operator x) p s store r n sees fits has few le low =
      let last = piece k (actions.Apply operator x) ∷ [] in
      let e = length-append (pieces_of t) last in
      let back = pieces_back p (pieces_of t) last has in
      let q : p + length (pieces_of t) + 1 ≡ p + length (pieces_of t ++ last) = omega arith in
      gives_at code numbers base hi calls a Sees names May shows start end region (at p store r n calls) _ _ s n
      (value a s (Apply t k operator x)) q
      (then_apply code numbers base hi calls a Sees names May shows start end region (at p store r n calls)
      (p + length (pieces_of t)) s n operator x (value a s t) back.1.0 (omega arith) (omega arith) back.0
      (tree_runs t p s store r n sees fits (pieces_front p (pieces_of t) last has) few (omega arith) low))
  tree_runs (Transform t k function) p s store r n sees fits has few le low =
      let last = piece k (actions.Transform function) ∷ [] in
      let e = length-append (pieces_of t) last in
      let back = pieces_back p (pieces_of t) last has in
      let q : p + length (pieces_of t) + 1 ≡ p + length (pieces_of t ++ last) = omega arith in
      gives_at code numbers base hi calls a Sees names May shows start end region (at p store r n calls) _ _ s n
      (value a s (Transform t k function)) q
      (then_transform code numbers base hi calls a Sees names May shows start end region (at p store r n calls)
      (p + length (pieces_of t)) s n function (value a s t) (omega arith) (omega arith) back.0
      (tree_runs t p s store r n sees fits (pieces_front p (pieces_of t) last has) few (omega arith) low))
  tree_runs (Deferred t k operator u close) p s store r n sees fits has few le low =
      let last = piece close actions.Close ∷ [] in
      let inside = piece k (actions.Open operator) ∷ (pieces_of u ++ last) in
      let m = p + length (pieces_of t) in
      let q = m + 1 + length (pieces_of u) in
      let e = length-append (pieces_of t) inside in
      let f = length-append (pieces_of u) last in
      let z : q + 1 ≡ p + length (pieces_of t ++ inside) = omega arith in
      let rest = pieces_back p (pieces_of t) inside has in
      gives_at code numbers base hi calls a Sees names May shows start end region (at p store r n calls) _ _ s n
      (value a s (Deferred t k operator u close)) z
      (then_deferred code numbers base hi calls a Sees names May shows start end region (at p store r n calls) m q s n
      operator (value a s t) (value a s u)
      (λ v w. region.quiet m w (Some v) n (omega arith) (omega arith)) (omega arith) (omega arith) (omega arith) rest.0
      (pieces_back (m + 1) (pieces_of u) last rest.2).0 (omega arith)
      (λ v w seen. tree_runs u (m + 1) s w None (opened operator v ∷ n) seen fits.1
      (pieces_front (m + 1) (pieces_of u) last rest.2) (omega arith) (omega arith) (omega arith))
      (tree_runs t p s store r n sees fits.0 (pieces_front p (pieces_of t) inside has) (omega arith) (omega arith) low))
  tree_runs (Call t k f os) p s store r n sees fits has few le low =
      let mine = call_pieces k f os in
      let e = length-append (pieces_of t) mine in
      let long = call_long k f os in
      let q : p + length (pieces_of t) + (length os + 2) ≡ p + length (pieces_of t ++ mine) = omega arith in
      gives_at code numbers base hi calls a Sees names May shows start end region (at p store r n calls) _ _ s n
      (value a s (Call t k f os)) q
      (tree_call t k f os (at p store r n calls) (p + length (pieces_of t)) s n fits.1
      (pieces_back p (pieces_of t) mine has) (omega arith) (omega arith)
      (tree_runs t p s store r n sees fits.0 (pieces_front p (pieces_of t) mine has) few (omega arith) low))
