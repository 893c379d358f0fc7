-- What the words of values do, over any store that shows in the code's: they give the value, or the run is stuck at one
-- of them.
use Rattle.std.proofs.Common.{◌≡◌, ℕ, ◌+◌, ◌<◌, List, ◌∷◌, length, Bool, true, cond, Option, Some, None}
use Rattle.std.proofs.Common.{refl, sym, ap, ◌∙◌, subst, arith}
use Rattle.std.specs.Prelude.{slice_get, nat_lt}
use Rattle.std.specs.Option.{option_map, option_and_then}
use Rattle.std.proofs.lemmas.Bool.Decides.{nat_tests}
use Rattle.limits.specs.Limits.{most_nesting}
use Rattle.iltypes.specs.declared.value.Value.{Value}
use Rattle.iltypes.specs.declared.function.Function.{Function}
use Rattle.iltypes.specs.declared.operator.Operator.{Operator}
use Rattle.iltypes.specs.Functions.{modified, value_of_function}
use Rattle.iltypes.specs.Operators.{both}
use Rattle.ilsource.specs.declared.operand.Operand.{Operand}
use Rattle.ilsource.specs.declared.operand.Operand.TheVariants.{Name, Constant}
use Rattle.ilsource.specs.Meaning.{Access, operand_value, loaded, second}
use Rattle.ilblocks.specs.Stores.{Store}
use Rattle.ilplan.specs.declared.place.Place.{Place}
use Rattle.ilplan.specs.Plans.{Nameable}
use Rattle.ilcode.specs.declared.nesting.Opened.{Opened}
use Rattle.ilcode.specs.declared.word.Word.{Word}
use Rattle.ilcode.specs.declared.word.Word.TheVariants as words
use Rattle.ilcode.specs.Listings.{Listing}
use Rattle.ilcode.specs.Steps.{Configuration, OpenCall, at, opened, opens, effect, value_of}
use Rattle.ilcompile.specs.Layout.{Numbers, constant_number, operand_of}
use Rattle.ilcompile.proofs.Named.{IsOperand}
use Rattle.ilcompile.proofs.Reaches.{Reaches, Stuck, Calm, Region, reaches_then, stuck_later, one_word, stuck_here}
use Rattle.ilcompile.proofs.Shows.{Shows}

module _ {S : Type 0} (code : Listing) (numbers : Numbers) (base hi : ℕ) (calls : List OpenCall) (a : Access Place S)
    (Sees : S → Store → Type 0) (names : Nameable) (May : ℕ → Type 0)
    (shows : Shows code numbers base hi calls a Sees names May) (start end : ℕ)
    (region : Region code calls start end) where
  abbrev IsRead : Operand Place → Type 0
  IsRead o = IsOperand numbers.constants names May o

  -- a value, after which the run stands at a place with what shows this store and these parentheses open; or it is
  -- stuck
  abbrev pub Gives : Configuration → ℕ → S → List Opened → Option Value → Type 0
  Gives c p s n None = Stuck code c
  Gives c p s n (Some v) = (t : Store) × Sees s t × Reaches code c (at p t (Some v) n calls)

  pub gives_at : (c : Configuration) (p q : ℕ) (s : S) (n : List Opened) (o : Option Value) → p ≡ q → Gives c p s n o
      → Gives c q s n o
  gives_at c p q s n o e g = subst (λ x. Gives c x s n o) e g

  pub gives_later : (c d : Configuration) (p : ℕ) (s : S) (n : List Opened) (o : Option Value) → Reaches code c d
      → Gives d p s n o → Gives c p s n o
  gives_later c d p s n None l g = stuck_later code c d l g
  gives_later c d p s n (Some v) l g = (g.0, g.1, reaches_then code c d (at p g.0 (Some v) n calls) l g.2)

  -- one word that gives a value
  pub value_word : (p : ℕ) (s : S) (t : Store) (r : Option Value) (n m : List Opened) (o : Option Value) (w : Word)
      → Sees s t → p < end → Calm code p t r n calls → slice_get code.instructions p ≡ Some w
      → effect code (at p t r n calls) w ≡ option_map (λ v. at (p + 1) t (Some v) m calls) o
      → Gives (at p t r n calls) (p + 1) s m o
  value_word p s t r n m None w sees lt calm is e = stuck_here code calls start end region p t r n w lt calm is e
  value_word p s t r n m (Some v) w sees lt calm is e =
      (t, sees, one_word code calls start end region p t r n (at (p + 1) t (Some v) m calls) w lt calm is e)

  pub operand_same : (s : S) (t : Store) (o : Operand Place) → Sees s t → IsRead o
      → value_of code t (operand_of numbers o) ≡ operand_value a s o
  operand_same s t (Name place) sees is = shows.read s t sees place is
  operand_same s t (Constant v) sees is =
      ap (λ cs. slice_get cs (constant_number numbers.constants v)) (sym shows.constants) ∙ is

  module _ (p : ℕ) (s : S) (t : Store) (n : List Opened) (sees : Sees s t) (lt : p < end) where
    abbrev on : Value → Configuration
    on v = at (p + 1) t (Some v) n calls

    -- a load, whatever the result was
    pub load_gives : (negated : Bool) (o : Operand Place) (r : Option Value) → IsRead o → Calm code p t r n calls
        → slice_get code.instructions p ≡ Some (words.Load negated (operand_of numbers o))
        → Gives (at p t r n calls) (p + 1) s n (loaded a s negated o)
    load_gives negated o r named calm is =
        value_word p s t r n n (loaded a s negated o) (words.Load negated (operand_of numbers o)) sees lt calm is
        (ap (λ x. option_map on (option_and_then (modified negated) x)) (operand_same s t o sees named))

    -- an operator
    pub apply_gives : (operator : Operator) (o : Operand Place) (r : Option Value) → IsRead o
        → Calm code p t r n calls → slice_get code.instructions p ≡ Some (words.Apply operator (operand_of numbers o))
        → Gives (at p t r n calls) (p + 1) s n (both operator r (operand_value a s o))
    apply_gives operator o r named calm is =
        value_word p s t r n n (both operator r (operand_value a s o)) (words.Apply operator (operand_of numbers o))
        sees lt calm is (ap (λ x. option_map on (both operator r x)) (operand_same s t o sees named))

    pub transform_gives : (function : Function) (r : Option Value) → Calm code p t r n calls
        → slice_get code.instructions p ≡ Some (words.Transform function)
        → Gives (at p t r n calls) (p + 1) s n (option_and_then (value_of_function function) r)
    transform_gives function r calm is =
        value_word p s t r n n (option_and_then (value_of_function function) r) (words.Transform function) sees lt calm
        is refl

  -- a value, and then one word more
  pub then_load : (c : Configuration) (p : ℕ) (s : S) (n : List Opened) (negated : Bool) (x : Operand Place)
      (o : Option Value) → IsRead x → start < p → p < end
      → slice_get code.instructions p ≡ Some (words.Load negated (operand_of numbers x)) → Gives c p s n o
      → Gives c (p + 1) s n (second o (loaded a s negated x))
  then_load c p s n negated x None named low lt is g = g
  then_load c p s n negated x (Some v) named low lt is g =
      gives_later c (at p g.0 (Some v) n calls) (p + 1) s n (loaded a s negated x) g.2
      (load_gives p s g.0 n g.1 lt negated x (Some v) named (region.quiet p g.0 (Some v) n low lt) is)

  pub then_apply : (c : Configuration) (p : ℕ) (s : S) (n : List Opened) (operator : Operator) (x : Operand Place)
      (o : Option Value) → IsRead x → start < p → p < end
      → slice_get code.instructions p ≡ Some (words.Apply operator (operand_of numbers x)) → Gives c p s n o
      → Gives c (p + 1) s n (both operator o (operand_value a s x))
  then_apply c p s n operator x None named low lt is g = g
  then_apply c p s n operator x (Some v) named low lt is g =
      gives_later c (at p g.0 (Some v) n calls) (p + 1) s n (both operator (Some v) (operand_value a s x)) g.2
      (apply_gives p s g.0 n g.1 lt operator x (Some v) named (region.quiet p g.0 (Some v) n low lt) is)

  pub then_transform : (c : Configuration) (p : ℕ) (s : S) (n : List Opened) (function : Function) (o : Option Value)
      → start < p → p < end → slice_get code.instructions p ≡ Some (words.Transform function) → Gives c p s n o
      → Gives c (p + 1) s n (option_and_then (value_of_function function) o)
  then_transform c p s n function None low lt is g = g
  then_transform c p s n function (Some v) low lt is g =
      gives_later c (at p g.0 (Some v) n calls) (p + 1) s n (value_of_function function v) g.2
      (transform_gives p s g.0 n g.1 lt function (Some v) (region.quiet p g.0 (Some v) n low lt) is)

  room : (c : Configuration) (operator : Operator) (v : Value) → length c.nesting < most_nesting
      → opens c operator (Some v) ≡ Some (at (c.place + 1) c.store None (opened operator v ∷ c.nesting) c.calls)
  room c operator v h =
      let t : nat_lt (length c.nesting) most_nesting ≡ true = grind (arith, nat_tests) in
      ap (λ b. cond b (Some (at (c.place + 1) c.store None (opened operator v ∷ c.nesting) c.calls)) None) t

  closed : (c : Configuration) (p : ℕ) (s : S) (n : List Opened) (operator : Operator) (v : Value) (o : Option Value)
      → start < p → p < end → slice_get code.instructions p ≡ Some words.Close → Gives c p s (opened operator v ∷ n) o
      → Gives c (p + 1) s n (both operator (Some v) o)
  closed c p s n operator v None low lt is g = g
  closed c p s n operator v (Some w) low lt is g =
      let m = opened operator v ∷ n in
      gives_later c (at p g.0 (Some w) m calls) (p + 1) s n (both operator (Some v) (Some w)) g.2
      (value_word p s g.0 (Some w) m n (both operator (Some v) (Some w)) words.Close g.1 lt
      (region.quiet p g.0 (Some w) m low lt) is refl)

  -- a value, and then an operator with parentheses
  pub then_deferred : (c : Configuration) (p q : ℕ) (s : S) (n : List Opened) (operator : Operator)
      (o inner : Option Value) → ((v : Value) (t : Store) → Calm code p t (Some v) n calls) → p < end → start < q
      → q < end → slice_get code.instructions p ≡ Some (words.Open operator)
      → slice_get code.instructions q ≡ Some words.Close → length n < most_nesting
      → ((v : Value) (t : Store) → Sees s t
      → Gives (at (p + 1) t None (opened operator v ∷ n) calls) q s (opened operator v ∷ n) inner)
      → Gives c p s n o → Gives c (q + 1) s n (both operator o inner)
  then_deferred c p q s n operator None inner calm lp after lq is_open is_close few run g = g
  then_deferred c p q s n operator (Some v) inner calm lp after lq is_open is_close few run g =
      let t = g.0 in
      let d = at p t (Some v) n calls in
      let e = at (p + 1) t None (opened operator v ∷ n) calls in
      let word = one_word code calls start end region p t (Some v) n e (words.Open operator) lp (calm v t) is_open
      (room d operator v few) in
      gives_later c e (q + 1) s n (both operator (Some v) inner) (reaches_then code c d e g.2 word)
      (closed e q s n operator v inner after lq is_close (run v t g.1))
