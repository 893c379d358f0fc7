-- What the words that store to places and call block instances do, over any store that shows in the code's.
use Rattle.std.proofs.Common.{◌≡◌, ℕ, ◌+◌, ◌<◌, ◌≤◌, List, [], ◌∷◌, length, Option, Some, None, refl, ap}
use Rattle.std.proofs.Common.{subst, arith}
use Rattle.std.specs.Prelude.{slice_get}
use Rattle.std.specs.Option.{option_map, option_and_then}
use Rattle.iltypes.specs.declared.value.Value.{Value}
use Rattle.ilsource.specs.declared.arguments.Argument.{Argument}
use Rattle.ilsource.specs.declared.operand.Operand.TheVariants.{Name}
use Rattle.ilsource.specs.declared.uses.Purpose.TheVariants.{Call, Pass}
use Rattle.ilsource.specs.Uses.{uses_of_argument}
use Rattle.ilsource.specs.Meaning.{Access, operand_value, passed, called}
use Rattle.ilblocks.specs.Stores.{Store}
use Rattle.ilblocks.specs.Stores as stores
use Rattle.ilplan.specs.declared.place.Place.{Place}
use Rattle.ilplan.specs.Plans.{Nameable, HasOperand}
use Rattle.ilcode.specs.declared.word.Target.TheVariants as variables
use Rattle.ilcode.specs.declared.word.Word.{Word}
use Rattle.ilcode.specs.declared.word.Word.TheVariants as words
use Rattle.ilcode.specs.Listings.{Listing, shape_of}
use Rattle.ilcode.specs.Steps.{Configuration, OpenCall, at, effect, stored_at, with_store}
use Rattle.ilcompile.specs.Layout.{Numbers, number_of, port_of, word_of_argument}
use Rattle.ilcompile.proofs.Named.{AreNamed}
use Rattle.ilcompile.proofs.Stands.{HasAt}
use Rattle.ilcompile.proofs.Reaches.{Reaches, Stuck, Calm, Region, reaches_self, reaches_then, reaches_at}
use Rattle.ilcompile.proofs.Reaches.{stuck_later}
use Rattle.ilcompile.proofs.Reaches.{one_word, stuck_here}
use Rattle.ilcompile.proofs.Shows.{Shows, Both}
use Rattle.ilcompile.proofs.TreeRuns.{operand_same}

module _ {S : Type 0} (code : Listing) (numbers : Numbers) (base hi : ℕ) (calls : List OpenCall) (a : Access Place S)
    (Sees : S → Store → Type 0) (names : Nameable) (May : ℕ → Type 0)
    (shows : Shows code numbers base hi calls a Sees names May) (start end : ℕ)
    (region : Region code calls start end) where
  -- from c the run comes to the place with this result and what shows this store, with nothing open; or it is stuck
  abbrev pub Comes : Configuration → ℕ → Option Value → Option S → Type 0
  Comes c q r None = Stuck code c
  Comes c q r (Some s) = (t : Store) × Sees s t × Reaches code c (at q t r [] calls)

  pub comes_later : (c d : Configuration) (q : ℕ) (r : Option Value) (o : Option S) → Reaches code c d → Comes d q r o
      → Comes c q r o
  comes_later c d q r None l h = stuck_later code c d l h
  comes_later c d q r (Some s) l h = (h.0, h.1, reaches_then code c d (at q h.0 r [] calls) l h.2)

  -- one word that leaves another store, with this result
  pub store_word : (p : ℕ) (t : Store) (r m : Option Value) (o : Option S) (q : Option Store) (w : Word) → Both Sees o q
      → p < end → Calm code p t r [] calls → slice_get code.instructions p ≡ Some w
      → effect code (at p t r [] calls) w ≡ option_map (λ u. at (p + 1) u m [] calls) q
      → Comes (at p t r [] calls) (p + 1) m o
  store_word p t r m None None w b lt calm is e = stuck_here code calls start end region p t r [] w lt calm is e
  store_word p t r m None (Some u) w b lt calm is e = absurd b
  store_word p t r m (Some s) None w b lt calm is e = absurd b
  store_word p t r m (Some s) (Some u) w b lt calm is e =
      (u, b, one_word code calls start end region p t r [] (at (p + 1) u m [] calls) w lt calm is e)

  -- a value that may be none is passed to a port
  passed_by : (s : S) (t : Store) (port : Place) (o : Option Value) → Sees s t → HasOperand names Pass (Name port)
      → Both Sees (option_and_then (a.pass s port) o)
      (option_and_then (stored_at code t (variables.Port (port_of port) (number_of port))) o)
  passed_by s t port None sees has = tt
  passed_by s t port (Some v) sees has = shows.pass s t sees port v has

  -- the words of arguments of a call at this place of the text stand here, and what they name is there
  abbrev pub HasArguments : ℕ → ℕ → List (Argument Place) → Type 0
  HasArguments k p xs =
      HasAt (word_of_argument numbers) (λ x. AreNamed numbers.constants names May (uses_of_argument k x))
      code.instructions p xs

  argument_runs : (k : ℕ) (x : Argument Place) (p : ℕ) (s : S) (t : Store) (r : Option Value) → Sees s t
      → slice_get code.instructions p ≡ Some (word_of_argument numbers x)
      → AreNamed numbers.constants names May (uses_of_argument k x) → p < end → Calm code p t r [] calls
      → Comes (at p t r [] calls) (p + 1) r (option_and_then (a.pass s x.port) (operand_value a s x.operand))
  argument_runs k x p s t r sees is named lt calm =
      let same = operand_same code numbers base hi calls a Sees names May shows start end region s t x.operand sees
      named.1.0 in
      let o = operand_value a s x.operand in
      let target = variables.Port (port_of x.port) (number_of x.port) in
      store_word p t r r (option_and_then (a.pass s x.port) o) (option_and_then (stored_at code t target) o)
      (word_of_argument numbers x) (passed_by s t x.port o sees named.0) lt calm is
      (ap (λ v. with_store (at p t r [] calls) (option_and_then (stored_at code t target) v)) same)

  then_comes : (c : Configuration) (q z : ℕ) (r m : Option Value) (o : Option S) (f : S → Option S) → Comes c q r o
      → ((s : S) (t : Store) → Sees s t → Comes (at q t r [] calls) z m (f s)) → Comes c z m (option_and_then f o)
  then_comes c q z r m None f h more = h
  then_comes c q z r m (Some s) f h more = comes_later c (at q h.0 r [] calls) z m (f s) h.2 (more s h.0 h.1)

  pub comes_at : (c : Configuration) (p q : ℕ) (r : Option Value) (o : Option S) → p ≡ q → Comes c p r o
      → Comes c q r o
  comes_at c p q r o e h = subst (λ x. Comes c x r o) e h

  arguments_run : (k : ℕ) (xs : List (Argument Place)) (p : ℕ) (s : S) (t : Store) (r : Option Value) → Sees s t
      → HasArguments k p xs → start ≤ p → p + length xs < end → ((u : Store) → Calm code p u r [] calls)
      → Comes (at p t r [] calls) (p + length xs) r (passed a xs s)
  arguments_run k [] p s t r sees has low le calm =
      let z : p ≡ p + 0 = omega arith in
      (t, sees, reaches_at code (at p t r [] calls) p (p + 0) t r [] calls z (reaches_self code (at p t r [] calls)))
  arguments_run k (x ∷ xs) p s t r sees has low le calm =
      let q : p + 1 + length xs ≡ p + length (x ∷ xs) = omega arith in
      then_comes (at p t r [] calls) (p + 1) (p + length (x ∷ xs)) r r
      (option_and_then (a.pass s x.port) (operand_value a s x.operand)) (passed a xs)
      (argument_runs k x p s t r sees has.0 has.1 (omega arith) (calm t))
      (λ s1 t1 sees1.
      comes_at (at (p + 1) t1 r [] calls) (p + 1 + length xs) (p + length (x ∷ xs)) r (passed a xs s1) q
      (arguments_run k xs (p + 1) s1 t1 r sees1 has.2 (omega arith) (omega arith)
      (λ u. region.quiet (p + 1) u r [] (omega arith) (omega arith))))

  -- a call with its arguments leaves no result
  pub call_runs : (k : ℕ) (n : Place) → HasOperand names Call (Name n) → (xs : List (Argument Place)) (p : ℕ) (s : S)
      (t : Store) (r : Option Value) → Sees s t → HasArguments k p xs
      → slice_get code.instructions (p + length xs) ≡ Some (words.Call (number_of n)) → start ≤ p → p + length xs < end
      → ((u : Store) → Calm code p u r [] calls) → ((u : Store) → Calm code (p + length xs) u r [] calls)
      → Comes (at p t r [] calls) (p + length xs + 1) None (called a n xs s)
  call_runs k n is xs p s t r sees has last low le calm after =
      let q = p + length xs in
      then_comes (at p t r [] calls) q (q + 1) r None (passed a xs s) (λ s1. a.call s1 n)
      (arguments_run k xs p s t r sees has low le calm)
      (λ s1 t1 sees1.
      store_word q t1 r None (a.call s1 n) (stores.called (shape_of code) t1 (number_of n)) (words.Call (number_of n))
      (shows.call s1 t1 sees1 n is) le (after t1) last refl)
