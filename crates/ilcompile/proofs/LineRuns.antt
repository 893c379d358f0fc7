-- The run of the words of a program or of a body goes along with its lines, by recursion on the lines that are left:
-- from each way on, so that a jump has all that it needs of the lines that it passes over.
use Rattle.std.proofs.Common.{◌≡◌, ◌≢◌, ℕ, ◌+◌, ◌<◌, ◌≤◌, List, [], ◌∷◌, length, map, Bool, true, false, cond}
use Rattle.std.proofs.Common.{Option, Some, None, refl, sym, ap, ◌∙◌, subst, arith, length-append}
use Rattle.std.specs.Prelude.{slice_get, flat_map}
use Rattle.std.specs.Option.{option_map, option_map_or, option_and_then}
use Rattle.std.proofs.lemmas.List.{length-map, length-replicate}
use Rattle.iltypes.specs.declared.value.Value.{Value}
use Rattle.iltypes.specs.declared.value.Value.TheVariants as values
use Rattle.iltypes.specs.Modifiers.{opposite}
use Rattle.iltypes.specs.declared.condition.Condition.{Condition}
use Rattle.iltypes.specs.declared.condition.Condition.TheVariants.{Always, IfTrue, IfFalse}
use Rattle.iltypes.specs.declared.operator.Operator.TheVariants.{Min, Max}
use Rattle.iltypes.specs.Conditions.{holds, chosen}
use Rattle.iltypes.specs.Functions.{modified, value_of_function}
use Rattle.iltypes.specs.Operators.{both}
use Rattle.ilsource.specs.declared.arguments.Argument.{Argument}
use Rattle.ilsource.specs.declared.instruction.Instruction.{Instruction}
use Rattle.ilsource.specs.declared.instruction.Instruction.TheVariants as instructions
use Rattle.ilsource.specs.declared.instruction.Line.{Line}
use Rattle.ilsource.specs.declared.nested.Piece.{Piece}
use Rattle.ilsource.specs.declared.operand.Operand.{Operand}
use Rattle.ilsource.specs.declared.operand.Operand.TheVariants.{Name}
use Rattle.ilsource.specs.declared.uses.Purpose.TheVariants.{Call}
use Rattle.ilsource.specs.Trees.{pieces_of, call_pieces}
use Rattle.ilsource.specs.Uses.{uses_of_piece, uses_of_argument, uses_of}
use Rattle.ilsource.specs.Words.{place_of, places_of as places_in_text, IsShallow}
use Rattle.ilsource.specs.Words as counts
use Rattle.ilsource.specs.Meaning.{Access, Way, On, To, Out, After, after, gives, leaves, operand_value}
use Rattle.ilsource.specs.Meaning.{operand_values}
use Rattle.ilsource.specs.Meaning.{given, loaded, value, called, line_does}
use Rattle.ilsource.specs.Passes.{has_label, takes, passes}
use Rattle.ilblocks.specs.Stores.{Store}
use Rattle.ilplan.specs.declared.place.Place.{Place}
use Rattle.ilplan.specs.declared.place.Place.TheVariants as places
use Rattle.ilplan.specs.PlanMeaning.{number_same}
use Rattle.ilplan.specs.Plans.{Nameable, GivesAll, HasOperand, HasPlace, Takes}
use Rattle.ilcode.specs.declared.word.Word.{Word}
use Rattle.ilcode.specs.declared.word.Word.TheVariants as words
use Rattle.ilcode.specs.Listings.{Listing}
use Rattle.ilcode.specs.Steps.{Configuration, OpenCall, at, opened, stored_at, is_target, goes_to, jumps, effect}
use Rattle.ilcompile.specs.Layout.{Numbers, place_of_label, number_of, variable_of, word_of_argument, words_of_call}
use Rattle.ilcompile.specs.Layout.{word_of, words_of, words_in, words_of_lines}
use Rattle.ilcompile.proofs.Labels.{holds_not, holds_not_not, is_place, label_place, no_target, or_zero}
use Rattle.ilcompile.proofs.Named.{AreNamed, IsFit, call_named, named_each}
use Rattle.ilcompile.proofs.Stands.{Each, HasWords, words_front, words_back, has_mapped}
use Rattle.ilcompile.proofs.Slots.{same_or}
use Rattle.ilcompile.proofs.Sizes.{count_more, line_long}
use Rattle.ilcompile.proofs.Reaches.{Reaches, Stuck, Calm, Region, reaches_self, reaches_then, reaches_at}
use Rattle.ilcompile.proofs.Reaches.{stuck_later}
use Rattle.ilcompile.proofs.Reaches.{one_word, stuck_here}
use Rattle.ilcompile.proofs.Shows.{Shows, Both}
use Rattle.ilcompile.proofs.TreeRuns.{Gives, gives_at, load_gives, apply_gives, transform_gives, then_apply}
use Rattle.ilcompile.proofs.TreeRuns.{then_deferred}
use Rattle.ilcompile.proofs.InvokeRuns.{call_runs as invoke_runs, tree_runs}
use Rattle.ilcompile.proofs.CallRuns.{Comes, store_word, comes_at, call_runs}

module _ {S : Type 0} (code : Listing) (numbers : Numbers) (base hi : ℕ) (calls : List OpenCall) (a : Access Place S)
    (Sees : S → Store → Type 0) (names : Nameable) (May : ℕ → Type 0)
    (shows : Shows code numbers base hi calls a Sees names May) (start end : ℕ)
    (region : Region code calls start end) (within : hi ≤ length code.slots) where
  abbrev Fits : Line Place ℕ → Type 0
  Fits line = IsFit numbers.constants names May line

  -- the run comes to the end with what shows this store, or is stuck
  abbrev pub Passes : Configuration → Option S → Type 0
  Passes c None = Stuck code c
  Passes c (Some s) = (t : Store) × (r : Option Value) × Sees s t × Reaches code c (at end t r [] calls)

  passes_later : (c d : Configuration) (o : Option S) → Reaches code c d → Passes d o → Passes c o
  passes_later c d None l h = stuck_later code c d l h
  passes_later c d (Some s) l h = (h.0, h.1, h.2, reaches_then code c d (at end h.0 h.1 [] calls) l h.3)

  -- where lines are entered from this place on, the run passes to what they leave
  abbrev Enters : ℕ → Option ℕ → Option Value → Store → Option S → Type 0
  Enters p None r t o = o ≡ None
  Enters p (Some q) r t o = (p ≤ q) × (q ≤ end) × Passes (at q t r [] calls) o

  abbrev entry : ℕ → List (Line Place ℕ) → Way ℕ → Option ℕ
  entry p lines On = Some p
  entry p lines (To l) = label_place p lines l
  entry p lines Out = Some end

  abbrev way_in : ℕ → ℕ → Option ℕ → List (Line Place ℕ) → Way ℕ → Option ℕ
  way_in p n label lines On = Some p
  way_in p n label lines (To l) = cond (has_label number_same l label) (Some p) (label_place (p + n) lines l)
  way_in p n label lines Out = Some end

  pick : (b : Bool) (p n : ℕ) (o : Option ℕ) (r : Option Value) (t : Store) (x y : Option S)
      → Enters p (Some p) r t x → Enters (p + n) o r t y → Enters p (cond b (Some p) o) r t (cond b x y)
  pick true p n o r t x y here later = here
  pick false p n None r t x y here later = later
  pick false p n (Some q) r t x y here later = (let h = later.0 in omega arith, later.1, later.2)

  -- at the start there is no result
  abbrev pub Ready : ℕ → Option Value → Type 0
  Ready p r = p ≡ start → r ≡ None

  ready_on : (p n : ℕ) (r : Option Value) → start ≤ p → Ready p r → Ready (p + n) r
  ready_on p n r low ready e = ready (omega arith)

  later_ready : (p : ℕ) (r : Option Value) → start < p → Ready p r
  later_ready p r low e = absurd (omega arith)

  calm_at : (p : ℕ) (t : Store) (r : Option Value) → start ≤ p → p < end → Ready p r → Calm code p t r [] calls
  calm_at p t r low lt ready =
      same_or p start
      (λ e.
      let here : start < end = omega arith in
      subst (λ x. Calm code p t x [] calls) (sym (ready e))
      (subst (λ q. Calm code q t None [] calls) (sym e) (region.first t here)))
      (λ e. region.quiet p t r [] (let q : start ≢ p = (λ z. e (sym z)) in omega arith) lt)

  -- with a result a word is not the first
  calm_value : (p : ℕ) (v : Value) → start ≤ p → p < end → Ready p (Some v) → (w : Value) (u : Store)
      → Calm code p u (Some w) [] calls
  calm_value p v low lt ready w u =
      region.quiet p u (Some w) [] (let q : start ≢ p = (λ z. let x = ready (sym z) in cc) in omega arith) lt

  -- what is passed from each way on
  abbrev pub Run : ℕ → List (Line Place ℕ) → Type 0
  Run p lines =
      (way : Way ℕ) (r : Option Value) (s : S) (t : Store) → Sees s t → Ready p r
      → Enters p (entry p lines way) r t (passes number_same a lines way r s)

  module _ (lines : List (Line Place ℕ)) (p n : ℕ) (low : start ≤ p) (next : Run (p + n) lines) where
    abbrev rest : After ℕ S → Option S
    rest x = passes number_same a lines x.way x.result x.store

    by_value : (s : S) (t : Store) (r o : Option Value) → 0 < n
        → Gives code numbers base hi calls a Sees names May shows start end region (at p t r [] calls) (p + n) s [] o
        → Passes (at p t r [] calls) (option_and_then rest (gives o s))
    by_value s t r None pos g = g
    by_value s t r (Some v) pos g =
        passes_later (at p t r [] calls) (at (p + n) g.0 (Some v) [] calls) (passes number_same a lines On (Some v) s)
        g.2 (next On (Some v) s g.0 g.1 (later_ready (p + n) (Some v) (omega arith))).2

    -- a store with this result
    by_store : (c : Configuration) (r : Option Value) (o : Option S) → 0 < n
        → Comes code numbers base hi calls a Sees names May shows start end region c (p + n) r o
        → Passes c (option_and_then rest (leaves r o))
    by_store c r None pos h = h
    by_store c r (Some s) pos h =
        passes_later c (at (p + n) h.0 r [] calls) (passes number_same a lines On r s) h.2
        (next On r s h.0 h.1 (later_ready (p + n) r (omega arith))).2

    -- by one word
    by_word : (t : Store) (r : Option Value) (o : Option S) (q : Option Store) (w : Word) → p < end → Ready p r → n ≡ 1
        → Both Sees o q → slice_get code.instructions p ≡ Some w
        → effect code (at p t r [] calls) w ≡ option_map (λ u. at (p + 1) u r [] calls) q
        → Passes (at p t r [] calls) (option_and_then rest (leaves r o))
    by_word t r o q w lt ready one b is e =
        by_store (at p t r [] calls) r o (omega arith)
        (comes_at code numbers base hi calls a Sees names May shows start end region (at p t r [] calls) (p + 1) (p +
        n) r
        o (omega arith)
        (store_word code numbers base hi calls a Sees names May shows start end region p t r r o q w b lt
        (calm_at p t r low lt ready) is e))

    -- a value that may be none is stored
    stored_by : (s : S) (t : Store) (m : Place) (o : Option Value) → Sees s t → HasPlace names m
        → Both Sees (option_and_then (a.write s m) o) (option_and_then (stored_at code t (variable_of numbers m)) o)
    stored_by s t m None sees has = tt
    stored_by s t m (Some v) sees has = shows.write s t sees m v has

    -- a jump: to where the way goes in, or on
    goes_on : (t : Store) (r : Option Value) (target : ℕ) (w : Word) (o : Option ℕ) (x : Option S)
        → slice_get code.instructions p ≡ Some w → n ≡ 1 → p < end → Ready p r
        → effect code (at p t r [] calls) w
        ≡ cond (is_target code p target) (Some (goes_to (at p t r [] calls) target)) None
        → target ≡ or_zero o → Enters (p + n) o r t x → Passes (at p t r [] calls) x
    goes_on t r target w None x is e lt ready f z h =
        let c = at p t r [] calls in
        let no : is_target code p target ≡ false =
        subst (λ q. is_target code p q ≡ false) (sym z) (no_target code p) in
        subst (Passes c) (sym h)
        (stuck_here code calls start end region p t r [] w lt (calm_at p t r low lt ready) is
        (f ∙ ap (λ b. cond b (Some (goes_to c target)) None) no))
    goes_on t r target w (Some q) x is e lt ready f z h =
        let c = at p t r [] calls in
        let from = h.0 in
        let yes : is_target code p target ≡ true =
        subst (λ m. is_target code p m ≡ true) (sym z) (region.targets p q low (omega arith) h.1) in
        let there : Some (goes_to c target) ≡ Some (at q t r [] calls) = ap (λ m. Some (at m t r [] calls)) z in
        passes_later c (at q t r [] calls) x
        (one_word code calls start end region p t r [] (at q t r [] calls) w lt (calm_at p t r low lt ready) is
        (f ∙ (ap (λ b. cond b (Some (goes_to c target)) None) yes ∙ there))) h.2

    by_jump : (s : S) (t : Store) (r : Option Value) (met : Option Bool) (way : Way ℕ) (target : ℕ) (w : Word)
        → Sees s t → slice_get code.instructions p ≡ Some w → n ≡ 1 → p < end → Ready p r
        → effect code (at p t r [] calls) w ≡ jumps code (at p t r [] calls) target [] met
        → target ≡ or_zero (entry (p + n) lines way)
        → Passes (at p t r [] calls) (option_and_then rest (chosen met (after way r s) (after On r s)))
    by_jump s t r None way target w sees is e lt ready f z =
        stuck_here code calls start end region p t r [] w lt (calm_at p t r low lt ready) is f
    by_jump s t r (Some true) way target w sees is e lt ready f z =
        goes_on t r target w (entry (p + n) lines way) (passes number_same a lines way r s) is e lt ready f z
        (next way r s t sees (later_ready (p + n) r (omega arith)))
    by_jump s t r (Some false) way target w sees is e lt ready f z =
        let c = at p t r [] calls in
        let there : Some (goes_to c (p + 1)) ≡ Some (at (p + n) t r [] calls) =
        ap (λ m. Some (at m t r [] calls)) (omega arith) in
        passes_later c (at (p + n) t r [] calls) (passes number_same a lines On r s)
        (one_word code calls start end region p t r [] (at (p + n) t r [] calls) w lt (calm_at p t r low lt ready) is
        (f ∙ there))
        (next On r s t sees (later_ready (p + n) r (omega arith))).2

    -- a call of a block instance, whose words stand from this place on
    call_at : (q k : ℕ) (m : Place) → HasOperand names Call (Name m) → (xs : List (Argument Place)) (s : S) (t : Store)
        (r : Option Value) → Sees s t → HasWords code.instructions q (words_of_call numbers m xs)
        → AreNamed numbers.constants names May (flat_map (uses_of_argument k) xs) → q + length xs + 1 ≡ p + n
        → start ≤ q → q + length xs < end → ((u : Store) → Calm code q u r [] calls)
        → ((u : Store) → Calm code (q + length xs) u r [] calls)
        → Comes code numbers base hi calls a Sees names May shows start end region (at q t r [] calls) (p + n) None
        (called a m xs s)
    call_at q k m called_one xs s t r sees has named e from lt calm after =
        let f = word_of_argument numbers in
        let last = words.Call (number_of m) ∷ [] in
        let own = has_mapped f (λ x. AreNamed numbers.constants names May (uses_of_argument k x)) code.instructions q xs
        (named_each numbers.constants names May (uses_of_argument k) xs named)
        (words_front code.instructions q (map f xs) last has) in
        let back = subst (λ z. slice_get code.instructions (q + z) ≡ Some (words.Call (number_of m))) (length-map xs f)
        (words_back code.instructions q (map f xs) last has).0 in
        comes_at code numbers base hi calls a Sees names May shows start end region (at q t r [] calls)
        (q + length xs + 1) (p + n) None (called a m xs s) e
        (call_runs code numbers base hi calls a Sees names May shows start end region k m called_one xs q s t r sees own
        back from lt calm after)

    -- one behind a jump over it
    by_call : (s : S) (t : Store) (r : Option Value) (met skipped : Option Bool) (w : Word) (o : Option S) → Sees s t
        → slice_get code.instructions p ≡ Some w → 0 < n → p < end → Ready p r
        → effect code (at p t r [] calls) w ≡ jumps code (at p t r [] calls) (p + n) [] skipped
        → skipped ≡ option_map opposite met
        → Comes code numbers base hi calls a Sees names May shows start end region (at (p + 1) t r [] calls) (p + n)
        None
        o
        → Passes (at p t r [] calls) (option_and_then rest (chosen met (leaves None o) (after On r s)))
    by_call s t r None skipped w o sees is pos lt ready f z g =
        let c = at p t r [] calls in
        stuck_here code calls start end region p t r [] w lt (calm_at p t r low lt ready) is
        (f ∙ ap (jumps code c (p + n) []) z)
    by_call s t r (Some true) skipped w o sees is pos lt ready f z g =
        let c = at p t r [] calls in
        passes_later c (at (p + 1) t r [] calls) (option_and_then rest (leaves None o))
        (one_word code calls start end region p t r [] (at (p + 1) t r [] calls) w lt (calm_at p t r low lt ready) is
        (f ∙ ap (jumps code c (p + n) []) z))
        (by_store (at (p + 1) t r [] calls) None o pos g)
    by_call s t r (Some false) skipped w o sees is pos lt ready f z g =
        let c = at p t r [] calls in
        let on = next On r s t sees (later_ready (p + n) r (omega arith)) in
        let yes : is_target code p (p + n) ≡ true = region.targets p (p + n) low (omega arith) on.1 in
        passes_later c (at (p + n) t r [] calls) (passes number_same a lines On r s)
        (one_word code calls start end region p t r [] (at (p + n) t r [] calls) w lt (calm_at p t r low lt ready) is
        (f ∙ (ap (jumps code c (p + n) []) z ∙ ap (λ b. cond b (Some (goes_to c (p + n))) None) yes))) on.2

    -- a call of a function in a line
    invoke_at : (s : S) (t : Store) (r : Option Value) (k : ℕ) (f : Place) (os : List (Operand Place)) → Sees s t
        → Takes names f (length os + 1) → HasWords code.instructions p (map (λ x. word_of numbers x.action)
        (call_pieces 0 f os))
        → AreNamed numbers.constants names May (uses_of {L = ℕ} k (instructions.Invoke f os)) → p + n ≤ end
        → n ≡ length os + 2 → Ready p r
        → Gives code numbers base hi calls a Sees names May shows start end region (at p t r [] calls) (p + n) s []
        (given a f r (operand_values a s os))
    invoke_at s t r k (places.Slot slot) os sees takes has named le e ready = absurd takes
    invoke_at s t r k (places.Port block port) os sees takes has named le e ready = absurd takes
    invoke_at s t r k (places.Block block) os sees takes has named le e ready = absurd takes
    invoke_at s t r k (places.Function f) os sees taken has named le e ready =
        let word = λ (x : Piece Place). word_of numbers x.action in
        let its = λ (x : Piece Place). AreNamed numbers.constants names May (uses_of_piece x) in
        let own = has_mapped word its code.instructions p (call_pieces 0 (places.Function f) os)
        (call_named numbers.constants names May 0 k f os named) has in
        let z : p + (length os + 2) ≡ p + n = omega arith in
        let o = given a (places.Function f) r (operand_values a s os) in
        gives_at code numbers base hi calls a Sees names May shows start end region (at p t r [] calls)
        (p + (length os + 2)) (p + n) s [] o z
        (invoke_runs code numbers base hi calls a Sees names May shows start end region within 0 f os p s t r [] sees
        named.0 taken own (omega arith) low (calm_at p t r low (omega arith) ready))

    -- S and R
    by_set : (s : S) (t : Store) (m : Place) (b : Bool) (v : Bool) (w : Word) → Sees s t → HasPlace names m → p < end
        → Ready p (Some (values.Bool b)) → n ≡ 1 → slice_get code.instructions p ≡ Some w
        → effect code (at p t (Some (values.Bool b)) [] calls) w
        ≡ option_map (λ u. at (p + 1) u (Some (values.Bool b)) [] calls)
        (cond b (stored_at code t (variable_of numbers m) (values.Bool v)) (Some t))
        → Passes (at p t (Some (values.Bool b)) [] calls)
        (option_and_then rest
        (chosen (Some b) (leaves (Some (values.Bool b)) (a.write s m (values.Bool v))) (after On (Some (values.Bool
        b)) s)))
    by_set s t m true v w sees has lt ready one is e =
        by_word t (Some (values.Bool true)) (a.write s m (values.Bool v))
        (stored_at code t (variable_of numbers m) (values.Bool v)) w lt ready one
        (shows.write s t sees m (values.Bool v) has) is e
    by_set s t m false v w sees has lt ready one is e =
        by_word t (Some (values.Bool false)) (Some s) (Some t) w lt ready one sees is e

    -- one line
    line_passes : (s : S) (t : Store) (r : Option Value) (k : ℕ) (i : Option (Instruction Place ℕ)) → Sees s t
        → Ready p r
        → HasWords code.instructions p
        (option_map_or (words_of numbers end (p + n) (place_of_label (p + n) lines)) i [])
        → n ≡ length (option_map_or (places_in_text k) i []) → p + n ≤ end → IsShallow i → GivesAll names i
        → AreNamed numbers.constants names May (option_map_or (uses_of k) i [])
        → Passes (at p t r [] calls) (option_and_then rest (line_does a i r s))
    line_passes s t r k None sees ready has e le sh all named =
        let z : p + n ≡ p = omega arith in
        subst (λ q. Passes (at q t r [] calls) (passes number_same a lines On r s)) z
        (next On r s t sees (ready_on p n r low ready)).2
    line_passes s t r k (Some (instructions.Load negated x)) sees ready has e le sh all named =
        let o = loaded a s negated x in
        by_value s t r o (omega arith)
        (gives_at code numbers base hi calls a Sees names May shows start end region (at p t r [] calls) (p + 1) (p +
        n) s
        [] o (omega arith)
        (load_gives code numbers base hi calls a Sees names May shows start end region p s t [] sees (omega arith)
        negated
        x r named.0 (calm_at p t r low (omega arith) ready) has.0))
    line_passes s t r k (Some (instructions.Apply operator x)) sees ready has e le sh all named =
        let o = both operator r (operand_value a s x) in
        by_value s t r o (omega arith)
        (gives_at code numbers base hi calls a Sees names May shows start end region (at p t r [] calls) (p + 1) (p +
        n) s
        [] o (omega arith)
        (apply_gives code numbers base hi calls a Sees names May shows start end region p s t [] sees (omega arith)
        operator x r named.0 (calm_at p t r low (omega arith) ready) has.0))
    line_passes s t None k (Some (instructions.Deferred operator u close)) sees ready has e le sh all named =
        stuck_here code calls start end region p t None [] (words.Open operator) (omega arith)
        (calm_at p t None low (omega arith) ready) has.0 refl
    line_passes s t (Some v) k (Some (instructions.Deferred operator u close)) sees ready has e le sh all named =
        let c = at p t (Some v) [] calls in
        let f = λ (x : Piece Place). word_of numbers x.action in
        let m = map f (pieces_of u) in
        let q = p + 1 + length (pieces_of u) in
        let back = subst (λ z. slice_get code.instructions (p + 1 + z) ≡ Some words.Close) (length-map (pieces_of u) f)
        (words_back code.instructions (p + 1) m (words.Close ∷ []) has.2).0 in
        let inner = has_mapped f (λ x. AreNamed numbers.constants names May (uses_of_piece x)) code.instructions (p + 1)
        (pieces_of u) (named_each numbers.constants names May uses_of_piece (pieces_of u) named)
        (words_front code.instructions (p + 1) m (words.Close ∷ []) has.2) in
        let o = both operator (Some v) (value a s u) in
        let long = length-append m (words.Close ∷ []) in
        let mapped = length-map (pieces_of u) f in
        let at_places = length-append (map (place_of {N = Place}) (pieces_of u)) (close ∷ []) in
        let placed = length-map (pieces_of u) (place_of {N = Place}) in
        let room = sh.2 in
        by_value s t (Some v) o (omega arith)
        (gives_at code numbers base hi calls a Sees names May shows start end region c (q + 1) (p + n) s [] o (omega
        arith)
        (then_deferred code numbers base hi calls a Sees names May shows start end region c p q s [] operator (Some v)
        (value a s u) (calm_value p v low (omega arith) ready) (omega arith) (omega arith) (omega arith) has.0 back
        (omega arith)
        (λ w x seen. tree_runs code numbers base hi calls a Sees names May shows start end region within u (p + 1) s
        x None
        (opened operator w ∷ []) seen all inner (omega arith) (omega arith) (omega arith))
        (t, sees, reaches_self code c)))
    line_passes s t r k (Some (instructions.Transform function)) sees ready has e le sh all named =
        let o = option_and_then (value_of_function function) r in
        by_value s t r o (omega arith)
        (gives_at code numbers base hi calls a Sees names May shows start end region (at p t r [] calls) (p + 1) (p +
        n) s
        [] o (omega arith)
        (transform_gives code numbers base hi calls a Sees names May shows start end region p s t [] sees (omega arith)
        function r (calm_at p t r low (omega arith) ready) has.0))
    line_passes s t r k (Some (instructions.Limit least most)) sees ready has e le sh all named =
        let c = at p t r [] calls in
        let o = both Max r (operand_value a s least) in
        let both_of = both Min o (operand_value a s most) in
        by_value s t r both_of (omega arith)
        (gives_at code numbers base hi calls a Sees names May shows start end region c (p + 1 + 1) (p + n) s [] both_of
        (omega arith)
        (then_apply code numbers base hi calls a Sees names May shows start end region c (p + 1) s [] Min most o
        named.1.0
        (omega arith) (omega arith) has.2.0
        (apply_gives code numbers base hi calls a Sees names May shows start end region p s t [] sees (omega arith) Max
        least r named.0 (calm_at p t r low (omega arith) ready) has.0)))
    line_passes s t r k (Some (instructions.Store negated m)) sees ready has e le sh all named =
        let v = option_and_then (modified negated) r in
        by_word t r (option_and_then (a.write s m) v) (option_and_then (stored_at code t (variable_of numbers m)) v)
        (words.Store negated (variable_of numbers m)) (omega arith) ready e (stored_by s t m v sees named.0) has.0 refl
    line_passes s t None k (Some (instructions.Set m)) sees ready has e le sh all named =
        stuck_here code calls start end region p t None [] (words.Set (variable_of numbers m)) (omega arith)
        (calm_at p t None low (omega arith) ready) has.0 refl
    line_passes s t (Some (values.Int z)) k (Some (instructions.Set m)) sees ready has e le sh all named =
        stuck_here code calls start end region p t (Some (values.Int z)) [] (words.Set (variable_of numbers m))
        (omega arith) (calm_at p t (Some (values.Int z)) low (omega arith) ready) has.0 refl
    line_passes s t (Some (values.Bool true)) k (Some (instructions.Set m)) sees ready has e le sh all named =
        by_set s t m true true (words.Set (variable_of numbers m)) sees named.0 (omega arith) ready e has.0 refl
    line_passes s t (Some (values.Bool false)) k (Some (instructions.Set m)) sees ready has e le sh all named =
        by_set s t m false true (words.Set (variable_of numbers m)) sees named.0 (omega arith) ready e has.0 refl
    line_passes s t None k (Some (instructions.Reset m)) sees ready has e le sh all named =
        stuck_here code calls start end region p t None [] (words.Reset (variable_of numbers m)) (omega arith)
        (calm_at p t None low (omega arith) ready) has.0 refl
    line_passes s t (Some (values.Int z)) k (Some (instructions.Reset m)) sees ready has e le sh all named =
        stuck_here code calls start end region p t (Some (values.Int z)) [] (words.Reset (variable_of numbers m))
        (omega arith) (calm_at p t (Some (values.Int z)) low (omega arith) ready) has.0 refl
    line_passes s t (Some (values.Bool true)) k (Some (instructions.Reset m)) sees ready has e le sh all named =
        by_set s t m true false (words.Reset (variable_of numbers m)) sees named.0 (omega arith) ready e has.0 refl
    line_passes s t (Some (values.Bool false)) k (Some (instructions.Reset m)) sees ready has e le sh all named =
        by_set s t m false false (words.Reset (variable_of numbers m)) sees named.0 (omega arith) ready e has.0 refl
    line_passes s t r k (Some (instructions.Jump condition l)) sees ready has e le sh all named =
        let target = place_of_label (p + n) lines l in
        by_jump s t r (holds condition r) (To l) target (words.Jump condition target) sees has.0 e (omega arith)
        ready refl
        (is_place (p + n) lines l)
    line_passes s t r k (Some (instructions.Return condition)) sees ready has e le sh all named =
        by_jump s t r (holds condition r) Out end (words.Jump condition end) sees has.0 e (omega arith) ready refl refl
    line_passes s t r k (Some (instructions.Call condition m xs)) sees ready has e le sh all named =
        call_passes s t r k condition m xs sees ready has e le named
      where
        call_passes : (s : S) (t : Store) (r : Option Value) (k : ℕ) (condition : Condition) (m : Place)
            (xs : List (Argument Place)) → Sees s t → Ready p r
            → HasWords code.instructions p
            (words_of numbers end (p + n) (place_of_label (p + n) lines) (instructions.Call condition m xs))
            → n ≡ length (places_in_text {L = ℕ} k (instructions.Call condition m xs)) → p + n ≤ end
            → AreNamed numbers.constants names May (uses_of {L = ℕ} k (instructions.Call condition m xs))
            → Passes (at p t r [] calls) (option_and_then rest (line_does a (Some (instructions.Call condition m xs))
            r s))
        call_passes s t r k Always m xs sees ready has e le named =
            let long = length-replicate (length xs + 1) k in
            by_store (at p t r [] calls) None (called a m xs s) (omega arith)
            (call_at p k m named.0 xs s t r sees has named.1 (omega arith) low (omega arith)
            (λ u. calm_at p u r low (omega arith) ready)
            (λ u. calm_at (p + length xs) u r (omega arith) (omega arith) (ready_on p (length xs) r low ready)))
        call_passes s t r k IfTrue m xs sees ready has e le named =
            let long = length-replicate (length xs + 2) k in
            by_call s t r (holds IfTrue r) (holds IfFalse r) (words.Jump IfFalse (p + n)) (called a m xs s) sees has.0
            (omega arith) (omega arith) ready refl (holds_not r)
            (call_at (p + 1) k m named.0 xs s t r sees has.2 named.1 (omega arith) (omega arith) (omega arith)
            (λ u. region.quiet (p + 1) u r [] (omega arith) (omega arith))
            (λ u. region.quiet (p + 1 + length xs) u r [] (omega arith) (omega arith)))
        call_passes s t r k IfFalse m xs sees ready has e le named =
            let long = length-replicate (length xs + 2) k in
            by_call s t r (holds IfFalse r) (holds IfTrue r) (words.Jump IfTrue (p + n)) (called a m xs s) sees has.0
            (omega arith) (omega arith) ready refl (holds_not_not r)
            (call_at (p + 1) k m named.0 xs s t r sees has.2 named.1 (omega arith) (omega arith) (omega arith)
            (λ u. region.quiet (p + 1) u r [] (omega arith) (omega arith))
            (λ u. region.quiet (p + 1 + length xs) u r [] (omega arith) (omega arith)))
    line_passes s t r k (Some (instructions.Invoke f os)) sees ready has e le sh all named =
        let many = length-replicate (length os + 2) k in
        let counted : n ≡ length os + 2 = e ∙ many in
        by_value s t r (given a f r (operand_values a s os)) (omega arith)
        (invoke_at s t r k f os sees all has named le counted ready)

  -- a line, and those after it, from each way on
  by_way : (lines : List (Line Place ℕ)) (p n : ℕ) (label : Option ℕ) (f : Option Value → S → Option S)
      → Run (p + n) lines
      → ((r : Option Value) (s : S) (t : Store) → Sees s t → Ready p r → Passes (at p t r [] calls) (f r s))
      → p + n ≤ end → start ≤ p → (way : Way ℕ) (r : Option Value) (s : S) (t : Store) → Sees s t → Ready p r
      → Enters p (way_in p n label lines way) r t
      (cond (takes number_same way label) (f r s) (passes number_same a lines way r s))
  by_way lines p n label f next here le low On r s t sees ready = (omega arith, omega arith, here r s t sees ready)
  by_way lines p n label f next here le low (To l) r s t sees ready =
      pick (has_label number_same l label) p n (label_place (p + n) lines l) r t (f r s)
      (passes number_same a lines (To l) r s) (omega arith, omega arith, here r s t sees ready)
      (next (To l) r s t sees (ready_on p n r low ready))
  by_way lines p n label f next here le low Out r s t sees ready =
      (omega arith, omega arith, (next Out r s t sees (ready_on p n r low ready)).2)

  -- all lines that are left
  pub lines_run : (lines : List (Line Place ℕ)) (p : ℕ)
      → HasWords code.instructions p (words_of_lines numbers end p lines) → Each Fits lines
      → p + counts.words_of_lines lines ≡ end → start ≤ p → Run p lines
  lines_run [] p has fit e low On r s t sees ready =
      let z : p ≡ end = omega arith in (
        omega arith,
        omega arith,
        (
          t,
          r,
          sees,
          reaches_at code (at p t r [] calls) p end t r [] calls z
              (reaches_self code (at p t r [] calls)),
        ),
      )
  lines_run [] p has fit e low (To l) r s t sees ready = refl
  lines_run [] p has fit e low Out r s t sees ready =
      (omega arith, omega arith, (t, r, sees, reaches_self code (at end t r [] calls)))
  lines_run (line ∷ lines) p has fit e low way r s t sees ready =
      let n = counts.words_in line in
      let target = place_of_label (p + n) lines in
      let mine = words_in numbers end (p + n) target line in
      let others = words_of_lines numbers end (p + n) lines in
      let long : p + length mine ≡ p + n = ap (λ m. p + m) (line_long numbers end (p + n) target line) in
      let more = count_more line lines in
      let behind = subst (λ q. HasWords code.instructions q others) long (words_back code.instructions p mine others
      has)
      in
      let next : Run (p + n) lines = lines_run lines (p + n) behind fit.1 (omega arith) (omega arith) in
      let here = λ (r : Option Value) (s : S) (t : Store) (sees : Sees s t) (ready : Ready p r).
      line_passes lines p n low next s t r line.at line.instruction sees ready
      (words_front code.instructions p mine others has) refl (omega arith) fit.0.0 fit.0.1 fit.0.2 in
      by_way lines p n line.label
      (λ r s. option_and_then (λ x. passes number_same a lines x.way x.result x.store)
      (line_does a line.instruction r s)) next here (omega arith) low way r s t sees ready
