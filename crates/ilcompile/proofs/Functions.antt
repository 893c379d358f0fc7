-- All functions that a task uses, in declared order: the calls of each give what its body means.
use Rattle.std.proofs.Common.{◌≡◌, ℕ, zero, suc, ◌+◌, ◌<◌, ◌≤◌, List, [], ◌∷◌, ◌++◌, length, Option, Some, None, refl}
use Rattle.std.proofs.Common.{sym, ap, ◌∙◌, subst, arith, append_assoc, length-append, Bool, true, false, ◌||◌, cond}
use Rattle.std.specs.Prelude.{slice_get, flat_map, ⊤}
use Rattle.std.specs.Option.{option_and_then}
use Rattle.std.specs.List.{list_any}
use Rattle.iltypes.specs.declared.value.Value.{Value}
use Rattle.ilsource.specs.declared.instruction.Line.{Line}
use Rattle.ilsource.specs.Functions.{FunctionMeaning, functions_from, given_by}
use Rattle.ilsource.specs.Uses.{uses_in}
use Rattle.ilblocks.specs.Stores.{Store}
use Rattle.ilplan.specs.declared.place.Place.{Place}
use Rattle.ilplan.specs.declared.place.Place.TheVariants as places
use Rattle.ilplan.specs.Functions.{PlannedFunction, calls, depth_of, depths_from, function_types, slots_of_function}
use Rattle.ilplan.specs.Functions.{starting_values}
use Rattle.ilplan.specs.Functions.{functions_in, those_in, used_from, words_of_function}
use Rattle.ilplan.specs.PlanMeaning.{function_value}
use Rattle.ilplan.specs.Plans.{Takes, in_body, inputs_of}
use Rattle.ilcode.specs.declared.function.FunctionBody.{FunctionBody}
use Rattle.ilcode.specs.declared.nesting.Opened.{Opened}
use Rattle.ilcode.specs.Listings.{Listing, end_of, start_or}
use Rattle.ilcode.specs.Steps.{Configuration, OpenCall, at, is_target, open_call}
use Rattle.ilcompile.specs.declared.numbers.Placed.{Placed}
use Rattle.ilcompile.specs.Layout.{bodies_from, body_at, constant_number, numbers_of, placed_from, words_of_bodies}
use Rattle.ilcompile.specs.Layout.{words_of_body}
use Rattle.ilcompile.proofs.BodyRuns.{Below, one_number, one_served}
use Rattle.ilcompile.proofs.Sizes.{body_long, types_long}
use Rattle.ilcompile.proofs.Named.{IsFit}
use Rattle.ilcompile.proofs.Stands.{Each, HasWords, words_back, words_front}
use Rattle.ilcompile.proofs.Slots.{Holds, get_back, get_front, holds_back, holds_front, same_or}
use Rattle.ilcompile.proofs.Shows.{Served, Returns, kept_wider}
use Rattle.ilcompile.proofs.UsedFunctions.{less_deep, used_by_function}

-- a function that has so many inputs
pub record Found (before : List PlannedFunction) (j arguments : ℕ) : Type 0 where
  pub function : PlannedFunction
  pub is : slice_get before j ≡ Some function
  pub inputs : length function.inputs ≡ arguments
  pub below : j < length before

pub found : (before : List PlannedFunction) (j arguments : ℕ) → slice_get (inputs_of before) j ≡ Some arguments
    → Found before j arguments
found [] j arguments e = absurd cc
found (f ∷ before) zero arguments e =
    record { function = f; is = refl; inputs = cc; below = omega arith }
found (f ∷ before) (suc j) arguments e =
    let h = found before j arguments e in
    record { function = h.function; is = h.is; inputs = h.inputs; below = let lt = h.below in omega arith }

module _ (code : Listing) (functions : List (Option Placed)) (constants : List Value) (base : ℕ)
    (lines : List (Line Place ℕ)) (all : List PlannedFunction) where
  abbrev pub kept : List (Option PlannedFunction)
  kept = used_from lines 0 all

  -- what is known of a function that is used: it is one of the first so many of the code, and its calls leave all slots
  -- but those from `base` on and below `hi`
  pub record IsServedAt (hi many : ℕ) (known : List FunctionMeaning) (depths : List ℕ) (j : ℕ) (g : PlannedFunction)
      : Type 0 where
    pub depth : ℕ
    pub is_depth : slice_get depths j ≡ Some depth
    pub served : Served code functions base hi j depth g (given_by known j)
    pub lower : served.stands.number < many

  -- of all that are used before the number k
  abbrev pub AreServedTo : ℕ → ℕ → ℕ → List FunctionMeaning → List ℕ → Type 0
  AreServedTo k hi many known depths =
      (j : ℕ) (g : PlannedFunction) → j < k → slice_get kept j ≡ Some (Some g)
      → IsServedAt hi many known depths j g

  -- what is asked of a function that is used, by its number in the plan: its constants are in the table, and its lines
  -- name what is there, where they may call what they call
  pub record IsGood (before : List PlannedFunction) (g : PlannedFunction) : Type 0 where
    pub has_result : 1 ≤ length g.variables
    pub starting : Each (λ v. slice_get constants (constant_number constants v) ≡ Some v) (starting_values g)
    pub fits : Each (IsFit constants (in_body before g) (λ j. calls g.lines j ≡ true)) g.lines

  -- jumps in a body are lawful up to its end
  abbrev pub BodiesJump : Type 0
  BodiesJump =
      (number : ℕ) (b : FunctionBody) → slice_get code.functions number ≡ Some b
      → (p q : ℕ) → b.start ≤ p → p < q → q ≤ end_of code (number + 1) → is_target code p q ≡ true

  -- each function that is used is so, behind those before it
  abbrev pub AreGood : List PlannedFunction → List PlannedFunction → Type 0
  AreGood before [] = ⊤
  AreGood before (f ∷ fs) =
      (slice_get kept (length before) ≡ Some (Some f) → IsGood before f) × AreGood (before ++ f ∷ []) fs

  -- what is laid out of functions, of which these are used, from the number `many` of the code on
  pub record AreLaid (k many place first : ℕ) (used : List (Option PlannedFunction)) : Type 0 where
    pub is_kept : (i : ℕ) → slice_get kept (k + i) ≡ slice_get used i
    pub stand : (i : ℕ) → slice_get functions (k + i) ≡ slice_get (placed_from many first used) i
    pub bodies : (i : ℕ) → slice_get code.functions (many + i) ≡ slice_get (bodies_from place first (those_in used)) i
    pub words : HasWords code.instructions place (words_of_bodies constants functions place first (those_in used))
    pub last : place + length (words_of_bodies constants functions place first (those_in used))
        ≡ length code.instructions
    pub typed : Holds code.slots first (flat_map function_types (those_in used))
    pub room : first + length (flat_map function_types (those_in used)) ≤ length code.slots
    pub from : base ≤ first

  -- a function that is not used leaves no trace
  laid_without : (k many place first : ℕ) (used : List (Option PlannedFunction))
      → AreLaid k many place first (None ∷ used) → AreLaid (k + 1) many place first used
  laid_without k many place first used l =
      record {
        is_kept = λ i. let z : k + 1 + i ≡ k + suc i = omega arith in ap (slice_get kept) z ∙ l.is_kept (suc i);
        stand = λ i. let z : k + 1 + i ≡ k + suc i = omega arith in ap (slice_get functions) z ∙ l.stand (suc i);
        bodies = l.bodies;
        words = l.words;
        last = l.last;
        typed = l.typed;
        room = l.room;
        from = l.from;
      }

  -- one that is stands in front of the others
  laid_behind : (k many place first : ℕ) (f : PlannedFunction) (used : List (Option PlannedFunction))
      → AreLaid k many place first (Some f ∷ used)
      → AreLaid (k + 1) (many + 1) (place + words_of_function f) (first + slots_of_function f) used
  laid_behind k many place first f used l =
      let mine = words_of_body (numbers_of constants first functions) place f in
      let others = words_of_bodies constants functions (place + words_of_function f) (first + slots_of_function f)
      (those_in used) in
      let long = body_long constants functions place first f in
      let both = length-append mine others in
      let types = length-append (function_types f) (flat_map function_types (those_in used)) in
      let own = types_long f in
      let end = l.last in
      let room = l.room in
      let from = l.from in
      let next : place + length mine ≡ place + words_of_function f = ap (λ n. place + n) long in
      record {
        is_kept = λ i. let z : k + 1 + i ≡ k + suc i = omega arith in ap (slice_get kept) z ∙ l.is_kept (suc i);
        stand = λ i. let z : k + 1 + i ≡ k + suc i = omega arith in ap (slice_get functions) z ∙ l.stand (suc i);
        bodies = λ i.
            let z : many + 1 + i ≡ many + suc i = omega arith in ap (slice_get code.functions) z ∙ l.bodies (suc i);
        words = subst (λ p. HasWords code.instructions p others) next
            (words_back code.instructions place mine others l.words);
        last = omega (arith, end, both, long);
        typed = subst (λ n. Holds code.slots (first + n) (flat_map function_types (those_in used))) own
            (holds_back code.slots first (function_types f) (flat_map function_types (those_in used)) l.typed);
        room = omega (arith, room, types, own);
        from = omega (arith, from);
      }

  -- ---- one function more

  returns_wider : (c : Configuration) (lo hi top p : ℕ) (t : Store) (n : List Opened) (calls : List OpenCall)
      (o : Option Value) → hi ≤ top → Returns code c lo hi p t n calls o → Returns code c lo top p t n calls o
  returns_wider c lo hi top p t n calls None le h = h
  returns_wider c lo hi top p t n calls (Some v) le h = (h.0, kept_wider lo hi lo top t h.0 (omega arith) le h.1, h.2)

  abbrev served_wider : (hi top j d : ℕ) (g : PlannedFunction) (m : FunctionMeaning) → hi ≤ top
      → Served code functions base hi j d g m → Served code functions base top j d g m
  served_wider hi top j d g m le s =
      record {
        stands = s.stands;
        body = s.body;
        is_placed = s.is_placed;
        is = s.is;
        typed = s.typed;
        from = s.from;
        to = let h = s.to in omega arith;
        some = s.some;
        strict = s.strict;
        runs = λ calls back n t vs long room many typed held.
            returns_wider (at s.body.start t None [] (open_call s.stands.number back n ∷ calls)) base hi top back t n
            calls
            (m vs) le (s.runs calls back n t vs long room many typed held);
      }

  abbrev give_of : Option FunctionMeaning → FunctionMeaning
  give_of o vs = option_and_then (λ (m : FunctionMeaning). m vs) o

  -- one that is served, and is one of the first so many of the code
  abbrev Lower : ℕ → ℕ → ℕ → ℕ → PlannedFunction → FunctionMeaning → Type 0
  Lower hi many j d g m = (s : Served code functions base hi j d g m) × (s.stands.number < many)

  known_as : (hi many : ℕ) (known : List FunctionMeaning) (m : FunctionMeaning) (depths : List ℕ) (j d : ℕ)
      (g : PlannedFunction) → slice_get known j ≡ Some m → slice_get depths j ≡ Some d → Lower hi many j d g m
      → IsServedAt hi many known depths j g
  known_as hi many known m depths j d g is deep s =
      let there = subst (λ o. Lower hi many j d g (give_of o)) (sym is) s in
      record { depth = d; is_depth = deep; served = there.0; lower = there.1 }

  -- what was known of one stays
  at_wider : (hi top many more : ℕ) (known : List FunctionMeaning) (m : FunctionMeaning) (depths : List ℕ) (d : ℕ)
      (j : ℕ) (g : PlannedFunction) → j < length known → j < length depths → hi ≤ top → many ≤ more
      → IsServedAt hi many known depths j g → IsServedAt top more (known ++ m ∷ []) (depths ++ d ∷ []) j g
  at_wider hi top many more known m depths d j g lt lt2 le up s =
      let lower = s.lower in
      let wide = served_wider hi top j s.depth g (given_by known j) le s.served in
      let there = subst (λ o. Lower top more j s.depth g (give_of o)) (sym (get_front known (m ∷ []) j lt))
      (wide, omega arith) in
      record {
        depth = s.depth;
        is_depth = get_front depths (d ∷ []) j lt2 ∙ s.is_depth;
        served = there.0;
        lower = there.1;
      }

  -- the functions that a body calls are served, and less deep
  below_of : (before fs : List PlannedFunction) (known : List FunctionMeaning) (depths : List ℕ) (many first : ℕ)
      (f : PlannedFunction) → all ≡ before ++ f ∷ fs → slice_get kept (length before) ≡ Some (Some f)
      → AreServedTo (length before) first many known depths → (j arguments : ℕ) → calls f.lines j ≡ true
      → Takes (in_body before f) (places.Function j) arguments
      → Below code functions base first many (depth_of depths f) j arguments (given_by known j)
  below_of before fs known depths many first f is used old j arguments called takes =
      let g = found before j arguments takes in
      let there : slice_get all j ≡ Some g.function =
      ap (λ xs. slice_get xs j) is ∙ (get_front before (f ∷ fs) j g.below ∙ g.is) in
      let z : j ≡ 0 + j = omega arith in
      let mine = used_by_function lines all 0 j (length before) g.function f g.below there used
      (ap (calls f.lines) (sym z) ∙ called) in
      let s = old j g.function g.below mine in
      let less = less_deep depths (functions_in (flat_map uses_in f.lines)) j s.depth called s.is_depth in
      record {
        deep = s.depth;
        function = g.function;
        served = s.served;
        inputs = g.inputs;
        before = s.lower;
        less = omega arith;
      }

  -- the place where a body ends is that of the next, or of the last word
  body_ends : (k many place first : ℕ) (f : PlannedFunction) (used : List (Option PlannedFunction))
      → AreLaid k many place first (Some f ∷ used) → end_of code (many + 1) ≡ place + words_of_function f
  body_ends k many place first f used l = by (those_in used) (next.bodies 0) next.last
    where
      next : AreLaid (k + 1) (many + 1) (place + words_of_function f) (first + slots_of_function f) used
      next = laid_behind k many place first f used l

      z : many + 1 ≡ many + 1 + 0
      z = omega arith

      by : (gs : List PlannedFunction)
          → slice_get code.functions (many + 1 + 0)
          ≡ slice_get (bodies_from (place + words_of_function f) (first + slots_of_function f) gs) 0
          → place + words_of_function f
          + length (words_of_bodies constants functions (place + words_of_function f) (first + slots_of_function f) gs)
          ≡ length code.instructions
          → end_of code (many + 1) ≡ place + words_of_function f
      by [] e last =
          ap (λ o. start_or o (length code.instructions)) (ap (slice_get code.functions) z ∙ e)
          ∙ (sym last ∙ omega arith)
      by (g ∷ gs) e last =
          ap (λ o. start_or o (length code.instructions)) (ap (slice_get code.functions) z ∙ e)

  module _ (in_table : constants ≡ code.constants) (jump : BodiesJump) where
    -- one that is used is served
    this_served : (before fs : List PlannedFunction) (known : List FunctionMeaning) (depths : List ℕ)
        (many place first : ℕ) (f : PlannedFunction) (used : List (Option PlannedFunction)) → all ≡ before ++ f ∷ fs
        → AreLaid (length before) many place first (Some f ∷ used)
        → (slice_get kept (length before) ≡ Some (Some f) → IsGood before f)
        → AreServedTo (length before) first many known depths
        → Lower (first + slots_of_function f) (many + 1) (length before) (depth_of depths f) f (function_value known f)
    this_served before fs known depths many place first f used is l good old =
        let k = length before in
        let z : k ≡ k + 0 = omega arith in
        let m : many ≡ many + 0 = omega arith in
        let kept_here : slice_get kept k ≡ Some (Some f) = ap (slice_get kept) z ∙ l.is_kept 0 in
        let g = good kept_here in
        let here : slice_get code.functions many ≡ Some (body_at place first f) =
        ap (slice_get code.functions) m ∙ l.bodies 0 in
        let types = length-append (function_types f) (flat_map function_types (those_in used)) in
        let room = l.room in
        let own = one_served code functions constants base first place many k (depth_of depths f) f known before
        (λ j. calls f.lines j ≡ true) in_table here (ap (slice_get functions) z ∙ l.stand 0)
        (body_ends k many place first f used l)
        (λ p q lo up hi. jump many (body_at place first f) here p q lo up hi)
        (holds_front code.slots first (function_types f) (flat_map function_types (those_in used)) l.typed)
        (omega (arith, room, types)) l.from (omega arith) g.has_result
        (words_front code.instructions place (words_of_body (numbers_of constants first functions) place f)
        (words_of_bodies constants functions (place + words_of_function f) (first + slots_of_function f) (those_in
        used))
        l.words)
        g.starting g.fits (λ j arguments called takes. below_of before fs known depths many first f is kept_here old j
        arguments called takes) in
        let number = one_number code functions constants base first place many k (depth_of depths f) f known before
        (λ j. calls f.lines j ≡ true) in_table here (ap (slice_get functions) z ∙ l.stand 0)
        (body_ends k many place first f used l)
        (λ p q lo up hi. jump many (body_at place first f) here p q lo up hi)
        (holds_front code.slots first (function_types f) (flat_map function_types (those_in used)) l.typed)
        (omega (arith, room, types)) l.from (omega arith) g.has_result
        (words_front code.instructions place (words_of_body (numbers_of constants first functions) place f)
        (words_of_bodies constants functions (place + words_of_function f) (first + slots_of_function f) (those_in
        used))
        l.words)
        g.starting g.fits (λ j arguments called takes. below_of before fs known depths many first f is kept_here old j
        arguments called takes) in
        subst (λ n. Lower (first + n) (many + 1) k (depth_of depths f) f (function_value known f)) (types_long f)
        (own, omega (arith, number))

    -- with one that is served the others are known as before
    with_served : (k hi top many : ℕ) (known : List FunctionMeaning) (depths : List ℕ) (f : PlannedFunction)
        (m : FunctionMeaning) (d : ℕ) → length known ≡ k → length depths ≡ k → hi ≤ top
        → slice_get kept k ≡ Some (Some f) → Lower top (many + 1) k d f m → AreServedTo k hi many known depths
        → AreServedTo (k + 1) top (many + 1) (known ++ m ∷ []) (depths ++ d ∷ [])
    with_served k hi top many known depths f m d lk ld le is s old j g lt e =
        same_or j k
        (λ q.
        let mine : Some (Some f) ≡ Some (Some g) = sym is ∙ (ap (slice_get kept) (sym q) ∙ e) in
        let own : f ≡ g = cc in
        let there : slice_get (known ++ m ∷ []) j ≡ Some m =
        (let z : j ≡ length known + 0 = omega arith in
        ap (slice_get (known ++ m ∷ [])) z ∙ get_back known (m ∷ []) 0) in
        let deep : slice_get (depths ++ d ∷ []) j ≡ Some d =
        (let z : j ≡ length depths + 0 = omega arith in
        ap (slice_get (depths ++ d ∷ [])) z ∙ get_back depths (d ∷ []) 0) in
        known_as top (many + 1) (known ++ m ∷ []) m (depths ++ d ∷ []) j d g there deep
        (subst (λ x. Lower top (many + 1) j d x m) own (subst (λ n. Lower top (many + 1) n d f m) (sym q) s)))
        (λ q. at_wider hi top many (many + 1) known m depths d j g (omega arith) (omega arith) le (omega arith)
        (old j g (omega arith) e))

    -- and with one that is not used
    with_unused : (k hi many : ℕ) (known : List FunctionMeaning) (depths : List ℕ) (m : FunctionMeaning) (d : ℕ)
        → length known ≡ k → length depths ≡ k → slice_get kept k ≡ Some None → AreServedTo k hi many known depths
        → AreServedTo (k + 1) hi many (known ++ m ∷ []) (depths ++ d ∷ [])
    with_unused k hi many known depths m d lk ld is old j g lt e =
        same_or j k
        (λ q. let none : Some None ≡ Some (Some g) = sym is ∙ (ap (slice_get kept) (sym q) ∙ e) in absurd cc)
        (λ q. at_wider hi hi many many known m depths d j g (omega arith) (omega arith) (omega arith) (omega arith)
        (old j g (omega arith) e))

    -- all functions that are left
    pub all_served : (fs before : List PlannedFunction) (known : List FunctionMeaning) (depths : List ℕ)
        (k many place first : ℕ) → length before ≡ k → length known ≡ k → length depths ≡ k → all ≡ before ++ fs
        → AreLaid k many place first (used_from lines k fs) → AreGood before fs
        → AreServedTo k first many known depths
        → AreServedTo (k + length fs) (length code.slots) (many + length (those_in (used_from lines k fs)))
        (functions_from function_value known fs) (depths_from depths fs)
    all_served [] before known depths k many place first lb lk ld is l good old j g lt e =
        let room = l.room in
        let s = old j g (omega arith) e in
        let lower = s.lower in
        record {
          depth = s.depth;
          is_depth = s.is_depth;
          served = served_wider first (length code.slots) j s.depth g (given_by known j) (omega arith) s.served;
          lower = omega arith;
        }
    all_served (f ∷ fs) before known depths k many place first lb lk ld is l good old j g lt e =
        by (calls lines k || list_any (λ h. calls h.lines k) (those_in later)) l
        (λ many place first l old. all_served fs (before ++ f ∷ []) (known ++ m ∷ []) (depths ++ d ∷ []) (k + 1) many
        place first more (length-append known (m ∷ []) ∙ omega arith) (length-append depths (d ∷ []) ∙ omega arith)
        (is ∙ sym (append_assoc before (f ∷ []) fs)) l good.1 old) j g lt e
      where
        later : List (Option PlannedFunction)
        later = used_from lines (k + 1) fs

        m : FunctionMeaning
        m = function_value known f

        d : ℕ
        d = depth_of depths f

        z : k ≡ k + 0
        z = omega arith

        more : length (before ++ f ∷ []) ≡ k + 1
        more = length-append before (f ∷ []) ∙ omega arith

        -- those behind it, of which the first that is used has this number
        Others : Type 0
        Others =
            (many place first : ℕ) → AreLaid (k + 1) many place first later
            → AreServedTo (k + 1) first many (known ++ m ∷ []) (depths ++ d ∷ [])
            → AreServedTo (k + 1 + length fs) (length code.slots) (many + length (those_in later))
            (functions_from function_value (known ++ m ∷ []) fs) (depths_from (depths ++ d ∷ []) fs)

        by : (b : Bool) → AreLaid k many place first (cond b (Some f) None ∷ later) → Others
            → AreServedTo (k + length (f ∷ fs)) (length code.slots)
            (many + length (those_in (cond b (Some f) None ∷ later)))
            (functions_from function_value (known ++ m ∷ []) fs) (depths_from (depths ++ d ∷ []) fs)
        by false l others j g lt e =
            let here : slice_get kept k ≡ Some None = ap (slice_get kept) z ∙ l.is_kept 0 in
            others many place first (laid_without k many place first later l)
            (with_unused k first many known depths m d lk ld here old) j g (omega arith) e
        by true l others j g lt e =
            let here : slice_get kept k ≡ Some (Some f) = ap (slice_get kept) z ∙ l.is_kept 0 in
            let next = first + slots_of_function f in
            let served = this_served before fs known depths many place first f later is
            (subst (λ n. AreLaid n many place first (Some f ∷ later)) (sym lb) l) good.0
            (subst (λ n. AreServedTo n first many known depths) (sym lb) old) in
            let mine = subst (λ n. Lower next (many + 1) n d f m) lb served in
            let rest = others (many + 1) (place + words_of_function f) next (laid_behind k many place first f later l)
            (with_served k first next many known depths f m d lk ld (omega arith) here mine old) j g (omega arith) e in
            let lower = rest.lower in
            record {
              depth = rest.depth;
              is_depth = rest.is_depth;
              served = rest.served;
              lower = omega arith;
            }
