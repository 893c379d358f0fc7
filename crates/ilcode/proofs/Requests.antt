-- A run makes no more requests than its words may, and its moment stays.
use Rattle.std.proofs.Common.{◌≡◌, ℕ, ◌+◌, ◌≤◌, List, [], ◌∷◌, ◌++◌, length, Bool, true, false, cond}
use Rattle.std.proofs.Common.{Option, Some, None, refl, sym, ap, ◌∙◌, subst, arith}
use Rattle.std.specs.Prelude.{slice_get, slice_set, nat_lt, ◌==◌, ◌&&◌}
use Rattle.std.specs.Option.{option_map, option_and_then, option_map_or}
use Rattle.std.proofs.lemmas.List.Sums.{sum_by_push}
use Rattle.iltypes.specs.declared.value.Value.{Value}
use Rattle.iltypes.specs.declared.value.Value.TheVariants as values
use Rattle.iltypes.specs.Slots.{written}
use Rattle.iltypes.specs.declared.operator.Operator.{Operator}
use Rattle.iltypes.specs.Conditions.{holds}
use Rattle.iltypes.specs.Functions.{modified, value_of_function}
use Rattle.iltypes.specs.Operators.{both}
use Rattle.ilblocks.specs.Limits.{most_nesting, most_calls}
use Rattle.ilblocks.specs.Request.{Request}
use Rattle.ilblocks.specs.declared.kind.BlockKind.{BlockKind}
use Rattle.ilblocks.specs.declared.kind.BlockKind.TheVariants as kinds
use Rattle.ilblocks.specs.Calls.{Block, requested, rises}
use Rattle.ilblocks.specs.Ports.{makes_requests}
use Rattle.ilblocks.specs.Stores.{Store, with_input, type_of_input, listed, after_block, called}
use Rattle.ilcode.specs.declared.function.FunctionBody.{FunctionBody}
use Rattle.ilcode.specs.declared.nesting.Opened.{Opened}
use Rattle.ilcode.specs.declared.word.Word.{Word}
use Rattle.ilcode.specs.declared.word.Word.TheVariants as words
use Rattle.ilcode.specs.declared.word.Target.{Target}
use Rattle.ilcode.specs.declared.word.Target.TheVariants as variables
use Rattle.ilcode.specs.Listings.{Listing, shape_of, end_of}
use Rattle.ilcode.specs.Paths.{Standing, may_request, requests_on}
use Rattle.ilcode.specs.Steps.{OpenCall, open_call, Configuration, at, body_of, opened, value_of, stored_at}
use Rattle.ilcode.specs.Steps.{with_result, with_store, sets, calls, is_callable, invokes, left_by, opens, closes}
use Rattle.ilcode.specs.Steps.{is_target, goes_to, jumps, effect, is_start, if_closed, landed, entered, step}
use Rattle.ilcode.proofs.Moves.{standing_of}
use Rattle.ilcode.proofs.Runs.{step_is, goes_back, ended_closed}

-- the second store has at most so many requests more
record Adds (most : ℕ) (from to : Store) : Type 0 where
  few : length to.requests ≤ length from.requests + most
  moment : to.moment ≡ from.moment

adds_none : (s : Store) → Adds 0 s s
adds_none s = record { few = omega arith; moment = refl }

-- ---- stores and calls

slots_add : (s t : Store) (o : Option (List Value)) → option_map (λ slots. record s { slots = slots }) o ≡ Some t
    → Adds 0 s t
slots_add s t None e = absurd (cc)
slots_add s t (Some slots) e =
    let same : record s { slots = slots } ≡ t = cc in
    subst (Adds 0 s) same (record { few = omega arith; moment = refl })

blocks_add : (s t : Store) (block : ℕ) (o : Option Block)
    → option_map (λ b. record s { blocks = slice_set s.blocks block b }) o ≡ Some t → Adds 0 s t
blocks_add s t block None e = absurd (cc)
blocks_add s t block (Some b) e =
    let same : record s { blocks = slice_set s.blocks block b } ≡ t = cc in
    subst (Adds 0 s) same (record { few = omega arith; moment = refl })

stored_adds : (code : Listing) (s t : Store) (variable : Target) (value : Value)
    → stored_at code s variable value ≡ Some t → Adds 0 s t
stored_adds code s t (variables.Slot slot) value e = slots_add s t (written code.slots s.slots slot value) e
stored_adds code s t (variables.Port port block) value e =
    let type = type_of_input (shape_of code) block port in
    blocks_add s t block (option_and_then (λ b. with_input b port value type) (slice_get s.blocks block)) e

maybe_stored_adds : (code : Listing) (s t : Store) (variable : Target) (o : Option Value)
    → option_and_then (stored_at code s variable) o ≡ Some t → Adds 0 s t
maybe_stored_adds code s t variable None e = absurd (cc)
maybe_stored_adds code s t variable (Some value) e = stored_adds code s t variable value e

never : (rises : Bool) (request : Option Request) → request ≡ None → cond rises request None ≡ None
never true request e = e
never false request e = refl

-- a call makes no request where its kind makes none, else at most one
none_requested : (kind : BlockKind) (b : Block) → makes_requests kind ≡ false → requested kind b ≡ None
none_requested kinds.RTrig b e = never (rises b) None refl
none_requested kinds.Ctu b e = never (rises b) None refl
none_requested kinds.Ton b e = never (rises b) None refl
none_requested kinds.GearLevel b e = absurd (cc)
none_requested kinds.GearDo b e = absurd (cc)
none_requested kinds.GearSet b e = absurd (cc)
none_requested kinds.GearPair b e = absurd (cc)
none_requested kinds.GearAsk b e = absurd (cc)
none_requested kinds.GearRead b e = absurd (cc)
none_requested kinds.DevDo b e = absurd (cc)
none_requested kinds.DevScheme b e = absurd (cc)
none_requested kinds.DevAsk b e = absurd (cc)

listed_few : (o : Option Request) → length (listed o) ≤ 1
listed_few None = omega arith
listed_few (Some request) = omega arith

long_both : (xs ys : List Request) → length (xs ++ ys) ≡ length xs + length ys
long_both [] ys = omega arith
long_both (x ∷ xs) ys = let e = long_both xs ys in omega arith

-- so many requests are listed at most
listed_by : (kind : BlockKind) (b : Block) (may : Bool) → makes_requests kind ≡ may
    → length (listed (requested kind b)) ≤ cond may 1 0
listed_by kind b true e = listed_few (requested kind b)
listed_by kind b false e =
    let none = ap (λ (o : Option Request). length (listed o)) (none_requested kind b e) in omega (arith, none)

block_adds : (s t : Store) (kind : BlockKind) (block : ℕ) (o : Option Block)
    → option_map (after_block kind s block) o ≡ Some t → Adds (cond (makes_requests kind) 1 0) s t
block_adds s t kind block None e = absurd (cc)
block_adds s t kind block (Some b) e =
    let same : after_block kind s block b ≡ t = cc in
    let long = long_both s.requests (listed (requested kind b)) in
    let few = listed_by kind b (makes_requests kind) refl in
    subst (Adds (cond (makes_requests kind) 1 0) s) same (record { few = omega (arith, long, few); moment = refl })

call_adds : (s t : Store) (block : ℕ) (o : Option BlockKind)
    → option_and_then (λ kind. option_map (after_block kind s block) (slice_get s.blocks block)) o ≡ Some t
    → Adds (cond (option_map_or makes_requests o false) 1 0) s t
call_adds s t block None e = absurd (cc)
call_adds s t block (Some kind) e = block_adds s t kind block (slice_get s.blocks block) e

-- ---- words

made : (c d : Configuration) (place : ℕ) (store : Store) (result : Option Value) (nesting : List Opened)
    (calls : List OpenCall) → Some (at place store result nesting calls) ≡ Some d → store ≡ d.store
made c d place store result nesting calls e =
    let p : at place store result nesting calls ≡ d = cc in ap (λ (x : Configuration). x.store) p

-- the store stays
same_adds : (s t : Store) → s ≡ t → Adds 0 s t
same_adds s t e = subst (Adds 0 s) e (adds_none s)

result_adds : (c d : Configuration) (nesting : List Opened) (o : Option Value) → with_result c nesting o ≡ Some d
    → Adds 0 c.store d.store
result_adds c d nesting None e = absurd (cc)
result_adds c d nesting (Some value) e =
    same_adds c.store d.store (made c d (c.place + 1) c.store (Some value) nesting c.calls e)

store_adds : (c d : Configuration) (o : Option Store) → ((t : Store) → o ≡ Some t → Adds 0 c.store t)
    → with_store c o ≡ Some d → Adds 0 c.store d.store
store_adds c d None adds e = absurd (cc)
store_adds c d (Some t) adds e =
    subst (Adds 0 c.store) (made c d (c.place + 1) t c.result c.nesting c.calls e) (adds t refl)

calls_adds : (c d : Configuration) (most : ℕ) (o : Option Store)
    → ((t : Store) → o ≡ Some t → Adds most c.store t) → calls c o ≡ Some d → Adds most c.store d.store
calls_adds c d most None adds e = absurd (cc)
calls_adds c d most (Some t) adds e =
    subst (Adds most c.store) (made c d (c.place + 1) t None c.nesting c.calls e) (adds t refl)

sets_adds : (code : Listing) (c d : Configuration) (variable : Target) (truth : Bool) (result : Option Value)
    → sets code c variable truth result ≡ Some d → Adds 0 c.store d.store
sets_adds code c d variable truth None e = absurd (cc)
sets_adds code c d variable truth (Some (values.Int n)) e = absurd (cc)
sets_adds code c d variable truth (Some (values.Bool true)) e =
    store_adds c d (stored_at code c.store variable (values.Bool truth))
    (λ t h. stored_adds code c.store t variable (values.Bool truth) h) e
sets_adds code c d variable truth (Some (values.Bool false)) e =
    store_adds c d (Some c.store) (λ t h. let same : c.store ≡ t = cc in same_adds c.store t same) e

room_adds : (c d : Configuration) (operator : Operator) (value : Value) (room : Bool)
    → cond room (Some (at (c.place + 1) c.store None (opened operator value ∷ c.nesting) c.calls)) None ≡ Some d
    → Adds 0 c.store d.store
room_adds c d operator value true e =
    same_adds c.store d.store (made c d (c.place + 1) c.store None (opened operator value ∷ c.nesting) c.calls e)
room_adds c d operator value false e = absurd (cc)

opens_adds : (c d : Configuration) (operator : Operator) (result : Option Value) → opens c operator result ≡ Some d
    → Adds 0 c.store d.store
opens_adds c d operator None e = absurd (cc)
opens_adds c d operator (Some value) e = room_adds c d operator value (nat_lt (length c.nesting) most_nesting) e

closes_adds : (c d : Configuration) (nesting : List Opened) → closes c nesting ≡ Some d → Adds 0 c.store d.store
closes_adds c d [] e = absurd (cc)
closes_adds c d (innermost ∷ nesting) e =
    result_adds c d nesting (both innermost.operator (Some innermost.saved) c.result) e

goes_adds : (c d : Configuration) (place : ℕ) → Some (goes_to c place) ≡ Some d → Adds 0 c.store d.store
goes_adds c d place e =
    let p : goes_to c place ≡ d = cc in same_adds c.store d.store (ap (λ (x : Configuration). x.store) p)

lawful_adds : (c d : Configuration) (target : ℕ) (lawful : Bool)
    → cond lawful (Some (goes_to c target)) None ≡ Some d → Adds 0 c.store d.store
lawful_adds c d target true e = goes_adds c d target e
lawful_adds c d target false e = absurd (cc)

jumps_adds : (code : Listing) (c d : Configuration) (target : ℕ) (nesting : List Opened) (met : Option Bool)
    → jumps code c target nesting met ≡ Some d → Adds 0 c.store d.store
jumps_adds code c d target [] None e = absurd (cc)
jumps_adds code c d target [] (Some true) e = lawful_adds c d target (is_target code c.place target) e
jumps_adds code c d target [] (Some false) e = goes_adds c d (c.place + 1) e
jumps_adds code c d target (innermost ∷ nesting) met e = absurd (cc)

may_call_adds : (c d : Configuration) (function : ℕ) (f : FunctionBody) (may : Bool)
    → cond may (Some (at f.start c.store None [] (open_call function (c.place + 1) c.nesting ∷ c.calls))) None ≡ Some d
    → Adds 0 c.store d.store
may_call_adds c d function f true e =
    same_adds c.store d.store
    (made c d f.start c.store None [] (open_call function (c.place + 1) c.nesting ∷ c.calls) e)
may_call_adds c d function f false e = absurd (cc)

invokes_adds : (c d : Configuration) (function : ℕ) (o : Option FunctionBody) → invokes c function o ≡ Some d
    → Adds 0 c.store d.store
invokes_adds c d function None e = absurd (cc)
invokes_adds c d function (Some f) e =
    may_call_adds c d function f (is_callable (body_of c.calls) function && nat_lt (length c.calls) most_calls) e

-- a word makes no more requests than it may
effect_adds : (code : Listing) (c d : Configuration) (word : Word) → effect code c word ≡ Some d
    → Adds (cond (may_request code word) 1 0) c.store d.store
effect_adds code c d (words.Load negated operand) e =
    result_adds c d c.nesting (option_and_then (modified negated) (value_of code c.store operand)) e
effect_adds code c d (words.Apply operator operand) e =
    result_adds c d c.nesting (both operator c.result (value_of code c.store operand)) e
effect_adds code c d (words.Transform function) e =
    result_adds c d c.nesting (option_and_then (value_of_function function) c.result) e
effect_adds code c d (words.Store negated variable) e =
    let value = option_and_then (modified negated) c.result in
    store_adds c d (option_and_then (stored_at code c.store variable) value)
    (λ t h. maybe_stored_adds code c.store t variable value h) e
effect_adds code c d (words.Set variable) e = sets_adds code c d variable true c.result e
effect_adds code c d (words.Reset variable) e = sets_adds code c d variable false c.result e
effect_adds code c d (words.Pass port block operand) e =
    let variable = variables.Port port block in
    let value = value_of code c.store operand in
    store_adds c d (option_and_then (stored_at code c.store variable) value)
    (λ t h. maybe_stored_adds code c.store t variable value h) e
effect_adds code c d (words.Call block) e =
    let kind = slice_get code.kinds block in
    calls_adds c d (cond (option_map_or makes_requests kind false) 1 0) (called (shape_of code) c.store block)
    (λ t h. call_adds c.store t block kind h) e
effect_adds code c d (words.Open operator) e = opens_adds c d operator c.result e
effect_adds code c d words.Close e = closes_adds c d c.nesting e
effect_adds code c d (words.Jump condition target) e =
    jumps_adds code c d target c.nesting (holds condition c.result) e
effect_adds code c d (words.Give operand slot) e =
    let variable = variables.Slot slot in
    let value = value_of code c.store operand in
    store_adds c d (option_and_then (stored_at code c.store variable) value)
    (λ t h. maybe_stored_adds code c.store t variable value h) e
effect_adds code c d (words.Invoke function) e = invokes_adds c d function (slice_get code.functions function) e

-- ---- steps

if_closed_store : (c e : Configuration) (s : Store) (nesting : List Opened) → c.store ≡ s
    → if_closed nesting c ≡ Some e → s ≡ e.store
if_closed_store c e s [] p h = let q : c ≡ e = cc in sym p ∙ ap (λ (x : Configuration). x.store) q
if_closed_store c e s (innermost ∷ nesting) p h = absurd (cc)

program_store : (place : ℕ) (store : Store) (result : Option Value) (nesting : List Opened) (d : Configuration)
    (starts ends : Bool)
    → cond starts (if_closed nesting (at place store None nesting []))
    (cond ends (if_closed nesting (at place store result nesting [])) (Some (at place store result nesting [])))
    ≡ Some d
    → store ≡ d.store
program_store place store result nesting d true ends h =
    if_closed_store (at place store None nesting []) d store nesting refl h
program_store place store result nesting d false true h =
    if_closed_store (at place store result nesting []) d store nesting refl h
program_store place store result nesting d false false h =
    if_closed_store (at place store result nesting []) d store [] refl h

body_store : (code : Listing) (place : ℕ) (store : Store) (result : Option Value) (nesting : List Opened)
    (c : OpenCall) (cs : List OpenCall) (d : Configuration) (ends : Bool)
    → (landed code c.back store (left_by code store c.function) c.nesting cs ≡ Some d → store ≡ d.store)
    → cond ends
    (option_and_then (goes_back code store c cs) (if_closed nesting c.back))
    (Some (at place store result nesting (c ∷ cs))) ≡ Some d
    → store ≡ d.store
body_store code place store result nesting c cs d true further h =
    further (ended_closed nesting c.back (goes_back code store c cs) d h).1
body_store code place store result nesting c cs d false further h =
    if_closed_store (at place store result nesting (c ∷ cs)) d store [] refl h

landed_store : (code : Listing) (place : ℕ) (store : Store) (result : Option Value) (nesting : List Opened)
    (cs : List OpenCall) (d : Configuration) → landed code place store result nesting cs ≡ Some d → store ≡ d.store
landed_store code place store result nesting [] d h =
    program_store place store result nesting d (is_start code place) (place == end_of code 0) h
landed_store code place store result nesting (c ∷ cs) d h =
    body_store code place store result nesting c cs d (place == end_of code (c.function + 1))
    (λ further. landed_store code c.back store (left_by code store c.function) c.nesting cs d further) h

-- what is entered keeps its store
pub entered_store : (code : Listing) (c d : Configuration) → entered code c ≡ Some d → c.store ≡ d.store
entered_store code c d h = landed_store code c.place c.store c.result c.nesting c.calls d h

step_adds : (code : Listing) (c d : Configuration) → step code c ≡ Some d
    → Adds (cond (option_map_or (may_request code) (slice_get code.instructions c.place) false) 1 0) c.store d.store
step_adds code c d h =
    let i = step_is code c d h in
    let a = effect_adds code c i.made i.word i.effects in
    let b = subst (Adds (cond (may_request code i.word) 1 0) c.store) (entered_store code i.made d i.entered) a in
    subst (λ (o : Option Word). Adds (cond (option_map_or (may_request code) o false) 1 0) c.store d.store)
    (sym i.is) b

-- ---- runs

-- the second store is after no more requests than the words of this path may make, at the same moment
pub record HasFew (code : Listing) (path : List Standing) (from to : Store) : Type 0 where
  pub few : length to.requests ≤ length from.requests + requests_on code path
  pub moment : to.moment ≡ from.moment

pub few_at_first : (code : Listing) (from : Store) → HasFew code [] from from
few_at_first code from = record { few = omega arith; moment = refl }

-- one step more
pub few_more : (code : Listing) (path : List Standing) (from : Store) (c d : Configuration)
    → HasFew code path from c.store → step code c ≡ Some d → HasFew code (path ++ standing_of c ∷ []) from d.store
few_more code path from c d h e =
    let a = step_adds code c d e in
    let may : Standing → Bool =
    λ s. option_map_or (may_request code) (slice_get code.instructions s.place) false in
    let more = sum_by_push (λ (s : Standing). cond (may s) 1 0) path (standing_of c) in
    record { few = omega (arith, h.few, a.few, more); moment = a.moment ∙ h.moment }
