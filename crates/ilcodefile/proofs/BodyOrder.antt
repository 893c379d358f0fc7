-- Functions that follow one another are those of a code, and their numbers are small.
use Rattle.std.proofs.Common.{◌≡◌, ℕ, zero, suc, ◌+◌, ◌<◌, ◌≤◌, ◌^◌, List, [], ◌∷◌, length, refl, sym, ap}
use Rattle.std.proofs.Common.{arith, subst, Option, Some, None}
use Rattle.std.specs.Prelude.{slice_get, All}
use Rattle.std.specs.List.{AllByRecursion}
use Rattle.std.proofs.lemmas.Option.{none-some}
use Rattle.limits.specs.Limits as limits
use Rattle.ilcode.specs.declared.function.FunctionBody.{FunctionBody}
use Rattle.ilcode.specs.Listings.{AreFunctions, IsLawful, Listing, end_of, first_or, start_or}
use Rattle.ilcodefile.specs.BodySteps.{AreBodies, Follow, HasInputs, IsSmall}
use Rattle.ilcodefile.proofs.Starts.{starts_begin}

-- ---- one after another

-- a function with its inputs, which ends where the one after it begins
record Placed (words slots : ℕ) (fs : List FunctionBody) (n : ℕ) (f : FunctionBody) : Type 0 where
  inputs : HasInputs f
  ends : f.start ≤ start_or (slice_get fs (n + 1)) words
  slots_end : f.first + f.slots ≡ first_or (slice_get fs (n + 1)) slots

get_suc : (f : FunctionBody) (fs : List FunctionBody) (n : ℕ)
    → slice_get (f ∷ fs) (suc n + 1) ≡ slice_get fs (n + 1)
get_suc f fs n = let e : suc n + 1 ≡ suc (n + 1) = omega arith in ap (slice_get (f ∷ fs)) e

some_same : (f g : FunctionBody) → Some f ≡ Some g → f ≡ g
some_same f g e = ap (λ (o : Option FunctionBody). unwrapped o) e
  where
    unwrapped : Option FunctionBody → FunctionBody
    unwrapped (Some h) = h
    unwrapped None = f

placed : (words slots : ℕ) (fs : List FunctionBody) → Follow words slots fs → (n : ℕ) (f : FunctionBody)
    → slice_get fs n ≡ Some f → Placed words slots fs n f
placed words slots [] follow n f is = absurd (none-some f is)
placed words slots (g ∷ fs) follow zero f is =
    subst (λ (h : FunctionBody). Placed words slots (g ∷ fs) 0 h) (some_same g f is)
    (record { inputs = follow.0; ends = follow.1; slots_end = follow.2 })
placed words slots (g ∷ fs) follow (suc n) f is =
    let rest = placed words slots fs follow.3 n f is in
    let same = sym (get_suc g fs n) in
    record {
      inputs = rest.inputs;
      ends = subst (λ (o : Option FunctionBody). f.start ≤ start_or o words) same rest.ends;
      slots_end = subst (λ (o : Option FunctionBody). f.first + f.slots ≡ first_or o slots) same rest.slots_end;
    }

follows : (words slots : ℕ) (fs : List FunctionBody)
    → ((n : ℕ) (f : FunctionBody) → slice_get fs n ≡ Some f → Placed words slots fs n f) → Follow words slots fs
follows words slots [] each = tt
follows words slots (f ∷ fs) each =
    let here = each 0 f refl in (
      here.inputs,
      here.ends,
      here.slots_end,
      follows words slots fs
          (λ n g is.
          let there = each (suc n) g is in
          let same = get_suc f fs n in
          record {
            inputs = there.inputs;
            ends = subst (λ (o : Option FunctionBody). g.start ≤ start_or o words) same there.ends;
            slots_end =
                subst (λ (o : Option FunctionBody). g.first + g.slots ≡ first_or o slots) same there.slots_end;
          }),
    )

-- ---- of a code

pub are_functions : (code : Listing) → length code.functions ≤ limits.most_functions
    → Follow (length code.instructions) (length code.slots) code.functions
    → All (λ start. start ≤ end_of code 0) code.starts → AreFunctions code
are_functions code few follow programs =
    record {
      most = few;
      each =
          λ n f is.
          let one = placed (length code.instructions) (length code.slots) code.functions follow n f is in
          record {
            some_input = one.inputs.some_input;
            most_inputs = one.inputs.most_inputs;
            result = one.inputs.result;
            words = one.ends;
            slots = one.slots_end;
          };
      programs = programs;
    }

pub follow_of : (code : Listing) → AreFunctions code
    → Follow (length code.instructions) (length code.slots) code.functions
follow_of code are =
    follows (length code.instructions) (length code.slots) code.functions
    (λ n f is.
    let one = are.each n f is in
    record {
      inputs =
          record { some_input = one.some_input; most_inputs = one.most_inputs; result = one.result };
      ends = one.words;
      slots_end = one.slots;
    })

-- ---- small numbers

pub start_within : (words slots : ℕ) (fs : List FunctionBody) → Follow words slots fs
    → start_or (slice_get fs 0) words ≤ words
start_within words slots [] follow = omega arith
start_within words slots (f ∷ fs) follow =
    let here = follow.1 in
    let rest = start_within words slots fs follow.3 in
    omega arith

first_within : (words slots : ℕ) (fs : List FunctionBody) → Follow words slots fs
    → first_or (slice_get fs 0) slots ≤ slots
first_within words slots [] follow = omega arith
first_within words slots (f ∷ fs) follow =
    let here = follow.2 in
    let rest = first_within words slots fs follow.3 in
    omega arith

small : (words slots : ℕ) → words < 2 ^ 32 → slots < 2 ^ 32 → (fs : List FunctionBody) → Follow words slots fs
    → AllByRecursion IsSmall fs
small words slots few less [] follow = tt
small words slots few less (f ∷ fs) follow =
    let start = start_within words slots (f ∷ fs) follow in
    let first = first_within words slots fs follow.3 in
    let end = follow.2 in
    let result = follow.0.result in (
      record { start = omega arith; first = omega arith; inputs = omega arith; slots = omega arith },
      small words slots few less fs follow.3,
    )

pub small_functions : (code : Listing) → IsLawful code → AllByRecursion IsSmall code.functions
small_functions code lawful =
    let words = lawful.most_instructions in
    let slots = lawful.most_slots in
    small (length code.instructions) (length code.slots) (omega arith) (omega arith) code.functions
    (follow_of code lawful.functions)

-- ---- a code has such bodies

pub bodies_of : (code : Listing) → IsLawful code
    → AreBodies code.buses (length code.slots) code.starts code.instructions code.functions
bodies_of code lawful =
    record {
      begin = starts_begin (end_of code 0) code.starts code.instructions lawful.starts lawful.functions.programs;
      follow = follow_of code lawful.functions;
      old = lawful.old;
    }
