-- How what lines name stands in the code's store, and what is known of the functions that they call.
use Rattle.std.proofs.Common.{◌≡◌, ℕ, ◌+◌, ◌≤◌, List, [], ◌∷◌, length, map, true, false, Option, Some, None}
use Rattle.std.proofs.Common.{refl, ◌∙◌}
use Rattle.std.specs.Prelude.{slice_get, ⊤}
use Rattle.limits.specs.Limits.{most_calls}
use Rattle.iltypes.specs.declared.value.IlType.{IlType}
use Rattle.iltypes.specs.declared.value.Value.{Value}
use Rattle.ilsource.specs.declared.operand.Operand.TheVariants.{Name}
use Rattle.ilsource.specs.declared.uses.Purpose.TheVariants.{Call, Pass}
use Rattle.ilsource.specs.Functions.{FunctionMeaning, are_of}
use Rattle.ilsource.specs.Meaning.{Access}
use Rattle.ilblocks.specs.Stores.{Store}
use Rattle.ilblocks.specs.Stores as stores
use Rattle.ilplan.specs.declared.place.Place.{Place}
use Rattle.ilplan.specs.declared.place.Place.TheVariants as places
use Rattle.ilplan.specs.Functions.{PlannedFunction, function_types}
use Rattle.ilplan.specs.Plans.{Nameable, HasOperand, HasPlace, Takes}
use Rattle.ilcode.specs.declared.function.FunctionBody.{FunctionBody}
use Rattle.ilcode.specs.declared.nesting.Opened.{Opened}
use Rattle.ilcode.specs.declared.word.Target.TheVariants as variables
use Rattle.ilcode.specs.Listings.{Listing, shape_of}
use Rattle.ilcode.specs.Steps.{Configuration, OpenCall, at, body_of, is_callable, open_call, stored_at, value_of}
use Rattle.ilcompile.specs.declared.numbers.Placed.{Placed}
use Rattle.ilcompile.specs.Layout.{Numbers, number_of, operand_of, port_of, variable_of}
use Rattle.ilcompile.proofs.Slots.{Same, Holds, same_all, same_then, same_wider}
use Rattle.ilcompile.proofs.Reaches.{Reaches, Stuck}

-- both are there and have what is said, or neither is
abbrev pub Both : {A B : Type 0} → (A → B → Type 0) → Option A → Option B → Type 0
Both R None None = ⊤
Both R None (Some b) = ⊥
Both R (Some a) None = ⊥
Both R (Some a) (Some b) = R a b

-- the code's store is the same but for slots from the first place on and below the second
pub record Kept (lo hi : ℕ) (s t : Store) : Type 0 where
  pub slots : Same lo hi s.slots t.slots
  pub blocks : t.blocks ≡ s.blocks
  pub requests : t.requests ≡ s.requests
  pub moment : t.moment ≡ s.moment

pub kept_all : (lo hi : ℕ) (s : Store) → Kept lo hi s s
kept_all lo hi s = record { slots = same_all lo hi s.slots; blocks = refl; requests = refl; moment = refl }

pub kept_then : (lo hi : ℕ) (s t u : Store) → Kept lo hi s t → Kept lo hi t u → Kept lo hi s u
kept_then lo hi s t u a b =
    record {
      slots = same_then lo hi s.slots t.slots u.slots a.slots b.slots;
      blocks = b.blocks ∙ a.blocks;
      requests = b.requests ∙ a.requests;
      moment = b.moment ∙ a.moment;
    }

pub kept_wider : (lo hi lo2 hi2 : ℕ) (s t : Store) → lo2 ≤ lo → hi ≤ hi2 → Kept lo hi s t → Kept lo2 hi2 s t
kept_wider lo hi lo2 hi2 s t l h a =
    record {
      slots = same_wider lo hi lo2 hi2 s.slots t.slots l h a.slots;
      blocks = a.blocks;
      requests = a.requests;
      moment = a.moment;
    }

-- from c the run comes to the place with a value, and leaves all but slots between these two; or it is stuck
abbrev pub Returns : Listing → Configuration → (lo hi : ℕ) → ℕ → Store → List Opened → List OpenCall → Option Value
    → Type 0
Returns code c lo hi p t n calls None = Stuck code c
Returns code c lo hi p t n calls (Some v) =
    (u : Store) × Kept lo hi t u × Reaches code c (at p u (Some v) n calls)

abbrev pub input_types : PlannedFunction → List IlType
input_types g = map (λ i. i.value_type) g.inputs

-- the plan's function of this number is this one, so many calls deep; its meaning is this, and its calls in the code do
-- that: they leave all but slots between these two
pub record Served (code : Listing) (functions : List (Option Placed)) (base hi f depth : ℕ) (g : PlannedFunction)
    (m : FunctionMeaning) : Type 0 where
  pub stands : Placed
  pub body : FunctionBody
  pub is_placed : slice_get functions f ≡ Some (Some stands)
  pub is : slice_get code.functions stands.number ≡ Some body
  pub typed : Holds code.slots stands.first (function_types g)
  pub from : base ≤ stands.first
  pub to : stands.first + length (function_types g) ≤ hi
  pub some : 1 ≤ depth
  -- arguments of other types have no value
  pub strict : (vs : List Value) → length vs ≡ length g.inputs → are_of (input_types g) vs ≡ false → m vs ≡ None
  -- from any store whose inputs hold the arguments, where no more calls are open than leave room
  pub runs : (calls : List OpenCall) (back : ℕ) (n : List Opened) (t : Store) (vs : List Value)
      → length t.slots ≡ length code.slots → length calls + depth ≤ most_calls → length vs ≡ length g.inputs
      → are_of (input_types g) vs ≡ true → Holds t.slots stands.first vs
      → Returns code (at body.start t None [] (open_call stands.number back n ∷ calls)) base hi back t n calls (m vs)

-- a function that lines call where these calls are open, with so many arguments
pub record Callee (code : Listing) (functions : List (Option Placed)) (base hi : ℕ) (calls : List OpenCall) (f many : ℕ)
    (m : FunctionMeaning) : Type 0 where
  pub depth : ℕ
  pub function : PlannedFunction
  pub served : Served code functions base hi f depth function m
  pub inputs : length function.inputs ≡ many
  pub callable : is_callable (body_of calls) served.stands.number ≡ true
  pub room : length calls + depth ≤ most_calls

-- what lines name stands in the code's store, whatever functions' slots from `base` on and below `hi` hold; and the
-- functions that they may call do in the code what they mean
pub record Shows {S : Type 0} (code : Listing) (numbers : Numbers) (base hi : ℕ) (calls : List OpenCall)
    (a : Access Place S) (Sees : S → Store → Type 0) (names : Nameable) (May : ℕ → Type 0) : Type 0 where
  pub constants : numbers.constants ≡ code.constants
  pub long : (s : S) (t : Store) → Sees s t → length t.slots ≡ length code.slots
  pub read : (s : S) (t : Store) → Sees s t → (place : Place) → HasPlace names place
      → value_of code t (operand_of numbers (Name place)) ≡ a.read s place
  pub write : (s : S) (t : Store) → Sees s t → (place : Place) (v : Value) → HasPlace names place
      → Both Sees (a.write s place v) (stored_at code t (variable_of numbers place) v)
  pub pass : (s : S) (t : Store) → Sees s t → (place : Place) (v : Value) → HasOperand names Pass (Name place)
      → Both Sees (a.pass s place v) (stored_at code t (variables.Port (port_of place) (number_of place)) v)
  pub call : (s : S) (t : Store) → Sees s t → (place : Place) → HasOperand names Call (Name place)
      → Both Sees (a.call s place) (stores.called (shape_of code) t (number_of place))
  pub kept : (s : S) (t u : Store) → Sees s t → Kept base hi t u → Sees s u
  pub callee : (f many : ℕ) → May f → Takes names (places.Function f) many
      → Callee code numbers.functions base hi calls f many (a.give (places.Function f))
