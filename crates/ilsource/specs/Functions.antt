-- What functions give (IEC 61131-3, 2.5.1). A function is known by what it gives on arguments. The functions of a text
-- are gone over in the order in which they are declared, and the body of each sees those before it alone.
use Rattle.std.specs.Prelude.{ℕ, Bool, true, false, ◌&&◌, if◌then◌else◌, List, [], ◌∷◌, ◌++◌, Option, Some, None}
use Rattle.std.specs.Prelude.{slice_get}
use Rattle.std.specs.Option.{option_and_then}
use Rattle.iltypes.specs.declared.value.IlType.{IlType}
use Rattle.iltypes.specs.declared.value.Value.{Value}
use Rattle.iltypes.specs.Slots.{is_of}
use Rattle.ilblocks.specs.Stores.{Store}
use Rattle.ilsource.specs.declared.instruction.Line.{Line}
use Rattle.ilsource.specs.Meaning.{Access, On}
use Rattle.ilsource.specs.Passes.{passes}

-- what a function gives on arguments, where it gives something
abbrev pub FunctionMeaning : Type 0
FunctionMeaning = List Value → Option Value

-- what is carried out at a call: the types of the function's variables, which are its inputs, then the one with its
-- name, which is the result, then its VAR; how many are inputs; the values with which the others begin; its lines
pub record Body (N L : Type 0) : Type 0 where
  pub types : List IlType
  pub inputs : ℕ
  pub initials : List Value
  pub lines : List (Line N L)

-- each value is of the type beside it, and there are as many
abbrev pub are_of : List IlType → List Value → Bool
are_of [] [] = true
are_of (type ∷ types) (value ∷ values) = is_of type value && are_of types values
are_of _ _ = false

-- a store of variables alone; a body has no block, so that it makes no request and does not see the moment
abbrev pub variables_alone : List Value → Store
variables_alone slots = record { slots = slots; blocks = []; requests = []; moment = 0 }

-- the store with which a call begins: the arguments and the initial values, each of its type
abbrev pub begun : {N L : Type 0} → Body N L → List Value → Option Store
begun body arguments =
    let slots = arguments ++ body.initials in
    if are_of body.types slots then Some (variables_alone slots) else None

-- what a function of this body gives: the value of its result at the end of its lines, which are carried out from the
-- first, with no current result
abbrev pub body_value : {N L : Type 0} → (L → L → Bool) → Access N Store → Body N L → FunctionMeaning
body_value same a body arguments =
    option_and_then
    (λ s. slice_get s.slots body.inputs)
    (option_and_then (passes same a body.lines On None) (begun body arguments))

-- what functions give, in declared order, after those that are known; `meaning` is what a function gives where those
-- before it give this
abbrev pub functions_from : {F : Type 0} → (List FunctionMeaning → F → FunctionMeaning) → List FunctionMeaning
    → List F → List FunctionMeaning
functions_from meaning known [] = known
functions_from meaning known (f ∷ fs) = functions_from meaning (known ++ meaning known f ∷ []) fs

-- what the known function of this number gives
abbrev pub given_by : List FunctionMeaning → ℕ → List Value → Option Value
given_by known number arguments = option_and_then (λ (m : FunctionMeaning). m arguments) (slice_get known number)
