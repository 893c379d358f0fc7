-- What events write is of the type of the variable that is located there.
use Rattle.std.proofs.Common.{◌≡◌, ℕ, ◌≤◌, All, List, map, Option, Some, None, sym, ap, ◌∙◌}
use Rattle.std.proofs.Common.{subst, arith}
use Rattle.std.proofs.lemmas.Int.{ints}
use Rattle.std.specs.Prelude.{slice_get, IfSome, option_map}
use Rattle.std.specs.Option.{IsSomeAnd}
use Rattle.std.proofs.lemmas.Option.{slice_get_within, slice_get-map, get_or_from_slice_get}
use Rattle.iltypes.specs.declared.value.IlType.{IlType}
use Rattle.iltypes.specs.declared.value.IlType.TheVariants as types
use Rattle.iltypes.specs.declared.value.Value.{Value}
use Rattle.iltypes.specs.Values.{IsOf}
use Rattle.wordlines.specs.Wirings.{Wiring}
use Rattle.ilplan.specs.declared.global.Global.{Global as GlobalVariable}
use Rattle.ilplan.specs.declared.global.Location.{Location}
use Rattle.ilplan.specs.Plans.{Planned, HasUpTo, IsLawful, IsLocatedIn, IsAddressIn, Suits, wiring_of}
use Rattle.ilmachine.specs.Snapshots.{MayHave}
use Rattle.plantevents.specs.Variables.{whole}
use Rattle.plantbuses.specs.AnswerSteps.{IsWrittenAs}

pub within_up_to : (last n : ℕ) (value_type : IlType) → HasUpTo last value_type → n ≤ last → IsOf (whole n) value_type
within_up_to last n types.Bool has le = absurd has.0
within_up_to last n (types.Int range) has le =
    record { low = omega (arith, ints, has.0.low); high = omega (arith, ints, has.1.high) }

-- ---- of a global variable

pub all_at : {X : Type 0} (P : X → Type 0) (xs : List X) (i : ℕ) (x : X) → All P xs → slice_get xs i ≡ Some x → P x
all_at P xs i x all is = subst P (get_or_from_slice_get xs i x x is) (all i x (slice_get_within xs i x is))

pub located_at : (wiring : Wiring) (g : GlobalVariable) (location : Location) → g.location ≡ Some location
    → IsLocatedIn wiring g → Suits g.value_type location
located_at wiring g location is located =
    (subst (λ (o : Option Location). IfSome o (λ place. IsAddressIn wiring place × Suits g.value_type place)) is
    located).1

pub fits_there : (plan : Planned) (global : ℕ) (g : GlobalVariable) (location : Location) (value : Option Value)
    → IsLawful plan → slice_get plan.globals global ≡ Some g → g.location ≡ Some location
    → ((value_type : IlType) → IfSome value (IsWrittenAs value_type location))
    → IfSome value (MayHave (map (λ (x : GlobalVariable). x.value_type) plan.globals) global)
fits_there plan global g location None lawful is at written = tt
fits_there plan global g location (Some value) lawful is at written =
    let suits = located_at (wiring_of plan) g location at (all_at (IsLocatedIn (wiring_of plan)) plan.globals global g
    lawful.located is) in
    let there : slice_get (map (λ (x : GlobalVariable). x.value_type) plan.globals) global ≡ Some g.value_type =
    slice_get-map (λ (x : GlobalVariable). x.value_type) plan.globals global
    ∙ ap (option_map (λ (x : GlobalVariable). x.value_type)) is in
    subst (λ (o : Option IlType). IsSomeAnd o (IsOf value)) (sym there) (written g.value_type suits)
