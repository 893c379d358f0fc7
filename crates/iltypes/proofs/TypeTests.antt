-- The test `is_of` is true exactly where a value is of a type.
use Rattle.std.proofs.Common.{◌≡◌, refl, arith, Bool, true, false, IsTrue, ◌↔◌}
use Rattle.std.proofs.lemmas.Int.{ints}
use Rattle.iltypes.specs.declared.value.IlType.{IlType}
use Rattle.iltypes.specs.declared.value.IlType.TheVariants as types
use Rattle.iltypes.specs.declared.value.Value.{Value}
use Rattle.iltypes.specs.declared.value.Value.TheVariants as values
use Rattle.iltypes.specs.Slots.{is_of}
use Rattle.iltypes.specs.Values.{IsOf}

pub test_holds : (type : IlType) (value : Value) → IsOf value type → is_of type value ≡ true
test_holds types.Bool (values.Bool b) h = refl
test_holds types.Bool (values.Int n) h = absurd h
test_holds (types.Int range) (values.Bool b) h = absurd h
test_holds (types.Int range) (values.Int n) h = grind (arith, ints)

pub holds_test : (type : IlType) (value : Value) → is_of type value ≡ true → IsOf value type
holds_test types.Bool (values.Bool b) h = tt
holds_test types.Bool (values.Int n) h = absurd (cc)
holds_test (types.Int range) (values.Bool b) h = absurd (cc)
holds_test (types.Int range) (values.Int n) h = record { low = grind (arith, ints); high = grind (arith, ints) }

pub test_is : (type : IlType) (value : Value) (b : Bool) → IsTrue b ↔ IsOf value type → b ≡ is_of type value
test_is type value true h = let e = test_holds type value (h.0 refl) in cc
test_is type value false h = by_test (is_of type value) refl
  where
    by_test : (t : Bool) → is_of type value ≡ t → false ≡ is_of type value
    by_test true e = let p = h.1 (holds_test type value e) in absurd (cc)
    by_test false e = cc
