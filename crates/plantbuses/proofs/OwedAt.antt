-- The level that is owed at an address.
use Rattle.std.proofs.Common.{◌≡◌, ◌≢◌, ⊎_elim, ℕ, suc, ◌+◌, ◌<◌, Bool, true, false, eqb, List}
use Rattle.std.proofs.Common.{[], ◌∷◌, map, length, pos, negsuc, Option, Some, None, refl, sym, ap, ◌∙◌, subst, arith}
use Rattle.std.proofs.lemmas.Bool.{and_parts}
use Rattle.std.proofs.lemmas.Bool.Decides.{eqb_tells}
use Rattle.std.proofs.lemmas.Int.{ints}
use Rattle.std.proofs.lemmas.Option.{slice_get-map, slice_get_within}
use Rattle.std.specs.Prelude.{if◌then◌else◌, slice_get, option_map}
use Rattle.std.specs.Option.{option_and_then, IsSomeAnd}
use Rattle.iltypes.specs.declared.value.IlType.{IlType}
use Rattle.iltypes.specs.declared.value.IlType.TheVariants as types
use Rattle.iltypes.specs.declared.value.Value.{Value}
use Rattle.iltypes.specs.declared.value.Value.TheVariants as values
use Rattle.iltypes.specs.Values.{IsOf}
use Rattle.ilplan.specs.declared.global.Global.{Global as GlobalVariable}
use Rattle.ilplan.specs.declared.global.Location.{Location}
use Rattle.ilplan.specs.declared.global.Location.TheVariants.{Level, GearAnswer, DeviceAnswer, Information, Count}
use Rattle.ilplan.specs.declared.global.Location.TheVariants.{Trigger}
use Rattle.ilplan.specs.Plans.{IsLawful, AreLevels, wiring_of, IsLocatedIn}
use Rattle.ilmachine.specs.Snapshots.{MayHave}
use Rattle.plantevents.specs.declared.event.Event.{Event}
use Rattle.plantevents.specs.Plants.{Plant, location, is_level, first_number, output_at, storing_kind}
use Rattle.plantevents.specs.Waiting.{owed_by, owed_at}
use Rattle.plantbuses.specs.declared.outputs.LevelOutput.{LevelOutput}
use Rattle.plantbuses.specs.OutputSteps.{output_of, level_output}
use Rattle.plantbuses.specs.HandingSteps.{IsLevel, IsOutput}
use Rattle.plantbuses.proofs.Fitting.{all_at, located_at}

-- ---- what is located at a level

record IsFirst {X : Type 0} (test : X → Bool) (xs : List X) (n : ℕ) : Type 0 where
  item : X
  at : slice_get xs n ≡ Some item
  passes : test item ≡ true

first_later : {X : Type 0} (test : X → Bool) (x : X) (xs : List X) (o : Option ℕ) (n : ℕ)
    → ((m : ℕ) → o ≡ Some m → IsFirst test xs m)
    → option_map (λ (m : ℕ). m + 1) o ≡ Some n → IsFirst test (x ∷ xs) n
first_later test x xs None n rest is = absurd (cc)
first_later test x xs (Some m) n rest is =
    let first = rest m refl in
    let next : m + 1 ≡ n = cc in
    let suc_is : suc m ≡ n = omega arith in
    record {
      item = first.item;
      at = subst (λ (k : ℕ). slice_get (x ∷ xs) k ≡ Some first.item) suc_is first.at;
      passes = first.passes;
    }

first_is : {X : Type 0} (test : X → Bool) (xs : List X) (n : ℕ) → first_number test xs ≡ Some n → IsFirst test xs n
first_is test [] n is = absurd (cc)
first_is test (x ∷ xs) n is =
    elim (test x) as (λ (t : Bool). test x ≡ t
    → (if t then Some 0 else option_map (λ (m : ℕ). m + 1) (first_number test xs)) ≡ Some n
    → IsFirst test (x ∷ xs) n) [
      | true ↦ λ yes found.
          let zero_is : 0 ≡ n = cc in
          record {
            item = x;
            at = subst (λ (k : ℕ). slice_get (x ∷ xs) k ≡ Some x) zero_is refl;
            passes = yes;
          }
      | false ↦ λ no found. first_later test x xs (first_number test xs) n (first_is test xs) found
    ] refl is

equal : (a b : ℕ) → eqb a b ≡ true → a ≡ b
equal a b e = ⊎_elim (λ (k : (eqb a b ≡ true) × (a ≡ b)). k.1) (λ (k : (eqb a b ≡ false) × (a ≢ b)). absurd (cc))
    (eqb_tells a b)

level_is : (b a : ℕ) (o : Option Location) → is_level b a o ≡ true → o ≡ Some (Level b a)
level_is b a None is = absurd (cc)
level_is b a (Some (Level c d)) is =
    let both = and_parts (eqb c b) (eqb d a) is in
    ap (λ (k : ℕ). Some (Level k d)) (equal c b both.0) ∙ ap (λ (k : ℕ). Some (Level b k)) (equal d a both.1)
level_is b a (Some (GearAnswer c d)) is = absurd (cc)
level_is b a (Some (DeviceAnswer c d)) is = absurd (cc)
level_is b a (Some (Information c d)) is = absurd (cc)
level_is b a (Some (Count c d)) is = absurd (cc)
level_is b a (Some (Trigger c d)) is = absurd (cc)

pub located : (p : Plant) (b a global : ℕ) → output_at p b a ≡ Some global → location p global ≡ Some (Level b a)
located p b a global is =
    let first = first_is (λ (g : GlobalVariable). is_level b a g.location) p.plan.globals global is in
    ap (option_and_then (λ (g : GlobalVariable). g.location)) first.at ∙ level_is b a first.item.location first.passes

pub located_by : (p : Plant) (o : Option ℕ) (output : LevelOutput) → option_map (output_of p) o ≡ Some output
    → (o ≡ Some output.global) × (storing_kind p output.global ≡ output.kind)
located_by p None output is = absurd (cc)
located_by p (Some global) output is =
    let e : output_of p global ≡ output = cc in
    let same = ap (λ (x : LevelOutput). x.global) e in (
      ap (λ (g : ℕ). Some g) same,
      sym (ap (storing_kind p) same) ∙ ap (λ (x : LevelOutput). x.kind) e,
    )

pub is_output : (p : Plant) (b a : ℕ) (output : LevelOutput) → level_output p b a ≡ Some output
    → IsOutput p output.global
is_output p b a output is = (b, a, located p b a output.global (located_by p (output_at p b a) output is).0)

-- ---- its value

level_value : (value_type : IlType) (v : Value) → AreLevels value_type → IsOf v value_type → IsLevel v
level_value types.Bool v levels is = absurd levels
level_value (types.Int range) (values.Bool b) levels is = absurd is
level_value (types.Int range) (values.Int (pos n)) levels is = (n, omega (arith, ints, levels.1, is.high), refl)
level_value (types.Int range) (values.Int (negsuc n)) levels is =
    absurd (omega (arith, ints, levels.0, is.low))

place_of : (o : Option GlobalVariable) (place : Location)
    → option_and_then (λ (g : GlobalVariable). g.location) o ≡ Some place
    → (g : GlobalVariable) × (o ≡ Some g) × (g.location ≡ Some place)
place_of None place is = absurd (cc)
place_of (Some g) place is = (g, refl, is)

pub value_is : (p : Plant) (global : ℕ) (v : Value) → IsLawful p.plan → IsOutput p global
    → MayHave (map (λ (g : GlobalVariable). g.value_type) p.plan.globals) global v → IsLevel v
value_is p global v lawful is typed =
    let there = place_of (slice_get p.plan.globals global) (Level is.0 is.1) is.2 in
    let g = there.0 in
    let levels = located_at (wiring_of p.plan) g (Level is.0 is.1) there.2
    (all_at (IsLocatedIn (wiring_of p.plan)) p.plan.globals global g lawful.located there.1) in
    let type_there : slice_get (map (λ (x : GlobalVariable). x.value_type) p.plan.globals) global ≡ Some g.value_type =
    slice_get-map (λ (x : GlobalVariable). x.value_type) p.plan.globals global
    ∙ ap (option_map (λ (x : GlobalVariable). x.value_type)) there.1 in
    level_value g.value_type v levels (subst (λ (o : Option IlType). IsSomeAnd o (IsOf v)) type_there typed)

-- its number is that of one of them
pub output_below : (p : Plant) (global : ℕ) → IsOutput p global → global < length p.plan.globals
output_below p global is =
    let there = place_of (slice_get p.plan.globals global) (Level is.0 is.1) is.2 in
    slice_get_within p.plan.globals global there.0 there.1

-- ---- whether it is owed

not_by : (p : Plant) (b c a : ℕ) (h : List Event) (o : Option ℕ) → option_map (output_of p) o ≡ None
    → option_and_then (owed_by p b c a h) o ≡ None
not_by p b c a h None is = refl
not_by p b c a h (Some global) is = absurd (cc)

pub not_located : (p : Plant) (b c a : ℕ) (h : List Event) → level_output p b a ≡ None → owed_at p b c h a ≡ None
not_located p b c a h none = not_by p b c a h (output_at p b a) none
