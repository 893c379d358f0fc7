-- Whether a level is owed, as a bit.
use Rattle.std.proofs.Common.{◌≡◌, ◌≢◌, ⊎_elim, ℕ, ◌<◌, Bool, true, false, eqb, ◌&&◌, List, Option, Some, None}
use Rattle.std.proofs.Common.{length, not, refl, sym, ap, ◌∙◌, subst, arith}
use Rattle.std.proofs.lemmas.Bool.{and_parts, eqb-true, eqb-false}
use Rattle.std.proofs.lemmas.Bool.Decides.{eqb_tells}
use Rattle.std.proofs.lemmas.List.{get_or-set_same, get_or-set_other}
use Rattle.std.specs.Prelude.{◌==◌, if◌then◌else◌, is_some, MatchOption, IsSome, option_map, option_and_then}
use Rattle.std.specs.Prelude.{slice_set}
use Rattle.std.specs.Int.{bit_at}
use Rattle.iltypes.specs.declared.value.Value.{Value}
use Rattle.gearcmd.specs.declared.requests.TaskKind.{TaskKind}
use Rattle.gearcmd.specs.Requests.{task_class}
use Rattle.busqueue.specs.declared.class.Class.{Class}
use Rattle.busqueue.specs.Queues.{class_number}
use Rattle.ilmachine.specs.Images.{Global}
use Rattle.plantevents.specs.declared.event.Event.{Event}
use Rattle.plantevents.specs.Plants.{Plant, output_at}
use Rattle.plantevents.specs.Variables.{value, whole}
use Rattle.plantevents.specs.Waiting.{OwedLevel, owed_at, owed_by, if_new, natural_in, handed_level}
use Rattle.plantbuses.specs.declared.outputs.LevelOutput.{LevelOutput}
use Rattle.plantbuses.specs.declared.owed.OwedLevels.{OwedLevels}
use Rattle.plantbuses.specs.AddressSets.{one_if, HasNone, IsLeast}
use Rattle.plantbuses.specs.OutputSteps.{is_at, output_of, level_output}
use Rattle.plantbuses.specs.HandingSteps.{level_at}
use Rattle.plantbuses.specs.OwedSteps.{addresses_of, owed_on, no_levels, owes, OwesAt, OwedFollows, IsLeastOwed}
use Rattle.plantbuses.proofs.OwedAt.{located_by, not_located}

-- ---- of one address

if_some : (t : Bool) (o : Option OwedLevel) → (t && is_some o) ≡ is_some (if t then o else None)
if_some true o = refl
if_some false o = refl

-- another level than the last
pub new_is : (n last a : ℕ) → not (eqb n last) ≡ is_some (if_new last a n)
new_is n last a =
    elim (eqb n last) as (λ (t : Bool). not t ≡ is_some (if t then None else Some (level_at a n))) [
      | true ↦ refl
      | false ↦ refl
    ]

pub level_owes : (p : Plant) (b a : ℕ) (h : List Event) (output : LevelOutput) (class : Class) (last : ℕ)
    (v : Option Value) (is_new : Bool) → level_output p b a ≡ Some output → last ≡ handed_level b a h
    → v ≡ value p (Global output.global) h → is_new ≡ is_some (option_and_then (if_new last a) (natural_in v))
    → (eqb (task_class output.kind) (class_number class) && is_new) ≡ owes p b h class a
level_owes p b a h output class last v is_new is before has tested =
    let by = located_by p (output_at p b a) output is in
    let c = class_number class in let t = eqb (task_class output.kind) c in
    let owed = option_and_then (if_new (handed_level b a h) a) (natural_in (value p (Global output.global) h)) in
    ap (λ (s : Bool). t && s) (tested
    ∙ (ap (λ (n : ℕ). is_some (option_and_then (if_new n a) (natural_in v))) before
    ∙ ap (λ (x : Option Value). is_some (option_and_then (if_new (handed_level b a h) a) (natural_in x))) has))
    ∙ (if_some t owed
    ∙ (ap (λ (k : TaskKind). is_some (if eqb (task_class k) c then owed else None)) (sym by.1)
    ∙ ap (λ (o : Option ℕ). is_some (option_and_then (owed_by p b c a h) o)) (sym by.0)))

pub none_owes : (p : Plant) (b a : ℕ) (h : List Event) (class : Class) → level_output p b a ≡ None
    → owes p b h class a ≡ false
none_owes p b a h class none =
    ap (λ (o : Option OwedLevel). is_some o) (not_located p b (class_number class) a h none)

-- a level that is owed is that of its value, and of the class of its task
there_by : (t s : Bool) (o : OwedLevel) → is_some (if t then (if s then None else Some o) else None) ≡ true
    → ((if t then (if s then None else Some o) else None) ≡ Some o) × (t ≡ true)
there_by true false o is = (refl, refl)
there_by true true o is = absurd (cc)
there_by false s o is = absurd (cc)

pub owed_there : (p : Plant) (b a c : ℕ) (h : List Event) (output : LevelOutput) (level : ℕ)
    → level_output p b a ≡ Some output → value p (Global output.global) h ≡ Some (whole level)
    → is_some (owed_at p b c h a) ≡ true
    → (owed_at p b c h a ≡ Some (level_at a level)) × (task_class output.kind ≡ c)
owed_there p b a c h output level is has owed =
    let by = located_by p (output_at p b a) output is in
    let n = handed_level b a h in
    let steps : owed_at p b c h a ≡ (if eqb (task_class output.kind) c then if_new n a level else None) =
    ap (option_and_then (owed_by p b c a h)) by.0
    ∙ (ap (λ (k : TaskKind). if eqb (task_class k) c
    then option_and_then (if_new n a) (natural_in (value p (Global output.global) h)) else None) by.1
    ∙ ap (λ (v : Option Value). if eqb (task_class output.kind) c
    then option_and_then (if_new n a) (natural_in v) else None) has) in
    let there = there_by (eqb (task_class output.kind) c) (level == n) (level_at a level)
    (sym (ap (λ (o : Option OwedLevel). is_some o) steps) ∙ owed) in
    (steps ∙ there.0, eqb-true (task_class output.kind) c there.1)

-- something is located where a level is owed
located_there : (p : Plant) (b c a : ℕ) (h : List Event) (o : Option ℕ)
    → is_some (option_and_then (owed_by p b c a h) o) ≡ true → IsSome (option_map (output_of p) o)
located_there p b c a h None is = absurd (cc)
located_there p b c a h (Some g) is = refl

pub output_there : (p : Plant) (b c a : ℕ) (h : List Event) → is_some (owed_at p b c h a) ≡ true
    → IsSome (level_output p b a)
output_there p b c a h = located_there p b c a h (output_at p b a)

-- ---- one level of one bus was noted

pub noted_here : (p : Plant) (h : List Event) (owed : List OwedLevels) (new : OwedLevels) (bus address : ℕ)
    (place : Option (ℕ × ℕ)) → bus < length owed → place ≡ Some (bus, address)
    → ((class : Class) → OwesAt p bus h new class address)
    → (b : ℕ) (class : Class) (a : ℕ) → is_at b a place ≡ true
    → OwesAt p b h (owed_on (slice_set owed bus new) b) class a
noted_here p h owed new bus address place lt is made b class a at =
    let after = slice_set owed bus new in
    let parts = and_parts (eqb bus b) (eqb address a) (sym (ap (is_at b a) is) ∙ at) in
    subst (λ (n : ℕ). OwesAt p n h (owed_on after n) class a) (eqb-true bus b parts.0)
    (subst (λ (n : ℕ). OwesAt p bus h (owed_on after bus) class n) (eqb-true address a parts.1)
    (subst (λ (l : OwedLevels). OwesAt p bus h l class address) (sym (get_or-set_same owed bus new no_levels lt))
    (made class)))

not_second : (s t : Bool) → s ≡ true → (s && t) ≡ false → t ≡ false
not_second true t is none = none
not_second false t is none = absurd (cc)

pub noted_others : (owed : List OwedLevels) (before new : OwedLevels) (bus address : ℕ) (place : Option (ℕ × ℕ))
    → bus < length owed → place ≡ Some (bus, address) → before ≡ owed_on owed bus
    → ((class : Class) (a : ℕ) → a < 81 → a ≢ address
    → bit_at (addresses_of class new) a ≡ bit_at (addresses_of class before) a)
    → (b : ℕ) (class : Class) (a : ℕ) → a < 81 → is_at b a place ≡ false
    → bit_at (addresses_of class (owed_on (slice_set owed bus new) b)) a
    ≡ bit_at (addresses_of class (owed_on owed b)) a
noted_others owed before new bus address place lt is here others b class a low none =
    let after = slice_set owed bus new in
    let apart = sym (ap (is_at b a) is) ∙ none in
    ⊎_elim
    (λ (k : (eqb bus b ≡ true) × (bus ≡ b)).
    let other = not_second (eqb bus b) (eqb address a) k.0 apart in
    subst (λ (n : ℕ). bit_at (addresses_of class (owed_on after n)) a ≡ bit_at (addresses_of class (owed_on owed n)) a)
    k.1
    (ap (λ (l : OwedLevels). bit_at (addresses_of class l) a) (get_or-set_same owed bus new no_levels lt)
    ∙ (others class a low (λ e. eqb-false address a other (sym e))
    ∙ ap (λ (l : OwedLevels). bit_at (addresses_of class l) a) here)))
    (λ (k : (eqb bus b ≡ false) × (bus ≢ b)).
    ap (λ (l : OwedLevels). bit_at (addresses_of class l) a)
    (get_or-set_other owed bus b new no_levels (λ e. k.1 (sym e))))
    (eqb_tells bus b)

-- ---- the least address

zero_if : (t : Bool) → one_if t ≡ 0 → t ≡ false
zero_if false is = refl
zero_if true is = absurd (omega arith)

one_then : (t : Bool) → one_if t ≡ 1 → t ≡ true
one_then true is = refl
one_then false is = absurd (omega arith)

pub least_is : (p : Plant) (b : ℕ) (class : Class) (h : List Event) (levels : OwedLevels) (o : Option ℕ)
    → OwedFollows p b h levels
    → MatchOption o (HasNone (addresses_of class levels)) (IsLeast (addresses_of class levels))
    → IsLeastOwed p b class h o
least_is p b class h levels None follows none =
    λ a low. zero_if (owes p b h class a) (sym (follows class a low) ∙ none a)
least_is p b class h levels (Some a) follows least = (
  least.0,
  one_then (owes p b h class a) (sym (follows class a least.0) ∙ least.1),
  λ m lt. zero_if (owes p b h class m)
      (sym (follows class m (let low = least.0 in omega arith)) ∙ least.2 m lt),
)

pub not_owed : (o : Option OwedLevel) → is_some o ≡ false → o ≡ None
not_owed None is = refl
not_owed (Some x) is = absurd (cc)
