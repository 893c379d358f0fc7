-- Which levels are owed, once what a task stores was noted.
use Rattle.std.proofs.Common.{◌≡◌, ℕ, ◌+◌, ◌<◌, ◌≤◌, Bool, true, false, List, [], ◌∷◌, length, get_or, ◌||◌}
use Rattle.std.proofs.Common.{Option, Some, None, sym, ap, ◌∙◌, refl, subst, arith}
use Rattle.std.proofs.lemmas.Bool.{or_from}
use Rattle.std.proofs.lemmas.List.{length-map}
use Rattle.std.specs.Prelude.{if◌then◌else◌, IfSome, slice_get, map}
use Rattle.std.specs.Option.{option_and_then, option_map}
use Rattle.std.specs.Int.{bit_at}
use Rattle.gearcmd.specs.declared.requests.Request.{Request}
use Rattle.gearcmd.specs.declared.requests.TaskKind.{TaskKind}
use Rattle.busqueue.specs.declared.class.Class.{Class}
use Rattle.ilplan.specs.declared.global.Global.{Global as GlobalVariable}
use Rattle.ilplan.specs.declared.global.Location.{Location}
use Rattle.ilplan.specs.declared.global.Location.TheVariants.{Level, GearAnswer, DeviceAnswer, Information, Count}
use Rattle.ilplan.specs.declared.global.Location.TheVariants.{Trigger}
use Rattle.ilplan.specs.Plans.{Planned, IsLawful, IsLocatedIn, IsAddressIn, Suits, wiring_of}
use Rattle.ilmachine.specs.declared.external.External.{External}
use Rattle.ilmachine.specs.declared.slots.StoredSlot.{StoredSlot}
use Rattle.ilmachine.specs.Images.{ProcessImage, TaskImage, IsImage, layout_of}
use Rattle.ilmachine.specs.Images.{TaskLayout, stored_slot, stored_from, stored_slots}
use Rattle.ilmachine.proofs.Commits.{named_there}
use Rattle.ilmachine.proofs.ImagePlaces.{layout_at}
use Rattle.ilmachine.proofs.StoredSlots.{all_stores}
use Rattle.plantevents.specs.declared.event.Event.{Event}
use Rattle.plantevents.specs.Plants.{Plant}
use Rattle.plantbuses.specs.declared.outputs.LevelOutput.{LevelOutput}
use Rattle.plantbuses.specs.declared.owed.OwedLevels.{OwedLevels}
use Rattle.plantbuses.specs.KeptSteps.{KeptBus, BusesFollow}
use Rattle.plantbuses.specs.OutputSteps.{OutputsFollow, place_in, level_of, is_at}
use Rattle.plantbuses.specs.OwedSteps.{addresses_of, owed_on, OwesAt}
use Rattle.plantbuses.specs.StoreSteps.{OwedBeside, OwedBesideSlots, AreTables, store_place, stores_at}
use Rattle.plantbuses.specs.StoreSteps.{has_store_at, externals_by, externals_at}
use Rattle.plantbuses.proofs.Fitting.{all_at}
use Rattle.plantbuses.proofs.Offered.{AreOffered}

-- ---- where a variable is located

pub place_is : (plan : Planned) (g : ℕ) (x : GlobalVariable) → slice_get plan.globals g ≡ Some x
    → level_of plan g ≡ place_in x.location
place_is plan g x there =
    ap (λ (o : Option GlobalVariable). place_in (option_and_then (λ (v : GlobalVariable). v.location) o)) there

-- a level is one of a bus that is there
level_known : (plan : Planned) (g : ℕ) (x : GlobalVariable) (l : Option Location) → IsLawful plan
    → slice_get plan.globals g ≡ Some x → x.location ≡ l
    → IfSome (place_in l) (λ place. (place.0 < plan.buses) × (place.1 ≤ 80))
level_known plan g x None lawful there is = tt
level_known plan g x (Some (Level bus address)) lawful there is =
    (subst (λ (o : Option Location). IfSome o (λ place. IsAddressIn (wiring_of plan) place × Suits x.value_type place))
    is (all_at (IsLocatedIn (wiring_of plan)) plan.globals g x lawful.located there)).0
level_known plan g x (Some (GearAnswer b a)) lawful there is = tt
level_known plan g x (Some (DeviceAnswer b a)) lawful there is = tt
level_known plan g x (Some (Information b a)) lawful there is = tt
level_known plan g x (Some (Count b a)) lawful there is = tt
level_known plan g x (Some (Trigger b a)) lawful there is = tt

pub place_known : (plan : Planned) (g : ℕ) (x : GlobalVariable) (place : Option (ℕ × ℕ)) → IsLawful plan
    → slice_get plan.globals g ≡ Some x → place ≡ place_in x.location
    → IfSome place (λ q. (q.0 < plan.buses) × (q.1 ≤ 80))
place_known plan g x place lawful there is =
    subst (λ (o : Option (ℕ × ℕ)). IfSome o (λ q. (q.0 < plan.buses) × (q.1 ≤ 80))) (sym is)
    (level_known plan g x x.location lawful there refl)

-- ---- what a task stores

-- the task of which a scan stores from these slots
pub record IsStoring (image : ProcessImage) (t : ℕ) (stores : List StoredSlot) : Type 0 where
  pub of : TaskImage
  pub is : slice_get image.tasks t ≡ Some of
  pub same : stores ≡ stored_slots of.layout.externals

storing_by : (image : ProcessImage) (t : ℕ) (stores : List StoredSlot) (o : Option TaskImage)
    → slice_get image.tasks t ≡ o
    → option_map (λ (u : TaskImage). stored_slots u.layout.externals) o ≡ Some stores → IsStoring image t stores
storing_by image t stores None there e = absurd (cc)
storing_by image t stores (Some of) there e = record { of = of; is = there; same = cc }

pub storing : (image : ProcessImage) (t : ℕ) (stores : List StoredSlot)
    → option_map (λ (u : TaskImage). stored_slots u.layout.externals) (slice_get image.tasks t) ≡ Some stores
    → IsStoring image t stores
storing image t stores e = storing_by image t stores (slice_get image.tasks t) refl e

-- each of the slots is that of a global variable of the plan
pub store_there : (plan : Planned) (image : ProcessImage) (t : ℕ) (of : TaskImage) (stores : List StoredSlot)
    (i : ℕ) (none : StoredSlot) → IsImage image → slice_get image.tasks t ≡ Some of
    → stores ≡ stored_slots of.layout.externals
    → image.types ≡ map (λ (g : GlobalVariable). g.value_type) plan.globals → i < length stores
    → (get_or stores i none).global < length plan.globals
store_there plan image t of stores i none whole is same types lt =
    let all = named_there image t of whole is in
    let known = all_stores (λ (s : StoredSlot). s.global < length image.types) of.layout.externals
    (λ s x at. all_at (λ (e : External). e.global < length image.types) of.layout.externals s x all at) in
    let within = subst (λ (ss : List StoredSlot). (get_or ss i none).global < length image.types) (sym same)
    (known i none (subst (λ (ss : List StoredSlot). i < length ss) same lt)) in
    let long = ap length types in
    let count = length-map plan.globals (λ (g : GlobalVariable). g.value_type) in omega arith

-- what is stored at a level from slots is what is stored there of the variables that the task names
one_by : (plan : Planned) (b a k : ℕ) (e : External) (rest : List StoredSlot) (stored : Bool)
    → has_store_at plan b a (if stored then stored_slot k e ∷ rest else rest)
    ≡ (is_at b a (if stored then level_of plan e.global else None) || has_store_at plan b a rest)
one_by plan b a k e rest true = refl
one_by plan b a k e rest false = refl

stored_as : (plan : Planned) (b a k : ℕ) (externals : List External)
    → has_store_at plan b a (stored_from k externals) ≡ stores_at plan b a externals
stored_as plan b a k [] = refl
stored_as plan b a k (e ∷ more) =
    one_by plan b a k e (stored_from (k + 1) more) e.stored
    ∙ ap (λ (x : Bool). is_at b a (store_place plan e) || x) (stored_as plan b a (k + 1) more)

pub beside_slots : (p : Plant) (h : List Event) (image : ProcessImage) (t : ℕ) (of : TaskImage)
    (stores : List StoredSlot) (owed : List OwedLevels) → slice_get image.tasks t ≡ Some of
    → stores ≡ stored_slots of.layout.externals → OwedBeside p h (externals_at (layout_of image) t) owed
    → OwedBesideSlots p h stores owed
beside_slots p h image t of stores owed is same beside b class a lt low none =
    beside b class a lt low
    (ap (λ (o : Option TaskLayout). stores_at p.plan b a (externals_by o)) (layout_at image t of is)
    ∙ (sym (stored_as p.plan b a 0 of.layout.externals)
    ∙ (sym (ap (has_store_at p.plan b a) same) ∙ none)))

-- ---- one turn of the loop over what a task stores

pub beside_turn : (p : Plant) (h : List Event) (s : StoredSlot) (more : List StoredSlot)
    (before after : List OwedLevels)
    → ((b : ℕ) (class : Class) (a : ℕ) → is_at b a (level_of p.plan s.global) ≡ true
    → OwesAt p b h (owed_on after b) class a)
    → ((b : ℕ) (class : Class) (a : ℕ) → a < 81 → is_at b a (level_of p.plan s.global) ≡ false
    → bit_at (addresses_of class (owed_on after b)) a ≡ bit_at (addresses_of class (owed_on before b)) a)
    → OwedBesideSlots p h (s ∷ more) before → OwedBesideSlots p h more after
beside_turn p h s more before after here others beside b class a lt low none =
    let place = level_of p.plan s.global in
    elim (is_at b a place) as (λ (t : Bool). is_at b a place ≡ t → OwesAt p b h (owed_on after b) class a) [
      | true ↦ λ yes. here b class a yes
      | false ↦ λ no.
          others b class a low no
          ∙ beside b class a lt low (or_from (is_at b a place) (has_store_at p.plan b a more) no none)
    ] refl

-- ---- what is kept of the levels, once requests were offered

pub tables_offered : (p : Plant) (h : List Event) (outputs : List (List (Option LevelOutput))) (kind : TaskKind)
    (requests : List Request) (before after : List KeptBus) → OutputsFollow p outputs → BusesFollow p h before
    → AreOffered kind requests before after → AreTables p.plan outputs after
tables_offered p h outputs kind requests before after located follows offered = record {
  located = located;
  count = offered.count ∙ follows.0;
  levels = λ b lt.
      ap (λ (x : KeptBus). length x.levels) (offered.same b (let e = follows.0 in omega arith))
      ∙ (follows.1 b lt).addresses;
}
