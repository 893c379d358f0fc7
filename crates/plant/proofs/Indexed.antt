-- What comes from a bus is written to what is located at its inputs alone; and how the numbers of these are found.
use Rattle.std.proofs.Common.{◌≡◌, ℕ, ◌+◌, ◌<◌, ◌==◌, true, false, List, [], ◌∷◌, ◌++◌, length}
use Rattle.std.proofs.Common.{Option, Some, None, refl, sym, ap, ◌∙◌, subst, arith, below_more, length-append}
use Rattle.std.proofs.Common.{ne_eqb}
use Rattle.std.proofs.lemmas.Bool.{and_left, eqb-false}
use Rattle.std.proofs.lemmas.List.{get_or_append_left, get_or_default}
use Rattle.std.proofs.lemmas.List.Elements.{All-push}
use Rattle.std.proofs.lemmas.List.Quantifiers.{Any-push}
use Rattle.std.specs.Prelude.{All, IfSome, if◌then◌else◌, slice_get, slice_index_or}
use Rattle.std.specs.List.{Any}
use Rattle.std.specs.Option.{option_and_then}
use Rattle.wordlines.specs.Wirings.{IsAt, IsWithinLimits, Wiring}
use Rattle.wordlines.specs.declared.sources.BoundSource.{BoundSource}
use Rattle.gearcmd.specs.declared.requests.Answerer.{Answerer}
use Rattle.gearcmd.specs.declared.requests.Answerer.TheVariants.{Gear, Instance}
use Rattle.buslink.specs.declared.marks.Outcome.{Outcome}
use Rattle.ilplan.specs.declared.global.Location.{Location}
use Rattle.ilplan.specs.declared.global.Location.TheVariants.{Level, GearAnswer, DeviceAnswer, Information, Count, Trigger}
use Rattle.ilplan.specs.declared.activation.Activation.{Activation}
use Rattle.ilplan.specs.declared.activation.Activation.TheVariants.{Cyclic, Event}
use Rattle.ilplan.specs.declared.global.Global.{Global as GlobalVariable}
use Rattle.ilplan.specs.Plans.{Planned, PlannedTask, IsAddressIn, IsLawful, IsLocatedIn, Suits, wiring_of}
use Rattle.plantevents.specs.declared.activator.PendingEvent.{PendingEvent}
use Rattle.plantevents.specs.Plants.{Plant, task_at, trigger_by, trigger_of}
use Rattle.plantevents.specs.Variables.{event_value, is_answer_of, outcome_value}
use Rattle.plantbuses.specs.AnswerSteps.{answer_write}
use Rattle.plantbuses.proofs.Fitting.{all_at}
use Rattle.plant.specs.IndexSteps.{AreInputsOf, FromBus, InputsFollow, IsFromBus, comes_from, from_none, place_of}
use Rattle.plant.specs.InputSteps.{count_of, information_of, written_by}
use Rattle.plant.specs.TakingSteps.{trigger_place}

flip : (a b : ℕ) → (a == b) ≡ false → (b == a) ≡ false
flip a b other = ne_eqb b a (λ e. eqb-false a b other (sym e))

-- ---- a frame

no_information : (sources : List BoundSource) (bus b f : ℕ) (o : Option ℕ) → (b == bus) ≡ false
    → option_and_then (information_of sources bus b f) o ≡ None
no_information sources bus b f None other = refl
no_information sources bus b f (Some i) other = rw other refl

no_count : (sources : List BoundSource) (counts : List ℕ) (bus b f : ℕ) (o : Option ℕ) → (b == bus) ≡ false
    → option_and_then (count_of sources counts bus b f) o ≡ None
no_count sources counts bus b f None other = refl
no_count sources counts bus b f (Some i) other = rw other refl

pub nothing_written : (sources : List BoundSource) (counts : List ℕ) (b f : ℕ) (o : Option Location)
    → comes_from b o ≡ false → option_and_then (written_by sources counts b f) o ≡ None
nothing_written sources counts b f None other = refl
nothing_written sources counts b f (Some (Level bus address)) other = refl
nothing_written sources counts b f (Some (GearAnswer bus short)) other = refl
nothing_written sources counts b f (Some (DeviceAnswer bus short)) other = refl
nothing_written sources counts b f (Some (Trigger bus source)) other = refl
nothing_written sources counts b f (Some (Information bus source)) other =
    no_information sources bus b f _ (flip bus b other)
nothing_written sources counts b f (Some (Count bus source)) other = no_count sources counts bus b f _ (flip bus b other)

-- ---- an event

pub no_event : (bus number : ℕ) (event : PendingEvent) (o : Option Location) → comes_from bus o ≡ false
    → option_and_then (event_value bus number event) o ≡ None
no_event bus number event None other = refl
no_event bus number event (Some (Level b address)) other = refl
no_event bus number event (Some (GearAnswer b short)) other = refl
no_event bus number event (Some (DeviceAnswer b short)) other = refl
no_event bus number event (Some (Trigger b n)) other = rw other refl
no_event bus number event (Some (Information b n)) other = rw other refl
no_event bus number event (Some (Count b n)) other = rw other refl

-- ---- an answer

no_answer_of : (b : ℕ) (answerer : Option Answerer) (o : Option Location) → comes_from b o ≡ false
    → is_answer_of b answerer o ≡ false
no_answer_of b None o other = refl
no_answer_of b (Some (Gear short)) None other = refl
no_answer_of b (Some (Gear short)) (Some (Level bus address)) other = refl
no_answer_of b (Some (Gear short)) (Some (GearAnswer bus s)) other = and_left (bus == b) (s == short) other
no_answer_of b (Some (Gear short)) (Some (DeviceAnswer bus s)) other = refl
no_answer_of b (Some (Gear short)) (Some (Trigger bus n)) other = refl
no_answer_of b (Some (Gear short)) (Some (Information bus n)) other = refl
no_answer_of b (Some (Gear short)) (Some (Count bus n)) other = refl
no_answer_of b (Some (Instance short i)) None other = refl
no_answer_of b (Some (Instance short i)) (Some (Level bus address)) other = refl
no_answer_of b (Some (Instance short i)) (Some (GearAnswer bus s)) other = refl
no_answer_of b (Some (Instance short i)) (Some (DeviceAnswer bus s)) other = and_left (bus == b) (s == short) other
no_answer_of b (Some (Instance short i)) (Some (Trigger bus n)) other = refl
no_answer_of b (Some (Instance short i)) (Some (Information bus n)) other = refl
no_answer_of b (Some (Instance short i)) (Some (Count bus n)) other = refl

pub no_answer : (b : ℕ) (answerer : Option Answerer) (result : Outcome) (o : Option Location)
    → comes_from b o ≡ false → answer_write b answerer result o ≡ None
no_answer b answerer result o other =
    ap (λ t. if t then outcome_value result else None) (no_answer_of b answerer o other)

-- ---- what is kept for a bus

pub kept_on : (plan : Planned) (inputs : List FromBus) (b : ℕ) (from : FromBus) → InputsFollow plan inputs
    → b < plan.buses → from ≡ slice_index_or inputs b from → IsFromBus plan b from
kept_on plan inputs b from follow below is =
    let many : length inputs ≡ plan.buses = follow.0 in
    subst (IsFromBus plan b)
    (sym (is ∙ get_or_default inputs b from from_none (omega (arith, many, below)))) (follow.1 b below)

pub kept_for : (plan : Planned) (inputs : List FromBus) (b : ℕ) (from : FromBus) → InputsFollow plan inputs
    → b < plan.buses → from ≡ slice_index_or inputs b from → AreInputsOf plan b from.numbers
kept_for plan inputs b from follow below is = (kept_on plan inputs b from follow below is).located

-- ---- the trigger of an event task is on one of the buses

at_bound : (wiring : Wiring) (bus number : ℕ) → IsWithinLimits wiring → Any (IsAt bus number) wiring.sources
    → bus < wiring.buses
at_bound wiring bus number within any =
    subst (λ (n : ℕ). n < wiring.buses) (ap (λ (s : BoundSource). s.bus) any.3 ∙ any.4.0)
    (within.sources any.0 any.1 any.2).bus

of_location : (wiring : Wiring) (g : GlobalVariable) (bus number : ℕ) → IsWithinLimits wiring
    → IsLocatedIn wiring g → g.location ≡ Some (Trigger bus number) → bus < wiring.buses
of_location wiring g bus number within located is =
    at_bound wiring bus number within (subst (λ (o : Option Location). IfSome o (λ place. IsAddressIn wiring place
    × Suits g.value_type place)) is located).0

of_global : (plan : Planned) (k : ℕ) (o : Option GlobalVariable) (bus number : ℕ) → IsLawful plan
    → slice_get plan.globals k ≡ o → option_and_then (λ g. g.location) o ≡ Some (Trigger bus number)
    → bus < plan.buses
of_global plan k None bus number lawful here is = absurd (cc)
of_global plan k (Some g) bus number lawful here is =
    of_location (wiring_of plan) g bus number lawful.wiring
    (all_at (IsLocatedIn (wiring_of plan)) plan.globals k g lawful.located here) is

of_activation : (p : Plant) (a : Activation) (bus number : ℕ) → IsLawful p.plan
    → trigger_by p a ≡ Some (Trigger bus number) → bus < p.plan.buses
of_activation p (Cyclic interval) bus number lawful is = absurd (cc)
of_activation p (Event trigger) bus number lawful is =
    of_global p.plan trigger (slice_get p.plan.globals trigger) bus number lawful refl is

pub is_trigger : (place : Option Location) (bus number : ℕ) → trigger_place place ≡ Some (bus, number)
    → place ≡ Some (Trigger bus number)
is_trigger None bus number is = absurd (cc)
is_trigger (Some (Level b a)) bus number is = absurd (cc)
is_trigger (Some (GearAnswer b a)) bus number is = absurd (cc)
is_trigger (Some (DeviceAnswer b a)) bus number is = absurd (cc)
is_trigger (Some (Information b a)) bus number is = absurd (cc)
is_trigger (Some (Count b a)) bus number is = absurd (cc)
is_trigger (Some (Trigger b a)) bus number is =
    let same : (b, a) ≡ (bus, number) = cc in ap (λ (q : ℕ × ℕ). Some (Trigger q.0 q.1)) same

of_task : (p : Plant) (o : Option PlannedTask) (bus number : ℕ) → IsLawful p.plan
    → option_and_then (λ task. trigger_by p task.activation) o ≡ Some (Trigger bus number) → bus < p.plan.buses
of_task p None bus number lawful is = absurd (cc)
of_task p (Some task) bus number lawful is = of_activation p task.activation bus number lawful is

pub trigger_bus : (p : Plant) (t bus number : ℕ) → IsLawful p.plan → trigger_place (trigger_of p t) ≡ Some (bus, number)
    → bus < p.plan.buses
trigger_bus p t bus number lawful is =
    of_task p (task_at p t) bus number lawful (is_trigger (trigger_of p t) bus number is)

-- ---- how the numbers are found

-- those below k
pub record AreInputsBelow (plan : Planned) (b : ℕ) (numbers : List ℕ) (k : ℕ) : Type 0 where
  pub each : All (λ g. comes_from b (place_of plan g) ≡ true) numbers
  pub every : (g : ℕ) → g < k → comes_from b (place_of plan g) ≡ true → Any (λ n. n ≡ g) numbers

still_there : (numbers : List ℕ) (x g : ℕ) → Any (λ n. n ≡ g) numbers → Any (λ n. n ≡ g) (numbers ++ x ∷ [])
still_there numbers x g any =
    let k = any.0 in let d = any.1 in let lt : k < length numbers = any.2 in (
      k,
      d,
      (let e = length-append numbers (x ∷ []) in omega (arith, e, lt)),
      get_or_append_left numbers (x ∷ []) d k lt ∙ any.3,
      any.4,
    )

pub input_more : (plan : Planned) (b k : ℕ) (numbers : List ℕ) → comes_from b (place_of plan k) ≡ true
    → AreInputsBelow plan b numbers k → AreInputsBelow plan b (numbers ++ k ∷ []) (k + 1)
input_more plan b k numbers is below = record {
  each = All-push (λ g. comes_from b (place_of plan g) ≡ true) numbers k below.each is;
  every = λ g lt. below_more (λ g. comes_from b (place_of plan g) ≡ true → Any (λ n. n ≡ g) (numbers ++ k ∷ [])) k
      (λ g lt from. still_there numbers k g (below.every g lt from))
      (λ from. Any-push (λ n. n ≡ k) numbers k refl) g lt;
}

pub other_more : (plan : Planned) (b k : ℕ) (numbers : List ℕ) → comes_from b (place_of plan k) ≡ false
    → AreInputsBelow plan b numbers k → AreInputsBelow plan b numbers (k + 1)
other_more plan b k numbers other below = record {
  each = below.each;
  every = λ g lt. below_more (λ g. comes_from b (place_of plan g) ≡ true → Any (λ n. n ≡ g) numbers) k below.every
      (λ from. absurd (cc)) g lt;
}
