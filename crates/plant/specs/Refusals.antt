-- What each call refuses: its cases in the order in which they are tried, each with its refusal (profile).
use Rattle.std.specs.Prelude.{◌≡◌, ℕ, zero, suc, Bool, true, not, ◌&&◌, if◌then◌else◌, List, [], ◌∷◌, length}
use Rattle.std.specs.Prelude.{Option, Some, None, Result, Ok, Err, is_some, nat_lt}
use Rattle.plantevents.specs.declared.event.Event.{Event}
use Rattle.plantevents.specs.declared.role.Role.{Role}
use Rattle.plantevents.specs.declared.role.Role.TheVariants.{Bus, Clock}
use Rattle.plantevents.specs.Plants.{Plant}
use Rattle.plantevents.specs.Histories.{moment, scan, hand, is_down}
use Rattle.plantevents.specs.Choices.{is_free}
use Rattle.plantevents.specs.Waiting.{handouts}
use Rattle.plant.specs.declared.refusal.CallRefusal.{CallRefusal}
use Rattle.plant.specs.declared.refusal.CallRefusal.TheVariants.{ClockBack, NothingReady, Stranger, Busy, BusDown, Full}
use Rattle.plant.specs.declared.refusal.CallError.{CallError}
use Rattle.plant.specs.declared.refusal.CallError.TheVariants.{Memory, Refused}
use Rattle.plant.specs.Shown.{Shown, is_reserved, is_full}

-- a case with its refusal
abbrev pub Case : Type 0
Case = Bool × CallRefusal

-- no task of a number below n is ready without an open scan
abbrev pub none_free : Plant → List Event → ℕ → Bool
none_free p h zero = true
none_free p h (suc n) = not (is_free p h n) && none_free p h n

abbrev pub has_no_bus : Shown → ℕ → Bool
has_no_bus p b = not (nat_lt b p.plant.plan.buses)

abbrev pub has_no_worker : Shown → ℕ → Bool
has_no_worker p w = not (nat_lt w p.plant.workers)

-- no place is left, and none is kept back for the role
abbrev pub is_full_for : Role → Shown → Bool
is_full_for role p = not (is_reserved role p) && is_full p

-- ---- each call

abbrev pub may_tick_cases : Shown → List Case
may_tick_cases p = (is_full_for Clock p, Full) ∷ []

abbrev pub tick_cases : Shown → ℕ → List Case
tick_cases p m = (nat_lt m (moment p.history), ClockBack) ∷ (is_full_for Clock p, Full) ∷ []

-- of a place for a frame to be heard, and of the frame
abbrev pub heard_cases : Shown → ℕ → List Case
heard_cases p b =
    (has_no_bus p b, Stranger) ∷ (is_down b p.history, BusDown) ∷ (is_full_for (Bus b) p, Full) ∷ []

abbrev pub take_cases : Shown → ℕ → List Case
take_cases p w =
    (has_no_worker p w, Stranger)
    ∷ (is_some (scan w p.history), Busy)
    ∷ (none_free p.plant p.history (length p.plant.plan.tasks), NothingReady)
    ∷ (is_full p, Full)
    ∷ []

abbrev pub hand_cases : Shown → ℕ → List Case
hand_cases p b =
    (has_no_bus p b, Stranger)
    ∷ (is_down b p.history, BusDown)
    ∷ (is_some (hand b p.history), Busy)
    ∷ (not (nat_lt 0 (length (handouts p.plant b p.history))), NothingReady)
    ∷ (is_full p, Full)
    ∷ []

abbrev pub down_cases : Shown → ℕ → List Case
down_cases p b = (has_no_bus p b, Stranger) ∷ (is_down b p.history, BusDown) ∷ []

-- a bus that is not down has nothing to come up from
abbrev pub up_cases : Shown → ℕ → List Case
up_cases p b = (has_no_bus p b, Stranger) ∷ (not (is_down b p.history), NothingReady) ∷ (is_full p, Full) ∷ []

-- ---- what is answered

-- the refusal of the first case that holds
abbrev pub first_refusal : List Case → Option CallRefusal
first_refusal [] = None
first_refusal (c ∷ more) = if c.0 then Some c.1 else first_refusal more

-- A call is accepted where no case holds, and else answers the first.
abbrev pub GivesFirst : {A : Type 0} → List Case → Result A CallRefusal → Type 0
GivesFirst cases (Ok x) = first_refusal cases ≡ None
GivesFirst cases (Err refusal) = first_refusal cases ≡ Some refusal

-- of a call that may also be out of memory, where no case holds
abbrev pub GivesFirstOrMemory : {A : Type 0} → List Case → Result A CallError → Type 0
GivesFirstOrMemory cases (Ok x) = first_refusal cases ≡ None
GivesFirstOrMemory cases (Err Memory) = first_refusal cases ≡ None
GivesFirstOrMemory cases (Err (Refused refusal)) = first_refusal cases ≡ Some refusal
