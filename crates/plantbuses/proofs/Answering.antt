-- What the end of a transaction writes is of the type of the variable that is located there.
use Rattle.std.proofs.Common.{◌≡◌, ℕ, true, Option, Some, None}
use Rattle.std.specs.Prelude.{IfSome}
use Rattle.iltypes.specs.declared.value.IlType.{IlType}
use Rattle.iltypes.specs.declared.value.Value.{Value}
use Rattle.gearcmd.specs.declared.requests.Answerer.{Answerer}
use Rattle.gearcmd.specs.declared.requests.Answerer.TheVariants.{Gear, Instance}
use Rattle.ilplan.specs.declared.global.Location.{Location}
use Rattle.ilplan.specs.declared.global.Location.TheVariants.{Level, GearAnswer, DeviceAnswer, Information, Count}
use Rattle.ilplan.specs.declared.global.Location.TheVariants.{Trigger}
use Rattle.plantevents.specs.Variables.{is_answer_of}
use Rattle.plantbuses.specs.AnswerSteps.{IsWrittenAs, FitsAnswers}

-- where answers are located, what fits answers may be written
pub answer_fits : (b : ℕ) (a : Option Answerer) (place : Location) (value : Option Value) → IfSome value FitsAnswers
    → is_answer_of b a (Some place) ≡ true → (value_type : IlType) → IfSome value (IsWrittenAs value_type place)
answer_fits b a place None fits is value_type = tt
answer_fits b a (GearAnswer bus s) (Some v) fits is value_type = fits value_type
answer_fits b a (DeviceAnswer bus s) (Some v) fits is value_type = fits value_type
answer_fits b None (Level bus s) (Some v) fits is value_type = absurd (cc)
answer_fits b (Some (Gear g)) (Level bus s) (Some v) fits is value_type = absurd (cc)
answer_fits b (Some (Instance g i)) (Level bus s) (Some v) fits is value_type = absurd (cc)
answer_fits b None (Information bus s) (Some v) fits is value_type = absurd (cc)
answer_fits b (Some (Gear g)) (Information bus s) (Some v) fits is value_type = absurd (cc)
answer_fits b (Some (Instance g i)) (Information bus s) (Some v) fits is value_type = absurd (cc)
answer_fits b None (Count bus s) (Some v) fits is value_type = absurd (cc)
answer_fits b (Some (Gear g)) (Count bus s) (Some v) fits is value_type = absurd (cc)
answer_fits b (Some (Instance g i)) (Count bus s) (Some v) fits is value_type = absurd (cc)
answer_fits b None (Trigger bus s) (Some v) fits is value_type = absurd (cc)
answer_fits b (Some (Gear g)) (Trigger bus s) (Some v) fits is value_type = absurd (cc)
answer_fits b (Some (Instance g i)) (Trigger bus s) (Some v) fits is value_type = absurd (cc)
