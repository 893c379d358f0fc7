-- What the report of a transaction writes.
use Rattle.std.specs.Prelude.{ℕ, Option, None, slice_get, option_and_then, if◌then◌else◌}
use Rattle.iltypes.specs.declared.value.IlType.{IlType}
use Rattle.iltypes.specs.declared.value.Value.{Value}
use Rattle.iltypes.specs.Values.{IsOf}
use Rattle.gearcmd.specs.declared.requests.Answerer.{Answerer}
use Rattle.buslink.specs.declared.marks.Outcome.{Outcome}
use Rattle.ilplan.specs.declared.global.Location.{Location}
use Rattle.ilplan.specs.Plans.{Planned, HasUpTo, Suits}
use Rattle.ilmachine.specs.Images.{ImageVariable, Global, Own}
use Rattle.plantevents.specs.declared.event.Origin.{Origin}
use Rattle.plantevents.specs.Variables.{answerer_by, is_answer_of, outcome_value}

-- each type that has 0 to 258 has the value, as that of an answer's input does
abbrev pub FitsAnswers : Value → Type 0
FitsAnswers value = (value_type : IlType) → HasUpTo 258 value_type → IsOf value value_type

-- a value of this type may be written there
abbrev pub IsWrittenAs : IlType → Location → Value → Type 0
IsWrittenAs value_type location value = Suits value_type location → IsOf value value_type

-- what a transaction on bus b, which brings this answerer's answer, writes to what is located there
abbrev pub answer_write : ℕ → Option Answerer → Outcome → Option Location → Option Value
answer_write b answerer result place = if is_answer_of b answerer place then outcome_value result else None

-- what the end of a transaction, which was made of this and sent on bus b, writes to a variable
abbrev pub answer_at : Planned → ℕ → Origin → Outcome → ImageVariable → Option Value
answer_at plan b origin result (Global number) =
    answer_write b (answerer_by origin) result (option_and_then (λ g. g.location) (slice_get plan.globals number))
answer_at plan b origin result (Own task number) = None
