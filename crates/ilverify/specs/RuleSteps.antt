-- What the steps of the rules give: which kinds operators take, and which may be stored.
use Rattle.std.specs.Prelude.{Bool, true, false, if◌then◌else◌}
use Rattle.iltypes.specs.declared.operator.Operator.{Operator}
use Rattle.iltypes.specs.declared.operator.Operator.TheVariants as operators
use Rattle.ilverify.specs.declared.cause.Cause.{Cause}
use Rattle.ilverify.specs.declared.cause.Cause.TheVariants as causes
use Rattle.ilverify.specs.declared.known.Known.{Known}
use Rattle.ilverify.specs.declared.known.Known.TheVariants as knowns

-- whether the operator takes some value of the kind
abbrev pub takes : Operator → Known → Bool
takes (operators.And negated) (knowns.Int range) = false
takes (operators.Or negated) (knowns.Int range) = false
takes (operators.Xor negated) (knowns.Int range) = false
takes operator (knowns.Int range) = true
takes (operators.And negated) knowns.Bool = true
takes (operators.Or negated) knowns.Bool = true
takes (operators.Xor negated) knowns.Bool = true
takes operators.Eq knowns.Bool = true
takes operators.Ne knowns.Bool = true
takes operator knowns.Bool = false

-- whether a value of the kind may be stored, under the modifier N a truth value
abbrev pub may_modify : Bool → Known → Bool
may_modify true (knowns.Int range) = false
may_modify negated known = true

-- this cause where the kind is right
abbrev pub if_right : Bool → Cause → Cause
if_right right cause = if right then cause else causes.WrongType
