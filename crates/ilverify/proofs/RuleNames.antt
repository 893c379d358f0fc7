-- The least cause where an operand is there, but may not be named: the operator's own, else a bad slot.
use Rattle.std.proofs.Common.{◌≡◌, ◌⊎◌, Option, Some, None, Bool, true, false, refl, inl, inr}
use Rattle.std.specs.Prelude.{IsTrue}
use Rattle.iltypes.specs.declared.value.IlType.{IlType}
use Rattle.iltypes.specs.declared.operator.Operator.{Operator}
use Rattle.ilverify.specs.declared.cause.Cause.{Cause}
use Rattle.ilverify.specs.declared.cause.Cause.TheVariants as causes
use Rattle.ilverify.specs.declared.known.Known.{Known}
use Rattle.ilverify.specs.Causes.{IsLeastCause}
use Rattle.ilverify.specs.Refusals as refusals
use Rattle.ilverify.specs.Rules.{IsLoaded, IsApplied, IsStored}
use Rattle.ilverify.proofs.Causes.{alone, beside}
use Rattle.ilverify.proofs.RuleLawful.{loaded_lawful, apply_lawful, passed_lawful}

not_named : (named : Bool) → named ≡ false → ¬ IsTrue named
not_named named e t = let k : ⊥ = cc in k

-- ---- loads

load_named : (negated : Bool) (operand : Option Known) (named : Bool) (cause : Cause)
    → refusals.ArisesAtLoad negated operand true cause → refusals.ArisesAtLoad negated operand named cause
load_named negated operand named causes.WrongType a = a
load_named negated operand named causes.BadSlot (inl n) = inl n
load_named negated operand named causes.BadSlot (inr n) = absurd (n refl)
load_named negated operand named _ a = absurd a

from_named_load : (negated : Bool) (operand : Option Known) (named : Bool) (cause : Cause)
    → refusals.ArisesAtLoad negated operand named cause
    → (cause ≡ causes.BadSlot) ⊎ refusals.ArisesAtLoad negated operand true cause
from_named_load negated operand named causes.WrongType a = inr a
from_named_load negated operand named causes.BadSlot a = inl refl
from_named_load negated operand named _ a = absurd a

pub load_refused : (negated : Bool) (operand : Option Known) (named : Bool) (cause : Cause)
    → IsLeastCause (refusals.ArisesAtLoad negated operand true) cause
    → IsLeastCause (refusals.ArisesAtLoad negated operand named) cause
load_refused negated operand named cause l =
    beside (refusals.ArisesAtLoad negated operand true) (refusals.ArisesAtLoad negated operand named) cause (λ a. a)
    (λ a. a) (load_named negated operand named cause) (from_named_load negated operand named) l

pub load_of_others : (negated : Bool) (operand : Option Known) (named : Bool) (known : Known) → named ≡ false
    → IsLoaded negated operand known → IsLeastCause (refusals.ArisesAtLoad negated operand named) causes.BadSlot
load_of_others negated operand named known e h =
    alone (refusals.ArisesAtLoad negated operand true) (refusals.ArisesAtLoad negated operand named)
    (inr (not_named named e)) (loaded_lawful negated operand true known refl h)
    (from_named_load negated operand named)

-- ---- operators

none_long : (operator : Operator) (left right : Option Known)
    → ¬ refusals.ArisesAtOperator operator left right causes.TooLong
none_long operator None right a = a
none_long operator (Some l) None a = a
none_long operator (Some l) (Some r) a = a

none_called : (operator : Operator) (left right : Option Known)
    → ¬ refusals.ArisesAtOperator operator left right causes.BadCall
none_called operator None right a = a
none_called operator (Some l) None a = a
none_called operator (Some l) (Some r) a = a

apply_named : (operator : Operator) (left right : Option Known) (named : Bool) (cause : Cause)
    → refusals.ArisesAtApply operator left right true cause → refusals.ArisesAtApply operator left right named cause
apply_named operator left right named causes.BadSlot (inl n) = inl n
apply_named operator left right named causes.BadSlot (inr n) = absurd (n refl)
apply_named operator left right named causes.NoResult a = a
apply_named operator left right named cause a = a

from_named_apply : (operator : Operator) (left right : Option Known) (named : Bool) (cause : Cause)
    → refusals.ArisesAtApply operator left right named cause
    → (cause ≡ causes.BadSlot) ⊎ refusals.ArisesAtApply operator left right true cause
from_named_apply operator left right named causes.BadSlot a = inl refl
from_named_apply operator left right named causes.NoResult a = inr a
from_named_apply operator left right named cause a = inr a

pub apply_refused : (operator : Operator) (left right : Option Known) (named : Bool) (cause : Cause)
    → IsLeastCause (refusals.ArisesAtApply operator left right true) cause
    → IsLeastCause (refusals.ArisesAtApply operator left right named) cause
apply_refused operator left right named cause l =
    beside (refusals.ArisesAtApply operator left right true) (refusals.ArisesAtApply operator left right named) cause
    (none_long operator left right) (none_called operator left right) (apply_named operator left right named cause)
    (from_named_apply operator left right named) l

pub apply_to_others : (operator : Operator) (left right : Option Known) (named : Bool) (known : Known)
    → named ≡ false → IsApplied operator left right known
    → IsLeastCause (refusals.ArisesAtApply operator left right named) causes.BadSlot
apply_to_others operator left right named known e h =
    alone (refusals.ArisesAtApply operator left right true) (refusals.ArisesAtApply operator left right named)
    (inr (not_named named e)) (apply_lawful operator left right true known refl h)
    (from_named_apply operator left right named)

-- ---- arguments of CAL, and GIVE

pass_named : (operand : Option Known) (named : Bool) (type : Option IlType) (writable : Bool) (cause : Cause)
    → refusals.ArisesAtPass operand true type writable cause → refusals.ArisesAtPass operand named type writable cause
pass_named operand named type writable causes.WrongType a = a
pass_named operand named type writable (causes.OutOfRange found allowed) a = a
pass_named operand named type writable causes.BadSlot (inl (inl n)) = inl (inl n)
pass_named operand named type writable causes.BadSlot (inl (inr n)) = absurd (n refl)
pass_named operand named type writable causes.BadSlot (inr n) = inr n
pass_named operand named type writable _ a = absurd a

from_named_pass : (operand : Option Known) (named : Bool) (type : Option IlType) (writable : Bool) (cause : Cause)
    → refusals.ArisesAtPass operand named type writable cause
    → (cause ≡ causes.BadSlot) ⊎ refusals.ArisesAtPass operand true type writable cause
from_named_pass operand named type writable causes.WrongType a = inr a
from_named_pass operand named type writable (causes.OutOfRange found allowed) a = inr a
from_named_pass operand named type writable causes.BadSlot a = inl refl
from_named_pass operand named type writable _ a = absurd a

pub pass_refused_named : (operand : Option Known) (named : Bool) (type : Option IlType) (writable : Bool)
    (cause : Cause)
    → IsLeastCause (refusals.ArisesAtPass operand true type writable) cause
    → IsLeastCause (refusals.ArisesAtPass operand named type writable) cause
pass_refused_named operand named type writable cause l =
    beside (refusals.ArisesAtPass operand true type writable) (refusals.ArisesAtPass operand named type writable) cause
    (λ a. a) (λ a. a) (pass_named operand named type writable cause) (from_named_pass operand named type writable) l

pub pass_of_others : (operand : Option Known) (named : Bool) (type : Option IlType) (writable : Bool) (stored : Known)
    → named ≡ false → IsTrue writable → IsStored false operand type stored
    → IsLeastCause (refusals.ArisesAtPass operand named type writable) causes.BadSlot
pass_of_others operand named type writable stored e w h =
    alone (refusals.ArisesAtPass operand true type writable) (refusals.ArisesAtPass operand named type writable)
    (inl (inr (not_named named e))) (passed_lawful operand true type writable stored refl w h)
    (from_named_pass operand named type writable)
