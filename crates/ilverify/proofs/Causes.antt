-- The least of the causes that arise is one, and it stays the least beside others.
use Rattle.std.proofs.Common.{◌≡◌, ◌≤◌, refl, arith, ◌⊎◌, inl, inr}
use Rattle.iltypes.specs.declared.range.Range.{Range}
use Rattle.ilverify.specs.declared.cause.Cause.{Cause}
use Rattle.ilverify.specs.declared.cause.Cause.TheVariants as causes
use Rattle.ilverify.specs.Causes.{refusal_number, IsLeastCause}

same_number : (Arising : Cause → Type 0) (one other : Cause)
    → ((f a g b : Range) → Arising (causes.OutOfRange f a) → Arising (causes.OutOfRange g b)
    → causes.OutOfRange f a ≡ causes.OutOfRange g b)
    → Arising one → Arising other → refusal_number one ≤ refusal_number other
    → refusal_number other ≤ refusal_number one → one ≡ other
same_number Arising causes.WrongType causes.WrongType h p q l m = refl
same_number Arising causes.NoResult causes.NoResult h p q l m = refl
same_number Arising causes.EmptyNesting causes.EmptyNesting h p q l m = refl
same_number Arising causes.OpenNesting causes.OpenNesting h p q l m = refl
same_number Arising causes.MayBeZero causes.MayBeZero h p q l m = refl
same_number Arising (causes.OutOfRange f a) (causes.OutOfRange g b) h p q l m = h f a g b p q
same_number Arising causes.TooBig causes.TooBig h p q l m = refl
same_number Arising causes.BadJump causes.BadJump h p q l m = refl
same_number Arising causes.TooManyRequests causes.TooManyRequests h p q l m = refl
same_number Arising causes.BadSlot causes.BadSlot h p q l m = refl
same_number Arising causes.TooLong causes.TooLong h p q l m = refl
same_number Arising causes.BadCall causes.BadCall h p q l m = refl
same_number Arising one other h p q l m = absurd (omega arith)

pub one_cause : (Arising : Cause → Type 0) (one other : Cause)
    → ((f a g b : Range) → Arising (causes.OutOfRange f a) → Arising (causes.OutOfRange g b)
    → causes.OutOfRange f a ≡ causes.OutOfRange g b)
    → IsLeastCause Arising one → IsLeastCause Arising other → one ≡ other
one_cause Arising one other h p q =
    same_number Arising one other h p.arises q.arises (p.least other q.arises) (q.least one p.arises)

pub at_least_two : (cause : Cause) → 2 ≤ refusal_number cause
at_least_two causes.WrongType = omega arith
at_least_two cause = omega arith

-- the least of the same causes
pub least_as : (One Other : Cause → Type 0) (cause : Cause) → (One cause → Other cause)
    → ((other : Cause) → Other other → One other) → IsLeastCause One cause → IsLeastCause Other cause
least_as One Other cause to from l =
    record { arises = to l.arises; least = λ other a. l.least other (from other a) }

pub wrong_least : (Arising : Cause → Type 0) → Arising causes.WrongType → IsLeastCause Arising causes.WrongType
wrong_least Arising a = record { arises = a; least = λ other b. at_least_two other }

-- of the causes that arise at words bad slot is the last
bad_slot_last : (Arising : Cause → Type 0) → ¬ Arising causes.TooLong → ¬ Arising causes.BadCall → (cause : Cause)
    → Arising cause → refusal_number cause ≤ refusal_number causes.BadSlot
bad_slot_last Arising long call causes.TooLong a = absurd (long a)
bad_slot_last Arising long call causes.BadCall a = absurd (call a)
bad_slot_last Arising long call causes.BadSlot a = omega arith
bad_slot_last Arising long call cause a = omega arith

-- a least cause stays the least beside bad slot
pub beside : (One Other : Cause → Type 0) (cause : Cause) → ¬ One causes.TooLong → ¬ One causes.BadCall
    → (One cause → Other cause) → ((other : Cause) → Other other → (other ≡ causes.BadSlot) ⊎ One other)
    → IsLeastCause One cause → IsLeastCause Other cause
beside One Other cause long call to from l =
    record { arises = to l.arises; least = λ other a. least other (from other a) }
  where
    least : (other : Cause) → (other ≡ causes.BadSlot) ⊎ One other → refusal_number cause ≤ refusal_number other
    least other (inl e) = rw e (bad_slot_last One long call cause l.arises)
    least other (inr a) = l.least other a

-- where no other cause arises
pub alone : (One Other : Cause → Type 0) → Other causes.BadSlot → ((cause : Cause) → ¬ One cause)
    → ((other : Cause) → Other other → (other ≡ causes.BadSlot) ⊎ One other) → IsLeastCause Other causes.BadSlot
alone One Other arises none from = record { arises = arises; least = λ other a. least other (from other a) }
  where
    least : (other : Cause) → (other ≡ causes.BadSlot) ⊎ One other
        → refusal_number causes.BadSlot ≤ refusal_number other
    least other (inl e) = rw e (omega arith)
    least other (inr a) = absurd (none other a)
