-- Where a cause arises the word is undefined in some run.
use Rattle.std.proofs.Common.{◌≡◌, ℕ, ℤ, Bool, true, false, Option, Some, None, cond}
use Rattle.std.proofs.Common.{refl, sym, ap, ◌∙◌, subst, inl, inr}
use Rattle.std.specs.Prelude.{IsNone, ◌&&◌, ◌≤ℤ◌, int_le, T}
use Rattle.std.specs.Option.{option_and_then}
use Rattle.iltypes.specs.declared.function.Function.{Function}
use Rattle.iltypes.specs.declared.function.Function.TheVariants as functions
use Rattle.iltypes.specs.declared.function.IntegerType.{IntegerType}
use Rattle.iltypes.specs.declared.operator.Operator.{Operator}
use Rattle.iltypes.specs.declared.range.Range.{Range}
use Rattle.iltypes.specs.declared.value.Value.{Value}
use Rattle.iltypes.specs.declared.value.Value.TheVariants as values
use Rattle.iltypes.specs.Functions.{modified, value_of_function, least_of, greatest_of}
use Rattle.iltypes.specs.Operators.{both}
use Rattle.iltypes.specs.Ranges.{Holds, IsWithin}
use Rattle.iltypes.proofs.Limits.{holds_low, holds_high}
use Rattle.ilcode.specs.Stores.{Store}
use Rattle.ilcode.specs.declared.word.WordOperand.{WordOperand}
use Rattle.ilcode.specs.declared.word.Word.TheVariants as words
use Rattle.ilcode.specs.Listings.{Listing}
use Rattle.ilcode.specs.Steps.{value_of, with_result}
use Rattle.ilverify.specs.declared.cause.Cause.{Cause}
use Rattle.ilverify.specs.declared.cause.Cause.TheVariants as causes
use Rattle.ilverify.specs.declared.entry.Entry.{Entry}
use Rattle.ilverify.specs.declared.known.Known.{Known}
use Rattle.ilverify.specs.CauseLaws.{IsUndefined, IsTyped, IsOfStep, IsWrong}
use Rattle.ilverify.specs.Fits.{IsResultKnown}
use Rattle.ilverify.specs.Functions.{ArisesAtFunction, IsOutOfType}
use Rattle.ilverify.specs.Knowns.{IsKnown}
use Rattle.ilverify.specs.Operands.{known_of}
use Rattle.ilverify.specs.Refusals.{IsWrongForLoad, ArisesAtTransform, ArisesAtWord}
use Rattle.ilverify.proofs.Knowns.{kind_of_known}
use Rattle.ilverify.proofs.UndefinedStores.{none_of, some_of, some_known, alike_kind}
use Rattle.ilverify.proofs.UndefinedStores.{base, IsChosen, base_chosen, giving, missing}
use Rattle.ilverify.proofs.UndefinedStores.{result_of, result_known, nesting_of, stands, undefined_with}
use Rattle.ilverify.proofs.UndefinedOperators.{IsChoice, choice, choice_known, AreAlike, HasNone, of_no_left}
use Rattle.ilverify.proofs.UndefinedOperators.{of_no_right, operator_none}

-- ---- an operand's value where it is known or not, alike one that is chosen

pub record Operand (code : Listing) (entry : Entry) (operand : WordOperand) (value : Option Value) : Type 0 where
  pub store : Store
  pub is_chosen : IsChosen code entry store
  pub given : Option Value
  pub is : value_of code store operand ≡ given
  pub alike : AreAlike value given

pub operand_of : (code : Listing) (entry : Entry) (operand : WordOperand) (known : Option Known) (value : Option Value)
    → IsTyped code entry → known_of code entry operand ≡ known → IsChoice value known → Operand code entry operand value
operand_of code entry operand None None t e h =
    let chosen = base_chosen code entry t in
    record {
      store = base code entry;
      is_chosen = chosen;
      given = None;
      is = missing code entry (base code entry) operand chosen e;
      alike = tt;
    }
operand_of code entry operand None (Some value) t e h = absurd h
operand_of code entry operand (Some known) None t e h = absurd h
operand_of code entry operand (Some known) (Some value) t e h =
    let g = giving code entry operand known value t e h in
    record { store = g.store; is_chosen = g.is_chosen; given = Some g.given; is = g.is; alike = g.alike }

-- ---- LD

modified_none : (negated : Bool) (known : Option Known) (value given : Option Value) → IsWrongForLoad negated known
    → IsChoice value known → AreAlike value given → option_and_then (modified negated) given ≡ None
modified_none negated known value None h k a = refl
modified_none negated known None (Some given) h k a = absurd a
modified_none negated None (Some value) (Some given) h k a = absurd k
modified_none negated (Some known) (Some value) (Some given) h k a =
    none_of (modified negated given) (h given (alike_kind value given known a (kind_of_known value known k)))

load_wrong : (code : Listing) (place : ℕ) (entry : Entry) (negated : Bool) (operand : WordOperand) → IsTyped code entry
    → IsWrongForLoad negated (known_of code entry operand)
    → IsUndefined code place entry (words.Load negated operand)
load_wrong code place entry negated operand t h =
    let known = known_of code entry operand in
    let o = operand_of code entry operand known (result_of known) t refl (choice known) in
    let result = result_of entry.result in
    let c = stands code place o.store result (nesting_of entry.nesting) in
    undefined_with code place entry (words.Load negated operand) o.store result o.is_chosen (result_known entry.result)
    (ap (λ (v : Option Value). with_result c c.nesting (option_and_then (modified negated) v)) o.is
    ∙ ap (with_result c c.nesting) (modified_none negated known (result_of known) o.given h (choice known) o.alike))

load_missing : (code : Listing) (place : ℕ) (entry : Entry) (negated : Bool) (operand : WordOperand)
    → IsTyped code entry
    → IsNone (known_of code entry operand) → IsUndefined code place entry (words.Load negated operand)
load_missing code place entry negated operand t h =
    let chosen = base_chosen code entry t in
    let result = result_of entry.result in
    let c = stands code place (base code entry) result (nesting_of entry.nesting) in
    undefined_with code place entry (words.Load negated operand) (base code entry) result chosen
    (result_known entry.result)
    (ap (λ (v : Option Value). with_result c c.nesting (option_and_then (modified negated) v))
    (missing code entry (base code entry) operand chosen (none_of (known_of code entry operand) h)))

pub load : (code : Listing) (place : ℕ) (met : Bool) (entry : Entry) (negated : Bool) (operand : WordOperand)
    (cause : Cause)
    → IsTyped code entry → IsOfStep cause → ArisesAtWord code place met entry (words.Load negated operand) cause
    → IsWrong code place entry (words.Load negated operand) cause
load code place met entry negated operand causes.WrongType t s h = load_wrong code place entry negated operand t h
load code place met entry negated operand causes.BadSlot t s h = elim h [
  | inl none ↦ inl (load_missing code place entry negated operand t none)
  | inr named ↦ inr named
]
load code place met entry negated operand causes.NoResult t s h = absurd h
load code place met entry negated operand causes.EmptyNesting t s h = absurd h
load code place met entry negated operand causes.OpenNesting t s h = absurd s
load code place met entry negated operand causes.MayBeZero t s h = absurd h
load code place met entry negated operand (causes.OutOfRange found allowed) t s h = absurd h
load code place met entry negated operand causes.TooBig t s h = absurd h
load code place met entry negated operand causes.BadJump t s h = absurd h
load code place met entry negated operand causes.TooManyRequests t s h = absurd h
load code place met entry negated operand causes.TooLong t s h = absurd h
load code place met entry negated operand causes.BadCall t s h = absurd h

-- ---- operators

apply_by : (code : Listing) (place : ℕ) (entry : Entry) (operator : Operator) (operand : WordOperand)
    → IsTyped code entry → HasNone operator entry.result (known_of code entry operand)
    → IsUndefined code place entry (words.Apply operator operand)
apply_by code place entry operator operand t h =
    let o = operand_of code entry operand (known_of code entry operand) h.other t refl h.is_other in
    let c = stands code place o.store h.one (nesting_of entry.nesting) in
    undefined_with code place entry (words.Apply operator operand) o.store h.one o.is_chosen
    (choice_known h.one entry.result h.is_one)
    (ap (λ (v : Option Value). with_result c c.nesting (both operator h.one v)) o.is
    ∙ ap (with_result c c.nesting) (h.none o.given o.alike))

no_result_none : (operator : Operator) (left right : Option Known) → IsNone left → HasNone operator left right
no_result_none operator None right h = of_no_left operator right
no_result_none operator (Some left) right h = absurd (cc)

pub no_operand_none : (operator : Operator) (left right : Option Known) → IsNone right → HasNone operator left right
no_operand_none operator left None h = of_no_right operator left
no_operand_none operator left (Some right) h = absurd (cc)

pub apply : (code : Listing) (place : ℕ) (met : Bool) (entry : Entry) (operator : Operator) (operand : WordOperand)
    (cause : Cause) → IsTyped code entry → IsOfStep cause
    → ArisesAtWord code place met entry (words.Apply operator operand) cause
    → IsWrong code place entry (words.Apply operator operand) cause
apply code place met entry operator operand causes.NoResult t s h =
    apply_by code place entry operator operand t
    (no_result_none operator entry.result (known_of code entry operand) h)
apply code place met entry operator operand causes.BadSlot t s h = elim h [
  | inl none ↦
      inl (apply_by code place entry operator operand t
      (no_operand_none operator entry.result (known_of code entry operand) none))
  | inr named ↦ inr named
]
apply code place met entry operator operand causes.WrongType t s h =
    apply_by code place entry operator operand t
    (operator_none operator entry.result (known_of code entry operand) causes.WrongType h)
apply code place met entry operator operand causes.EmptyNesting t s h =
    apply_by code place entry operator operand t
    (operator_none operator entry.result (known_of code entry operand) causes.EmptyNesting h)
apply code place met entry operator operand causes.OpenNesting t s h = absurd s
apply code place met entry operator operand causes.MayBeZero t s h =
    apply_by code place entry operator operand t
    (operator_none operator entry.result (known_of code entry operand) causes.MayBeZero h)
apply code place met entry operator operand (causes.OutOfRange found allowed) t s h =
    apply_by code place entry operator operand t
    (operator_none operator entry.result (known_of code entry operand) (causes.OutOfRange found allowed) h)
apply code place met entry operator operand causes.TooBig t s h =
    apply_by code place entry operator operand t
    (operator_none operator entry.result (known_of code entry operand) causes.TooBig h)
apply code place met entry operator operand causes.BadJump t s h =
    apply_by code place entry operator operand t
    (operator_none operator entry.result (known_of code entry operand) causes.BadJump h)
apply code place met entry operator operand causes.TooManyRequests t s h = absurd s
apply code place met entry operator operand causes.TooLong t s h = absurd s
apply code place met entry operator operand causes.BadCall t s h = absurd s

-- ---- NOT, ABS and conversions

transform_by : (code : Listing) (place : ℕ) (entry : Entry) (function : Function) (result : Option Value)
    → IsTyped code entry → IsResultKnown result entry.result
    → option_and_then (value_of_function function) result ≡ None
    → IsUndefined code place entry (words.Transform function)
transform_by code place entry function result t k e =
    let c = stands code place (base code entry) result (nesting_of entry.nesting) in
    undefined_with code place entry (words.Transform function) (base code entry) result (base_chosen code entry t) k
    (ap (with_result c c.nesting) e)

-- a number of the range that is not from the one to the other
record IsLeftOut (found : Range) (low high : ℤ) : Type 0 where
  number : ℤ
  holds : Holds found number
  out : (int_le low number && int_le number high) ≡ false

right_false : (a b : Bool) → b ≡ false → (a && b) ≡ false
right_false true b e = e
right_false false b e = refl

left_out : (found : Range) (low high : ℤ) (a b : Bool) → int_le low found.lo ≡ a → int_le found.hi high ≡ b
    → ¬ ((low ≤ℤ found.lo) × (found.hi ≤ℤ high)) → IsLeftOut found low high
left_out found low high true true e f h =
    absurd (h (record { le = subst T (sym e) tt }, record { le = subst T (sym f) tt }))
left_out found low high false b e f h = record {
  number = found.lo;
  holds = holds_low found;
  out = ap (λ (t : Bool). t && int_le found.lo high) e;
}
left_out found low high true false e f h = record {
  number = found.hi;
  holds = holds_high found;
  out = right_false (int_le low found.hi) (int_le found.hi high) f;
}

not_within : (found allowed : Range) → ¬ IsWithin found allowed
    → ¬ ((allowed.lo ≤ℤ found.lo) × (found.hi ≤ℤ allowed.hi))
not_within found allowed h p = h (record { low = p.0; high = p.1 })

convert_none : (type : IntegerType) (known : Known) (found allowed : Range) → IsOutOfType type known found allowed
    → (value : Value) × IsKnown value known × (value_of_function (functions.Convert type) value ≡ None)
convert_none type known found allowed h =
    let l = left_out found allowed.lo allowed.hi (int_le allowed.lo found.lo) (int_le found.hi allowed.hi) refl refl
    (not_within found allowed h.out) in
    let low = ap (λ (z : ℤ). int_le z l.number && int_le l.number allowed.hi) (sym h.low) in
    let high = ap (λ (z : ℤ). int_le (least_of type) l.number && int_le l.number z) (sym h.high) in
    let out : (int_le (least_of type) l.number && int_le l.number (greatest_of type)) ≡ false =
    high ∙ low ∙ l.out in (
      values.Int l.number,
      subst (IsKnown (values.Int l.number)) (sym h.operand_is) l.holds,
      ap (λ (t : Bool). cond t (Some (values.Int l.number)) None) out,
    )

function_none : (function : Function) (known : Known) (cause : Cause) → ArisesAtFunction function known cause
    → (value : Value) × IsKnown value known × (value_of_function function value ≡ None)
function_none function known causes.WrongType h =
    let value = some_of known in (
      value,
      some_known known,
      none_of (value_of_function function value) (h value (kind_of_known value known (some_known known))),
    )
function_none (functions.Convert type) known (causes.OutOfRange found allowed) h =
    convert_none type known found allowed h
function_none functions.Not known causes.TooBig h =
    (h.x, h.of_operand, none_of (value_of_function functions.Not h.x) h.none)
function_none functions.Abs known causes.TooBig h =
    (h.x, h.of_operand, none_of (value_of_function functions.Abs h.x) h.none)
function_none (functions.Convert type) known causes.TooBig h = absurd h
function_none functions.Not known causes.NoResult h = absurd h
function_none functions.Abs known causes.NoResult h = absurd h
function_none (functions.Convert type) known causes.NoResult h = absurd h
function_none functions.Not known causes.EmptyNesting h = absurd h
function_none functions.Abs known causes.EmptyNesting h = absurd h
function_none (functions.Convert type) known causes.EmptyNesting h = absurd h
function_none functions.Not known causes.OpenNesting h = absurd h
function_none functions.Abs known causes.OpenNesting h = absurd h
function_none (functions.Convert type) known causes.OpenNesting h = absurd h
function_none functions.Not known causes.MayBeZero h = absurd h
function_none functions.Abs known causes.MayBeZero h = absurd h
function_none (functions.Convert type) known causes.MayBeZero h = absurd h
function_none functions.Not known (causes.OutOfRange found allowed) h = absurd h
function_none functions.Abs known (causes.OutOfRange found allowed) h = absurd h
function_none functions.Not known causes.BadJump h = absurd h
function_none functions.Abs known causes.BadJump h = absurd h
function_none (functions.Convert type) known causes.BadJump h = absurd h
function_none functions.Not known causes.TooManyRequests h = absurd h
function_none functions.Abs known causes.TooManyRequests h = absurd h
function_none (functions.Convert type) known causes.TooManyRequests h = absurd h
function_none functions.Not known causes.BadSlot h = absurd h
function_none functions.Abs known causes.BadSlot h = absurd h
function_none (functions.Convert type) known causes.BadSlot h = absurd h
function_none functions.Not known causes.TooLong h = absurd h
function_none functions.Abs known causes.TooLong h = absurd h
function_none (functions.Convert type) known causes.TooLong h = absurd h
function_none functions.Not known causes.BadCall h = absurd h
function_none functions.Abs known causes.BadCall h = absurd h
function_none (functions.Convert type) known causes.BadCall h = absurd h

transform_known : (code : Listing) (place : ℕ) (entry : Entry) (function : Function) (known : Option Known)
    (cause : Cause)
    → IsTyped code entry → entry.result ≡ known → ArisesAtTransform function known cause
    → IsUndefined code place entry (words.Transform function)
transform_known code place entry function (Some known) cause t e h =
    let f = function_none function known cause h in
    transform_by code place entry function (Some f.0) t (subst (IsResultKnown (Some f.0)) (sym e) f.1) f.2
transform_known code place entry function None causes.NoResult t e h =
    transform_by code place entry function None t (subst (IsResultKnown None) (sym e) tt) refl
transform_known code place entry function None causes.WrongType t e h = absurd h
transform_known code place entry function None causes.EmptyNesting t e h = absurd h
transform_known code place entry function None causes.OpenNesting t e h = absurd h
transform_known code place entry function None causes.MayBeZero t e h = absurd h
transform_known code place entry function None (causes.OutOfRange found allowed) t e h = absurd h
transform_known code place entry function None causes.TooBig t e h = absurd h
transform_known code place entry function None causes.BadJump t e h = absurd h
transform_known code place entry function None causes.TooManyRequests t e h = absurd h
transform_known code place entry function None causes.BadSlot t e h = absurd h
transform_known code place entry function None causes.TooLong t e h = absurd h
transform_known code place entry function None causes.BadCall t e h = absurd h

pub transform : (code : Listing) (place : ℕ) (met : Bool) (entry : Entry) (function : Function) (cause : Cause)
    → IsTyped code entry → IsOfStep cause → ArisesAtWord code place met entry (words.Transform function) cause
    → IsWrong code place entry (words.Transform function) cause
transform code place met entry function causes.WrongType t s h =
    transform_known code place entry function entry.result causes.WrongType t refl h
transform code place met entry function causes.NoResult t s h =
    transform_known code place entry function entry.result causes.NoResult t refl h
transform code place met entry function causes.EmptyNesting t s h =
    transform_known code place entry function entry.result causes.EmptyNesting t refl h
transform code place met entry function causes.OpenNesting t s h = absurd s
transform code place met entry function causes.MayBeZero t s h =
    transform_known code place entry function entry.result causes.MayBeZero t refl h
transform code place met entry function (causes.OutOfRange found allowed) t s h =
    transform_known code place entry function entry.result (causes.OutOfRange found allowed) t refl h
transform code place met entry function causes.TooBig t s h =
    transform_known code place entry function entry.result causes.TooBig t refl h
transform code place met entry function causes.BadJump t s h =
    transform_known code place entry function entry.result causes.BadJump t refl h
transform code place met entry function causes.TooManyRequests t s h = absurd s
transform code place met entry function causes.BadSlot t s h =
    inl (transform_known code place entry function entry.result causes.BadSlot t refl h)
transform code place met entry function causes.TooLong t s h = absurd s
transform code place met entry function causes.BadCall t s h = absurd s
