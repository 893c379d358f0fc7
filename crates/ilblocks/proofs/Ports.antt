-- The types of ports: whole numbers between limits.
use Rattle.std.proofs.Common.{◌≡◌, ℤ, ◌≤ℤ◌, Bool, true, false, T, ap, subst, sym, refl}
use Rattle.std.specs.Prelude.{int_le}
use lib.Dec.{T_prop}
use Rattle.iltypes.specs.declared.range.Range.{Range}
use Rattle.iltypes.specs.declared.value.IlType.TheVariants as types
use Rattle.iltypes.specs.declared.value.Value.{Value}
use Rattle.iltypes.specs.declared.value.Value.TheVariants as values
use Rattle.iltypes.specs.Values.{IsOf}
use Rattle.ilblocks.specs.Ports.{range_if, numbers}

-- an order is shown in one way
same_order : (low high : ℤ) (p q : low ≤ℤ high) → p ≡ q
same_order low high p q =
    ap {B = low ≤ℤ high} (λ (t : T (int_le low high)). record { le = t }) (T_prop (int_le low high) p.le q.le)

range_is : (low high : ℤ) (t : Bool) (f : T t → low ≤ℤ high) (o : low ≤ℤ high) → int_le low high ≡ t
    → types.Int (record { lo = low; hi = high; ordered = o }) ≡ range_if low high t f
range_is low high true f o e =
    ap (λ (q : low ≤ℤ high). types.Int (record { lo = low; hi = high; ordered = q })) (same_order low high o (f tt))
range_is low high false f o e = absurd (subst T e o.le)

numbers_are : (low high : ℤ) (o : low ≤ℤ high)
    → types.Int (record { lo = low; hi = high; ordered = o }) ≡ numbers low high
numbers_are low high o = range_is low high (int_le low high) (λ is. record { le = is }) o refl

pub numbers_of : (low high : ℤ) (r : Range) → r.lo ≡ low → r.hi ≡ high → types.Int r ≡ numbers low high
numbers_of low high r e f =
    subst (λ (h : ℤ). types.Int r ≡ numbers low h) f
    (subst (λ (l : ℤ). types.Int r ≡ numbers l r.hi) e (numbers_are r.lo r.hi r.ordered))

-- a value of such a type is a number within the limits
pub record IsWithin (value : Value) (least most : ℤ) : Type 0 where
  pub number : ℤ
  pub is : value ≡ values.Int number
  pub low : least ≤ℤ number
  pub high : number ≤ℤ most

within : (value : Value) (low high : ℤ) (o : low ≤ℤ high)
    → IsOf value (types.Int (record { lo = low; hi = high; ordered = o })) → IsWithin value low high
within (values.Bool b) low high o h = absurd h
within (values.Int n) low high o h = record { number = n; is = refl; low = h.low; high = h.high }

pub value_within : (value : Value) (low high : ℤ) → low ≤ℤ high → IsOf value (numbers low high)
    → IsWithin value low high
value_within value low high o h = within value low high o (subst (IsOf value) (sym (numbers_are low high o)) h)

pub number_in : (low high n : ℤ) → low ≤ℤ high → low ≤ℤ n → n ≤ℤ high → IsOf (values.Int n) (numbers low high)
number_in low high n o p q = subst (IsOf (values.Int n)) (numbers_are low high o) (record { low = p; high = q })
