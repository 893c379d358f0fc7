-- Who knows more before an operator knows more after it.
use Rattle.std.proofs.Common.{ℕ, ◌≤◌, ℤ, pos, negsuc, neg_ℤ, ◌≤ℤ◌, Option, Some, None, IsSome, Bool, true, false, ◌≡◌}
use Rattle.std.proofs.Common.{refl, sym, subst, arith}
use Rattle.std.specs.Prelude.{max, unsigned_abs, int_lt, if◌then◌else◌}
use Rattle.std.specs.Int.{int_min, int_max}
use Rattle.std.proofs.lemmas.Int.{ints, clamps}
use Rattle.iltypes.specs.declared.range.Range.{Range}
use Rattle.iltypes.specs.declared.value.Value.{Value}
use Rattle.iltypes.specs.declared.value.Value.TheVariants as values
use Rattle.iltypes.specs.Ranges.{IsWithin}
use Rattle.iltypes.specs.Arithmetic.{most_left, lower_remainder, upper_remainder}
use Rattle.iltypes.specs.declared.operator.Operator.{Operator}
use Rattle.iltypes.specs.declared.operator.Operator.TheVariants as operators
use Rattle.iltypes.specs.Operators.{value_of_operator}
use Rattle.ilverify.specs.declared.known.Known.{Known}
use Rattle.ilverify.specs.declared.known.Known.TheVariants as knowns
use Rattle.ilverify.specs.Knowns.{IsKnownWithin, AreReached}
use Rattle.ilverify.specs.Results.{IsResult, IsRangeOfMod, IsAfter}
use Rattle.ilverify.specs.Order.{KeepsOrder, KeepsRefusals}
use Rattle.ilverify.proofs.Comparisons.{lt_from, ge_from}
use Rattle.ilverify.proofs.Knowns.{example, known_wider, truths_within, numbers_within}
use Rattle.ilverify.proofs.ResultCauses.{refuted}

result_wider : (operator : Operator) (left right wider_left wider_right : Known) (v : Value)
    → IsKnownWithin left wider_left → IsKnownWithin right wider_right → IsResult operator left right v
    → IsResult operator wider_left wider_right v
result_wider operator left right wider_left wider_right v p q r = record {
  x = r.x;
  y = r.y;
  of_left = known_wider r.x left wider_left p r.of_left;
  of_right = known_wider r.y right wider_right q r.of_right;
  is = r.is;
}

-- ---- refusals

pub refusals : (operator : Operator) → KeepsRefusals operator
refusals operator left right wider_left wider_right wider cause p q a h =
    refuted operator left right (λ x y k l.
    h.some x y (known_wider x left wider_left p k) (known_wider y right wider_right q l)) cause a

-- ---- the order, where the limits of a range are results

pub given : (o : Option Value) → IsSome o → (v : Value) × (o ≡ Some v)
given None h = let k : ⊥ = cc in absurd k
given (Some v) h = (v, refl)

-- some result there is
some_result : (operator : Operator) (left right known : Known) → IsAfter operator left right known
    → (v : Value) × IsResult operator left right v
some_result operator left right known h =
    let x = example left in
    let y = example right in
    let v = given (value_of_operator operator x.0 y.0) (h.some x.0 y.0 x.1 y.1) in
    (v.0, record { x = x.0; y = y.0; of_left = x.1; of_right = y.1; is = v.1 })

within : (operator : Operator) (left right known wider_left wider_right wider : Known)
    → IsKnownWithin left wider_left → IsKnownWithin right wider_right → AreReached (IsResult operator left right) known
    → IsAfter operator left right known → IsAfter operator wider_left wider_right wider → IsKnownWithin known wider
within operator left right knowns.Bool wider_left wider_right wider p q reached h k =
    let s = some_result operator left right knowns.Bool h in
    truths_within s.0 wider (h.each s.0 s.1)
    (k.each s.0 (result_wider operator left right wider_left wider_right s.0 p q s.1))
within operator left right (knowns.Int r) wider_left wider_right wider p q reached h k =
    numbers_within r wider
    (k.each (values.Int r.lo) (result_wider operator left right wider_left wider_right (values.Int r.lo) p q reached.0))
    (k.each (values.Int r.hi) (result_wider operator left right wider_left wider_right (values.Int r.hi) p q reached.1))

-- ---- MOD

magnitude : (a b z : ℤ) → a ≤ℤ z → z ≤ℤ b → unsigned_abs z ≤ max (unsigned_abs a) (unsigned_abs b)
magnitude (pos n) (pos m) (pos k) p q = omega (arith, ints, p, q)
magnitude a b (pos k) p q = omega (arith, ints, p, q)
magnitude a b (negsuc k) p q = omega (arith, ints, p, q)

most_wider : (r s : Range) → IsWithin r s → most_left r ≤ most_left s
most_wider r s w =
    let o = r.ordered in
    let l = magnitude s.lo s.hi r.lo w.low (omega (arith, ints, o, w.high)) in
    let h = magnitude s.lo s.hi r.hi (omega (arith, ints, o, w.low)) w.high in
    omega (arith, l, h)

lower_by : (s t : Bool) (l k : ℤ) (m n : ℕ) → int_lt k (pos 0) ≡ s → int_lt l (pos 0) ≡ t → k ≤ℤ l → m ≤ n
    → (if s then int_max k (neg_ℤ (pos n)) else pos 0) ≤ℤ (if t then int_max l (neg_ℤ (pos m)) else pos 0)
lower_by true true l k m n e f p q = omega (arith, ints, clamps, p, q)
lower_by true false l k m n e f p q = omega (arith, ints, clamps, lt_from k (pos 0) e)
lower_by false true l k m n e f p q = absurd (omega (arith, ints, p, ge_from k (pos 0) e, lt_from l (pos 0) f))
lower_by false false l k m n e f p q = omega (arith, ints)

lower_wider : (l k : ℤ) (m n : ℕ) → k ≤ℤ l → m ≤ n
    → (if int_lt k (pos 0) then int_max k (neg_ℤ (pos n)) else pos 0)
    ≤ℤ (if int_lt l (pos 0) then int_max l (neg_ℤ (pos m)) else pos 0)
lower_wider l k m n p q = lower_by (int_lt k (pos 0)) (int_lt l (pos 0)) l k m n refl refl p q

upper_by : (s t : Bool) (l k : ℤ) (m n : ℕ) → int_lt (pos 0) l ≡ s → int_lt (pos 0) k ≡ t → l ≤ℤ k → m ≤ n
    → (if s then int_min l (pos m) else pos 0) ≤ℤ (if t then int_min k (pos n) else pos 0)
upper_by true true l k m n e f p q = omega (arith, ints, clamps, p, q)
upper_by true false l k m n e f p q = absurd (omega (arith, ints, p, lt_from (pos 0) l e, ge_from (pos 0) k f))
upper_by false true l k m n e f p q = omega (arith, ints, clamps, lt_from (pos 0) k f)
upper_by false false l k m n e f p q = omega (arith, ints)

upper_wider : (l k : ℤ) (m n : ℕ) → l ≤ℤ k → m ≤ n
    → (if int_lt (pos 0) l then int_min l (pos m) else pos 0)
    ≤ℤ (if int_lt (pos 0) k then int_min k (pos n) else pos 0)
upper_wider l k m n p q = upper_by (int_lt (pos 0) l) (int_lt (pos 0) k) l k m n refl refl p q

mod_within : (left right known wider_left wider_right wider : Known) → IsKnownWithin left wider_left
    → IsKnownWithin right wider_right → IsRangeOfMod left right known → IsRangeOfMod wider_left wider_right wider
    → IsKnownWithin known wider
mod_within knowns.Bool right known wider_left wider_right wider p q h k = absurd h
mod_within (knowns.Int a) knowns.Bool known wider_left wider_right wider p q h k = absurd h
mod_within (knowns.Int a) (knowns.Int b) knowns.Bool wider_left wider_right wider p q h k = absurd h
mod_within (knowns.Int a) (knowns.Int b) (knowns.Int r) knowns.Bool wider_right wider p q h k = absurd p
mod_within (knowns.Int a) (knowns.Int b) (knowns.Int r) (knowns.Int c) knowns.Bool wider p q h k = absurd q
mod_within (knowns.Int a) (knowns.Int b) (knowns.Int r) (knowns.Int c) (knowns.Int d) knowns.Bool p q h k = absurd k
mod_within (knowns.Int a) (knowns.Int b) (knowns.Int r) (knowns.Int c) (knowns.Int d) (knowns.Int s) p q h k =
    let m = most_wider b d q in
    let l = lower_wider a.lo c.lo (most_left b) (most_left d) p.low m in
    let u = upper_wider a.hi c.hi (most_left b) (most_left d) p.high m in
    record {
      low = subst (λ (x : ℤ). x ≤ℤ r.lo) (sym k.0)
          (subst (λ (x : ℤ). lower_remainder c d ≤ℤ x) (sym h.0) l);
      high = subst (λ (x : ℤ). r.hi ≤ℤ x) (sym k.1) (subst (λ (x : ℤ). x ≤ℤ upper_remainder c d) (sym h.1) u);
    }

pub order : (operator : Operator) → KeepsOrder operator
order operators.Mod left right known wider_left wider_right wider p q h k =
    mod_within left right known wider_left wider_right wider p q h.closest k.closest
order (operators.And n) left right known wider_left wider_right wider p q h k =
    within (operators.And n) left right known wider_left wider_right wider p q h.closest h k
order (operators.Or n) left right known wider_left wider_right wider p q h k =
    within (operators.Or n) left right known wider_left wider_right wider p q h.closest h k
order (operators.Xor n) left right known wider_left wider_right wider p q h k =
    within (operators.Xor n) left right known wider_left wider_right wider p q h.closest h k
order operators.Add left right known wider_left wider_right wider p q h k =
    within operators.Add left right known wider_left wider_right wider p q h.closest h k
order operators.Sub left right known wider_left wider_right wider p q h k =
    within operators.Sub left right known wider_left wider_right wider p q h.closest h k
order operators.Mul left right known wider_left wider_right wider p q h k =
    within operators.Mul left right known wider_left wider_right wider p q h.closest h k
order operators.Div left right known wider_left wider_right wider p q h k =
    within operators.Div left right known wider_left wider_right wider p q h.closest h k
order operators.Gt left right known wider_left wider_right wider p q h k =
    within operators.Gt left right known wider_left wider_right wider p q h.closest h k
order operators.Ge left right known wider_left wider_right wider p q h k =
    within operators.Ge left right known wider_left wider_right wider p q h.closest h k
order operators.Eq left right known wider_left wider_right wider p q h k =
    within operators.Eq left right known wider_left wider_right wider p q h.closest h k
order operators.Ne left right known wider_left wider_right wider p q h k =
    within operators.Ne left right known wider_left wider_right wider p q h.closest h k
order operators.Le left right known wider_left wider_right wider p q h k =
    within operators.Le left right known wider_left wider_right wider p q h.closest h k
order operators.Lt left right known wider_left wider_right wider p q h k =
    within operators.Lt left right known wider_left wider_right wider p q h.closest h k
order operators.Min left right known wider_left wider_right wider p q h k =
    within operators.Min left right known wider_left wider_right wider p q h.closest h k
order operators.Max left right known wider_left wider_right wider p q h k =
    within operators.Max left right known wider_left wider_right wider p q h.closest h k
