-- Operators are equal as Rust compares them exactly where they are the same.
use Rattle.std.proofs.Common.{◌≡◌, Bool, true, false, ap, refl, subst}
use Rattle.std.specs.Bool.{Decides}
use Rattle.std.specs.Cmp.{booleans_Decides}
use Rattle.iltypes.specs.declared.operator.Operator.{Operator}
use Rattle.iltypes.specs.declared.operator.Operator.TheVariants as operators
use Rattle.iltypes.specs.contracts.operator.OperatorPartialEq.TheImpl as operator_eq

-- it is stated once, since a contradiction under a wildcard is searched for in each case that the wildcard stands for
not_true : {A : Type 0} → false ≡ true → A
not_true e = absurd cc

are_same : (a b : Operator) → operator_eq.eq-value.it a b ≡ true → a ≡ b
are_same (operators.And a) (operators.And b) e = ap operators.And ((booleans_Decides a b).0 e)
are_same (operators.Or a) (operators.Or b) e = ap operators.Or ((booleans_Decides a b).0 e)
are_same (operators.Xor a) (operators.Xor b) e = ap operators.Xor ((booleans_Decides a b).0 e)
are_same operators.Add operators.Add e = refl
are_same operators.Sub operators.Sub e = refl
are_same operators.Mul operators.Mul e = refl
are_same operators.Div operators.Div e = refl
are_same operators.Mod operators.Mod e = refl
are_same operators.Gt operators.Gt e = refl
are_same operators.Ge operators.Ge e = refl
are_same operators.Eq operators.Eq e = refl
are_same operators.Ne operators.Ne e = refl
are_same operators.Le operators.Le e = refl
are_same operators.Lt operators.Lt e = refl
are_same operators.Min operators.Min e = refl
are_same operators.Max operators.Max e = refl
are_same a b e = not_true e

is_equal : (a : Operator) → operator_eq.eq-value.it a a ≡ true
is_equal (operators.And a) = (booleans_Decides a a).1 refl
is_equal (operators.Or a) = (booleans_Decides a a).1 refl
is_equal (operators.Xor a) = (booleans_Decides a a).1 refl
is_equal operators.Add = refl
is_equal operators.Sub = refl
is_equal operators.Mul = refl
is_equal operators.Div = refl
is_equal operators.Mod = refl
is_equal operators.Gt = refl
is_equal operators.Ge = refl
is_equal operators.Eq = refl
is_equal operators.Ne = refl
is_equal operators.Le = refl
is_equal operators.Lt = refl
is_equal operators.Min = refl
is_equal operators.Max = refl

pub same_operator : (a b : Operator) → Decides (operator_eq.eq-value.it a b) (a ≡ b)
same_operator a b = (are_same a b, λ e. subst (λ (c : Operator). operator_eq.eq-value.it a c ≡ true) e (is_equal a))
