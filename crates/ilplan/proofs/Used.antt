-- The constants that lines use are among their different constants.
use Rattle.std.proofs.Common.{◌≡◌, List, [], ◌∷◌, ◌++◌, refl, ◌∙◌, Bool, true, false, ◌||◌}
use Rattle.std.specs.Prelude.{Option, Some, None, IfSome, flat_map}
use Rattle.std.specs.List.{list_any, cons_option}
use Rattle.iltypes.specs.declared.value.Value.{Value}
use Rattle.ilsource.specs.declared.instruction.Line.{Line}
use Rattle.ilsource.specs.declared.uses.Use.{Use}
use Rattle.ilsource.specs.Uses.{uses_in}
use Rattle.ilplan.specs.Constants.{same_value, constant_in, constants_used, different_constants, AreAmong}
use Rattle.ilplan.proofs.EachOnce.{is_same, any_each_once}

first_among : (values rest : List Value) (o : Option Value)
    → ((v : Value) → list_any (same_value v) (cons_option o rest) ≡ true → list_any (same_value v) values ≡ true)
    → IfSome o (λ v. list_any (same_value v) values ≡ true)
first_among values rest None h = tt
first_among values rest (Some v) h = let e = is_same v in h v (rw e refl)

or_true : (b : Bool) → (b || true) ≡ true
or_true true = refl
or_true false = refl

later_among : (v : Value) (rest : List Value) (o : Option Value) → list_any (same_value v) rest ≡ true
    → list_any (same_value v) (cons_option o rest) ≡ true
later_among v rest None e = e
later_among v rest (Some w) e = rw e (or_true (same_value v w))

-- the constants of uses are among values where these have all of them
pub among : {N : Type 0} (values : List Value) (uses : List (Use N))
    → ((v : Value) → list_any (same_value v) (constants_used uses) ≡ true → list_any (same_value v) values ≡ true)
    → AreAmong values uses
among values [] h = tt
among values (u ∷ uses) h =
    let o = constant_in u.operand in (
      first_among values (constants_used uses) o h,
      among values uses (λ v e. h v (later_among v (constants_used uses) o e)),
    )

pub uses_among : {N L : Type 0} (lines : List (Line N L))
    → AreAmong (different_constants lines) (flat_map uses_in lines)
uses_among lines =
    let all = constants_used (flat_map uses_in lines) in
    among (different_constants lines) (flat_map uses_in lines) (λ v e. any_each_once v all ∙ e)

-- of uses in two parts each part is
pub among_append : {N : Type 0} (values : List Value) (one other : List (Use N)) → AreAmong values (one ++ other)
    → AreAmong values one × AreAmong values other
among_append values [] other h = (tt, h)
among_append values (u ∷ one) other h =
    let rest = among_append values one other h.1 in
    ((h.0, rest.0), rest.1)
