-- The constants of a task's lines, and those of the functions that it uses, are in its table.
use Rattle.std.proofs.Common.{◌≡◌, List, [], ◌∷◌, ◌++◌, true, ap, ◌∙◌}
use Rattle.std.specs.Prelude.{flat_map}
use Rattle.std.specs.List.{AllByRecursion, list_any}
use Rattle.std.proofs.lemmas.List.Folds.{list_any-append}
use Rattle.iltypes.specs.declared.value.Value.{Value}
use Rattle.ilsource.specs.Uses.{uses_in}
use Rattle.ilplan.specs.Constants.{AreAmong, constants_in, same_value}
use Rattle.ilplan.specs.Functions.{PlannedFunction, constants_of_function, starting_values}
use Rattle.ilplan.specs.Plans.{PlannedTask, KeepsLimits, all_lines, functions_of}
use Rattle.ilplan.proofs.EachOnce.{any_each_once, is_same}
use Rattle.ilplan.proofs.Used.{among}
use Rattle.ilcompile.proofs.UsedFunctions.{either, first_one}

-- the values are in the table
abbrev pub AreIn : List Value → List Value → Type 0
AreIn constants values = AllByRecursion (λ v. list_any (same_value v) constants ≡ true) values

-- the table has all that the values have
abbrev HasAll : List Value → List Value → Type 0
HasAll constants values =
    (v : Value) → list_any (same_value v) values ≡ true → list_any (same_value v) constants ≡ true

has_front : (constants one other : List Value) → HasAll constants (one ++ other) → HasAll constants one
has_front constants one other h v e =
    h v
    (list_any-append (same_value v) one other
    ∙ first_one (list_any (same_value v) one) (list_any (same_value v) other) e)

has_back : (constants one other : List Value) → HasAll constants (one ++ other) → HasAll constants other
has_back constants one other h v e =
    h v
    (list_any-append (same_value v) one other
    ∙ either (list_any (same_value v) one) (list_any (same_value v) other) e)

each_in : (constants values : List Value) → HasAll constants values → AreIn constants values
each_in constants [] h = tt
each_in constants (v ∷ values) h = (
  h v (first_one (same_value v v) (list_any (same_value v) values) (is_same v)),
  each_in constants values (λ w e. h w (either (same_value w v) (list_any (same_value w) values) e)),
)

-- the constants of a function are: the values with which its variables start, and those of its lines
pub record IsKnown (constants : List Value) (f : PlannedFunction) : Type 0 where
  pub starting : AreIn constants (starting_values f)
  pub lines : AreAmong constants (flat_map uses_in f.lines)

functions_known : (constants : List Value) (fs : List PlannedFunction)
    → HasAll constants (flat_map constants_of_function fs) → AllByRecursion (IsKnown constants) fs
functions_known constants [] h = tt
functions_known constants (f ∷ fs) h =
    let mine = has_front constants (constants_of_function f) (flat_map constants_of_function fs) h in (
      record {
        starting = each_in constants (starting_values f)
            (has_front constants (starting_values f) (constants_in f.lines) mine);
        lines = among constants (flat_map uses_in f.lines)
            (has_back constants (starting_values f) (constants_in f.lines) mine);
      },
      functions_known constants fs (has_back constants (constants_of_function f) (flat_map constants_of_function fs) h),
    )

module _ (functions : List PlannedFunction) (t : PlannedTask) (k : KeepsLimits functions t) where
  has_all : HasAll t.constants (constants_in (all_lines t.instances)
      ++ flat_map constants_of_function (functions_of functions t))
  has_all v e =
      let all = constants_in (all_lines t.instances) ++ flat_map constants_of_function (functions_of functions t) in
      ap (list_any (same_value v)) k.constants ∙ any_each_once v all ∙ e

  pub lines_known : AreAmong t.constants (flat_map uses_in (all_lines t.instances))
  lines_known =
      among t.constants (flat_map uses_in (all_lines t.instances))
      (has_front t.constants (constants_in (all_lines t.instances))
      (flat_map constants_of_function (functions_of functions t)) has_all)

  pub bodies_known : AllByRecursion (IsKnown t.constants) (functions_of functions t)
  bodies_known =
      functions_known t.constants (functions_of functions t)
      (has_back t.constants (constants_in (all_lines t.instances))
      (flat_map constants_of_function (functions_of functions t)) has_all)
