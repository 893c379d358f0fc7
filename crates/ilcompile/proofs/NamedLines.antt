-- Lines whose constants are in a task's table, and which name what is there, fit: the table of a task has the constants
-- of its lines, and those of the functions that it uses.
use Rattle.std.proofs.Common.{◌≡◌, ℕ, zero, suc, ◌+◌, List, [], ◌∷◌, ◌++◌, map, Bool, true, false, cond, ◌||◌}
use Rattle.std.proofs.Common.{Option, Some, None, refl, sym, ap, ◌∙◌, subst, arith, append_assoc}
use Rattle.std.specs.Prelude.{slice_get, not, flat_map, ◌==◌}
use Rattle.std.specs.List.{AllByRecursion, list_any, cons_option}
use Rattle.std.proofs.lemmas.Bool.Decides.{nat_tests}
use Rattle.iltypes.specs.declared.value.Value.{Value}
use Rattle.ilsource.specs.declared.instruction.Line.{Line}
use Rattle.ilsource.specs.declared.operand.Operand.{Operand}
use Rattle.ilsource.specs.declared.operand.Operand.TheVariants.{Name, Constant}
use Rattle.ilsource.specs.declared.uses.Purpose.{Purpose}
use Rattle.ilsource.specs.declared.uses.Purpose.TheVariants.{Read, Write, Call, Pass, Invoke}
use Rattle.ilsource.specs.declared.uses.Use.{Use}
use Rattle.ilsource.specs.Uses.{uses_in}
use Rattle.ilsource.specs.Words.{AreShallow}
use Rattle.ilplan.specs.declared.place.Place.{Place}
use Rattle.ilplan.specs.declared.place.Place.TheVariants as places
use Rattle.ilplan.specs.Constants.{same_value, constant_in, constants_used, constants_in, each_once}
use Rattle.ilplan.specs.Functions.{PlannedFunction, calls, function_in, functions_in, invokes, those_in}
use Rattle.ilplan.specs.Plans.{Nameable, AreLinesOf, GivesAll, HasOperand, HasUse}
use Rattle.ilplan.proofs.EachOnce.{any_each_once, is_same, same_is}
use Rattle.ilcompile.specs.Layout.{constant_number}
use Rattle.ilcompile.proofs.Stands.{Each}
use Rattle.ilcompile.proofs.Named.{AreNamed, IsFit, IsNamedAs, named_each}
use Rattle.ilcompile.proofs.UsedFunctions.{either, first_one}

module _ {X : Type 0} (K : X → Type 0) where
  pub each_front : (a b : List X) → Each K (a ++ b) → Each K a
  each_front [] b h = tt
  each_front (x ∷ a) b h = (h.0, each_front a b h.1)

  pub each_back : (a b : List X) → Each K (a ++ b) → Each K b
  each_back [] b h = h
  each_back (x ∷ a) b h = each_back a b h.1

  pub each_part : {Y : Type 0} (f : Y → List X) (ys : List Y) → Each K (flat_map f ys) → Each (Each K) (map f ys)
  each_part f [] h = tt
  each_part f (y ∷ ys) h =
      (each_front (f y) (flat_map f ys) h, each_part f ys (each_back (f y) (flat_map f ys) h))

  -- of one of the functions that are there
  pub each_of : (f : PlannedFunction → List X) (gs : List (Option PlannedFunction)) (k : ℕ) (g : PlannedFunction)
      → slice_get gs k ≡ Some (Some g) → Each K (flat_map f (those_in gs)) → Each K (f g)
  each_of f [] k g e h = absurd cc
  each_of f (None ∷ gs) zero g e h = absurd cc
  each_of f (Some x ∷ gs) zero g e h =
      let q : x ≡ g = cc in subst (λ y. Each K (f y)) q (each_front (f x) (flat_map f (those_in gs)) h)
  each_of f (None ∷ gs) (suc k) g e h = each_of f gs k g e h
  each_of f (Some x ∷ gs) (suc k) g e h =
      each_of f gs k g e (each_back (f x) (flat_map f (those_in gs)) h)

-- ---- the table

-- a constant stands at its number
abbrev pub IsInTable : List Value → Value → Type 0
IsInTable constants v = slice_get constants (constant_number constants v) ≡ Some v

stands : (v : Value) (constants : List Value) → list_any (same_value v) constants ≡ true → IsInTable constants v
stands v [] e = absurd cc
stands v (c ∷ constants) e = go (same_value v c) (λ t. same_is v c t) e (stands v constants)
  where
    go : (b : Bool) → (b ≡ true → v ≡ c) → (b || list_any (same_value v) constants) ≡ true
        → (list_any (same_value v) constants ≡ true → slice_get constants (constant_number constants v) ≡ Some v)
        → slice_get (c ∷ constants) (cond (not b) (1 + constant_number constants v) 0) ≡ Some v
    go true same f more = ap (λ x. Some x) (sym (same refl))
    go false same f more =
        let n : suc (constant_number constants v) ≡ 1 + constant_number constants v = omega arith in
        subst (λ k. slice_get (c ∷ constants) k ≡ Some v) n (more f)

any_there : (front back : List Value) (v : Value) → list_any (same_value v) (front ++ v ∷ back) ≡ true
any_there [] back v = first_one (same_value v v) (list_any (same_value v) back) (is_same v)
any_there (x ∷ front) back v =
    either (same_value v x) (list_any (same_value v) (front ++ v ∷ back)) (any_there front back v)

-- what is among values is in the table that has each of them once
in_table_behind : (front xs : List Value) → Each (IsInTable (each_once (front ++ xs))) xs
in_table_behind front [] = tt
in_table_behind front (v ∷ xs) = (
  stands v (each_once (front ++ v ∷ xs)) (any_each_once v (front ++ v ∷ xs) ∙ any_there front xs v),
  subst (λ ys. Each (IsInTable (each_once ys)) xs) (append_assoc front (v ∷ []) xs)
      (in_table_behind (front ++ v ∷ []) xs),
)

pub in_table : (xs : List Value) → Each (IsInTable (each_once xs)) xs
in_table xs = in_table_behind [] xs

-- ---- lines

any_first : (o : Option ℕ) (others : List ℕ) (j : ℕ) → o ≡ Some j → list_any (λ n. n == j) (cons_option o others) ≡ true
any_first None others j e = absurd cc
any_first (Some x) others j e =
    let q : x ≡ j = cc in
    let t : (x == j) ≡ true = grind (arith, nat_tests) in first_one (x == j) (list_any (λ n. n == j) others) t

any_later : (o : Option ℕ) (others : List ℕ) (j : ℕ) → list_any (λ n. n == j) others ≡ true
    → list_any (λ n. n == j) (cons_option o others) ≡ true
any_later None others j e = e
any_later (Some x) others j e = either (x == j) (list_any (λ n. n == j) others) e

module _ (constants : List Value) (names : Nameable) (May : ℕ → Type 0) where
  one_named : (purpose : Purpose) (o : Operand Place) (rest : List Value)
      → Each (IsInTable constants) (cons_option (constant_in o) rest) → HasOperand names purpose o
      → ((j : ℕ) → function_in purpose o ≡ Some j → May j) → IsNamedAs constants names May purpose o
  one_named Read (Name place) rest h has may = has
  one_named Read (Constant value) rest h has may = h.0
  one_named Write (Name place) rest h has may = has
  one_named Write (Constant value) rest h has may = tt
  one_named Call o rest h has may = has
  one_named Pass o rest h has may = has
  one_named Invoke (Name (places.Slot slot)) rest h has may = absurd has
  one_named Invoke (Name (places.Port block port)) rest h has may = absurd has
  one_named Invoke (Name (places.Block block)) rest h has may = absurd has
  one_named Invoke (Name (places.Function number)) rest h has may = may number refl
  one_named Invoke (Constant value) rest h has may = absurd has

  others_there : (o : Option Value) (rest : List Value) → Each (IsInTable constants) (cons_option o rest)
      → Each (IsInTable constants) rest
  others_there None rest h = h
  others_there (Some v) rest h = h.1

  uses_named : (uses : List (Use Place)) → Each (IsInTable constants) (constants_used uses)
      → AllByRecursion (HasUse names) uses → ((j : ℕ) → invokes uses j ≡ true → May j)
      → AreNamed constants names May uses
  uses_named [] h has may = tt
  uses_named (u ∷ uses) h has may =
      let f = function_in u.purpose u.operand in
      let o = constant_in u.operand in (
        one_named u.purpose u.operand (constants_used uses) h has.0
            (λ j e. may j (any_first f (functions_in uses) j e)),
        uses_named uses (others_there o (constants_used uses) h) has.1
            (λ j e. may j (any_later f (functions_in uses) j e)),
      )

  each_fit : (lines : List (Line Place ℕ)) → AreShallow lines
      → AllByRecursion (λ line. GivesAll names line.instruction) lines
      → Each (λ line. AreNamed constants names May (uses_in line)) lines → Each (IsFit constants names May) lines
  each_fit [] shallow given named = tt
  each_fit (line ∷ lines) shallow given named =
      ((shallow.0, given.0, named.0), each_fit lines shallow.1 given.1 named.1)

  -- lines with their constants in the table, of which the functions may be called
  pub lines_fit : (lines : List (Line Place ℕ)) → AreLinesOf names lines
      → Each (IsInTable constants) (constants_in lines) → ((j : ℕ) → calls lines j ≡ true → May j)
      → Each (IsFit constants names May) lines
  lines_fit lines are h may =
      each_fit lines are.shallow are.given
      (named_each constants names May uses_in lines (uses_named (flat_map uses_in lines) h are.named may))
