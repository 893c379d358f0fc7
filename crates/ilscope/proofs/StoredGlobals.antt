-- The numbers that are kept are those of the global variables that uses store to, with each use more.
use Rattle.std.proofs.Common.{◌≡◌, ℕ, ◌+◌, ◌<◌, List, [], ◌∷◌, ◌++◌, length, take, get_or, sym, subst, ◌⊎◌, inl, inr}
use Rattle.std.proofs.Common.{arith}
use Rattle.std.proofs.lemmas.List.{get_or_default}
use Rattle.std.proofs.lemmas.List.Elements.{All-append}
use Rattle.std.specs.Prelude.{◌↔◌, All, Option, Some, None, IsSomeAnd}
use Rattle.ilsource.specs.declared.uses.Use.{Use}
use Rattle.ilsource.specs.SourceTrees.{Tree}
use Rattle.ilsource.specs.declared.name.Name.{Name}
use Rattle.ilsource.specs.declared.symbol.Symbol.{Symbol}
use Rattle.ildeclared.specs.Faults.{SomeOf}
use Rattle.ildeclared.proofs.FoundOrder.{or_else}
use Rattle.ildeclared.proofs.Least.{some_append, some_front, some_last, take_more}
use Rattle.ilscope.specs.Configured.{global_number, globals_of}
use Rattle.ilscope.specs.Declarations.{DeclaredProgram}
use Rattle.ilscope.proofs.Declared.{first_below}
use Rattle.ilscope.specs.UseFaults.{IsExternal, StoresTo, stored_name}

-- the numbers are those that some element has
abbrev pub AreThose : {X : Type 0} → (ℕ → X → Type 0) → List ℕ → List X → Type 0
AreThose P numbers xs = (number : ℕ) → SomeOf (λ (its : ℕ). its ≡ number) numbers ↔ SomeOf (P number) xs

module _ {X : Type 0} (P : ℕ → X → Type 0) (xs : List X) (i : ℕ) (d : X) (below : i < length xs) (numbers : List ℕ)
    (those : AreThose P numbers (take i xs)) where
  -- with one element more, and its number where it has one
  pub those_more : (o : Option ℕ) (more : List ℕ)
      → ((number : ℕ) → SomeOf (λ (its : ℕ). its ≡ number) more
      ↔ (SomeOf (λ (its : ℕ). its ≡ number) numbers ⊎ (o ≡ Some number)))
      → ((number : ℕ) → (o ≡ Some number) ↔ P number (get_or xs i d)) → AreThose P more (take (i + 1) xs)
  those_more o more are its number =
      let whole = take_more xs i (get_or xs i d) below (get_or_default xs i d (get_or xs i d) below) in (
        (λ s. subst (λ (ys : List X). SomeOf (P number) ys) (sym whole)
            (or_else (λ t. some_front (P number) (take i xs) (get_or xs i d) ((those number).0 t))
            (λ e. some_last (P number) (take i xs) (get_or xs i d) ((its number).0 e)) ((are number).0 s))),
        (λ s. (are number).1 (or_else (λ t. inl ((those number).1 t)) (λ p. inr ((its number).1 p))
            (some_append (P number) (take i xs) (get_or xs i d)
            (subst (λ (ys : List X). SomeOf (P number) ys) whole s)))),
      )

  pub one_more : (g : ℕ) → ((number : ℕ) → (Some g ≡ Some number) ↔ P number (get_or xs i d))
      → AreThose P (numbers ++ g ∷ []) (take (i + 1) xs)
  one_more g its =
      those_more (Some g) (numbers ++ g ∷ [])
      (λ number. (
        (λ s. or_else inl (λ e. inr (let same : g ≡ number = e in cc))
            (some_append (λ (n : ℕ). n ≡ number) numbers g s)),
        (λ s. or_else (λ t. some_front (λ (n : ℕ). n ≡ number) numbers g t)
            (λ e. some_last (λ (n : ℕ). n ≡ number) numbers g (let same : Some g ≡ Some number = e in cc)) s),
      ))
      its

  pub none_more : ((number : ℕ) → (◌≡◌ {A = Option ℕ} None (Some number)) ↔ P number (get_or xs i d))
      → AreThose P numbers (take (i + 1) xs)
  none_more its =
      those_more None numbers
      (λ number. (
        inl,
        (λ s. or_else (λ t. t) (λ e. let no_number : ◌≡◌ {A = Option ℕ} None (Some number) = e in absurd cc) s),
      ))
      its

-- a global variable that is stored to is there
pub stored_there : (tree : Tree) (p : DeclaredProgram) (u : Use Symbol) (global : ℕ) → StoresTo tree global p u
    → global < length (globals_of tree)
stored_there tree p u global s = by (stored_name u.purpose u.operand) s
  where
    by : (o : Option Name)
        → IsSomeAnd o (λ n. IsExternal tree.text p n × (global_number tree n ≡ Some global))
        → global < length (globals_of tree)
    by None t = absurd t
    by (Some n) t = first_below _ (globals_of tree) global t.1

pub all_more : (numbers : List ℕ) (n bound : ℕ) → All (λ i. i < bound) numbers → n < bound
    → All (λ i. i < bound) (numbers ++ n ∷ [])
all_more numbers n bound all below = All-append (λ i. i < bound) numbers (n ∷ []) all (one n bound below)
  where
    one : (n bound : ℕ) → n < bound → All (λ i. i < bound) (n ∷ [])
    one n bound below = grind arith
