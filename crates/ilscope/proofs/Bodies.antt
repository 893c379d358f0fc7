-- Faults of what programs and functions use, together.
use Rattle.std.proofs.Common.{◌≡◌, ℕ, List, [], ◌∷◌, map, ◌⊎◌, inl, inr}
use Rattle.ilsource.specs.SourceTrees.{Tree}
use Rattle.ildeclared.specs.Faults.{SomeOf}
use Rattle.ildeclared.specs.declared.fault.NameCause.{NameCause}
use Rattle.ildeclared.specs.declared.fault.NameCause.TheVariants.{WritesInput}
use Rattle.ildeclared.proofs.FoundOrder.{or_else}
use Rattle.ildeclared.proofs.Parts.{some_in_either, some_in_map, some_of_either, some_of_map}
use Rattle.ilscope.specs.Declarations.{DeclaredFunction, DeclaredProgram, as_program, declared_functions}
use Rattle.ilscope.specs.Declarations.{declared_programs}
use Rattle.ilscope.specs.UseFaults.{IsFaultAtUses, IsFaultInFunction, IsFaultOfUses, StoresToOwnInput}
use Rattle.ilscope.specs.Uses.{uses_of}

module _ (tree : Tree) (place : ℕ) (cause : NameCause) where
  abbrev IsUsed : DeclaredProgram → Type 0
  IsUsed p = IsFaultAtUses tree p (uses_of p.program.lines) place cause

  abbrev IsOwn : DeclaredFunction → Type 0
  IsOwn f = SomeOf (StoresToOwnInput tree.text f place) (uses_of f.function.lines)

  -- those of functions, by what they are
  split : (fs : List DeclaredFunction) → SomeOf (λ f. IsFaultInFunction tree f place cause) fs
      → SomeOf (λ f. IsUsed (as_program f)) fs ⊎ ((cause ≡ WritesInput) × SomeOf IsOwn fs)
  split [] s = absurd s
  split (f ∷ fs) (inl (inl u)) = inl (inl u)
  split (f ∷ fs) (inl (inr o)) = inr (o.0, inl o.1)
  split (f ∷ fs) (inr s) = or_else (λ u. inl (inr u)) (λ o. inr (o.0, inr o.1)) (split fs s)

  used_in : (fs : List DeclaredFunction) → SomeOf (λ f. IsUsed (as_program f)) fs
      → SomeOf (λ f. IsFaultInFunction tree f place cause) fs
  used_in [] s = s
  used_in (f ∷ fs) (inl u) = inl (inl u)
  used_in (f ∷ fs) (inr s) = inr (used_in fs s)

  own_in : (fs : List DeclaredFunction) → cause ≡ WritesInput → SomeOf IsOwn fs
      → SomeOf (λ f. IsFaultInFunction tree f place cause) fs
  own_in [] e s = s
  own_in (f ∷ fs) e (inl o) = inl (inr (e, o))
  own_in (f ∷ fs) e (inr s) = inr (own_in fs e s)

  pub to_bodies : SomeOf IsUsed (declared_programs tree)
      ⊎ SomeOf (λ f. IsFaultInFunction tree f place cause) (declared_functions tree) → IsFaultOfUses tree place cause
  to_bodies s =
      let programs = declared_programs tree in
      let functions = declared_functions tree in
      let both = some_in_either IsUsed programs (map as_program functions) in
      or_else (λ p. inl (both (inl p)))
      (λ f. or_else (λ u. inl (both (inr (some_in_map IsUsed as_program functions u)))) (λ o. inr o)
      (split functions f)) s

  pub from_bodies : IsFaultOfUses tree place cause → SomeOf IsUsed (declared_programs tree)
      ⊎ SomeOf (λ f. IsFaultInFunction tree f place cause) (declared_functions tree)
  from_bodies (inl s) =
      let functions = declared_functions tree in
      or_else (λ p. inl p) (λ u. inr (used_in functions (some_of_map IsUsed as_program functions u)))
      (some_of_either IsUsed (declared_programs tree) (map as_program functions) s)
  from_bodies (inr o) = inr (own_in (declared_functions tree) o.0 o.1)
