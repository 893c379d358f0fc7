-- Where no name is declared twice, no two instances of a task have one name.
use Rattle.std.proofs.Common.{◌≡◌, ℕ, List, [], ◌∷◌, ◌++◌, map, Bool, true, false, refl, sym, inl, inr}
use Rattle.std.specs.Prelude.{filter_map, Option, Some, None, option_map, option_and_then, slice_get, if◌then◌else◌}
use Rattle.std.specs.List.{cons_option}
use Rattle.ilsource.specs.Names.{folded}
use Rattle.ilsource.specs.declared.configuration.InstanceDeclaration.{InstanceDeclaration}
use Rattle.ilsource.specs.declared.name.Name.{Name}
use Rattle.ilsource.specs.declared.source.Element.{Element}
use Rattle.ilsource.specs.declared.source.Element.TheVariants.{DerivedType, Function, Program}
use Rattle.ilsource.specs.SourceTrees.{Tree}
use Rattle.ildeclared.specs.Faults.{SomeOf}
use Rattle.ilscope.specs.Configured.{program_number}
use Rattle.ilscope.specs.Declarations.{declared_program, declared_programs, DeclaredProgram, name_of, standing}
use Rattle.ilscope.specs.Faults.{IsTwice, IsTwiceIn}
use Rattle.ilscope.specs.SameNames.{same_name}
use Rattle.ilscope.proofs.SameNames.{alike, same_as}
use Rattle.ilsyms.specs.PlanningSteps.{AreOthers, AreApart}
use Rattle.ilsyms.specs.Tasks.{NamedProgram, instance_named, instances_in, is_in, main_task}
use Rattle.ilsyms.proofs.Lists.{either}

module _ (text : List ℕ) where
  -- a later name is spelled as this one, at the place
  abbrev IsAgain : Name → ℕ → Name → Type 0
  IsAgain n place later = (folded text n ≡ folded text later) × (place ≡ later.from)

  not_same : (n m : Name) → ¬ (folded text n ≡ folded text m) → same_name text n m ≡ false
  not_same n m other = either (same_name text n m) (λ t. absurd (other (alike text n m t))) (λ f. f)

  -- ---- of programs, one instance each

  abbrev of_programs : List Element → List Element → List NamedProgram
  of_programs above es =
      map (λ p. instance_named p.program.name p) (filter_map (declared_program (folded text)) (standing above es))

  others : (n : Name) (es above : List Element)
      → ((place : ℕ) → ¬ SomeOf (IsAgain n place) (map name_of es)) → AreOthers text n (of_programs above es)
  others n [] above h = tt
  others n (DerivedType type ∷ es) above h = others n es (DerivedType type ∷ above) (λ place s. h place (inr s))
  others n (Function function ∷ es) above h = others n es (Function function ∷ above) (λ place s. h place (inr s))
  others n (Program program ∷ es) above h = (
    not_same n program.name (λ e. h program.name.from (inl (e, refl))),
    others n es (Program program ∷ above) (λ place s. h place (inr s)),
  )

  apart : (es above : List Element)
      → ((place : ℕ) → ¬ IsTwiceIn (folded text) (map name_of es) place) → AreApart text (of_programs above es)
  apart [] above h = tt
  apart (DerivedType type ∷ es) above h = apart es (DerivedType type ∷ above) (λ place s. h place (inr s))
  apart (Function function ∷ es) above h = apart es (Function function ∷ above) (λ place s. h place (inr s))
  apart (Program program ∷ es) above h = (
    others program.name es (Program program ∷ above) (λ place s. h place (inl s)),
    apart es (Program program ∷ above) (λ place s. h place (inr s)),
  )

  -- before and after an instance stand instances with other names
  before : (n : Name) (front back : List NamedProgram) (i : NamedProgram) → AreOthers text n (front ++ i ∷ back)
      → same_name text i.name n ≡ false
  before n [] back i o = not_same i.name n (λ e. false_true (same_as text n i.name (sym e)) o.0)
    where
      false_true : {b : Bool} → b ≡ true → b ≡ false → ⊥
      false_true t f = cc
  before n (q ∷ front) back i o = before n front back i o.1

  pub others_around : (front back : List NamedProgram) (i : NamedProgram) → AreApart text (front ++ i ∷ back)
      → AreOthers text i.name front × AreOthers text i.name back
  others_around [] back i a = (tt, a.0)
  others_around (q ∷ front) back i a =
      let rest = others_around front back i a.1 in
      ((before q.name front back i a.0, rest.0), rest.1)

-- ---- of the instances that are declared, those of a task

module _ (tree : Tree) (task : ℕ) where
  others_in : (n : Name) (is : List InstanceDeclaration)
      → ((place : ℕ) → ¬ SomeOf (IsAgain tree.text n place) (map (λ i. i.name) is))
      → AreOthers tree.text n (instances_in tree is task)
  others_in n [] h = tt
  others_in n (i ∷ is) h =
      by (others_in n is (λ place s. h place (inr s))) (is_in tree task i)
      (option_and_then (slice_get (declared_programs tree)) (program_number tree i.program))
    where
      by : AreOthers tree.text n (instances_in tree is task) → (b : Bool) (o : Option DeclaredProgram)
          → AreOthers tree.text n
          (cons_option (if b then option_map (instance_named i.name) o else None) (instances_in tree is task))
      by rest false o = rest
      by rest true None = rest
      by rest true (Some p) = (not_same tree.text n i.name (λ e. h i.name.from (inl (e, refl))), rest)

  apart_in : (is : List InstanceDeclaration)
      → ((place : ℕ) → ¬ IsTwiceIn (folded tree.text) (map (λ i. i.name) is) place)
      → AreApart tree.text (instances_in tree is task)
  apart_in [] h = tt
  apart_in (i ∷ is) h =
      by (apart_in is (λ place s. h place (inr s))) (is_in tree task i)
      (option_and_then (slice_get (declared_programs tree)) (program_number tree i.program))
    where
      by : AreApart tree.text (instances_in tree is task) → (b : Bool) (o : Option DeclaredProgram)
          → AreApart tree.text
          (cons_option (if b then option_map (instance_named i.name) o else None) (instances_in tree is task))
      by rest false o = rest
      by rest true None = rest
      by rest true (Some p) = (others_in i.name is (λ place s. h place (inl s)), rest)

pub declared_apart : (tree : Tree) (is : List InstanceDeclaration) (task : ℕ)
    → ((place : ℕ) → ¬ IsTwiceIn (folded tree.text) (map (λ i. i.name) is) place)
    → AreApart tree.text (instances_in tree is task)
declared_apart tree is task h = apart_in tree task is h

pub programs_apart : (tree : Tree) → ((place : ℕ) → ¬ IsTwice tree place)
    → AreApart tree.text (main_task tree).instances
programs_apart tree h = apart tree.text tree.elements [] (λ place s. h place (inl s))
