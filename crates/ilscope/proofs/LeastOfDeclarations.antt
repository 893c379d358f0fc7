-- The least fault that a scope gathers is the least of its declarations, and is what it reports.
use Rattle.std.proofs.Common.{◌≡◌, ℕ, List, [], ◌∷◌, refl, sym, subst, ◌⊎◌, inl, inr}
use Rattle.std.specs.Prelude.{Option, Some, None, MatchOption}
use Rattle.ilsource.specs.Configurations.{DeclaredGlobals}
use Rattle.ilsource.specs.Names.{folded}
use Rattle.ilsource.specs.Programs.{DeclaredNames, Written, WrittenFunction}
use Rattle.ilsource.specs.SourceTrees.{Tree, functions_of, programs_of}
use Rattle.ilsource.specs.declared.name.Name.{Name}
use Rattle.ilsource.specs.declared.source.Element.{Element}
use Rattle.ilsource.specs.declared.source.Element.TheVariants.{DerivedType, Function, Program}
use Rattle.ildeclared.specs.DataTypes.{TypeNames}
use Rattle.ildeclared.specs.Declarations.{function_names, names_of}
use Rattle.ildeclared.specs.Faults.{SomeOf, IsBadIn, IsLeast, IsLeastOf, IsNextOf, IsUnknownTypeIn, IsFaultIn}
use Rattle.ildeclared.specs.Globals.{as_variables}
use Rattle.ildeclared.specs.Order.{lesser_of_two}
use Rattle.ildeclared.specs.declared.fault.NameCause.{NameCause}
use Rattle.ildeclared.specs.declared.fault.NameCause.TheVariants.{Unknown, Twice, UnknownLabel, BackwardJump}
use Rattle.ildeclared.specs.declared.fault.NameCause.TheVariants.{BadAddress, InputRangeTooSmall, WrittenTwice}
use Rattle.ildeclared.specs.declared.fault.NameCause.TheVariants.{WritesInput, NoTask, TooMany, BadDeclaration}
use Rattle.ildeclared.specs.declared.fault.NameFault.{NameFault}
use Rattle.ildeclared.specs.declared.fault.NameFault.TheVariants.{Memory, At}
use Rattle.ildeclared.specs.declared.found.Found.{Found}
use Rattle.ildeclared.proofs.FoundOrder.{next_same, or_else}
use Rattle.ildeclared.proofs.Least.{both_next}
use Rattle.ilscope.specs.Configured.{declared_globals_of, types_of_text}
use Rattle.ilscope.specs.Declarations.{Standing, declarations_in, standing, types_at}
use Rattle.ilscope.specs.Faults.{IsFaultOfDeclarations, IsTwiceIn}
use Rattle.ilscope.specs.Reports.{IsReportOf, IsReportOfOption, ReportsLeast}
use Rattle.ilscope.specs.ScopeSteps.{IsFaultInElements, IsFaultInGlobals, IsFaultInTables, IsFaultOfElement}
use Rattle.ilscope.specs.ScopeSteps.{IsFaultOfConfiguration, names_in}
use Rattle.ilscope.specs.Scoped.{Scoped}

pub some_of : {X : Type 0} {P Q : X → Type 0} → ((x : X) → P x → Q x) → (xs : List X) → SomeOf P xs → SomeOf Q xs
some_of h [] s = s
some_of h (x ∷ xs) (inl p) = inl (h x p)
some_of h (x ∷ xs) (inr s) = inr (some_of h xs s)

-- some element has one of two properties, and so some has the first or some the second
some_either : {X : Type 0} (P Q : X → Type 0) (xs : List X) → SomeOf (λ x. P x ⊎ Q x) xs → SomeOf P xs ⊎ SomeOf Q xs
some_either P Q [] s = absurd s
some_either P Q (x ∷ xs) (inl (inl p)) = inl (inl p)
some_either P Q (x ∷ xs) (inl (inr q)) = inr (inl q)
some_either P Q (x ∷ xs) (inr s) = or_else (λ p. inl (inr p)) (λ q. inr (inr q)) (some_either P Q xs s)

some_one : {X : Type 0} {A : Type 0} (P : X → Type 0) (xs : List X) → SomeOf (λ x. A × P x) xs → A × SomeOf P xs
some_one P [] s = absurd s
some_one P (x ∷ xs) (inl p) = (p.0, inl p.1)
some_one P (x ∷ xs) (inr s) = let t = some_one P xs s in (t.0, inr t.1)

module _ (spelled : Name → List ℕ) (place : ℕ) where
  abbrev IsProgramTwice : Written → Type 0
  IsProgramTwice program = IsTwiceIn spelled (names_of program) place

  abbrev IsFunctionTwice : WrittenFunction → Type 0
  IsFunctionTwice function = IsTwiceIn spelled (function_names function) place

  abbrev IsOneTwice : Standing → Type 0
  IsOneTwice one = IsTwiceIn spelled (names_in one.element) place

  to_elements : (above all : List Element) → SomeOf IsOneTwice (standing above all)
      → SomeOf IsProgramTwice (programs_of all) ⊎ SomeOf IsFunctionTwice (functions_of all)
  to_elements above [] s = absurd s
  to_elements above (DerivedType type ∷ more) (inl t) = absurd t
  to_elements above (DerivedType type ∷ more) (inr s) = to_elements (DerivedType type ∷ above) more s
  to_elements above (Function function ∷ more) (inl t) = inr (inl t)
  to_elements above (Function function ∷ more) (inr s) =
      or_else (λ p. inl p) (λ f. inr (inr f)) (to_elements (Function function ∷ above) more s)
  to_elements above (Program program ∷ more) (inl t) = inl (inl t)
  to_elements above (Program program ∷ more) (inr s) =
      or_else (λ p. inl (inr p)) (λ f. inr f) (to_elements (Program program ∷ above) more s)

  from_programs : (above all : List Element) → SomeOf IsProgramTwice (programs_of all)
      → SomeOf IsOneTwice (standing above all)
  from_programs above [] s = s
  from_programs above (DerivedType type ∷ more) s = inr (from_programs (DerivedType type ∷ above) more s)
  from_programs above (Function function ∷ more) s = inr (from_programs (Function function ∷ above) more s)
  from_programs above (Program program ∷ more) (inl t) = inl t
  from_programs above (Program program ∷ more) (inr s) = inr (from_programs (Program program ∷ above) more s)

  from_functions : (above all : List Element) → SomeOf IsFunctionTwice (functions_of all)
      → SomeOf IsOneTwice (standing above all)
  from_functions above [] s = s
  from_functions above (DerivedType type ∷ more) s = inr (from_functions (DerivedType type ∷ above) more s)
  from_functions above (Program program ∷ more) s = inr (from_functions (Program program ∷ above) more s)
  from_functions above (Function function ∷ more) (inl t) = inl t
  from_functions above (Function function ∷ more) (inr s) = inr (from_functions (Function function ∷ above) more s)

-- the faults of one element, by their causes
module _ (spelled : Name → List ℕ) (place : ℕ) where
  abbrev IsTwiceAt : Standing → Type 0
  IsTwiceAt one = IsTwiceIn spelled (names_in one.element) place

  abbrev IsUnknownAt : Standing → Type 0
  IsUnknownAt one =
      SomeOf (λ d. IsUnknownTypeIn (types_at spelled one) place d.declared) (declarations_in one.element)

  abbrev IsBadAt : Standing → Type 0
  IsBadAt one = SomeOf (λ d. IsBadIn (types_at spelled one) place d) (declarations_in one.element)

  said : (cause : NameCause) (one : Standing)
      → SomeOf (λ d. IsFaultIn (types_at spelled one) d place cause) (declarations_in one.element) →
      ((cause ≡ Unknown) × IsUnknownAt one) ⊎ ((cause ≡ BadDeclaration) × IsBadAt one)
  said cause one s =
      let unknown = λ (d : DeclaredNames). IsUnknownTypeIn (types_at spelled one) place d.declared in
      let bad = λ (d : DeclaredNames). IsBadIn (types_at spelled one) place d in
      or_else (λ u. inl (some_one unknown (declarations_in one.element) u))
      (λ b. inr (some_one bad (declarations_in one.element) b))
      (some_either (λ d. (cause ≡ Unknown) × unknown d) (λ d. (cause ≡ BadDeclaration) × bad d)
      (declarations_in one.element) s)

  by_cause : (cause : NameCause) (all : List Standing) → SomeOf (λ one. IsFaultOfElement spelled one place cause) all →
      ((cause ≡ Twice) × SomeOf IsTwiceAt all) ⊎ ((cause ≡ Unknown) × SomeOf IsUnknownAt all) ⊎
      ((cause ≡ BadDeclaration) × SomeOf IsBadAt all)
  by_cause cause [] s = absurd s
  by_cause cause (one ∷ all) (inl (inl t)) = inl (t.0, inl t.1)
  by_cause cause (one ∷ all) (inl (inr s)) =
      or_else (λ u. inr (inl (u.0, inl u.1))) (λ b. inr (inr (b.0, inl b.1))) (said cause one s)
  by_cause cause (one ∷ all) (inr s) =
      or_else (λ t. inl (t.0, inr t.1)) (λ r. inr (or_else (λ u. inl (u.0, inr u.1)) (λ b. inr (b.0, inr b.1)) r))
      (by_cause cause all s)

-- what global variables declare, by cause
module _ (types : TypeNames) (place : ℕ) where
  abbrev IsUnknownGlobal : DeclaredGlobals → Type 0
  IsUnknownGlobal d = IsUnknownTypeIn types place (as_variables d).declared

  abbrev IsBadGlobal : DeclaredGlobals → Type 0
  IsBadGlobal d = IsBadIn types place (as_variables d)

  globals_by_cause : (cause : NameCause) (all : List DeclaredGlobals)
      → SomeOf (λ d. IsFaultIn types (as_variables d) place cause) all →
      ((cause ≡ Unknown) × SomeOf IsUnknownGlobal all) ⊎ ((cause ≡ BadDeclaration) × SomeOf IsBadGlobal all)
  globals_by_cause cause all s =
      or_else (λ u. inl (some_one IsUnknownGlobal all u)) (λ b. inr (some_one IsBadGlobal all b))
      (some_either (λ d. (cause ≡ Unknown) × IsUnknownGlobal d) (λ d. (cause ≡ BadDeclaration) × IsBadGlobal d) all s)

-- the faults of declarations are those that are found while tables are filled, and those of the configuration
module _ (scoped : Scoped) where
  abbrev tree : Tree
  tree = scoped.tree

  abbrev IsFault : ℕ → NameCause → Type 0
  IsFault = IsFaultOfDeclarations scoped.tree scoped.wiring

  -- a fault with this cause is one with a cause that it is equal to
  of_its : (place : ℕ) (cause its : NameCause) → cause ≡ its → IsFault place its → IsFault place cause
  of_its place cause its e f = subst (λ (c : NameCause). IsFault place c) (sym e) f

  elements_are : (place : ℕ) (cause : NameCause) → IsFaultInElements tree place cause → IsFault place cause
  elements_are place cause s =
      or_else
      (λ t. of_its place cause Twice t.0
      (or_else (λ p. inr (inl p)) (λ f. inr (inr (inl f))) (to_elements (folded tree.text) place [] tree.elements t.1)))
      (λ r. or_else
      (λ u. of_its place cause Unknown u.0 (inl (inl u.1)))
      (λ b. of_its place cause BadDeclaration b.0 (inl (inl b.1))) r)
      (by_cause (folded tree.text) place cause (standing [] tree.elements) s)

  tables_are : (place : ℕ) (cause : NameCause) → IsFaultInTables tree place cause → IsFault place cause
  tables_are place cause (inl s) = elements_are place cause s
  tables_are place cause (inr (e, inl t)) = of_its place cause Twice e (inl t)
  tables_are place cause (inr (e, inr (inl t))) = of_its place cause Twice e (inr (inr (inr (inl t))))
  tables_are place cause (inr (e, inr (inr t))) = of_its place cause Twice e (inr (inr (inr (inr (inl t)))))

  globals_are : (place : ℕ) (cause : NameCause) → IsFaultInGlobals tree place cause → IsFault place cause
  globals_are place cause s =
      or_else
      (λ u. of_its place cause Unknown u.0 (inl (inr u.1)))
      (λ b. of_its place cause BadDeclaration b.0 (inl (inr b.1)))
      (globals_by_cause (types_of_text tree) place cause (declared_globals_of tree) s)

  configured_are : (place : ℕ) (cause : NameCause) → IsFaultOfConfiguration scoped place cause → IsFault place cause
  configured_are place cause (inl (inl s)) = globals_are place cause s
  configured_are place cause (inl (inr s)) = of_its place cause Unknown s.0 (inr s.1)
  configured_are place cause (inr (inl (inl s))) = of_its place cause Twice s.0 (inr (inr (inr (inr (inr s.1)))))
  configured_are place cause (inr (inl (inr s))) = of_its place cause BadDeclaration s.0 (inr s.1)
  configured_are place cause (inr (inr (inl (inl s)))) = of_its place cause BadAddress s.0 s.1
  configured_are place cause (inr (inr (inl (inr (inl s))))) = of_its place cause InputRangeTooSmall s.0 s.1
  configured_are place cause (inr (inr (inl (inr (inr s))))) = of_its place cause WritesInput s.0 s.1
  configured_are place cause (inr (inr (inr s))) = of_its place cause NoTask s.0 s.1

  abbrev IsFound : ℕ → NameCause → Type 0
  IsFound place cause = IsFaultInTables tree place cause ⊎ IsFaultOfConfiguration scoped place cause

  are_found : (place : ℕ) (cause : NameCause) → IsFault place cause → IsFound place cause
  are_found place Unknown (inl (inl s)) =
      inl (inl (some_of (λ one t. inr (some_of (λ d u. inl (refl, u)) (declarations_in one.element) t))
      (standing [] tree.elements) s))
  are_found place Unknown (inl (inr s)) =
      inr (inl (inl (some_of (λ d u. inl (refl, u)) (declared_globals_of tree) s)))
  are_found place Unknown (inr s) = inr (inl (inr (refl, s)))
  are_found place Twice (inl t) = inl (inr (refl, inl t))
  are_found place Twice (inr (inl s)) =
      inl (inl (some_of (λ one t. inl (refl, t)) (standing [] tree.elements)
      (from_programs (folded tree.text) place [] tree.elements s)))
  are_found place Twice (inr (inr (inl s))) =
      inl (inl (some_of (λ one t. inl (refl, t)) (standing [] tree.elements)
      (from_functions (folded tree.text) place [] tree.elements s)))
  are_found place Twice (inr (inr (inr (inl t)))) = inl (inr (refl, inr (inl t)))
  are_found place Twice (inr (inr (inr (inr (inl t))))) = inl (inr (refl, inr (inr t)))
  are_found place Twice (inr (inr (inr (inr (inr t))))) = inr (inr (inl (inl (refl, t))))
  are_found place UnknownLabel s = absurd s
  are_found place BackwardJump s = absurd s
  are_found place BadAddress s = inr (inr (inr (inl (inl (refl, s)))))
  are_found place InputRangeTooSmall s = inr (inr (inr (inl (inr (inl (refl, s))))))
  are_found place WrittenTwice s = absurd s
  are_found place WritesInput s = inr (inr (inr (inl (inr (inr (refl, s))))))
  are_found place NoTask s = inr (inr (inr (inr (refl, s))))
  are_found place TooMany s = absurd s
  are_found place BadDeclaration (inl (inl s)) =
      inl (inl (some_of (λ one t. inr (some_of (λ d b. inr (refl, b)) (declarations_in one.element) t))
      (standing [] tree.elements) s))
  are_found place BadDeclaration (inl (inr s)) =
      inr (inl (inl (some_of (λ d b. inr (refl, b)) (declared_globals_of tree) s)))
  are_found place BadDeclaration (inr s) = inr (inr (inl (inr (refl, s))))

  pub all_declared : (after found configured : Option Found) → IsNextOf after (IsFaultInTables tree) found →
      IsNextOf after (IsFaultOfConfiguration scoped) configured
      → IsNextOf after IsFault (lesser_of_two found configured)
  all_declared after found configured h k =
      next_same after IsFound IsFault (lesser_of_two found configured)
      (λ place cause s. or_else (tables_are place cause) (configured_are place cause) s)
      are_found
      (both_next after (IsFaultInTables tree) (IsFaultOfConfiguration scoped) found configured h k)

pub reports_least : (text : List ℕ) (F : ℕ → NameCause → Type 0) (f : Found) (fault : NameFault)
    → IsLeast F f.at f.cause → IsReportOf text f fault →
    ReportsLeast text F fault
reports_least text F f Memory l h = absurd h
reports_least text F f (At line col cause) l h =
    (f.at, subst (λ (k : NameCause). IsLeast F f.at k) (sym h.2) l, h.0, h.1)

pub option_reports : (text : List ℕ) (F : ℕ → NameCause → Type 0) (o : Option Found) (r : Option NameFault)
    → IsLeastOf F o → IsReportOfOption text o r →
    MatchOption r ((place : ℕ) (cause : NameCause) → ¬ F place cause) (λ fault. ReportsLeast text F fault)
option_reports text F None None l h = l
option_reports text F None (Some fault) l h = absurd h
option_reports text F (Some f) None l h = absurd h
option_reports text F (Some f) (Some fault) l h = reports_least text F f fault l h
