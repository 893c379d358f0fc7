-- What is found of a name says which external a use stores to.
use Rattle.std.proofs.Common.{◌≡◌, ℕ, List, [], ◌∷◌, Bool, true, false, refl, sym, ap, ◌∙◌, subst, inl, inr}
use Rattle.std.specs.Prelude.{◌↔◌, Option, Some, None, IsSomeAnd, bytes_eq, option_and_then}
use Rattle.std.specs.Prelude.{option_map, suc}
use Rattle.ilsource.specs.declared.uses.Use.{Use}
use Rattle.ilsource.specs.Names.{SameName, folded}
use Rattle.ilsource.specs.SourceTrees.{Tree}
use Rattle.ilsource.specs.declared.name.Name.{Name}
use Rattle.ilsource.specs.declared.symbol.Symbol.{Symbol}
use Rattle.ildeclared.specs.Faults.{IsNextOf, OfCause, SomeOf}
use Rattle.ildeclared.specs.declared.external.DeclaredExternal.{DeclaredExternal}
use Rattle.ildeclared.specs.declared.fault.NameCause.TheVariants.{WritesInput}
use Rattle.ildeclared.specs.declared.found.Found.{Found}
use Rattle.ilscope.specs.Configured.{global_number}
use Rattle.ilscope.specs.Declarations.{DeclaredProgram}
use Rattle.ilscope.specs.Tables.{external_number}
use Rattle.ilscope.specs.UseFaults.{IsExternal, IsNamedInput, StoresExternal, StoresTo, StoresToInput, stored_name}
use Rattle.ilscope.proofs.SameNames.{alike}

module _ (text : List ℕ) (name : Name) where
  -- an external whose number was found is there
  pub external_there : (es : List DeclaredExternal) (k : ℕ) → external_number (folded text) es name ≡ Some k
      → SomeOf (λ e. SameName text name e.name) es
  external_there [] k f = absurd cc
  external_there (e ∷ es) k f =
      by (λ n is. external_there es n is) (bytes_eq (folded text name) (folded text e.name)) refl
    where
      later : ((n : ℕ) → external_number (folded text) es name ≡ Some n → SomeOf (λ x. SameName text name x.name) es)
          → (o : Option ℕ) → external_number (folded text) es name ≡ o → option_map suc o ≡ Some k
          → SomeOf (λ x. SameName text name x.name) es
      later rest None is g = absurd cc
      later rest (Some n) is g = rest n is

      by : ((n : ℕ) → external_number (folded text) es name ≡ Some n → SomeOf (λ x. SameName text name x.name) es)
          → (b : Bool) → bytes_eq (folded text name) (folded text e.name) ≡ b
          → SomeOf (λ x. SameName text name x.name) (e ∷ es)
      by rest true is = inl (alike text name e.name is)
      by rest false is = inr (later rest (external_number (folded text) es name) refl (rw is at f))

module _ (text : List ℕ) (p : DeclaredProgram) (u : Use Symbol) where
  pub no_name : stored_name u.purpose u.operand ≡ None → (name : Name)
      → (◌≡◌ {A = Option Name} None (Some name)) ↔ StoresExternal text p u name
  no_name e name = ((λ h. absurd cc), (λ s. absurd (let is = s.0 in cc)))

  pub no_external : (its : Name) → stored_name u.purpose u.operand ≡ Some its → ¬ IsExternal text p its → (name : Name)
      → (◌≡◌ {A = Option Name} None (Some name)) ↔ StoresExternal text p u name
  no_external its e other name = (
    (λ h. absurd cc),
    (λ s. let is = s.0 in let same : name ≡ its = cc in
        absurd (other (subst (λ (n : Name). IsExternal text p n) same s.1))),
  )

  pub the_external : (its : Name) → stored_name u.purpose u.operand ≡ Some its → IsExternal text p its → (name : Name)
      → (Some its ≡ Some name) ↔ StoresExternal text p u name
  the_external its e is name = (
    (λ h. let same : its ≡ name = cc in (cc, subst (λ (n : Name). IsExternal text p n) same is)),
    (λ s. let is = s.0 in cc),
  )

module _ (tree : Tree) (p : DeclaredProgram) (u : Use Symbol) (o : Option Name)
    (is : (name : Name) → (o ≡ Some name) ↔ StoresExternal tree.text p u name) where
  -- the global variable that is stored to
  stored_to : (global : ℕ) (name : Option Name) → stored_name u.purpose u.operand ≡ name
      → IsSomeAnd name (λ n. IsExternal tree.text p n × (global_number tree n ≡ Some global))
      → option_and_then (global_number tree) o ≡ Some global
  stored_to global None e s = absurd s
  stored_to global (Some n) e s =
      ap (λ (m : Option Name). option_and_then (global_number tree) m) ((is n).1 (e, s.0)) ∙ s.1

  pub global_stored : (global : ℕ) → (option_and_then (global_number tree) o ≡ Some global) ↔ StoresTo tree global p u
  global_stored global = (into o refl, stored_to global (stored_name u.purpose u.operand) refl)
    where
      into : (m : Option Name) → o ≡ m → option_and_then (global_number tree) m ≡ Some global → StoresTo tree global p u
      into None e g = absurd cc
      into (Some n) e g =
          let s = (is n).0 e in
          subst (λ (m : Option Name).
          IsSomeAnd m (λ n. IsExternal tree.text p n × (global_number tree n ≡ Some global)))
          (sym s.0) (s.1, g)

  -- and whether it is an input
  no_fault : ((name : Name) → o ≡ Some name → ¬ IsNamedInput tree name)
      → (place : ℕ) → ¬ StoresToInput tree p place u
  no_fault none place = by (stored_name u.purpose u.operand) refl
    where
      by : (m : Option Name) → stored_name u.purpose u.operand ≡ m
          → IsSomeAnd m (λ n. IsExternal tree.text p n × IsNamedInput tree n × (place ≡ n.from)) → ⊥
      by None e s = s
      by (Some n) e s = none n ((is n).1 (e, s.0)) s.1

  pub no_input : (after : Option Found) → ((name : Name) → o ≡ Some name → ¬ IsNamedInput tree name)
      → IsNextOf after (OfCause WritesInput (λ place. StoresToInput tree p place u)) None
  no_input after none place cause f = no_fault none place f.0.1

  pub input_stored : (name : Name) → o ≡ Some name → (place : ℕ)
      → (IsNamedInput tree name × (place ≡ name.from)) ↔ StoresToInput tree p place u
  input_stored name e place = (
    (λ f. subst (λ (m : Option Name).
        IsSomeAnd m (λ n. IsExternal tree.text p n × IsNamedInput tree n × (place ≡ n.from)))
        (sym s.0) (s.1, f.0, f.1)),
    by (stored_name u.purpose u.operand) refl,
  )
    where
      s : StoresExternal tree.text p u name
      s = (is name).0 e

      by : (m : Option Name) → stored_name u.purpose u.operand ≡ m
          → IsSomeAnd m (λ n. IsExternal tree.text p n × IsNamedInput tree n × (place ≡ n.from))
          → IsNamedInput tree name × (place ≡ name.from)
      by None g t = absurd t
      by (Some n) g t =
          let other = s.0 in
          let same : n ≡ name = cc in
          (subst (λ (m : Name). IsNamedInput tree m) same t.1, t.2 ∙ ap (λ (m : Name). m.from) same)
