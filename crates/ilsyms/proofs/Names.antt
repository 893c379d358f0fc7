-- Where no program declares a name twice, the variables and the block instances of one program have names of their own,
-- and no name is that of a variable and of an external.
use Rattle.std.proofs.Common.{◌≡◌, ℕ, List, [], ◌∷◌, ◌++◌, map, refl, sym, ap, ◌∙◌, subst, inl, inr, ◌⊎◌}
use Rattle.std.proofs.Common.{append_assoc}
use Rattle.std.specs.Prelude.{filter_map, flat_map}
use Rattle.std.specs.List.{AllByRecursion}
use Rattle.ilsource.specs.Names.{SameName, folded}
use Rattle.ilsource.specs.Programs.{DeclaredNames}
use Rattle.ilsource.specs.SourceTrees.{functions_of, programs_of, types_of}
use Rattle.ilsource.specs.declared.declaration.Declared.{Declared}
use Rattle.ilsource.specs.declared.declaration.Declared.TheVariants.{Variables, Blocks, External}
use Rattle.ilsource.specs.declared.name.Name.{Name}
use Rattle.ilsource.specs.declared.source.Element.{Element}
use Rattle.ilsource.specs.declared.source.Element.TheVariants.{DerivedType, Function, Program}
use Rattle.ildeclared.specs.DataTypes.{TypeNames, types_below}
use Rattle.ildeclared.specs.Declarations.{block, blocks_among, blocks_in, external, externals_among, externals_in}
use Rattle.ildeclared.specs.Declarations.{function_names, names_of, result_variable, type_of, values_of, variable}
use Rattle.ildeclared.specs.Declarations.{variables_among, variables_in}
use Rattle.ildeclared.specs.Faults.{SomeLater, SomeOf}
use Rattle.ildeclared.specs.declared.block.DeclaredBlock.{DeclaredBlock}
use Rattle.ildeclared.specs.declared.external.DeclaredExternal.{DeclaredExternal}
use Rattle.ildeclared.specs.declared.variable.DeclaredVariable.{DeclaredVariable}
use Rattle.ildeclared.proofs.FoundOrder.{or_else}
use Rattle.ilscope.specs.Declarations.{as_program, declared_function, declared_program, DeclaredProgram, standing}
use Rattle.ilscope.specs.Faults.{IsTwiceIn}
use Rattle.ilscope.proofs.Lists.{at_some, some_at}
use Rattle.ilsyms.specs.Placed.{HasExternal}
use Rattle.ilsyms.proofs.PlacedLists.{some_as, some_left, some_made, some_parts, some_right}
use Rattle.ilsyms.proofs.Pairs.{later_cross, later_left, later_made, later_parts, later_right}

abbrev names_in : List DeclaredNames → List Name
names_in ds = flat_map (λ d. d.names) ds

-- ---- what is declared of one kind, by the names that are declared

module _ {X : Type 0} (name_of : X → Name) where
  -- all names of a declaration are of the kind, or none is
  pub record AreMade (names : List Name) (xs : List X) : Type 0 where
    pub made : Name → X
    pub named : (n : Name) → name_of (made n) ≡ n
    pub are : xs ≡ map made names

  abbrev AreAllOrNone : List Name → List X → Type 0
  AreAllOrNone names xs = AreMade names xs ⊎ (xs ≡ [])

  some_in : (P : Name → Type 0) (names : List Name) (xs : List X) → AreAllOrNone names xs
      → SomeOf (λ x. P (name_of x)) xs → SomeOf P names
  some_in P names xs (inl m) s =
      some_as (λ n. P (name_of (m.made n))) P (λ n p. subst P (m.named n) p) names
      (some_made m.made (λ x. P (name_of x)) names (subst (λ ys. SomeOf (λ x. P (name_of x)) ys) m.are s))
  some_in P names xs (inr none) s = absurd (subst (λ ys. SomeOf (λ x. P (name_of x)) ys) none s)

  module _ (parts : DeclaredNames → List X) (all : (d : DeclaredNames) → AreAllOrNone d.names (parts d)) where
    some_declared : (P : Name → Type 0) (ds : List DeclaredNames) → SomeOf (λ x. P (name_of x)) (flat_map parts ds)
        → SomeOf P (names_in ds)
    some_declared P [] s = absurd s
    some_declared P (d ∷ ds) s =
        or_else
        (λ l. some_left P d.names (names_in ds) (some_in P d.names (parts d) (all d) l))
        (λ r. some_right P d.names (names_in ds) (some_declared P ds r))
        (some_parts (λ x. P (name_of x)) (parts d) (flat_map parts ds) s)

    module _ (text : List ℕ) where
      abbrev AreSame : X → X → Type 0
      AreSame x y = SameName text (name_of x) (name_of y)

      later_in : (names : List Name) (xs : List X) → AreAllOrNone names xs → SomeLater AreSame xs
          → SomeLater (SameName text) names
      later_in names xs (inl m) s = by names (later_made m.made AreSame names (subst (SomeLater AreSame) m.are s))
        where
          by : (ns : List Name) → SomeLater (λ a b. AreSame (m.made a) (m.made b)) ns → SomeLater (SameName text) ns
          by [] s = absurd s
          by (n ∷ ns) (inl s) =
              inl (some_as (λ b. AreSame (m.made n) (m.made b)) (SameName text n)
              (λ b p. sym (ap (folded text) (m.named n)) ∙ p ∙ ap (folded text) (m.named b)) ns s)
          by (n ∷ ns) (inr s) = inr (by ns s)
      later_in names xs (inr none) s = absurd (subst (SomeLater AreSame) none s)

      later_declared : (ds : List DeclaredNames) → SomeLater AreSame (flat_map parts ds)
          → SomeLater (SameName text) (names_in ds)
      later_declared [] s = absurd s
      later_declared (d ∷ ds) s =
          or_else
          (λ l. later_left (SameName text) d.names (names_in ds) (later_in d.names (parts d) (all d) l))
          (λ r. or_else
          (λ m. later_right (SameName text) d.names (names_in ds) (later_declared ds m))
          (λ c. later_cross (SameName text) d.names (names_in ds)
          (some_in (λ n. SomeOf (SameName text n) (names_in ds)) d.names (parts d) (all d)
          (some_as (λ x. SomeOf (AreSame x) (flat_map parts ds))
          (λ x. SomeOf (SameName text (name_of x)) (names_in ds))
          (λ x q. some_declared (SameName text (name_of x)) ds q) (parts d) c)))
          r)
          (later_parts AreSame (parts d) (flat_map parts ds) s)

-- what is declared of two kinds, of which no declaration has both
module _ {X Y : Type 0} (x_name : X → Name) (y_name : Y → Name) (xs_of : DeclaredNames → List X)
    (ys_of : DeclaredNames → List Y) (all_xs : (d : DeclaredNames) → AreAllOrNone x_name d.names (xs_of d))
    (all_ys : (d : DeclaredNames) → AreAllOrNone y_name d.names (ys_of d))
    (either_none : (d : DeclaredNames) → (xs_of d ≡ []) ⊎ (ys_of d ≡ [])) (text : List ℕ) (name : Name) where
  abbrev HasX : List X → Type 0
  HasX xs = SomeOf (λ x. SameName text name (x_name x)) xs

  abbrev HasY : List Y → Type 0
  HasY ys = SomeOf (λ y. SameName text name (y_name y)) ys

  -- a name that stands in both of two lists
  cross : (ns ms : List Name) → SomeOf (SameName text name) ns → SomeOf (SameName text name) ms
      → SomeLater (SameName text) (ns ++ ms)
  cross ns ms s r =
      later_cross (SameName text) ns ms
      (some_as (SameName text name) (λ n. SomeOf (SameName text n) ms)
      (λ n e. some_as (SameName text name) (SameName text n) (λ m f. sym e ∙ f) ms r) ns s)

  both_declared : (ds : List DeclaredNames) → HasX (flat_map xs_of ds) → HasY (flat_map ys_of ds)
      → SomeLater (SameName text) (names_in ds)
  both_declared [] x y = absurd x
  both_declared (d ∷ ds) x y =
      by (both_declared ds) (either_none d)
      (some_parts (λ z. SameName text name (x_name z)) (xs_of d) (flat_map xs_of ds) x)
      (some_parts (λ z. SameName text name (y_name z)) (ys_of d) (flat_map ys_of ds) y)
    where
      by : (HasX (flat_map xs_of ds) → HasY (flat_map ys_of ds) → SomeLater (SameName text) (names_in ds))
          → (xs_of d ≡ []) ⊎ (ys_of d ≡ []) → HasX (xs_of d) ⊎ HasX (flat_map xs_of ds)
          → HasY (ys_of d) ⊎ HasY (flat_map ys_of ds) → SomeLater (SameName text) (d.names ++ names_in ds)
      by rest (inl none) (inl x) (inl y) = absurd (subst HasX none x)
      by rest (inr none) (inl x) (inl y) = absurd (subst HasY none y)
      by rest none (inl x) (inr y) =
          cross d.names (names_in ds) (some_in x_name (SameName text name) d.names (xs_of d) (all_xs d) x)
          (some_declared y_name ys_of all_ys (SameName text name) ds y)
      by rest none (inr x) (inl y) =
          cross d.names (names_in ds) (some_in y_name (SameName text name) d.names (ys_of d) (all_ys d) y)
          (some_declared x_name xs_of all_xs (SameName text name) ds x)
      by rest none (inr x) (inr y) = later_right (SameName text) d.names (names_in ds) (rest x y)

-- ---- variables, block instances and externals

abbrev variable_name : DeclaredVariable → Name
variable_name v = v.name

abbrev block_name : DeclaredBlock → Name
block_name b = b.name

abbrev external_name : DeclaredExternal → Name
external_name e = e.name

module _ (types : TypeNames) where
  variables_made : (d : DeclaredNames) → AreAllOrNone variable_name d.names (variables_in types d)
  variables_made d = by d.names d.declared
    where
      by : (names : List Name) (declared : Declared)
          → AreAllOrNone variable_name names (variables_among types names declared)
      by names (Variables specification initial) =
          inl (record { made = variable (type_of types specification initial); named = λ n. refl; are = refl })
      by names (Blocks kind) = inr refl
      by names (External specification) = inr refl

  externals_made : (d : DeclaredNames) → AreAllOrNone external_name d.names (externals_in types d)
  externals_made d = by d.names d.declared
    where
      by : (names : List Name) (declared : Declared)
          → AreAllOrNone external_name names (externals_among types names declared)
      by names (Variables specification initial) = inr refl
      by names (Blocks kind) = inr refl
      by names (External specification) =
          inl (record { made = external (values_of types specification); named = λ n. refl; are = refl })

  either_none : (d : DeclaredNames) → (variables_in types d ≡ []) ⊎ (externals_in types d ≡ [])
  either_none d = by d.names d.declared
    where
      by : (names : List Name) (declared : Declared)
          → (variables_among types names declared ≡ []) ⊎ (externals_among types names declared ≡ [])
      by names (Variables specification initial) = inr refl
      by names (Blocks kind) = inl refl
      by names (External specification) = inl refl

blocks_made : (d : DeclaredNames) → AreAllOrNone block_name d.names (blocks_in d)
blocks_made d = by d.names d.declared
  where
    by : (names : List Name) (declared : Declared) → AreAllOrNone block_name names (blocks_among names declared)
    by names (Variables specification initial) = inr refl
    by names (Blocks kind) = inl (record { made = block kind; named = λ n. refl; are = refl })
    by names (External specification) = inr refl

-- ---- all programs of a text

-- the program declares a variable of this name
abbrev pub HasVariable : List ℕ → DeclaredProgram → Name → Type 0
HasVariable text p name = SomeOf (λ v. SameName text name v.name) p.variables

-- no name is that of a variable and of an external
abbrev pub AreUnlike : List ℕ → DeclaredProgram → Type 0
AreUnlike text p = (name : Name) → HasVariable text p name → HasExternal text p name → ⊥

-- and each is that of one at most
pub record IsUnambiguous (text : List ℕ) (p : DeclaredProgram) : Type 0 where
  pub unlike : AreUnlike text p
  pub variables : ¬ SomeLater (λ v w. SameName text v.name w.name) p.variables
  pub blocks : ¬ SomeLater (λ b c. SameName text b.name c.name) p.blocks

module _ (text : List ℕ) where
  pub later_twice : (names : List Name) → SomeLater (SameName text) names
      → (place : ℕ) × IsTwiceIn (folded text) names place
  later_twice [] s = absurd s
  later_twice (n ∷ names) (inl s) =
      let later = some_at (SameName text n) names s in
      let place = later.1.from in (
        place,
        inl (at_some (λ m. (folded text n ≡ folded text m) × (place ≡ m.from)) names later.0 later.1 later.2
            (later.3, refl)),
      )
  later_twice (n ∷ names) (inr s) = let rest = later_twice names s in (rest.0, inr rest.1)

  pub programs_unambiguous : (es above : List Element)
      → ((place : ℕ) → ¬ SomeOf (λ program. IsTwiceIn (folded text) (names_of program) place) (programs_of es))
      → AllByRecursion (IsUnambiguous text) (filter_map (declared_program (folded text)) (standing above es))
  programs_unambiguous [] above h = tt
  programs_unambiguous (DerivedType type ∷ es) above h = programs_unambiguous es (DerivedType type ∷ above) h
  programs_unambiguous (Function function ∷ es) above h = programs_unambiguous es (Function function ∷ above) h
  programs_unambiguous (Program program ∷ es) above h =
      let types = types_below (folded text) (types_of above) in
      let ds = program.declarations in
      let never : ¬ SomeLater (SameName text) (names_in ds) =
      λ s. let twice = later_twice (names_in ds) s in h twice.0 (inl twice.1)
      in (
        record {
          unlike = λ name v e.
              never (both_declared variable_name external_name (variables_in types) (externals_in types)
              (variables_made types) (externals_made types) (either_none types) text name ds v e);
          variables = λ s.
              never (later_declared variable_name (variables_in types) (variables_made types) text ds s);
          blocks = λ s. never (later_declared block_name blocks_in blocks_made text ds s);
        },
        programs_unambiguous es (Program program ∷ above) (λ place s. h place (inr s)),
      )

  -- ---- all functions of a text

  abbrev AreAlike : DeclaredVariable → DeclaredVariable → Type 0
  AreAlike v w = SameName text v.name w.name

  -- one of two properties
  one_of_two : {X : Type 0} (P Q : X → Type 0) (xs : List X) → SomeOf (λ x. P x ⊎ Q x) xs → SomeOf P xs ⊎ SomeOf Q xs
  one_of_two P Q [] s = absurd s
  one_of_two P Q (x ∷ xs) (inl (inl p)) = inl (inl p)
  one_of_two P Q (x ∷ xs) (inl (inr q)) = inr (inl q)
  one_of_two P Q (x ∷ xs) (inr s) = or_else (λ t. inl (inr t)) (λ t. inr (inr t)) (one_of_two P Q xs s)

  -- of variables with one in their midst, where that has a name of its own and the others have
  one_between : (r : DeclaredVariable) (xs ys : List DeclaredVariable) → ¬ SomeLater AreAlike (xs ++ ys)
      → ¬ SomeOf (AreAlike r) (xs ++ ys) → ¬ SomeLater AreAlike (xs ++ r ∷ ys)
  one_between r xs ys apart other s =
      or_else
      (λ l. apart (later_left AreAlike xs ys l))
      (λ m. or_else
      (λ t. or_else (λ o. other (some_right (AreAlike r) xs ys o)) (λ l. apart (later_right AreAlike xs ys l)) t)
      (λ c. or_else
      (λ o. other (some_left (AreAlike r) xs ys (some_as (λ x. AreAlike x r) (AreAlike r) (λ x e. sym e) xs o)))
      (λ o. apart (later_cross AreAlike xs ys o))
      (one_of_two (λ x. AreAlike x r) (λ x. SomeOf (AreAlike x) ys) xs c))
      m)
      (later_parts AreAlike xs (r ∷ ys) s)

  -- what two lists of declarations declare, together
  declared_both : (types : TypeNames) (ds es : List DeclaredNames)
      → flat_map (variables_in types) (ds ++ es) ≡ flat_map (variables_in types) ds ++ flat_map (variables_in types) es
  declared_both types [] es = refl
  declared_both types (d ∷ ds) es =
      ap (λ (vs : List DeclaredVariable). variables_in types d ++ vs) (declared_both types ds es)
      ∙ sym (append_assoc (variables_in types d) (flat_map (variables_in types) ds) (flat_map (variables_in types) es))

  pub functions_unambiguous : (es above : List Element)
      → ((place : ℕ) → ¬ SomeOf (λ function. IsTwiceIn (folded text) (function_names function) place) (functions_of es))
      → AllByRecursion (λ f. IsUnambiguous text (as_program f))
      (filter_map (declared_function (folded text)) (standing above es))
  functions_unambiguous [] above h = tt
  functions_unambiguous (DerivedType type ∷ es) above h = functions_unambiguous es (DerivedType type ∷ above) h
  functions_unambiguous (Program program ∷ es) above h = functions_unambiguous es (Program program ∷ above) h
  functions_unambiguous (Function f ∷ es) above h =
      let types = types_below (folded text) (types_of above) in
      let ds = f.inputs ++ f.variables in
      let never : ¬ SomeLater (SameName text) (function_names f) =
      λ s. let twice = later_twice (function_names f) s in h twice.0 (inl twice.1)
      in
      let xs : List DeclaredVariable = flat_map (variables_in types) f.inputs in
      let ys : List DeclaredVariable = flat_map (variables_in types) f.variables in
      let both = declared_both types f.inputs f.variables in
      let apart : ¬ SomeLater AreAlike (xs ++ ys) =
      λ s. never (inr (later_declared variable_name (variables_in types) (variables_made types) text ds
      (subst (λ (vs : List DeclaredVariable). SomeLater AreAlike vs) (sym both) s)))
      in
      let other : ¬ SomeOf (AreAlike (result_variable types f)) (xs ++ ys) =
      λ s. never (inl (some_declared variable_name (variables_in types) (variables_made types) (SameName text f.name) ds
      (subst (λ (vs : List DeclaredVariable). SomeOf (AreAlike (result_variable types f)) vs) (sym both) s)))
      in (
        record {
          unlike = λ name v e. e;
          variables = one_between (result_variable types f) xs ys apart other;
          blocks = λ s. s;
        },
        functions_unambiguous es (Function f ∷ above) (λ place s. h place (inr s)),
      )
