-- Functions by their names: each name is that of one function, and a name that is known means the function of its
-- number, which stands above.
use Rattle.std.proofs.Common.{◌≡◌, ◌∙◌, ℕ, zero, suc, ◌+◌, ◌<◌, List, [], ◌∷◌, map, take, Bool, true, refl, ap}
use Rattle.std.proofs.Common.{arith, inl, inr}
use Rattle.std.specs.Prelude.{Option, Some, None, filter_map, option_and_then, option_map, slice_get}
use Rattle.std.specs.List.{list_any, position_or_len}
use Rattle.wordlines.specs.Wirings.{Wiring}
use Rattle.ilsource.specs.Names.{SameName, folded}
use Rattle.ilsource.specs.SourceTrees.{Tree}
use Rattle.ilsource.specs.declared.name.Name.{Name}
use Rattle.ilsource.specs.declared.source.Element.{Element}
use Rattle.ilsource.specs.declared.source.Element.TheVariants.{DerivedType, Function, Program}
use Rattle.ildeclared.specs.Faults.{SomeLater, SomeOf}
use Rattle.ildeclared.specs.declared.fault.NameCause.TheVariants.{Twice}
use Rattle.ilscope.specs.Declarations.{DeclaredFunction, declared_function, declared_functions, name_of, standing}
use Rattle.ilscope.specs.Tables.{first_at}
use Rattle.ilscope.specs.UseFaults.{function_called, functions_above}
use Rattle.ilscope.specs.SameNames.{same_name}
use Rattle.ilscope.proofs.SameNames.{alike}
use Rattle.ilscope.specs.Declarations.{DeclaredProgram}
use Rattle.ilsyms.specs.Faults.{IsWellNamed}
use Rattle.ilsyms.specs.Meaning.{function_in_text}
use Rattle.ilsyms.proofs.Lists.{either}
use Rattle.ilsyms.proofs.Names.{later_twice}

-- ---- each name is that of one function

module _ (text : List ℕ) where
  abbrev AreOneName : DeclaredFunction → DeclaredFunction → Type 0
  AreOneName f g = SameName text f.function.name g.function.name

  abbrev functions_in : List Element → List Element → List DeclaredFunction
  functions_in above es = filter_map (declared_function (folded text)) (standing above es)

  some_named : (n : Name) (es above : List Element)
      → SomeOf (λ g. SameName text n g.function.name) (functions_in above es)
      → SomeOf (SameName text n) (map name_of es)
  some_named n [] above s = absurd s
  some_named n (DerivedType type ∷ es) above s = inr (some_named n es (DerivedType type ∷ above) s)
  some_named n (Program program ∷ es) above s = inr (some_named n es (Program program ∷ above) s)
  some_named n (Function function ∷ es) above (inl e) = inl e
  some_named n (Function function ∷ es) above (inr s) = inr (some_named n es (Function function ∷ above) s)

  later_named : (es above : List Element) → SomeLater AreOneName (functions_in above es)
      → SomeLater (SameName text) (map name_of es)
  later_named [] above s = absurd s
  later_named (DerivedType type ∷ es) above s = inr (later_named es (DerivedType type ∷ above) s)
  later_named (Program program ∷ es) above s = inr (later_named es (Program program ∷ above) s)
  later_named (Function function ∷ es) above (inl s) =
      inl (some_named function.name es (Function function ∷ above) s)
  later_named (Function function ∷ es) above (inr s) = inr (later_named es (Function function ∷ above) s)

pub functions_once : (tree : Tree) (wiring : Wiring) → IsWellNamed tree wiring
    → ¬ SomeLater (λ f g. SameName tree.text f.function.name g.function.name) (declared_functions tree)
functions_once tree wiring well s =
    let twice = later_twice tree.text (map name_of tree.elements) (later_named tree.text tree.elements [] s) in
    well twice.0 Twice (inl (inl twice.1))

-- ---- the first one that passes, of the first so many

module _ {X : Type 0} (test : X → Bool) where
  pub record IsFirst (n : ℕ) (xs : List X) : Type 0 where
    pub item : X
    pub above : position_or_len test xs < n
    pub there : slice_get xs (position_or_len test xs) ≡ Some item
    pub passes : test item ≡ true
    pub first : option_and_then (slice_get (take n xs)) (first_at test (take n xs)) ≡ Some item

  one_later : (x : X) (ys : List X) (o : Option ℕ)
      → option_and_then (slice_get (x ∷ ys)) (option_map suc o) ≡ option_and_then (slice_get ys) o
  one_later x ys None = refl
  one_later x ys (Some k) = refl

  pub first_above : (n : ℕ) (xs : List X) → list_any test (take n xs) ≡ true → IsFirst n xs
  first_above zero xs e = absurd cc
  first_above (suc n) [] e = absurd cc
  first_above (suc n) (x ∷ xs) e =
      either (test x)
      (λ t. record {
        item = x;
        above = rw t (omega arith);
        there = rw t refl;
        passes = t;
        first = rw t refl;
      })
      (λ f.
      let rest = first_above n xs (rw f at e) in
      let k = position_or_len test xs in
      let next : 1 + k ≡ suc k = omega arith in
      record {
        item = rest.item;
        above = rw f (omega (arith, rest.above));
        there = rw f (ap (λ m. slice_get (x ∷ xs) m) next ∙ rest.there);
        passes = rest.passes;
        first = rw f (one_later x (take n xs) (first_at test (take n xs)) ∙ rest.first);
      })

-- ---- a name that is known

module _ (tree : Tree) (p : DeclaredProgram) (name : Name) where
  abbrev has_name : DeclaredFunction → Bool
  has_name f = same_name tree.text name f.function.name

  abbrev pub IsKnownFunction : Type 0
  IsKnownFunction = list_any (λ f. same_name tree.text name f.function.name) (functions_above tree p) ≡ true

  pub record FunctionThere : Type 0 where
    pub function : DeclaredFunction
    pub above : function_in_text tree name < p.functions
    pub there : slice_get (declared_functions tree) (function_in_text tree name) ≡ Some function
    pub named : SameName tree.text name function.function.name
    pub called : function_called tree p name ≡ Some function

  pub function_there : IsKnownFunction → FunctionThere
  function_there e =
      let first = first_above has_name p.functions (declared_functions tree) e in
      record {
        function = first.item;
        above = first.above;
        there = first.there;
        named = alike tree.text name first.item.function.name first.passes;
        called = first.first;
      }
