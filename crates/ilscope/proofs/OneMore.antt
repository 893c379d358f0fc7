-- What is gathered from some elements, with one element more.
use Rattle.std.proofs.Common.{◌≡◌, ℕ, suc, ◌+◌, List, [], ◌∷◌, ◌++◌, length, refl, ap, sym, ◌∙◌, subst, inl, inr}
use Rattle.std.proofs.Common.{append-nil, arith}
use Rattle.std.specs.Prelude.{Option, Some, None, filter_map, bytes_eq, if◌then◌else◌}
use Rattle.std.specs.List.{cons_option}
use Rattle.std.specs.Option.{option_or}
use Rattle.std.proofs.lemmas.List.Elements.{filter_map-append}
use Rattle.ilsource.specs.Names.{text_of}
use Rattle.ilsource.specs.Programs.{DeclaredNames, Written, WrittenFunction}
use Rattle.ilsource.specs.SourceTrees.{functions_of, types_of}
use Rattle.ilsource.specs.declared.declaration.Declared.TheVariants as declared_as
use Rattle.ilsource.specs.declared.declaration.TypeDeclaration.{TypeDeclaration}
use Rattle.ilsource.specs.declared.name.Name.{Name}
use Rattle.ilsource.specs.declared.source.Element.{Element}
use Rattle.ilsource.specs.declared.source.Element.TheVariants as elements
use Rattle.ildeclared.specs.DataTypes.{TypeNames, declared_type, types_below}
use Rattle.ildeclared.specs.Declarations.{function_names, names_of}
use Rattle.ildeclared.specs.Faults.{IsNextOf, OfCause, SomeOf, IsFaultIn}
use Rattle.ildeclared.specs.Kept.{Kept, KeepsToo, types_in}
use Rattle.ildeclared.specs.Order.{lesser_of_two}
use Rattle.ildeclared.specs.declared.data_type.DataType.{DataType}
use Rattle.ildeclared.specs.declared.fault.NameCause.TheVariants.{Twice}
use Rattle.ildeclared.specs.declared.found.Found.{Found}
use Rattle.ildeclared.proofs.FoundOrder.{next_same, or_else}
use Rattle.ildeclared.proofs.Least.{both_next, some_append, some_front, some_last}
use Rattle.ilscope.specs.Declarations.{DeclaredFunction, DeclaredProgram, Standing, declarations_in, declared_function}
use Rattle.ilscope.specs.Declarations.{declared_program, standing, with_declared, with_inputs}
use Rattle.ilscope.specs.Faults.{IsTwiceIn}
use Rattle.ilscope.specs.ScopeSteps.{AreAllNumbers, AreNumbersOf, IsFaultOfElement, IsGathered, above_all, block_names}
use Rattle.ilscope.specs.ScopeSteps.{external_names, names_of_function, variable_names}

abbrev pub last_of : List Element → List Element → Element → Standing
last_of above front element = record { above = above_all above front; element = element }

above_all-last : (above front : List Element) (element : Element) →
    above_all above (front ++ element ∷ []) ≡ element ∷ above_all above front
above_all-last above [] element = refl
above_all-last above (e ∷ es) element = above_all-last (e ∷ above) es element

pub standing-last : (above front : List Element) (element : Element) →
    standing above (front ++ element ∷ []) ≡ standing above front ++ last_of above front element ∷ []
standing-last above [] element = refl
standing-last above (e ∷ es) element =
    ap (λ (more : List Standing). record { above = above; element = e } ∷ more) (standing-last (e ∷ above) es element)

-- how many functions stand above what stands next
pub functions_counted : (spelled : Name → List ℕ) (above front : List Element) →
    length (filter_map (declared_function spelled) (standing above front)) + length (functions_of above)
    ≡ length (functions_of (above_all above front))
functions_counted spelled above [] = omega arith
functions_counted spelled above (elements.DerivedType type ∷ es) =
    functions_counted spelled (elements.DerivedType type ∷ above) es
functions_counted spelled above (elements.Program program ∷ es) =
    functions_counted spelled (elements.Program program ∷ above) es
functions_counted spelled above (elements.Function function ∷ es) =
    let more = filter_map (declared_function spelled) (standing (elements.Function function ∷ above) es) in
    let h : length more + suc (length (functions_of above))
    ≡ length (functions_of (above_all (elements.Function function ∷ above) es)) =
    functions_counted spelled (elements.Function function ∷ above) es
    in
    omega (arith, h)

module _ (spelled : Name → List ℕ) (front : List Element) (element : Element) where
  faults_more : (after least fault : Option Found) →
      IsNextOf after (λ place cause. SomeOf (λ one. IsFaultOfElement spelled one place cause) (standing [] front))
      least →
      IsNextOf after (IsFaultOfElement spelled (last_of [] front element)) fault →
      IsNextOf after (λ place cause. SomeOf (λ one. IsFaultOfElement spelled one place cause)
      (standing [] (front ++ element ∷ []))) (lesser_of_two least fault)
  faults_more after least fault h k =
      subst (λ (all : List Standing). IsNextOf after
      (λ place cause. SomeOf (λ one. IsFaultOfElement spelled one place cause) all) (lesser_of_two least fault))
      (sym (standing-last [] front element))
      (next_same after _ _ (lesser_of_two least fault)
      (λ place cause q.
      or_else (λ s. some_front (λ one. IsFaultOfElement spelled one place cause) (standing [] front)
      (last_of [] front element) s)
      (λ p. some_last (λ one. IsFaultOfElement spelled one place cause) (standing [] front) (last_of [] front element)
      p) q)
      (λ place cause s. some_append (λ one. IsFaultOfElement spelled one place cause) (standing [] front)
      (last_of [] front element) s)
      (both_next after (λ place cause. SomeOf (λ one. IsFaultOfElement spelled one place cause) (standing [] front))
      (IsFaultOfElement spelled (last_of [] front element)) least fault h k))

  those_more : {X : Type 0} (f : Standing → Option X) → filter_map f (standing [] (front ++ element ∷ [])) ≡
      filter_map f (standing [] front) ++ filter_map f (last_of [] front element ∷ [])
  those_more f =
      ap (λ (all : List Standing). filter_map f all) (standing-last [] front element)
      ∙ filter_map-append f (standing [] front) (last_of [] front element ∷ [])

  -- where the element is none of those
  same_those : {X : Type 0} (f : Standing → Option X) → f (last_of [] front element) ≡ None →
      filter_map f (standing [] front) ≡ filter_map f (standing [] (front ++ element ∷ []))
  same_those {X} f none =
      sym (append-nil (filter_map f (standing [] front)))
      ∙ ap (λ (o : Option X). filter_map f (standing [] front) ++ cons_option o []) (sym none)
      ∙ sym (those_more f)

  -- and where it is one
  one_more : {X : Type 0} (f : Standing → Option X) (xs : List X) (x : X) → xs ≡ filter_map f (standing [] front)
      → f (last_of [] front element) ≡ Some x → xs ++ x ∷ [] ≡ filter_map f (standing [] (front ++ element ∷ []))
  one_more {X} f xs x e is =
      ap (λ (ys : List X). ys ++ x ∷ []) e
      ∙ ap (λ (o : Option X). filter_map f (standing [] front) ++ cons_option o []) (sym is)
      ∙ sym (those_more f)

abbrev declaration_of : TypeDeclaration → DeclaredNames
declaration_of type =
    record { names = type.name ∷ []; declared = declared_as.Variables type.specification type.initial }

-- what is gathered, with one type more
pub type_added : (after : Option Found) (lower : List ℕ) (front : List Element) (types new : Kept (Option DataType))
    (programs : List DeclaredProgram) (variables blocks externals : List (Kept ℕ)) (functions : List DeclaredFunction)
    (own : List (Kept ℕ)) (least fault : Option Found) (type : TypeDeclaration) (meaning : Option DataType) →
    IsGathered after lower front types programs variables blocks externals functions own least →
    IsNextOf after (IsFaultIn (types_in lower types) (declaration_of type)) fault →
    meaning ≡ declared_type (types_in lower types) type.specification type.initial →
    KeepsToo (text_of lower type.name) meaning types new →
    IsGathered after lower (front ++ elements.DerivedType type ∷ []) new programs variables blocks externals functions
    own
    (lesser_of_two least fault)
type_added after lower front types new programs variables blocks externals functions own least fault type meaning h f m
    e =
    let spelled = text_of lower in
    let above : List TypeDeclaration = types_of (above_all [] front) in
    let same : types_in lower types ≡ types_below spelled above = λ i name. h.meant name i in
    let meant : meaning ≡ declared_type (types_below spelled above) type.specification type.initial =
    m ∙ ap (λ (t : TypeNames). declared_type t type.specification type.initial) same
    in
    let one : IsNextOf after (IsFaultIn (types_below spelled above) (declaration_of type)) fault =
    subst (λ (t : TypeNames). IsNextOf after (IsFaultIn t (declaration_of type)) fault) same f
    in
    record {
      meant = λ name.
          e (spelled name)
          ∙ (λ i. option_or (h.meant name i)
          (if bytes_eq (spelled name) (spelled type.name) then Some (meant i) else None))
          ∙ ap (λ (a : List Element). types_below spelled (types_of a) name)
          (sym (above_all-last [] front (elements.DerivedType type)));
      declared =
          h.declared ∙ same_those spelled front (elements.DerivedType type) (declared_program spelled) refl;
      variables_numbered = h.variables_numbered;
      blocks_numbered = h.blocks_numbered;
      externals_numbered = h.externals_numbered;
      functions_declared =
          h.functions_declared ∙ same_those spelled front (elements.DerivedType type) (declared_function spelled) refl;
      own_numbered = h.own_numbered;
      fault =
          faults_more spelled front (elements.DerivedType type) after least fault h.fault
          (next_same after _ _ fault (λ place cause p. inr (inl p))
          (λ place cause q. or_else (λ t. absurd t.1) (λ s. or_else (λ p. p) (λ no. absurd no) s) q) one);
    }

numbers_last : {X : Type 0} (spelled : Name → List ℕ) (names : X → List Name) (xs : List X) (numbers : List (Kept ℕ))
    (x : X) (table : Kept ℕ) → AreAllNumbers spelled names xs numbers → AreNumbersOf spelled (names x) table
    → AreAllNumbers spelled names (xs ++ x ∷ []) (numbers ++ table ∷ [])
numbers_last spelled names [] [] x table h k = (k, tt)
numbers_last spelled names [] (n ∷ ns) x table h k = absurd h
numbers_last spelled names (p ∷ ps) [] x table h k = absurd h
numbers_last spelled names (p ∷ ps) (n ∷ ns) x table h k = (h.0, numbers_last spelled names ps ns x table h.1 k)

-- what types mean does not change with an element that is none
same_meant : (lower : List ℕ) (front : List Element) (types : Kept (Option DataType)) (element : Element) (name : Name)
    → types_of (element ∷ above_all [] front) ≡ types_of (above_all [] front)
    → types_in lower types name ≡ types_below (text_of lower) (types_of (above_all [] front)) name
    → types_in lower types name
    ≡ types_below (text_of lower) (types_of (above_all [] (front ++ element ∷ []))) name
same_meant lower front types element name none h =
    h
    ∙ ap (λ (ts : List TypeDeclaration). types_below (text_of lower) ts name)
    (sym none ∙ ap (λ (a : List Element). types_of a) (sym (above_all-last [] front element)))

-- as many functions are gathered as stand above what stands next
counted : (lower : List ℕ) (front : List Element) (functions : List DeclaredFunction)
    → functions ≡ filter_map (declared_function (text_of lower)) (standing [] front)
    → length functions ≡ length (functions_of (above_all [] front))
counted lower front functions e =
    let all = filter_map (declared_function (text_of lower)) (standing [] front) in
    let n : length functions ≡ length all = ap (λ (fs : List DeclaredFunction). length fs) e in
    let h : length all + 0 ≡ length (functions_of (above_all [] front)) =
    functions_counted (text_of lower) [] front
    in
    omega (arith, n, h)

-- what is gathered, with one program more
pub program_added : (after : Option Found) (lower : List ℕ) (front : List Element) (types : Kept (Option DataType))
    (programs : List DeclaredProgram) (variables blocks externals : List (Kept ℕ)) (functions : List DeclaredFunction)
    (own : List (Kept ℕ)) (least twice fault : Option Found) (program : Written) (declared : DeclaredProgram)
    (its_variables its_blocks its_externals : Kept ℕ) →
    IsGathered after lower front types programs variables blocks externals functions own least →
    declared ≡ with_declared (types_in lower types) (length functions) program →
    AreNumbersOf (text_of lower) (variable_names declared) its_variables →
    AreNumbersOf (text_of lower) (block_names declared) its_blocks →
    AreNumbersOf (text_of lower) (external_names declared) its_externals →
    IsNextOf after (OfCause Twice (IsTwiceIn (text_of lower) (names_of program))) twice →
    IsNextOf after (λ place cause. SomeOf (λ d. IsFaultIn (types_in lower types) d place cause) program.declarations)
    fault →
    IsGathered after lower (front ++ elements.Program program ∷ []) types (programs ++ declared ∷ [])
    (variables ++ its_variables ∷ []) (blocks ++ its_blocks ∷ []) (externals ++ its_externals ∷ []) functions own
    (lesser_of_two least (lesser_of_two twice fault))
program_added after lower front types programs variables blocks externals functions own least twice fault program
    declared
    its_variables its_blocks its_externals h d n m o t f =
    let spelled = text_of lower in
    let above : List TypeDeclaration = types_of (above_all [] front) in
    let element : Element = elements.Program program in
    let same : types_in lower types ≡ types_below spelled above = λ i name. h.meant name i in
    let many : length functions ≡ length (functions_of (above_all [] front)) =
    counted lower front functions h.functions_declared
    in
    let its : declared
    ≡ with_declared (types_below spelled above) (length (functions_of (above_all [] front))) program =
    d ∙ (λ i. with_declared (same i) (many i) program)
    in
    record {
      meant = λ name. same_meant lower front types element name refl (h.meant name);
      declared =
          one_more spelled front element (declared_program spelled) programs declared h.declared (ap Some (sym its));
      variables_numbered =
          numbers_last spelled variable_names programs variables declared its_variables h.variables_numbered n;
      blocks_numbered = numbers_last spelled block_names programs blocks declared its_blocks h.blocks_numbered m;
      externals_numbered =
          numbers_last spelled external_names programs externals declared its_externals h.externals_numbered o;
      functions_declared =
          h.functions_declared ∙ same_those spelled front element (declared_function spelled) refl;
      own_numbered = h.own_numbered;
      fault =
          faults_more spelled front element after least (lesser_of_two twice fault) h.fault
          (both_next after (OfCause Twice (IsTwiceIn spelled (names_of program)))
          (λ place cause. SomeOf (λ d. IsFaultIn (types_below spelled above) d place cause) program.declarations) twice
          fault t
          (subst (λ (names : TypeNames). IsNextOf after
          (λ place cause. SomeOf (λ d. IsFaultIn names d place cause) program.declarations) fault) same f));
    }

-- what is gathered, with one function more
pub function_added : (after : Option Found) (lower : List ℕ) (front : List Element) (types : Kept (Option DataType))
    (programs : List DeclaredProgram) (variables blocks externals : List (Kept ℕ)) (functions : List DeclaredFunction)
    (own : List (Kept ℕ)) (least twice fault : Option Found) (function : WrittenFunction) (declared : DeclaredFunction)
    (its : Kept ℕ) →
    IsGathered after lower front types programs variables blocks externals functions own least →
    declared ≡ with_inputs (types_in lower types) (length functions) function →
    AreNumbersOf (text_of lower) (names_of_function declared) its →
    IsNextOf after (OfCause Twice (IsTwiceIn (text_of lower) (function_names function))) twice →
    IsNextOf after (λ place cause. SomeOf (λ d. IsFaultIn (types_in lower types) d place cause)
    (declarations_in (elements.Function function))) fault →
    IsGathered after lower (front ++ elements.Function function ∷ []) types programs variables blocks externals
    (functions ++ declared ∷ []) (own ++ its ∷ []) (lesser_of_two least (lesser_of_two twice fault))
function_added after lower front types programs variables blocks externals functions own least twice fault function
    declared
    its h d n t f =
    let spelled = text_of lower in
    let above : List TypeDeclaration = types_of (above_all [] front) in
    let element : Element = elements.Function function in
    let same : types_in lower types ≡ types_below spelled above = λ i name. h.meant name i in
    let many : length functions ≡ length (functions_of (above_all [] front)) =
    counted lower front functions h.functions_declared
    in
    let is : declared ≡ with_inputs (types_below spelled above) (length (functions_of (above_all [] front))) function =
    d ∙ (λ i. with_inputs (same i) (many i) function)
    in
    record {
      meant = λ name. same_meant lower front types element name refl (h.meant name);
      declared = h.declared ∙ same_those spelled front element (declared_program spelled) refl;
      variables_numbered = h.variables_numbered;
      blocks_numbered = h.blocks_numbered;
      externals_numbered = h.externals_numbered;
      functions_declared =
          one_more spelled front element (declared_function spelled) functions declared h.functions_declared
          (ap Some (sym is));
      own_numbered = numbers_last spelled names_of_function functions own declared its h.own_numbered n;
      fault =
          faults_more spelled front element after least (lesser_of_two twice fault) h.fault
          (both_next after (OfCause Twice (IsTwiceIn spelled (function_names function)))
          (λ place cause. SomeOf (λ d. IsFaultIn (types_below spelled above) d place cause) (declarations_in element))
          twice fault t
          (subst (λ (names : TypeNames). IsNextOf after
          (λ place cause. SomeOf (λ d. IsFaultIn names d place cause) (declarations_in element)) fault) same f));
    }
