-- Where no declaration has a fault, each has a type, and each global variable is located where its type may be, at an
-- address of its own.
use Rattle.std.proofs.Common.{◌≡◌, ℕ, ◌-◌, ◌<◌, ◌≤◌, ℤ, pos, ◌≤ℤ◌, List, [], ◌∷◌, ◌++◌, Bool, true, false, refl, sym}
use Rattle.std.proofs.Common.{ap, ◌∙◌, subst, inl, inr, arith, get_or, append-nil, append_assoc}
use Rattle.std.proofs.Math.Dec.{T}
use Rattle.std.proofs.lemmas.Bool.{cases_lt, cases_eq}
use Rattle.std.proofs.lemmas.Int.{ints, by_lt_z}
use Rattle.std.proofs.lemmas.List.{reverse-append}
use Rattle.std.proofs.lemmas.List.Elements.{All-append, All-cons, All-map, All-nil}
use Rattle.std.proofs.lemmas.List.Kept.{AllPairs-cons}
use Rattle.std.specs.Prelude.{Option, Some, None, IfSome, IsSomeAnd, All, AllPairs, bytes_eq, filter_map, flat_map}
use Rattle.std.specs.Prelude.{reverse, int_le}
use Rattle.std.specs.Prelude.{map, option_and_then, option_map, unwrap_or, if◌then◌else◌, ◌⊎◌, ◌<ℤ◌}
use Rattle.std.specs.List.{cons_option}
use Rattle.std.specs.Option.{option_or}
use Rattle.wordlines.specs.Wirings.{Wiring, IsAt}
use Rattle.wordlines.specs.declared.sources.BoundSource.{BoundSource}
use Rattle.iltypes.specs.Values.{IsOf}
use Rattle.iltypes.specs.declared.range.Range.{Range}
use Rattle.iltypes.specs.declared.value.IlType.{IlType}
use Rattle.iltypes.specs.declared.value.IlType.TheVariants as types
use Rattle.iltypes.specs.declared.value.Value.{Value}
use Rattle.iltypes.specs.declared.value.Value.TheVariants as values
use Rattle.iltypes.specs.Functions.{least_of, greatest_of}
use Rattle.iltokens.specs.declared.lexed.AddressKind.{AddressKind}
use Rattle.iltokens.specs.declared.lexed.AddressKind.TheVariants.{OutputByte, InputWord, InputBit}
use Rattle.ilsource.specs.Configurations.{DeclaredGlobals, globals_of as declared_together}
use Rattle.ilsource.specs.Names.{folded}
use Rattle.ilsource.specs.SourceTrees.{Tree, types_of}
use Rattle.ilsource.specs.declared.address.DirectAddress.{DirectAddress}
use Rattle.ilsource.specs.declared.declaration.Constant.{Constant}
use Rattle.ilsource.specs.declared.declaration.Declared.TheVariants as declared_as
use Rattle.ilsource.specs.declared.declaration.Specification.{Specification}
use Rattle.ilsource.specs.declared.declaration.Specification.TheVariants as specifications
use Rattle.ilsource.specs.declared.declaration.TypeDeclaration.{TypeDeclaration}
use Rattle.ilsource.specs.declared.name.Name.{Name}
use Rattle.ilsource.specs.declared.source.Element.{Element}
use Rattle.ilsource.specs.declared.source.Element.TheVariants.{DerivedType, Function, Program}
use Rattle.ildeclared.specs.DataTypes.{TypeNames, data_type, declared_type, range_if, truth_values, types_below}
use Rattle.ildeclared.specs.DataTypes.{value_in, whole_numbers, with_initial}
use Rattle.ildeclared.specs.Declarations.{type_of, values_of}
use Rattle.ildeclared.specs.Faults.{IsAddressTwice, IsBadAddressAt, IsBadDeclared, IsBadIn, IsBadInitial, IsBadSubrange}
use Rattle.ildeclared.specs.Faults.{IsBadlyLocatedIn, IsBound, IsInputTooSmallIn, IsOtherArea, IsThere, IsUnknownIn}
use Rattle.ildeclared.specs.Faults.{IsUnknownTypeIn, LacksInput, SameAddress, SomeOf}
use Rattle.ildeclared.specs.Globals.{as_variables, global, global_type, globals_in, initial_at, located_type}
use Rattle.ildeclared.specs.declared.data_type.DataType.{DataType}
use Rattle.ildeclared.specs.declared.fault.NameCause.{NameCause}
use Rattle.ildeclared.specs.declared.fault.NameCause.TheVariants.{Unknown, Twice, BadAddress, InputRangeTooSmall}
use Rattle.ildeclared.specs.declared.fault.NameCause.TheVariants.{BadDeclaration}
use Rattle.ildeclared.specs.declared.global.DeclaredGlobal.{DeclaredGlobal}
use Rattle.ildeclared.proofs.Subranges.{le_to}
use Rattle.ilscope.specs.Configured.{declared_globals_of, globals_of, types_of_text}
use Rattle.ilscope.specs.Declarations.{declarations_in, standing, types_at}
use Rattle.ilscope.specs.Faults.{IsFaultOfDeclarations}
use Rattle.ilscope.proofs.Typed.{declared_typed_globals, has_zero}

pub not_below : (a b : ℤ) → ¬ (a <ℤ b) → b ≤ℤ a
not_below a b h = by_lt_z a b (λ l. absurd (h l)) (λ k. k)

-- ---- the type of a declaration

whole_there : (low high first : ℤ) → low ≤ℤ high → (t : DataType) × (whole_numbers low high first ≡ Some t)
whole_there low high first o = there (int_le low high) (λ is. record { le = is }) (le_to low high o)
  where
    there : (is : Bool) (ordered : T is → low ≤ℤ high) → is ≡ true →
        (t : DataType)
        × (option_map (λ range. record { value_type = types.Int range; initial = values.Int first })
        (range_if low high is ordered)
        ≡ Some t)
    there true ordered e =
        let range : Range = record { lo = low; hi = high; ordered = ordered tt } in
        (record { value_type = types.Int range; initial = values.Int first }, refl)
    there false ordered e = absurd cc

-- a declaration has a type
record Means (above : TypeNames) (specification : Specification) (initial : Option Constant) : Type 0 where
  type : DataType
  declared : declared_type above specification initial ≡ Some type
  values : values_of above specification ≡ Some type.value_type

module _ (above : TypeNames) (sound : (name : Name) → ¬ (above name ≡ Some None)) where
  type_there : (specification : Specification) → ((place : ℕ) → ¬ IsUnknownIn above place specification)
      → ¬ IsBadSubrange specification → (t : DataType) × (data_type above specification ≡ Some t)
  type_there specifications.Bool known good = (truth_values, refl)
  type_there specifications.Time known good = whole_there (pos 0) (pos 4294967295) (pos 0) (record { le = tt })
  type_there (specifications.Integer base) known good =
      let zero = has_zero base in
      whole_there (least_of base) (greatest_of base) (pos 0) (omega (arith, ints, zero.0, zero.1))
  type_there (specifications.Subrange base low high) known good =
      let there = whole_there low high low (not_below high low (λ l. good (inl l))) in
      let first = le_to (least_of base) low (not_below low (least_of base) (λ l. good (inr (inl l)))) in
      let last = le_to high (greatest_of base) (not_below (greatest_of base) high (λ l. good (inr (inr l)))) in
      (there.0, rw (first, last) there.1)
  type_there (specifications.Named name) known good = named (above name) refl
    where
      named : (o : Option (Option DataType)) → above name ≡ o → (t : DataType) × (unwrap_or o None ≡ Some t)
      named None e = absurd (known name.from (e, refl))
      named (Some None) e = absurd (sound name e)
      named (Some (Some t)) e = (t, refl)

  -- with its initial value the type has the same values
  initial_there : (initial : Option Constant) (type : DataType) → ¬ IsBadInitial (Some type) initial
      → (t : DataType) × (with_initial initial type ≡ Some t) × (t.value_type ≡ type.value_type)
  initial_there None type good = (type, refl, refl)
  initial_there (Some constant) type good = by (value_in type.value_type constant) refl
    where
      by : (o : Option Value) → value_in type.value_type constant ≡ o →
          (t : DataType)
          × (option_map (λ value. record { value_type = type.value_type; initial = value }) o ≡ Some t)
          × (t.value_type ≡ type.value_type)
      by None e = absurd (good e)
      by (Some value) e = (record { value_type = type.value_type; initial = value }, refl, refl)

  meant : (specification : Specification) (initial : Option Constant)
      → ((place : ℕ) → ¬ IsUnknownIn above place specification)
      → ¬ IsBadDeclared above (declared_as.Variables specification initial) → Means above specification initial
  meant specification initial known good =
      let there = type_there specification known (λ s. good (inl s)) in
      let begins = initial_there initial there.0
      (λ b. good (inr (subst (λ (o : Option DataType). IsBadInitial o initial) (sym there.1) b)))
      in
      record {
        type = begins.0;
        declared = ap (option_and_then (with_initial initial)) there.1 ∙ begins.1;
        values = ap (option_map (λ (t : DataType). t.value_type)) there.1 ∙ ap Some (sym begins.2);
      }

-- ---- what names of types mean

abbrev IsSound : TypeNames → Type 0
IsSound above = (name : Name) → ¬ (above name ≡ Some None)

-- with one type more, which has no fault itself
sound_more : (spelled : Name → List ℕ) (above : List TypeDeclaration) (type : TypeDeclaration)
    → IsSound (types_below spelled above) → Means (types_below spelled above) type.specification type.initial
    → IsSound (types_below spelled (type ∷ above))
sound_more spelled above type sound its name =
    by (types_below spelled above name) (sound name) (bytes_eq (spelled name) (spelled type.name))
    (declared_type (types_below spelled above) type.specification type.initial) its.declared
  where
    by : (o : Option (Option DataType)) → ¬ (o ≡ Some None) → (b : Bool) (p : Option DataType) → p ≡ Some its.type →
        ¬ (option_or o (if b then Some p else None) ≡ Some None)
    by (Some m) h b p e f = h f
    by None h true p e f = absurd cc
    by None h false p e f = absurd cc

module _ (spelled : Name → List ℕ) where
  abbrev IsUnknownFrom : List Element → List Element → ℕ → Type 0
  IsUnknownFrom above elements place =
      SomeOf
      (λ one. SomeOf (λ d. IsUnknownTypeIn (types_at spelled one) place d.declared) (declarations_in one.element))
      (standing above elements)

  abbrev IsBadFrom : List Element → List Element → ℕ → Type 0
  IsBadFrom above elements place =
      SomeOf
      (λ one. SomeOf (λ d. IsBadIn (types_at spelled one) place d) (declarations_in one.element))
      (standing above elements)

  sound_below : (elements above : List Element) → IsSound (types_below spelled (types_of above))
      → ((place : ℕ) → ¬ IsUnknownFrom above elements place) → ((place : ℕ) → ¬ IsBadFrom above elements place)
      → IsSound (types_below spelled (reverse (types_of elements) ++ types_of above))
  sound_below [] above sound known good = sound
  sound_below (DerivedType type ∷ more) above sound known good =
      let types : List TypeDeclaration = types_of above in
      let its = meant (types_below spelled types) sound type.specification type.initial
      (λ place u. known place (inl (inl u))) (λ b. good type.name.from (inl (inl (b, refl))))
      in
      let rest = sound_below more (DerivedType type ∷ above) (sound_more spelled types type sound its)
      (λ place s. known place (inr s)) (λ place s. good place (inr s))
      in
      let order : reverse (types_of more) ++ type ∷ types ≡ reverse (type ∷ types_of more) ++ types =
      sym (append_assoc (reverse (types_of more)) (type ∷ []) types)
      ∙ ap (λ (ts : List TypeDeclaration). ts ++ types) (sym (reverse-append (type ∷ []) (types_of more)))
      in
      subst (λ (ts : List TypeDeclaration). IsSound (types_below spelled ts)) order rest
  sound_below (Function function ∷ more) above sound known good =
      sound_below more (Function function ∷ above) sound (λ place s. known place (inr s))
      (λ place s. good place (inr s))
  sound_below (Program program ∷ more) above sound known good =
      sound_below more (Program program ∷ above) sound (λ place s. known place (inr s)) (λ place s. good place (inr s))

-- ---- global variables

-- what is located there has no other values than the type, and the type has all of an input's
abbrev IsSuited : DeclaredGlobal → Type 0
IsSuited g = IfSome g.address (λ a. (¬ IsOtherArea a.kind g.value_type) × (¬ LacksInput a g.value_type))

located_values : (address : Option DirectAddress) (type : DataType)
    → (located_type address type).value_type ≡ type.value_type
located_values address type = by (initial_at address)
  where
    by : (initial : Option Constant) → (unwrap_or (with_initial initial type) type).value_type ≡ type.value_type
    by None = refl
    by (Some constant) = its (value_in type.value_type constant)
      where
        its : (o : Option Value)
            → (unwrap_or (option_map (λ v. record { value_type = type.value_type; initial = v }) o) type).value_type
            ≡ type.value_type
        its None = refl
        its (Some value) = refl

module _ (above : TypeNames) (sound : IsSound above) where
  abbrev Faultless : DeclaredGlobals → Type 0
  Faultless d =
      ((place : ℕ) → ¬ IsUnknownTypeIn above place (as_variables d).declared)
      × ((place : ℕ) → ¬ IsBadIn above place (as_variables d))
      × ((place : ℕ) → ¬ IsBadlyLocatedIn above place d)
      × ((place : ℕ) → ¬ IsInputTooSmallIn above place d)

  abbrev Suits : IlType → DirectAddress → Type 0
  Suits type a = (¬ IsOtherArea a.kind type) × (¬ LacksInput a type)

  suited_at : (address : Option DirectAddress) (specification : Specification) (initial : Option Constant) (n : Name)
      (ns : List Name) → Faultless (declared_together (n ∷ ns) address specification initial)
      → IfSome address (Suits (located_type address (type_of above specification initial)).value_type)
  suited_at None specification initial n ns h = tt
  suited_at (Some a) specification initial n ns h =
      let its = meant above sound specification initial h.0 (λ b. h.1 n.from (b, refl)) in
      let located : DataType = located_type (Some a) (type_of above specification initial) in
      let same : located.value_type ≡ its.type.value_type =
      located_values (Some a) (type_of above specification initial)
      ∙ ap (λ (o : Option DataType). (unwrap_or o truth_values).value_type) its.declared
      in
      subst (λ (t : IlType). Suits t a) (sym same) (
        (λ other. h.2 n.from (there (values_of above specification) its.values (IsOtherArea a.kind) other, refl)),
        (λ lacks. h.3 a.at (there (values_of above specification) its.values (LacksInput a) lacks, refl)),
      )
    where
      there : {t : IlType} (o : Option IlType) → o ≡ Some t → (P : IlType → Type 0) → P t → IsSomeAnd o P
      there o e P p = subst (λ (x : Option IlType). IsSomeAnd x P) (sym e) p

  suited_in : (d : DeclaredGlobals) → Faultless d → All IsSuited (globals_in above d)
  suited_in d h = by d.names refl
    where
      by : (names : List Name) → d.names ≡ names → All IsSuited (map (global d.address (global_type above d)) names)
      by [] e = All-nil IsSuited
      by (n ∷ ns) e =
          All-map IsSuited (global d.address (global_type above d)) (n ∷ ns)
          (λ k x below. suited_at d.address d.specification d.initial n ns
          (subst (λ (names : List Name). Faultless (declared_together names d.address d.specification d.initial)) e h))

  suited : (ds : List DeclaredGlobals)
      → ((place : ℕ) → ¬ SomeOf (λ d. IsUnknownTypeIn above place (as_variables d).declared) ds)
      → ((place : ℕ) → ¬ SomeOf (λ d. IsBadIn above place (as_variables d)) ds)
      → ((place : ℕ) → ¬ SomeOf (IsBadlyLocatedIn above place) ds)
      → ((place : ℕ) → ¬ SomeOf (IsInputTooSmallIn above place) ds)
      → All IsSuited (flat_map (globals_in above) ds)
  suited [] known good located wide = All-nil IsSuited
  suited (d ∷ ds) known good located wide =
      All-append IsSuited (globals_in above d) (flat_map (globals_in above) ds)
      (suited_in d (
        (λ place u. known place (inl u)),
        (λ place b. good place (inl b)),
        (λ place b. located place (inl b)),
        (λ place l. wide place (inl l)),
      ))
      (suited ds (λ place s. known place (inr s)) (λ place s. good place (inr s)) (λ place s. located place (inr s))
      (λ place s. wide place (inr s)))

-- ---- addresses

bound_or_not : (bus number : ℕ) (sources : List BoundSource)
    → SomeOf (IsAt bus number) sources ⊎ (¬ SomeOf (IsAt bus number) sources)
bound_or_not bus number [] = inr (λ s. s)
bound_or_not bus number (source ∷ sources) =
    by (cases_eq source.bus bus) (cases_eq source.number number) (bound_or_not bus number sources)
  where
    by : ((source.bus ≡ bus) ⊎ (¬ (source.bus ≡ bus))) → ((source.number ≡ number) ⊎ (¬ (source.number ≡ number)))
        → (SomeOf (IsAt bus number) sources ⊎ (¬ SomeOf (IsAt bus number) sources)) →
        SomeOf (IsAt bus number) (source ∷ sources) ⊎ (¬ SomeOf (IsAt bus number) (source ∷ sources))
    by (inl b) (inl n) rest = inl (inl (b, n))
    by b n (inl s) = inl (inr s)
    by (inr b) n (inr s) = inr (λ e. elim e [ inl x ↦ b x.0 | inr x ↦ s x ])
    by b (inr n) (inr s) = inr (λ e. elim e [ inl x ↦ n x.1 | inr x ↦ s x ])

-- what is not at fault is there
there_or_not : (wiring : Wiring) (kind : AddressKind) (bus place : ℕ)
    → IsThere wiring kind bus place ⊎ (¬ IsThere wiring kind bus place)
there_or_not wiring OutputByte bus place = by (cases_lt 80 place)
  where
    by : ((80 < place) ⊎ (place ≤ 80)) → (place ≤ 80) ⊎ (¬ (place ≤ 80))
    by (inl l) = inr (λ k. omega arith)
    by (inr l) = inl l
there_or_not wiring InputBit bus place = bound_or_not bus place wiring.sources
there_or_not wiring InputWord bus place =
    by (cases_lt place 128) (cases_lt place 192) (cases_lt place 256) (bound_or_not bus (place - 128) wiring.sources)
    (bound_or_not bus (place - 192) wiring.sources)
  where
    by : ((place < 128) ⊎ (128 ≤ place)) → ((place < 192) ⊎ (192 ≤ place)) → ((place < 256) ⊎ (256 ≤ place))
        → (IsBound wiring bus (place - 128) ⊎ (¬ IsBound wiring bus (place - 128)))
        → (IsBound wiring bus (place - 192) ⊎ (¬ IsBound wiring bus (place - 192))) →
        IsThere wiring InputWord bus place ⊎ (¬ IsThere wiring InputWord bus place)
    by (inl l) m n b c = inl (inl l)
    by (inr l) (inl m) n (inl b) c = inl (inr (place - 128, omega arith, b, inl (omega arith)))
    by (inr l) (inl m) n (inr b) c =
        inr (λ t. elim t [
          | inl x ↦ absurd (omega arith)
          | inr x ↦ elim x.3 [
            | inl e ↦ (let same : x.0 ≡ place - 128 = omega arith in b (subst (IsBound wiring bus) same x.2))
            | inr e ↦ (let low = x.1 in absurd (omega arith))
          ]
        ])
    by (inr l) (inr m) (inl n) b (inl c) = inl (inr (place - 192, omega arith, c, inr (omega arith)))
    by (inr l) (inr m) (inl n) b (inr c) =
        inr (λ t. elim t [
          | inl x ↦ absurd (omega arith)
          | inr x ↦ elim x.3 [
            | inl e ↦ (let low = x.1 in absurd (omega arith))
            | inr e ↦ (let same : x.0 ≡ place - 192 = omega arith in c (subst (IsBound wiring bus) same x.2))
          ]
        ])
    by (inr l) (inr m) (inr n) b c =
        inr (λ t. elim t [
          | inl x ↦ absurd (omega arith)
          | inr x ↦ (let low = x.1 in elim x.3 [ inl e ↦ absurd (omega arith) | inr e ↦ absurd (omega arith) ])
        ])

module _ (wiring : Wiring) where
  abbrev IsConnected : DirectAddress → Type 0
  IsConnected a = (a.bus < wiring.buses) × IsThere wiring a.kind a.bus a.place

  connected_one : (a : DirectAddress) → ((place : ℕ) → ¬ IsBadAddressAt wiring place a) → IsConnected a
  connected_one a h = by (cases_lt a.bus wiring.buses) (there_or_not wiring a.kind a.bus a.place)
    where
      by : ((a.bus < wiring.buses) ⊎ (wiring.buses ≤ a.bus))
          → (IsThere wiring a.kind a.bus a.place ⊎ (¬ IsThere wiring a.kind a.bus a.place)) → IsConnected a
      by (inl b) (inl t) = (b, t)
      by (inr b) t = absurd (h a.at ((λ x. let low = x.0 in absurd (omega arith)), refl))
      by b (inr t) = absurd (h a.at ((λ x. t x.1), refl))

  abbrev IsConnectedGlobal : DeclaredGlobal → Type 0
  IsConnectedGlobal g = IfSome g.address IsConnected

  connected : (gs : List DeclaredGlobal)
      → ((place : ℕ) → ¬ SomeOf (IsBadAddressAt wiring place) (filter_map (λ g. g.address) gs))
      → All IsConnectedGlobal gs
  connected [] h = All-nil IsConnectedGlobal
  connected (g ∷ gs) h = by g.address h (connected gs)
    where
      by : (o : Option DirectAddress)
          → ((place : ℕ) → ¬ SomeOf (IsBadAddressAt wiring place) (cons_option o (filter_map (λ x. x.address) gs)))
          → (((place : ℕ) → ¬ SomeOf (IsBadAddressAt wiring place) (filter_map (λ x. x.address) gs))
          → All IsConnectedGlobal gs) →
          All IsConnectedGlobal (record g { address = o } ∷ gs)
      by None k rest = All-cons IsConnectedGlobal (record g { address = None }) gs tt (rest k)
      by (Some a) k rest =
          All-cons IsConnectedGlobal (record g { address = Some a }) gs (connected_one a (λ place b. k place (inl b)))
          (rest (λ place s. k place (inr s)))

-- ---- all of it

-- a number of the bus and the place is there, and the type suits it
abbrev pub IsSoundAt : Wiring → IlType → DirectAddress → Type 0
IsSoundAt wiring type a =
    (a.bus < wiring.buses) × IsThere wiring a.kind a.bus a.place × (¬ IsOtherArea a.kind type) × (¬ LacksInput a type)

abbrev pub IsSoundGlobal : Wiring → DeclaredGlobal → Type 0
IsSoundGlobal wiring g = IsOf g.initial g.value_type × IfSome g.address (IsSoundAt wiring g.value_type)

both : {X : Type 0} (P Q R : X → Type 0) → ((x : X) → P x → Q x → R x) → (o : Option X) → IfSome o P → IfSome o Q
    → IfSome o R
both P Q R f None p q = tt
both P Q R f (Some x) p q = f x p q

abbrev AreFaultless : Tree → Wiring → Type 0
AreFaultless tree wiring = (place : ℕ) (cause : NameCause) → ¬ IsFaultOfDeclarations tree wiring place cause

types_sound : (tree : Tree) (wiring : Wiring) → AreFaultless tree wiring → IsSound (types_of_text tree)
types_sound tree wiring h =
    subst (λ (ts : List TypeDeclaration). IsSound (types_below (folded tree.text) ts))
    (append-nil (reverse (types_of tree.elements)))
    (sound_below (folded tree.text) tree.elements [] (λ name e. absurd cc) (λ place s. h place Unknown (inl (inl s)))
    (λ place s. h place BadDeclaration (inl (inl s))))

globals_suited : (tree : Tree) (wiring : Wiring) → AreFaultless tree wiring → All IsSuited (globals_of tree)
globals_suited tree wiring h =
    suited (types_of_text tree) (types_sound tree wiring h) (declared_globals_of tree)
    (λ place s. h place Unknown (inl (inr s))) (λ place s. h place BadDeclaration (inl (inr s)))
    (λ place s. h place BadDeclaration (inr (inr (inl s)))) (λ place s. h place InputRangeTooSmall s)

-- each global variable begins with a value of its type, and is located where one of its type may be
pub globals_sound : (tree : Tree) (wiring : Wiring)
    → ((place : ℕ) (cause : NameCause) → ¬ IsFaultOfDeclarations tree wiring place cause)
    → All (IsSoundGlobal wiring) (globals_of tree)
globals_sound tree wiring h k g below =
    let its = get_or (globals_of tree) k g in (
      declared_typed_globals tree k g below,
      both (IsConnected wiring) (λ a. (¬ IsOtherArea a.kind its.value_type) × (¬ LacksInput a its.value_type))
          (IsSoundAt wiring its.value_type) (λ a c s. (c.0, c.1, s.0, s.1)) its.address
          (connected wiring (globals_of tree) (λ place s. h place BadAddress (inl s)) k g below)
          (globals_suited tree wiring h k g below),
    )

-- ---- no address is given twice

abbrev Differs : DirectAddress → DeclaredGlobal → Type 0
Differs a g = IfSome g.address (λ b. ¬ SameAddress a b)

-- two global variables are not located at one address
abbrev pub AreAtOthers : DeclaredGlobal → DeclaredGlobal → Type 0
AreAtOthers one other = IfSome one.address (λ a. IfSome other.address (λ b. ¬ SameAddress a b))

abbrev AtAgain : DirectAddress → DirectAddress → ℕ → Type 0
AtAgain earlier later place = SameAddress earlier later × (place ≡ later.at)

differ : (a : DirectAddress) (gs : List DeclaredGlobal)
    → ((place : ℕ) → ¬ SomeOf (λ b. AtAgain a b place) (filter_map (λ g. g.address) gs)) → All (Differs a) gs
differ a [] h = All-nil (Differs a)
differ a (g ∷ gs) h = by g.address h (differ a gs)
  where
    by : (o : Option DirectAddress)
        → ((place : ℕ) → ¬ SomeOf (λ b. AtAgain a b place) (cons_option o (filter_map (λ x. x.address) gs)))
        → (((place : ℕ) → ¬ SomeOf (λ b. AtAgain a b place) (filter_map (λ x. x.address) gs)) → All (Differs a) gs) →
        All (Differs a) (record g { address = o } ∷ gs)
    by None k rest = All-cons (Differs a) (record g { address = None }) gs tt (rest k)
    by (Some b) k rest =
        All-cons (Differs a) (record g { address = Some b }) gs (λ same. k b.at (inl (same, refl)))
        (rest (λ place s. k place (inr s)))

apart : (gs : List DeclaredGlobal) → ((place : ℕ) → ¬ IsAddressTwice (filter_map (λ g. g.address) gs) place)
    → AllPairs AreAtOthers gs
apart [] h = λ i j d below within. absurd (omega arith)
apart (g ∷ gs) h = by g.address h (apart gs)
  where
    by : (o : Option DirectAddress)
        → ((place : ℕ) → ¬ IsAddressTwice (cons_option o (filter_map (λ x. x.address) gs)) place)
        → (((place : ℕ) → ¬ IsAddressTwice (filter_map (λ x. x.address) gs) place) → AllPairs AreAtOthers gs) →
        AllPairs AreAtOthers (record g { address = o } ∷ gs)
    by None k rest = AllPairs-cons AreAtOthers (record g { address = None }) gs (λ i d below. tt) (rest k)
    by (Some a) k rest =
        AllPairs-cons AreAtOthers (record g { address = Some a }) gs (differ a gs (λ place s. k place (inl s)))
        (rest (λ place s. k place (inr s)))

pub globals_apart : (tree : Tree) (wiring : Wiring)
    → ((place : ℕ) (cause : NameCause) → ¬ IsFaultOfDeclarations tree wiring place cause)
    → AllPairs AreAtOthers (globals_of tree)
globals_apart tree wiring h =
    apart (globals_of tree) (λ place s. h place Twice (inr (inr (inr (inr (inr (inr s)))))))
