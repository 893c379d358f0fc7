-- In a well-named text each variable, each block instance and each port stands at one place only.
use Rattle.std.proofs.Common.{◌≡◌, ℕ, ◌+◌, ◌≤◌, List, [], ◌∷◌, map, Bool, true, false, not, ◌&&◌, refl, sym, ap}
use Rattle.std.proofs.Common.{◌∙◌, subst, arith, inl, inr}
use Rattle.std.specs.Prelude.{Option, Some, None, IsSomeAnd, slice_get, bytes_eq, filter_map, flat_map, if◌then◌else◌}
use Rattle.std.specs.List.{AllByRecursion, cons_option, enumerate_from, list_any}
use Rattle.std.proofs.lemmas.Bool.{and_parts, both_ways, not-true}
use Rattle.std.proofs.lemmas.Slice.Eq.{bytes_eq-Decides}
use Rattle.ilblocks.specs.Ports.{ports_of, spelling}
use Rattle.ilblocks.specs.declared.kind.BlockKind.{BlockKind}
use Rattle.ilblocks.specs.declared.kind.BlockKind.TheVariants as kinds
use Rattle.ilblocks.specs.declared.port.Port.{Port as BlockPort}
use Rattle.ilsource.specs.Names.{SameName, folded}
use Rattle.ilsource.specs.SourceTrees.{Tree}
use Rattle.ilsource.specs.declared.name.Name.{Name}
use Rattle.ilsource.specs.declared.symbol.Symbol.{Symbol}
use Rattle.ilsource.specs.declared.symbol.Symbol.TheVariants.{Variable, Port, Block, Function}
use Rattle.ildeclared.specs.Faults.{SomeLater, SomeOf}
use Rattle.ildeclared.specs.declared.block.DeclaredBlock.{DeclaredBlock}
use Rattle.ildeclared.specs.declared.global.DeclaredGlobal.{DeclaredGlobal}
use Rattle.ildeclared.specs.declared.variable.DeclaredVariable.{DeclaredVariable}
use Rattle.ildeclared.proofs.FoundOrder.{or_else}
use Rattle.ilscope.specs.Configured.{globals_of}
use Rattle.ilscope.specs.Declarations.{DeclaredFunction, declared_functions}
use Rattle.ilscope.specs.Tables.{lowered}
use Rattle.ilplan.specs.declared.instance.FunctionBlock.{FunctionBlock}
use Rattle.ilplan.specs.declared.place.Place.{Place}
use Rattle.ilplan.specs.declared.place.Place.TheVariants as places
use Rattle.ilplan.specs.declared.slot.Slot.{Slot}
use Rattle.ilplan.specs.declared.slot.SlotOwner.{SlotOwner}
use Rattle.ilplan.specs.declared.slot.SlotOwner.TheVariants.{Global, Own}
use Rattle.ilscope.specs.SameNames.{same_name}
use Rattle.ilscope.proofs.Lists.{some_at}
use Rattle.ilscope.proofs.SameNames.{same_as}
use Rattle.ilsyms.specs.PlanningSteps.{AreApart, AreOthers}
use Rattle.ilsyms.specs.Tasks.{NamedProgram}
use Rattle.ilsyms.specs.Variables.{blocks_of, function_block, global_slot, global_slots, is_named, named_slot}
use Rattle.ilsyms.specs.Variables.{own_slot, own_slots, slots_of}
use Rattle.ilsyms.specs.Placed.{IsPlaceOf, MeansBlock, MeansOwn, MeansPort, MeansVariable}
use Rattle.ilsyms.proofs.PlacedLists.{each_as, each_at, one_there, row_is, some_as, some_made, some_parts, some_passes}
use Rattle.ilsyms.proofs.Names.{HasVariable, IsUnambiguous}
use Rattle.ilsyms.proofs.Pairs.{later_as, later_made, later_parts, made_later, one_number}

-- ---- ports

abbrev differ : List (List ℕ) → Bool
differ [] = true
differ (x ∷ xs) = not (list_any (bytes_eq x) xs) && differ xs

all_differ : (xs : List (List ℕ)) → differ xs ≡ true → ¬ SomeLater (λ x y. x ≡ y) xs
all_differ [] e s = s
all_differ (x ∷ xs) e (inl s) =
    let parts = and_parts (not (list_any (bytes_eq x) xs)) (differ xs) e in
    both_ways (list_any (bytes_eq x) xs) (not-true (list_any (bytes_eq x) xs) parts.0)
    (some_passes (λ y. x ≡ y) (bytes_eq x) (λ y. (bytes_eq-Decides x y).1) xs s)
all_differ (x ∷ xs) e (inr s) =
    let parts = and_parts (not (list_any (bytes_eq x) xs)) (differ xs) e in
    all_differ xs parts.1 s

abbrev spelled : BlockPort → List ℕ
spelled port = lowered (spelling port.name)

ports_differ : (kind : BlockKind) → differ (map spelled (ports_of kind)) ≡ true
ports_differ kinds.RTrig = refl
ports_differ kinds.Ctu = refl
ports_differ kinds.Ton = refl
ports_differ kinds.GearLevel = refl
ports_differ kinds.GearDo = refl
ports_differ kinds.GearSet = refl
ports_differ kinds.GearPair = refl
ports_differ kinds.GearAsk = refl
ports_differ kinds.GearRead = refl
ports_differ kinds.DevDo = refl
ports_differ kinds.DevScheme = refl
ports_differ kinds.DevAsk = refl

-- the element that an option has
found : {X : Type 0} (P : X → Type 0) (o : Option X) → IsSomeAnd o P → (x : X) × (o ≡ Some x) × P x
found P None h = absurd h
found P (Some x) h = (x, refl, h)

one_port : (text : List ℕ) (name : Name) (b : FunctionBlock) (k l : ℕ) → MeansPort text name k b
    → MeansPort text name l b → k ≡ l
one_port text name b k l h g =
    let p = found (λ (x : BlockPort). folded text name ≡ spelled x) (slice_get (ports_of b.kind) k) h in
    let q = found (λ (x : BlockPort). folded text name ≡ spelled x) (slice_get (ports_of b.kind) l) g in
    one_number (λ x y. spelled x ≡ spelled y) (λ x y e. sym e) (ports_of b.kind)
    (λ s. all_differ (map spelled (ports_of b.kind)) (ports_differ b.kind)
    (made_later spelled (λ x y. x ≡ y) (ports_of b.kind) s))
    k l p.0 q.0 p.1 q.1 (sym p.2 ∙ q.2)

-- ---- what instances with names of their own have, one instance after another

module _ (text : List ℕ) {X E : Type 0} (parts : NamedProgram → List X) (made : NamedProgram → X → E)
    (name_of : X → Name) (R : E → E → Type 0)
    (names : (i j : NamedProgram) (x y : X) → R (made i x) (made j y)
    → SameName text i.name j.name × SameName text (name_of x) (name_of y)) where
  abbrev all_of : List NamedProgram → List E
  all_of is = flat_map (λ i. map (made i) (parts i)) is

  others : (i : NamedProgram) (x : X) (js : List NamedProgram) → AreOthers text i.name js
      → ¬ SomeOf (R (made i x)) (all_of js)
  others i x [] o s = s
  others i x (j ∷ js) o s =
      or_else
      (λ l. let y = some_at _ (parts j) (some_made (made j) (R (made i x)) (parts j) l) in
      both_ways (same_name text i.name j.name) o.0 (same_as text i.name j.name (names i j x y.1 y.3).0))
      (λ r. others i x js o.1 r)
      (some_parts (R (made i x)) (map (made j) (parts j)) (all_of js) s)

  once : (is : List NamedProgram) → AreApart text is
      → AllByRecursion (λ i. ¬ SomeLater (λ x y. SameName text (name_of x) (name_of y)) (parts i)) is
      → ¬ SomeLater R (all_of is)
  once [] a u s = s
  once (i ∷ is) a u s =
      or_else
      (λ l. u.0 (later_as (λ x y. R (made i x) (made i y)) (λ x y. SameName text (name_of x) (name_of y))
      (λ x y r. (names i i x y r).1) (parts i) (later_made (made i) R (parts i) l)))
      (λ r. or_else
      (λ m. once is a.1 u.1 m)
      (λ c. let x = some_at _ (parts i) (some_made (made i) (λ e. SomeOf (R e) (all_of is)) (parts i) c) in
      others i x.1 is a.0 x.3)
      r)
      (later_parts R (map (made i) (parts i)) (all_of is) s)

-- ---- slots

module _ (text : List ℕ) where
  -- two variables are one
  abbrev AreOneOwner : SlotOwner → SlotOwner → Type 0
  AreOneOwner (Own i a) (Own j b) = SameName text i j × SameName text a b
  AreOneOwner (Global n) (Global m) = n ≡ m
  AreOneOwner _ _ = ⊥

  abbrev AreOneSlot : Slot → Slot → Type 0
  AreOneSlot s r = AreOneOwner s.variable r.variable

  turned : (o p : SlotOwner) → AreOneOwner o p → AreOneOwner p o
  turned (Own i a) (Own j b) e = (sym e.0, sym e.1)
  turned (Global n) (Global m) e = sym e
  turned (Own i a) (Global m) e = absurd e
  turned (Global n) (Own j b) e = absurd e

  abbrev AreOneFunctionBlock : FunctionBlock → FunctionBlock → Type 0
  AreOneFunctionBlock b c = SameName text b.instance c.instance × SameName text b.name c.name

  no_own : (n : ℕ) (js : List NamedProgram) → ¬ SomeOf (λ r. AreOneOwner (Global n) r.variable) (own_slots js)
  no_own n [] s = s
  no_own n (j ∷ js) s =
      or_else
      (λ l. let v = some_at _ j.program.variables (some_made (own_slot j.name)
      (λ (r : Slot). AreOneOwner (Global n) r.variable) j.program.variables l) in v.3)
      (λ r. no_own n js r)
      (some_parts (λ (r : Slot). AreOneOwner (Global n) r.variable)
      (map (own_slot j.name) j.program.variables) (own_slots js) s)

module _ (tree : Tree) (is : List NamedProgram) where
  abbrev text : List ℕ
  text = tree.text

  abbrev rows : ℕ → List DeclaredGlobal → List Slot
  rows from gs = filter_map (named_slot tree is) (enumerate_from from gs)

  above : (n from : ℕ) (gs : List DeclaredGlobal) → SomeOf (λ s. AreOneOwner text (Global n) s.variable) (rows from gs)
      → from ≤ n
  above n from [] s = absurd s
  above n from (g ∷ gs) s = by (λ r. above n (from + 1) gs r) (is_named tree is from) s
    where
      by : (SomeOf (λ s. AreOneOwner text (Global n) s.variable) (rows (from + 1) gs) → from + 1 ≤ n) → (b : Bool)
          → SomeOf (λ s. AreOneOwner text (Global n) s.variable)
          (cons_option (if b then Some (global_slot from g) else None) (rows (from + 1) gs))
          → from ≤ n
      by rest true (inl e) = omega (arith, e)
      by rest true (inr s) = omega (arith, rest s)
      by rest false s = omega (arith, rest s)

  global_once : (from : ℕ) (gs : List DeclaredGlobal) → ¬ SomeLater (AreOneSlot text) (rows from gs)
  global_once from [] s = s
  global_once from (g ∷ gs) s = by (λ r. global_once (from + 1) gs r) (is_named tree is from) s
    where
      by : ¬ SomeLater (AreOneSlot text) (rows (from + 1) gs) → (b : Bool)
          → ¬ SomeLater (AreOneSlot text)
          (cons_option (if b then Some (global_slot from g) else None) (rows (from + 1) gs))
      by rest true (inl s) = absurd (omega (arith, above from (from + 1) gs s))
      by rest true (inr s) = rest s
      by rest false s = rest s

  -- a global variable that is one with some of other slots
  crossed : (others_slots : List Slot) (from : ℕ) (gs : List DeclaredGlobal)
      → SomeOf (λ s. SomeOf (AreOneSlot text s) others_slots) (rows from gs)
      → (n : ℕ) × SomeOf (λ r. AreOneOwner text (Global n) r.variable) others_slots
  crossed others_slots from [] s = absurd s
  crossed others_slots from (g ∷ gs) s = by (λ r. crossed others_slots (from + 1) gs r) (is_named tree is from) s
    where
      by : (SomeOf (λ s. SomeOf (AreOneSlot text s) others_slots) (rows (from + 1) gs)
          → (n : ℕ) × SomeOf (λ r. AreOneOwner text (Global n) r.variable) others_slots)
          → (b : Bool)
          → SomeOf (λ s. SomeOf (AreOneSlot text s) others_slots)
          (cons_option (if b then Some (global_slot from g) else None) (rows (from + 1) gs))
          → (n : ℕ) × SomeOf (λ r. AreOneOwner text (Global n) r.variable) others_slots
      by rest true (inl s) = (from, s)
      by rest true (inr s) = rest s
      by rest false s = rest s

  module _ (apart : AreApart text is) (unambiguous : AllByRecursion (λ i. IsUnambiguous text i.program) is)
      (globals : ¬ SomeLater (λ g h. SameName text g.name h.name) (globals_of tree))
      (functions : ¬ SomeLater (λ f g. SameName text f.function.name g.function.name) (declared_functions tree)) where
    slots_once : ¬ SomeLater (AreOneSlot text) (slots_of tree is)
    slots_once s =
        or_else
        (λ l. global_once 0 (globals_of tree) l)
        (λ r. or_else
        (λ m. once text (λ (i : NamedProgram). i.program.variables) (λ (i : NamedProgram). own_slot i.name)
        (λ (v : DeclaredVariable). v.name) (AreOneSlot text) (λ i j x y e. e) is apart
        (each_as (λ i. IsUnambiguous text i.program)
        (λ i. ¬ SomeLater (λ v w. SameName text v.name w.name) i.program.variables) (λ i u. u.variables) is
        unambiguous) m)
        (λ c. let both = crossed (own_slots is) 0 (globals_of tree) c in no_own text both.0 is both.1)
        r)
        (later_parts (AreOneSlot text) (global_slots tree is) (own_slots is) s)

    blocks_once : ¬ SomeLater (AreOneFunctionBlock text) (blocks_of is)
    blocks_once s =
        once text (λ (i : NamedProgram). i.program.blocks) (λ (i : NamedProgram). function_block i.name)
        (λ (b : DeclaredBlock). b.name) (AreOneFunctionBlock text) (λ i j x y e. e) is apart
        (each_as (λ i. IsUnambiguous text i.program)
        (λ i. ¬ SomeLater (λ b c. SameName text b.name c.name) i.program.blocks) (λ i u. u.blocks) is unambiguous)
        s

    module _ (n : ℕ) (i : NamedProgram) (there : slice_get is n ≡ Some i) where
      its : IsUnambiguous text i.program
      its = each_at (λ (j : NamedProgram). IsUnambiguous text j.program) is n i unambiguous there

      own_is : (name : Name) (s : Slot) → MeansOwn text i name s → HasVariable text i.program name
      own_is name s h =
          some_as (λ (v : DeclaredVariable). SameName text name v.name × (s ≡ own_slot i.name v))
          (λ v. SameName text name v.name) (λ v e. e.0) i.program.variables h

      one_variable : (name : Name) (x y : Slot) → MeansVariable tree i name x → MeansVariable tree i name y
          → AreOneSlot text x y
      one_variable name x y (inl a) (inl b) =
          let v = some_at _ i.program.variables a in
          let w = some_at _ i.program.variables b in
          subst (λ (s : Slot). AreOneSlot text s y) (sym v.3.1)
          (subst (λ (r : Slot). AreOneSlot text (own_slot i.name v.1) r) (sym w.3.1) (refl, sym v.3.0 ∙ w.3.0))
      one_variable name x y (inl a) (inr b) = absurd (its.unlike name (own_is name x a) b.0)
      one_variable name x y (inr a) (inl b) = absurd (its.unlike name (own_is name y b) a.0)
      one_variable name x y (inr a) (inr b) =
          let v = some_at _ (enumerate_from 0 (globals_of tree)) a.1 in
          let w = some_at _ (enumerate_from 0 (globals_of tree)) b.1 in
          let its_v = row_is (globals_of tree) v.0 v.1 v.2 in
          let its_w = row_is (globals_of tree) w.0 w.1 w.2 in
          let same = one_number (λ (g h : DeclaredGlobal). SameName text g.name h.name) (λ g h e. sym e)
          (globals_of tree) globals v.0 w.0 v.1.1 w.1.1 its_v.1 its_w.1 (sym v.3.0 ∙ w.3.0) in
          subst (λ (s : Slot). AreOneSlot text s y) (sym v.3.1)
          (subst (λ (r : Slot). AreOneSlot text (global_slot v.1.0 v.1.1) r) (sym w.3.1)
          (sym its_v.0 ∙ same ∙ its_w.0))

      one_slot : (name : Name) (k l : ℕ) → IsSomeAnd (slice_get (slots_of tree is) k) (MeansVariable tree i name)
          → IsSomeAnd (slice_get (slots_of tree is) l) (MeansVariable tree i name) → k ≡ l
      one_slot name k l a b =
          let x = found (MeansVariable tree i name) (slice_get (slots_of tree is) k) a in
          let y = found (MeansVariable tree i name) (slice_get (slots_of tree is) l) b in
          one_number (AreOneSlot text) (λ s r. turned text s.variable r.variable) (slots_of tree is) slots_once k l x.0
          y.0 x.1 y.1 (one_variable name x.0 y.0 x.2 y.2)

      one_block : (name : Name) (k l : ℕ) (x y : FunctionBlock) → slice_get (blocks_of is) k ≡ Some x
          → slice_get (blocks_of is) l ≡ Some y → MeansBlock text i name x → MeansBlock text i name y → k ≡ l
      one_block name k l x y e f a b =
          let v = some_at _ i.program.blocks a in
          let w = some_at _ i.program.blocks b in
          one_number (AreOneFunctionBlock text) (λ s r p. (sym p.0, sym p.1)) (blocks_of is) blocks_once k l x y e f
          (subst (λ (s : FunctionBlock). AreOneFunctionBlock text s y) (sym v.3.1)
          (subst (λ (r : FunctionBlock). AreOneFunctionBlock text (function_block i.name v.1) r) (sym w.3.1)
          (refl, sym v.3.0 ∙ w.3.0)))

      blocks_at : (name : Name) (k l : ℕ) → IsSomeAnd (slice_get (blocks_of is) k) (MeansBlock text i name)
          → IsSomeAnd (slice_get (blocks_of is) l) (MeansBlock text i name) → k ≡ l
      blocks_at name k l a b =
          let x = found (MeansBlock text i name) (slice_get (blocks_of is) k) a in
          let y = found (MeansBlock text i name) (slice_get (blocks_of is) l) b in
          one_block name k l x.0 y.0 x.1 y.1 x.2 y.2

      abbrev HasPort : Name → Name → ℕ → FunctionBlock → Type 0
      HasPort block port number x = MeansBlock text i block x × MeansPort text port number x

      ports_at : (block port : Name) (k l a b : ℕ) → IsSomeAnd (slice_get (blocks_of is) k) (HasPort block port a)
          → IsSomeAnd (slice_get (blocks_of is) l) (HasPort block port b) → (k ≡ l) × (a ≡ b)
      ports_at block port k l a b p q =
          let x = found (HasPort block port a) (slice_get (blocks_of is) k) p in
          let y = found (HasPort block port b) (slice_get (blocks_of is) l) q in
          let number = one_block block k l x.0 y.0 x.1 y.1 x.2.0 y.2.0 in
          let same = one_there (blocks_of is) k l x.0 y.0 x.1 y.1 number in (
            number,
            one_port text port x.0 a b x.2.1 (subst (λ (z : FunctionBlock). MeansPort text port b z) (sym same)
                y.2.1),
          )

      functions_at : (name : Name) (k l : ℕ)
          → IsSomeAnd (slice_get (declared_functions tree) k) (λ f. SameName text name f.function.name)
          → IsSomeAnd (slice_get (declared_functions tree) l) (λ f. SameName text name f.function.name) → k ≡ l
      functions_at name k l a b =
          let has_name : DeclaredFunction → Type 0 = λ f. SameName text name f.function.name in
          let x = found has_name (slice_get (declared_functions tree) k) a in
          let y = found has_name (slice_get (declared_functions tree) l) b in
          one_number (λ (f g : DeclaredFunction). SameName text f.function.name g.function.name) (λ f g e. sym e)
          (declared_functions tree) functions k l x.0 y.0 x.1 y.1 (sym x.2 ∙ y.2)

      pub one_place : (s : Symbol) (p q : Place) → IsPlaceOf tree is i s p → IsPlaceOf tree is i s q → p ≡ q
      one_place (Variable name) (places.Slot k) (places.Slot l) a b = ap places.Slot (one_slot name k l a b)
      one_place (Port block port) (places.Port k m) (places.Port l n) a b =
          let same = ports_at block port k l m n a b in λ z. places.Port (same.0 z) (same.1 z)
      one_place (Block name) (places.Block k) (places.Block l) a b = ap places.Block (blocks_at name k l a b)
      one_place (Function name) (places.Function k) (places.Function l) a b =
          ap places.Function (functions_at name k l a.1 b.1)
      one_place (Variable name) (places.Port k m) q a b = absurd a
      one_place (Variable name) (places.Block k) q a b = absurd a
      one_place (Variable name) (places.Slot k) (places.Port l n) a b = absurd b
      one_place (Variable name) (places.Slot k) (places.Block l) a b = absurd b
      one_place (Port block port) (places.Slot k) q a b = absurd a
      one_place (Port block port) (places.Block k) q a b = absurd a
      one_place (Port block port) (places.Port k m) (places.Slot l) a b = absurd b
      one_place (Port block port) (places.Port k m) (places.Block l) a b = absurd b
      one_place (Block name) (places.Slot k) q a b = absurd a
      one_place (Block name) (places.Port k m) q a b = absurd a
      one_place (Block name) (places.Block k) (places.Slot l) a b = absurd b
      one_place (Block name) (places.Block k) (places.Port l n) a b = absurd b
      one_place (Variable name) (places.Function k) q a b = absurd a
      one_place (Variable name) (places.Slot k) (places.Function l) a b = absurd b
      one_place (Port block port) (places.Function k) q a b = absurd a
      one_place (Port block port) (places.Port k m) (places.Function l) a b = absurd b
      one_place (Block name) (places.Function k) q a b = absurd a
      one_place (Block name) (places.Block k) (places.Function l) a b = absurd b
      one_place (Function name) (places.Slot k) q a b = absurd a
      one_place (Function name) (places.Port k m) q a b = absurd a
      one_place (Function name) (places.Block k) q a b = absurd a
      one_place (Function name) (places.Function k) (places.Slot l) a b = absurd b
      one_place (Function name) (places.Function k) (places.Port l n) a b = absurd b
      one_place (Function name) (places.Function k) (places.Block l) a b = absurd b
