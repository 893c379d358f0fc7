-- Two names in the lines of a task have one place exactly where they mean one thing.
use Rattle.std.proofs.Common.{◌≡◌, ℕ, zero, suc, List, [], ◌∷◌, refl, sym, ap, ◌∙◌, subst, inl, inr, ◌⊎◌}
use Rattle.std.specs.Prelude.{⊤, Option, Some, None, IsSomeAnd, slice_get}
use Rattle.std.specs.List.{enumerate_from}
use Rattle.std.proofs.lemmas.Bool.{both_ways}
use Rattle.ilblocks.specs.Ports.{ports_of, spelling}
use Rattle.ilblocks.specs.declared.port.Port.{Port as BlockPort}
use Rattle.ilsource.specs.Names.{SameName, folded}
use Rattle.ilsource.specs.SourceTrees.{Tree}
use Rattle.ilsource.specs.declared.name.Name.{Name}
use Rattle.ilsource.specs.declared.symbol.Symbol.{Symbol}
use Rattle.ilsource.specs.declared.symbol.Symbol.TheVariants.{Variable, Port, Block, Function}
use Rattle.ildeclared.specs.declared.block.DeclaredBlock.{DeclaredBlock}
use Rattle.ildeclared.specs.declared.external.DeclaredExternal.{DeclaredExternal}
use Rattle.ildeclared.specs.declared.global.DeclaredGlobal.{DeclaredGlobal}
use Rattle.ildeclared.specs.declared.variable.DeclaredVariable.{DeclaredVariable}
use Rattle.ilscope.specs.Configured.{globals_of}
use Rattle.ilscope.specs.Declarations.{DeclaredFunction, declared_functions}
use Rattle.ilscope.specs.Tables.{lowered}
use Rattle.ilplan.specs.declared.instance.FunctionBlock.{FunctionBlock}
use Rattle.ilplan.specs.declared.place.Place.{Place}
use Rattle.ilplan.specs.declared.place.Place.TheVariants as places
use Rattle.ilplan.specs.declared.slot.Slot.{Slot}
use Rattle.ilplan.specs.declared.slot.SlotOwner.TheVariants.{Global, Own}
use Rattle.ilscope.specs.SameNames.{same_name}
use Rattle.ilscope.proofs.Lists.{some_at}
use Rattle.ilscope.proofs.SameNames.{same_as}
use Rattle.ilsyms.specs.PlanningSteps.{AreApart, AreOthers}
use Rattle.ilsyms.specs.Tasks.{NamedProgram}
use Rattle.ilsyms.specs.Variables.{blocks_of, function_block, global_slot, own_slot, slots_of}
use Rattle.ilsyms.specs.Placed.{MeanOne, MeanOneBlock, MeanOneVariable, MeansBlock, MeansGlobal, IsPlaceOf, MeansPort}
use Rattle.ilsyms.specs.Placed.{HasExternal, MeansVariable, NameInLines}
use Rattle.ilsyms.proofs.PlacedLists.{one_there, row_is, some_as}
use Rattle.ilsyms.proofs.Names.{AreUnlike}

there_as : {X : Type 0} (P Q : X → Type 0) → ((x : X) → P x → Q x) → (o : Option X) → IsSomeAnd o P → IsSomeAnd o Q
there_as P Q f None h = h
there_as P Q f (Some x) h = f x h

-- a name of what stands in a store
abbrev pub IsStored : Symbol → Type 0
IsStored (Function name) = ⊥
IsStored symbol = ⊤

-- ---- instances with names of their own

module _ (text : List ℕ) where
  no_other : (name : Name) (js : List NamedProgram) (m : ℕ) (j : NamedProgram) → AreOthers text name js
      → slice_get js m ≡ Some j → ¬ SameName text name j.name
  no_other name [] m j o e s = absurd cc
  no_other name (x ∷ js) zero j o e s =
      let same : x ≡ j = cc in
      both_ways (same_name text name x.name) o.0
      (same_as text name x.name (s ∙ ap (λ (y : NamedProgram). folded text y.name) (sym same)))
  no_other name (x ∷ js) (suc m) j o e s = no_other name js m j o.1 e s

  one_instance : (is : List NamedProgram) → AreApart text is → (n m : ℕ) (i j : NamedProgram)
      → slice_get is n ≡ Some i → slice_get is m ≡ Some j → SameName text i.name j.name → n ≡ m
  one_instance [] a n m i j e f s = absurd cc
  one_instance (x ∷ is) a zero zero i j e f s = refl
  one_instance (x ∷ is) a zero (suc m) i j e f s =
      let same : x ≡ i = cc in
      absurd (no_other x.name is m j a.0 f (ap (λ (y : NamedProgram). folded text y.name) same ∙ s))
  one_instance (x ∷ is) a (suc n) zero i j e f s =
      let same : x ≡ j = cc in
      absurd (no_other x.name is n i a.0 e (ap (λ (y : NamedProgram). folded text y.name) same ∙ sym s))
  one_instance (x ∷ is) a (suc n) (suc m) i j e f s = ap suc (one_instance is a.1 n m i j e f s)

module _ (tree : Tree) (is : List NamedProgram) where
  abbrev text : List ℕ
  text = tree.text

  abbrev slots : List Slot
  slots = slots_of tree is

  abbrev blocks : List FunctionBlock
  blocks = blocks_of is

  -- ---- what one of two names that mean one thing means, the other means

  abbrev IsOwnAs : NamedProgram → Slot → Name → DeclaredVariable → Type 0
  IsOwnAs i x name v = SameName text name v.name × (x ≡ own_slot i.name v)

  abbrev IsGlobalAs : Slot → Name → ℕ × DeclaredGlobal → Type 0
  IsGlobalAs x name g = SameName text name g.1.name × (x ≡ global_slot g.0 g.1)

  abbrev IsBlockAs : NamedProgram → FunctionBlock → Name → DeclaredBlock → Type 0
  IsBlockAs i x name b = SameName text name b.name × (x ≡ function_block i.name b)

  global_renamed : (name its : Name) (x : Slot) → SameName text name its → MeansGlobal tree name x
      → MeansGlobal tree its x
  global_renamed name its x e g =
      some_as (IsGlobalAs x name) (IsGlobalAs x its) (λ h p. (sym e ∙ p.0, p.1)) (enumerate_from 0 (globals_of tree)) g

  variable_renamed : (i : NamedProgram) (name its : Name) (x : Slot) → SameName text name its
      → MeansVariable tree i name x → MeansVariable tree i its x
  variable_renamed i name its x e (inl own) =
      inl (some_as (IsOwnAs i x name) (IsOwnAs i x its) (λ v p. (sym e ∙ p.0, p.1)) i.program.variables own)
  variable_renamed i name its x e (inr global) =
      inr (
        some_as (λ (h : DeclaredExternal). SameName text name h.name) (λ h. SameName text its h.name)
            (λ h f. sym e ∙ f) i.program.externals global.0,
        global_renamed name its x e global.1,
      )

  port_renamed : (name its : Name) (number : ℕ) (b : FunctionBlock) → SameName text name its
      → MeansPort text name number b → MeansPort text its number b
  port_renamed name its number b e h =
      there_as (λ (p : BlockPort). folded text name ≡ lowered (spelling p.name))
      (λ p. folded text its ≡ lowered (spelling p.name)) (λ p f. sym e ∙ f) (slice_get (ports_of b.kind) number) h

  module _ (one other : NameInLines is) where
    its_instance : one.number ≡ other.number → one.instance ≡ other.instance
    its_instance e = one_there is one.number other.number one.instance other.instance one.there other.there e

    variable_moved : AreUnlike text one.instance.program → (name its : Name) → MeanOneVariable text one other name its
        → (x : Slot) → MeansVariable tree one.instance name x → MeansVariable tree other.instance its x
    variable_moved unlike name its same x h = by same.1 h
      where
        by : (one.number ≡ other.number)
            ⊎ (HasExternal text one.instance.program name × HasExternal text other.instance.program its)
            → MeansVariable tree one.instance name x → MeansVariable tree other.instance its x
        by (inl e) h =
            subst (λ (i : NamedProgram). MeansVariable tree i its x) (its_instance e)
            (variable_renamed one.instance name its x same.0 h)
        by (inr shared) (inl own) =
            absurd (unlike name
            (some_as (IsOwnAs one.instance x name) (λ v. SameName text name v.name) (λ v p. p.0)
            one.instance.program.variables own)
            shared.0)
        by (inr shared) (inr global) = inr (shared.1, global_renamed name its x same.0 global.1)

    block_moved : (name its : Name) → MeanOneBlock text one other name its → (x : FunctionBlock)
        → MeansBlock text one.instance name x → MeansBlock text other.instance its x
    block_moved name its same x h =
        subst (λ (i : NamedProgram). MeansBlock text i its x) (its_instance same.1)
        (some_as (IsBlockAs one.instance x name) (IsBlockAs one.instance x its) (λ b p. (sym same.0 ∙ p.0, p.1))
        one.instance.program.blocks h)

    pub moved : AreUnlike text one.instance.program → (s r : Symbol) → IsStored s → MeanOne text one other s r
        → (p : Place) → IsPlaceOf tree is one.instance s p → IsPlaceOf tree is other.instance r p
    moved unlike (Variable name) (Variable its) stored same (places.Slot k) a =
        there_as (MeansVariable tree one.instance name) (MeansVariable tree other.instance its)
        (λ x h. variable_moved unlike name its same x h) (slice_get slots k) a
    moved unlike (Port block port) (Port its_block its) stored same (places.Port k m) a =
        there_as (λ (x : FunctionBlock). MeansBlock text one.instance block x × MeansPort text port m x)
        (λ x. MeansBlock text other.instance its_block x × MeansPort text its m x)
        (λ x h. (block_moved block its_block same.0 x h.0, port_renamed port its m x same.1 h.1)) (slice_get blocks k) a
    moved unlike (Block name) (Block its) stored same (places.Block k) a =
        there_as (MeansBlock text one.instance name) (MeansBlock text other.instance its)
        (λ x h. block_moved name its same x h) (slice_get blocks k) a
    moved unlike (Variable name) (Variable its) stored same (places.Port k m) a = absurd a
    moved unlike (Variable name) (Variable its) stored same (places.Block k) a = absurd a
    moved unlike (Port block port) (Port its_block its) stored same (places.Slot k) a = absurd a
    moved unlike (Port block port) (Port its_block its) stored same (places.Block k) a = absurd a
    moved unlike (Block name) (Block its) stored same (places.Slot k) a = absurd a
    moved unlike (Block name) (Block its) stored same (places.Port k m) a = absurd a
    moved unlike (Variable name) (Port block port) stored same p a = absurd same
    moved unlike (Variable name) (Block its) stored same p a = absurd same
    moved unlike (Port block port) (Variable its) stored same p a = absurd same
    moved unlike (Port block port) (Block its) stored same p a = absurd same
    moved unlike (Block name) (Variable its) stored same p a = absurd same
    moved unlike (Block name) (Port block port) stored same p a = absurd same
    moved unlike (Variable name) (Variable its) stored same (places.Function k) a = absurd a
    moved unlike (Port block port) (Port its_block its) stored same (places.Function k) a = absurd a
    moved unlike (Block name) (Block its) stored same (places.Function k) a = absurd a
    moved unlike (Variable name) (Function its) stored same p a = absurd same
    moved unlike (Port block port) (Function its) stored same p a = absurd same
    moved unlike (Block name) (Function its) stored same p a = absurd same
    moved unlike (Function name) r stored same p a = absurd stored

  -- ---- what stands at one place is one thing

  module _ (apart : AreApart text is) (one other : NameInLines is) where
    abbrev i : NamedProgram
    i = one.instance

    abbrev j : NamedProgram
    j = other.instance

    one_number : SameName text i.name j.name → one.number ≡ other.number
    one_number s = one_instance text is apart one.number other.number i j one.there other.there s

    one_variable : (name its : Name) (s : Slot) → MeansVariable tree i name s → MeansVariable tree j its s
        → MeanOneVariable text one other name its
    one_variable name its s (inl a) (inl b) =
        let v = some_at _ i.program.variables a in
        let w = some_at _ j.program.variables b in
        let owner : Own i.name v.1.name ≡ Own j.name w.1.name =
        ap (λ (x : Slot). x.variable) (sym v.3.1 ∙ w.3.1) in
        let instance : i.name ≡ j.name = cc in
        let names : v.1.name ≡ w.1.name = cc in
        (v.3.0 ∙ ap (folded text) names ∙ sym w.3.0, inl (one_number (ap (folded text) instance)))
    one_variable name its s (inl a) (inr b) =
        let v = some_at _ i.program.variables a in
        let w = some_at _ (enumerate_from 0 (globals_of tree)) b.1 in
        let owner : Own i.name v.1.name ≡ Global w.1.0 = ap (λ (x : Slot). x.variable) (sym v.3.1 ∙ w.3.1) in
        absurd cc
    one_variable name its s (inr a) (inl b) =
        let v = some_at _ (enumerate_from 0 (globals_of tree)) a.1 in
        let w = some_at _ j.program.variables b in
        let owner : Global v.1.0 ≡ Own j.name w.1.name = ap (λ (x : Slot). x.variable) (sym v.3.1 ∙ w.3.1) in
        absurd cc
    one_variable name its s (inr a) (inr b) =
        let v = some_at _ (enumerate_from 0 (globals_of tree)) a.1 in
        let w = some_at _ (enumerate_from 0 (globals_of tree)) b.1 in
        let owner : Global v.1.0 ≡ Global w.1.0 = ap (λ (x : Slot). x.variable) (sym v.3.1 ∙ w.3.1) in
        let number : v.1.0 ≡ w.1.0 = cc in
        let its_v = row_is (globals_of tree) v.0 v.1 v.2 in
        let its_w = row_is (globals_of tree) w.0 w.1 w.2 in
        let same : v.1.1 ≡ w.1.1 =
        one_there (globals_of tree) v.0 w.0 v.1.1 w.1.1 its_v.1 its_w.1 (its_v.0 ∙ number ∙ sym its_w.0) in
        (v.3.0 ∙ ap (λ (g : DeclaredGlobal). folded text g.name) same ∙ sym w.3.0, inr (a.0, b.0))

    one_block : (name its : Name) (b : FunctionBlock) → MeansBlock text i name b → MeansBlock text j its b
        → MeanOneBlock text one other name its
    one_block name its b s r =
        let v = some_at _ i.program.blocks s in
        let w = some_at _ j.program.blocks r in
        let both : function_block i.name v.1 ≡ function_block j.name w.1 = sym v.3.1 ∙ w.3.1 in (
          v.3.0 ∙ ap (λ (x : FunctionBlock). folded text x.name) both ∙ sym w.3.0,
          one_number (ap (λ (x : FunctionBlock). folded text x.instance) both),
        )

    one_port : (name its : Name) (number : ℕ) (b : FunctionBlock) → MeansPort text name number b
        → MeansPort text its number b → SameName text name its
    one_port name its number b p q = by (slice_get (ports_of b.kind) number) p q
      where
        by : (o : Option BlockPort) → IsSomeAnd o (λ port. folded text name ≡ lowered (spelling port.name))
            → IsSomeAnd o (λ port. folded text its ≡ lowered (spelling port.name)) → SameName text name its
        by None p q = absurd p
        by (Some port) p q = p ∙ sym q

    variables_at : (name its : Name) (o : Option Slot) → IsSomeAnd o (MeansVariable tree i name)
        → IsSomeAnd o (MeansVariable tree j its) → MeanOneVariable text one other name its
    variables_at name its None a b = absurd a
    variables_at name its (Some s) a b = one_variable name its s a b

    blocks_at : (name its : Name) (o : Option FunctionBlock) → IsSomeAnd o (MeansBlock text i name)
        → IsSomeAnd o (MeansBlock text j its) → MeanOneBlock text one other name its
    blocks_at name its None a b = absurd a
    blocks_at name its (Some x) a b = one_block name its x a b

    ports_at : (block port its_block its : Name) (number : ℕ) (o : Option FunctionBlock)
        → IsSomeAnd o (λ x. MeansBlock text i block x × MeansPort text port number x)
        → IsSomeAnd o (λ x. MeansBlock text j its_block x × MeansPort text its number x)
        → MeanOneBlock text one other block its_block × SameName text port its
    ports_at block port its_block its number None a b = absurd a
    ports_at block port its_block its number (Some x) a b =
        (one_block block its_block x a.0 b.0, one_port port its number x a.1 b.1)

    functions_at : (name its : Name) (o : Option DeclaredFunction)
        → IsSomeAnd o (λ f. SameName text name f.function.name) → IsSomeAnd o (λ f. SameName text its f.function.name)
        → SameName text name its
    functions_at name its None a b = absurd a
    functions_at name its (Some f) a b = a ∙ sym b

    pub one_thing : (s r : Symbol) (p : Place) → IsPlaceOf tree is i s p → IsPlaceOf tree is j r p
        → MeanOne text one other s r
    one_thing (Variable name) (Variable its) (places.Slot k) a b = variables_at name its (slice_get slots k) a b
    one_thing (Port block port) (Port its_block its) (places.Port k number) a b =
        ports_at block port its_block its number (slice_get blocks k) a b
    one_thing (Block name) (Block its) (places.Block k) a b = blocks_at name its (slice_get blocks k) a b
    one_thing (Function name) (Function its) (places.Function k) a b =
        functions_at name its (slice_get (declared_functions tree) k) a.1 b.1
    one_thing (Variable name) (Port block port) (places.Slot k) a b = absurd b
    one_thing (Variable name) (Block its) (places.Slot k) a b = absurd b
    one_thing (Variable name) r (places.Port k number) a b = absurd a
    one_thing (Variable name) r (places.Block k) a b = absurd a
    one_thing (Port block port) (Variable its) (places.Port k number) a b = absurd b
    one_thing (Port block port) (Block its) (places.Port k number) a b = absurd b
    one_thing (Port block port) r (places.Slot k) a b = absurd a
    one_thing (Port block port) r (places.Block k) a b = absurd a
    one_thing (Block name) (Variable its) (places.Block k) a b = absurd b
    one_thing (Block name) (Port block port) (places.Block k) a b = absurd b
    one_thing (Block name) r (places.Slot k) a b = absurd a
    one_thing (Block name) r (places.Port k number) a b = absurd a
    one_thing (Variable name) (Function its) (places.Slot k) a b = absurd b
    one_thing (Variable name) r (places.Function k) a b = absurd a
    one_thing (Port block port) (Function its) (places.Port k number) a b = absurd b
    one_thing (Port block port) r (places.Function k) a b = absurd a
    one_thing (Block name) (Function its) (places.Block k) a b = absurd b
    one_thing (Block name) r (places.Function k) a b = absurd a
    one_thing (Function name) (Variable its) (places.Function k) a b = absurd b
    one_thing (Function name) (Port block port) (places.Function k) a b = absurd b
    one_thing (Function name) (Block its) (places.Function k) a b = absurd b
    one_thing (Function name) r (places.Slot k) a b = absurd a
    one_thing (Function name) r (places.Port k number) a b = absurd a
    one_thing (Function name) r (places.Block k) a b = absurd a
