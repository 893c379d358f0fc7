-- What stands at the place of a name in the store of a task's instances, where these have names of their own.
use Rattle.std.proofs.Common.{◌≡◌, ℕ, zero, suc, ◌+◌, List, [], ◌∷◌, ◌++◌, take, drop, Bool, true, false, refl, sym, ap}
use Rattle.std.proofs.Common.{◌∙◌, subst, arith, inl, inr, ◌⊎◌}
use Rattle.std.specs.Prelude.{Option, Some, None, IsSomeAnd, slice_get, option_map, option_and_then, unwrap_or}
use Rattle.std.specs.Prelude.{bytes_eq, filter_map, get_or, ◌==◌}
use Rattle.std.specs.List.{cons_option, enumerate_from, list_any, position, position_or_len}
use Rattle.std.specs.Option.{option_map_or}
use Rattle.std.proofs.lemmas.Bool.{both_ways, eq-eqb, ne_eqb}
use Rattle.std.proofs.lemmas.List.Quantifiers.{position-Some}
use Rattle.std.proofs.lemmas.Option.{slice_get-get_or}
use Rattle.std.proofs.lemmas.Slice.Eq.{bytes_eq-Decides}
use Rattle.ilblocks.specs.declared.kind.BlockKind.{BlockKind}
use Rattle.ilblocks.specs.declared.port.Port.{Port as BlockPort}
use Rattle.ilblocks.specs.Ports.{is_named as has_name, most_ports, port_named, ports_of, spelling}
use Rattle.ilsource.specs.Names.{SameName, folded, text_of}
use Rattle.ilsource.specs.SourceTrees.{Tree}
use Rattle.ilsource.specs.declared.name.Name.{Name}
use Rattle.ilsource.specs.declared.symbol.Symbol.TheVariants.{Variable, Port, Block, Function}
use Rattle.ildeclared.specs.Faults.{SomeOf}
use Rattle.ildeclared.specs.declared.block.DeclaredBlock.{DeclaredBlock}
use Rattle.ildeclared.specs.declared.external.DeclaredExternal.{DeclaredExternal}
use Rattle.ildeclared.specs.declared.global.DeclaredGlobal.{DeclaredGlobal}
use Rattle.ildeclared.specs.declared.variable.DeclaredVariable.{DeclaredVariable}
use Rattle.ilscope.specs.Configured.{global_number, globals_of}
use Rattle.ilscope.specs.Declarations.{DeclaredFunction, declared_functions}
use Rattle.ilscope.specs.Faults.{IsUnknownName}
use Rattle.ilscope.specs.Tables.{first_at, lowered}
use Rattle.ilplan.specs.declared.instance.FunctionBlock.{FunctionBlock}
use Rattle.ilplan.specs.declared.slot.Slot.{Slot}
use Rattle.ilscope.specs.UseFaults.{port_number}
use Rattle.ilscope.specs.SameNames.{same_name}
use Rattle.ilscope.proofs.Lists.{at_some, some_at}
use Rattle.ilscope.proofs.SameNames.{alike, same_as}
use Rattle.ilsyms.specs.Meaning.{block_in_store, is_block_under, is_global, is_own, place_in_store, port_in_store}
use Rattle.ilsyms.specs.Meaning.{function_in_text, place_of, port_of_block}
use Rattle.ilsyms.specs.PlanningSteps.{AreApart, AreOthers}
use Rattle.ilsyms.specs.Tasks.{NamedProgram}
use Rattle.ilsyms.specs.Variables.{blocks_of, function_block, global_slot, global_slots, is_among, is_named, named_slot}
use Rattle.ilsyms.specs.Variables.{own_slot, own_slots, slots_of}
use Rattle.ilsyms.proofs.FunctionNames.{IsKnownFunction, function_there}
use Rattle.ilsyms.proofs.Lists.{either}
use Rattle.ilsyms.proofs.NumberingInstances.{block_of, blocks_in as declared_blocks, other_blocks, own_block, own_is}
use Rattle.ilsyms.proofs.NumberingPlaces.{NonePass, found_among}
use Rattle.ilsyms.proofs.PlanningInstances.{parted_at}
use Rattle.ilsyms.proofs.SlotGlobals.{no_own_global}
use Rattle.ilsyms.proofs.TaskNames.{others_around}
use Rattle.ilsyms.specs.Placed.{HasExternal, IsPlaceOf, MeansBlock, MeansPort, MeansVariable}
use Rattle.ilsyms.proofs.PlacedLists.{Finds, finds_front, finds_here, finds_later, finds_past, first_found, first_is}
use Rattle.ilsyms.proofs.PlacedLists.{row_there, some_passes}
use Rattle.ilsyms.proofs.Names.{HasVariable}

there_is : {X : Type 0} (P : X → Type 0) (o : Option X) (x : X) → o ≡ Some x → P x → IsSomeAnd o P
there_is P o x e p = subst (λ q. IsSomeAnd q P) (sym e) p

-- ---- ports

port_found : (ports : List BlockPort) (name : List ℕ) (n : ℕ) → position (has_name name) ports ≡ Some n
    → (p : BlockPort) × (slice_get ports n ≡ Some p) × (has_name name p ≡ true)
port_found [] name n e = absurd cc
port_found (port ∷ ports) name n e =
    let found = position-Some (has_name name) (port ∷ ports) n port e in
    (get_or (port ∷ ports) n port, slice_get-get_or (port ∷ ports) n port found.0, found.1)

pub port_is : (text : List ℕ) (port : Name) (n : ℕ) (b : FunctionBlock)
    → port_named b.kind (text_of text port) ≡ Some n → MeansPort text port n b
port_is text port n b e =
    let found = port_found (ports_of b.kind) (text_of text port) n e in
    there_is (λ (p : BlockPort). folded text port ≡ lowered (spelling p.name)) (slice_get (ports_of b.kind) n) found.0
    found.1
    (sym ((bytes_eq-Decides (lowered (spelling found.0.name)) (folded text port)).0 found.2))

-- ---- global variables

module _ (tree : Tree) (is : List NamedProgram) where
  row_found : (gs : List DeclaredGlobal) (from m k : ℕ) (g : DeclaredGlobal) → from + m ≡ k → slice_get gs m ≡ Some g
      → is_named tree is k ≡ true
      → Finds (λ s. is_global (Some k) s.variable) (global_slot k g)
      (filter_map (named_slot tree is) (enumerate_from from gs))
  row_found [] from m k g e at named = absurd cc
  row_found (h ∷ gs) from zero k g e at named =
      let its : from ≡ k = omega arith in
      let same : h ≡ g = cc in
      let test : Slot → Bool = λ (s : Slot). is_global (Some k) s.variable in
      let rest : List Slot = filter_map (named_slot tree is) (enumerate_from (from + 1) gs) in
      let here : is_named tree is from ≡ true = ap (is_named tree is) its ∙ named in
      let first : cons_option (named_slot tree is (from, h)) rest ≡ global_slot k g ∷ rest =
      rw here (λ j. global_slot (its j) (same j) ∷ rest) in
      subst (λ (xs : List Slot). Finds test (global_slot k g) xs) (sym first)
      (finds_here test (global_slot k g) rest (eq-eqb k k refl))
  row_found (h ∷ gs) from (suc m) k g e at named =
      let test : Slot → Bool = λ (s : Slot). is_global (Some k) s.variable in
      let rest : List Slot = filter_map (named_slot tree is) (enumerate_from (from + 1) gs) in
      let later = row_found gs (from + 1) m k g (omega arith) at named in
      let other : test (global_slot from h) ≡ false = ne_eqb k from (λ q. omega arith) in
      either (is_named tree is from)
      (λ t. rw t (finds_later test (global_slot k g) (global_slot from h) rest other later))
      (λ f. rw f later)

-- ---- one instance

abbrev declared_variables : NamedProgram → List DeclaredVariable
declared_variables i = i.program.variables

abbrev slot_of : NamedProgram → DeclaredVariable → Slot
slot_of i = own_slot i.name

module _ (tree : Tree) (is : List NamedProgram) (apart : AreApart tree.text is) (n : ℕ) (i : NamedProgram)
    (there : slice_get is n ≡ Some i) where
  abbrev text : List ℕ
  text = tree.text

  abbrev slots : List Slot
  slots = slots_of tree is

  abbrev blocks : List FunctionBlock
  blocks = blocks_of is

  whole : take n is ++ i ∷ drop (n + 1) is ≡ is
  whole = parted_at is n i there

  others : AreOthers text i.name (take n is) × AreOthers text i.name (drop (n + 1) is)
  others =
      others_around text (take n is) (drop (n + 1) is) i (subst (AreApart text) (sym whole) apart)

  -- ---- an own variable

  abbrev is_meant : Name → Slot → Bool
  is_meant name s = is_own text i.name name s.variable

  other_slots : (name : Name) (js : List NamedProgram) → AreOthers text i.name js
      → NonePass declared_variables slot_of (is_meant name) js
  other_slots name [] o = tt
  other_slots name (j ∷ js) o = ((λ v. let e = o.0 in rw e refl), other_slots name js o.1)

  abbrev has_variable : Name → Bool
  has_variable name = list_any (λ v. same_name text name v.name) i.program.variables

  -- the first variable that the program declares by the name
  abbrev declared_variable : Name → Option DeclaredVariable
  declared_variable name =
      option_and_then (slice_get i.program.variables)
      (first_at (λ v. same_name text name v.name) i.program.variables)

  own_found : (name : Name)
      → slice_get (own_slots is) (position_or_len (is_meant name) (own_slots is))
      ≡ option_map (own_slot i.name) (declared_variable name)
  own_found name =
      subst
      (λ (js : List NamedProgram). slice_get (own_slots js) (position_or_len (is_meant name) (own_slots js))
      ≡ option_map (own_slot i.name) (declared_variable name))
      whole
      (found_among declared_variables slot_of (is_meant name) i (λ v. same_name text name v.name)
      (own_is text i.name name) (take n is) (drop (n + 1) is)
      (other_slots name (take n is) others.0) (other_slots name (drop (n + 1) is) others.1))

  own_stands : (name : Name) → has_variable name ≡ true
      → IsSomeAnd (slice_get slots (place_in_store tree slots i name)) (MeansVariable tree i name)
  own_stands name any =
      let test : DeclaredVariable → Bool = λ v. same_name text name v.name in
      let first = first_found test i.program.variables any in
      let its = first_is test i.program.variables first.0 first.1 in
      let x = own_slot i.name its.0 in
      let declared : declared_variable name ≡ Some its.0 =
      ap (option_and_then (slice_get i.program.variables)) first.1 ∙ its.1 in
      let own : Finds (is_meant name) x (own_slots is) =
      own_found name ∙ ap (option_map (own_slot i.name)) declared in
      let stands : Finds (is_meant name) x slots =
      finds_past (is_meant name) x (global_slots tree is) (own_slots is)
      (no_own_global tree is text i.name name) own in
      let place : place_in_store tree slots i name ≡ position_or_len (is_meant name) slots = rw any refl in
      there_is (MeansVariable tree i name) (slice_get slots (place_in_store tree slots i name)) x
      (ap (λ k. slice_get slots k) place ∙ stands)
      (inl (at_some _ i.program.variables first.0 its.0 its.1 (alike text name its.0.name its.2, refl)))

  -- ---- a global variable

  global_stands : (name : Name) (k : ℕ) → has_variable name ≡ false → HasExternal text i.program name
      → global_number tree name ≡ Some k
      → IsSomeAnd (slice_get slots (place_in_store tree slots i name)) (MeansVariable tree i name)
  global_stands name k none shared found =
      let its = first_is _ (globals_of tree) k found in
      let g : DeclaredGlobal = its.0 in
      let among : is_among tree k i.program.externals ≡ true =
      some_passes (λ (e : DeclaredExternal). SameName text name e.name)
      (λ e. option_map_or (λ its. its == k) (global_number tree e.name) false)
      (λ e same.
      let number : global_number tree e.name ≡ Some k =
      sym (ap (λ key. first_at (λ (h : DeclaredGlobal). bytes_eq key (folded text h.name)) (globals_of tree)) same)
      ∙ found in
      ap (λ o. option_map_or (λ its. its == k) o false) number ∙ eq-eqb k k refl)
      i.program.externals shared in
      let named : is_named tree is k ≡ true =
      some_passes (λ (j : NamedProgram). is_among tree k j.program.externals ≡ true)
      (λ j. is_among tree k j.program.externals) (λ j e. e) is (at_some _ is n i there among) in
      let test : Slot → Bool = λ (s : Slot). is_global (Some k) s.variable in
      let stands : Finds test (global_slot k g) slots =
      finds_front test (global_slot k g) (global_slots tree is) (own_slots is)
      (row_found tree is (globals_of tree) 0 k k g (omega arith) its.1 named) in
      let place : place_in_store tree slots i name ≡ position_or_len test slots = rw (none, found) refl in
      there_is (MeansVariable tree i name) (slice_get slots (place_in_store tree slots i name)) (global_slot k g)
      (ap (λ m. slice_get slots m) place ∙ stands)
      (inr (
        shared,
        at_some _ (enumerate_from 0 (globals_of tree)) k (k, g) (row_there (globals_of tree) k g its.1)
            ((bytes_eq-Decides (folded text name) (folded text g.name)).0 its.2, refl),
      ))

  -- the global variable that an external of the program names
  number_of : (name : Name)
      → ((place : ℕ) → ¬ SomeOf (λ e. IsUnknownName (global_number tree) place e.name) i.program.externals)
      → HasExternal text i.program name → (k : ℕ) × (global_number tree name ≡ Some k)
  number_of name known shared =
      let e = some_at (λ (x : DeclaredExternal). SameName text name x.name) i.program.externals shared in
      let same : global_number tree name ≡ global_number tree e.1.name =
      ap (λ key. first_at (λ (g : DeclaredGlobal). bytes_eq key (folded text g.name)) (globals_of tree)) e.3 in
      by (global_number tree e.1.name) same
      (λ none. known e.1.name.from (at_some _ i.program.externals e.0 e.1 e.2 (none, refl))) refl
    where
      by : {its : Option ℕ} (o : Option ℕ) → global_number tree name ≡ its → ¬ (its ≡ None) → its ≡ o
          → (k : ℕ) × (global_number tree name ≡ Some k)
      by None same known is_it = absurd (known is_it)
      by (Some k) same known is_it = (k, same ∙ is_it)

  pub variable_stands : (name : Name)
      → ((place : ℕ) → ¬ SomeOf (λ e. IsUnknownName (global_number tree) place e.name) i.program.externals)
      → HasVariable text i.program name ⊎ HasExternal text i.program name
      → IsPlaceOf tree is i (Variable name) (place_of tree slots blocks i (Variable name))
  variable_stands name known declared =
      either (has_variable name) (own_stands name) (λ none. by none declared)
    where
      by : has_variable name ≡ false → HasVariable text i.program name ⊎ HasExternal text i.program name
          → IsSomeAnd (slice_get slots (place_in_store tree slots i name)) (MeansVariable tree i name)
      by none (inl own) =
          absurd (both_ways _ none (some_passes (λ (v : DeclaredVariable). SameName text name v.name)
          (λ v. same_name text name v.name) (λ v. same_as text name v.name) i.program.variables own))
      by none (inr shared) =
          let number = number_of name known shared in global_stands name number.0 none shared number.1

  -- ---- block instances and their ports

  abbrev first_block : Name → Option ℕ
  first_block name = first_at (λ b. same_name text name b.name) i.program.blocks

  block_found : (name : Name)
      → slice_get blocks (block_in_store text blocks i.name name)
      ≡ option_map (function_block i.name) (option_and_then (slice_get i.program.blocks) (first_block name))
  block_found name =
      subst
      (λ (js : List NamedProgram). slice_get (blocks_of js) (block_in_store text (blocks_of js) i.name name)
      ≡ option_map (function_block i.name) (option_and_then (slice_get i.program.blocks) (first_block name)))
      whole
      (found_among declared_blocks block_of (is_block_under text i.name name) i (λ b. same_name text name b.name)
      (own_block text i.name name) (take n is) (drop (n + 1) is)
      (other_blocks text i.name name (take n is) others.0) (other_blocks text i.name name (drop (n + 1) is) others.1))

  pub record BlockThere (name : Name) (number : ℕ) : Type 0 where
    pub block : DeclaredBlock
    pub stands : slice_get blocks (block_in_store text blocks i.name name) ≡ Some (function_block i.name block)
    pub declared : slice_get i.program.blocks number ≡ Some block
    pub is_block : MeansBlock text i name (function_block i.name block)

  block_at : (name : Name) (number : ℕ) → first_block name ≡ Some number → BlockThere name number
  block_at name number first =
      let its = first_is (λ (b : DeclaredBlock). same_name text name b.name) i.program.blocks number first in
      record {
        block = its.0;
        stands =
            block_found name
            ∙ ap (λ o. option_map (function_block i.name) (option_and_then (slice_get i.program.blocks) o)) first
            ∙ ap (option_map (function_block i.name)) its.1;
        declared = its.1;
        is_block = at_some _ i.program.blocks number its.0 its.1 (alike text name its.0.name its.2, refl);
      }

  pub block_stands : (name : Name) → list_any (λ b. same_name text name b.name) i.program.blocks ≡ true
      → IsPlaceOf tree is i (Block name) (place_of tree slots blocks i (Block name))
  block_stands name any =
      let first = first_found (λ (b : DeclaredBlock). same_name text name b.name) i.program.blocks any in
      let its = block_at name first.0 first.1 in
      there_is (MeansBlock text i name) (slice_get blocks (block_in_store text blocks i.name name))
      (function_block i.name its.block) its.stands its.is_block

  port_at : (block port : Name) (number m : ℕ) (its : BlockThere block number)
      → port_named its.block.kind (text_of text port) ≡ Some m
      → IsPlaceOf tree is i (Port block port) (place_of tree slots blocks i (Port block port))
  port_at block port number m its found =
      let b = function_block i.name its.block in
      let place = block_in_store text blocks i.name block in
      let same : port_in_store text blocks place port ≡ m =
      ap (λ o. option_map_or (port_of_block text port) o most_ports) its.stands
      ∙ ap (λ o. unwrap_or o most_ports) found
      in
      there_is
      (λ (x : FunctionBlock). MeansBlock text i block x × MeansPort text port (port_in_store text blocks place port) x)
      (slice_get blocks place) b its.stands
      (its.is_block, subst (λ k. MeansPort text port k b) (sym same) (port_is text port m b found))

  abbrev number_in : Name → Option DeclaredBlock → Option (BlockKind × ℕ)
  number_in port o =
      option_and_then
      (λ (b : DeclaredBlock). option_map (λ (k : ℕ). (b.kind, k)) (port_named b.kind (text_of text port))) o

  pub port_stands : (block port : Name) → ¬ (port_number text i.program block port ≡ None)
      → IsPlaceOf tree is i (Port block port) (place_of tree slots blocks i (Port block port))
  port_stands block port known = by (first_block block) refl known
    where
      named : (number : ℕ) (its : BlockThere block number) (o : Option ℕ)
          → port_named its.block.kind (text_of text port) ≡ o
          → ¬ (option_map {U = BlockKind × ℕ} (λ (k : ℕ). (its.block.kind, k)) o ≡ None)
          → IsPlaceOf tree is i (Port block port) (place_of tree slots blocks i (Port block port))
      named number its None found known = absurd (known refl)
      named number its (Some m) found known = port_at block port number m its found

      by : (o : Option ℕ) → first_block block ≡ o
          → ¬ (number_in port (option_and_then (slice_get i.program.blocks) o) ≡ None)
          → IsPlaceOf tree is i (Port block port) (place_of tree slots blocks i (Port block port))
      by None first known = absurd (known refl)
      by (Some number) first known =
          let its = block_at block number first in
          named number its (port_named its.block.kind (text_of text port)) refl
          (λ none. known (ap (number_in port) its.declared ∙ none))

  -- ---- functions

  pub function_stands : (name : Name) → IsKnownFunction tree i.program name
      → IsPlaceOf tree is i (Function name) (place_of tree slots blocks i (Function name))
  function_stands name known =
      let its = function_there tree i.program name known in (
        its.above,
        there_is (λ (f : DeclaredFunction). SameName text name f.function.name)
            (slice_get (declared_functions tree) (function_in_text tree name)) its.function its.there its.named,
      )
