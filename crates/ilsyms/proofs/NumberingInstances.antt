-- The place of what an instance's lines name, by its number in the program, is its place in the store.
use Rattle.std.proofs.Common.{◌≡◌, ℕ, suc, ◌+◌, List, [], ◌∷◌, ◌++◌, length, Bool, true, false, ◌||◌, refl, ap, ◌∙◌}
use Rattle.std.proofs.Common.{arith, sym}
use Rattle.std.specs.Prelude.{Option, Some, None, option_map, option_and_then, slice_get, unwrap_or, if◌then◌else◌}
use Rattle.std.specs.List.{list_any, position_or_len}
use Rattle.std.specs.Option.{option_map_or}
use Rattle.ilblocks.specs.declared.kind.BlockKind.{BlockKind}
use Rattle.ilblocks.specs.Ports.{port_named, most_ports}
use Rattle.ilsource.specs.declared.name.Name.{Name}
use Rattle.ilsource.specs.declared.symbol.Symbol.{Symbol}
use Rattle.ilsource.specs.declared.symbol.Symbol.TheVariants as symbols
use Rattle.ilsource.specs.Names.{text_of}
use Rattle.ilsource.specs.SourceTrees.{Tree}
use Rattle.ildeclared.specs.Kept.{Kept}
use Rattle.ildeclared.specs.declared.block.DeclaredBlock.{DeclaredBlock}
use Rattle.ildeclared.specs.declared.variable.DeclaredVariable.{DeclaredVariable}
use Rattle.ilscope.specs.Configured.{global_number}
use Rattle.ilscope.specs.Declarations.{DeclaredFunction, declared_functions}
use Rattle.ilscope.specs.Tables.{first_at}
use Rattle.ilplan.specs.declared.instance.FunctionBlock.{FunctionBlock}
use Rattle.ilplan.specs.declared.slot.Slot.{Slot}
use Rattle.ilplan.specs.declared.place.Place.TheVariants as places
use Rattle.ilscope.specs.SameNames.{same_name}
use Rattle.ilscope.proofs.SameNames.{same_as}
use Rattle.ilsyms.specs.PlanningSteps.{AreOthers}
use Rattle.ilsyms.specs.Meaning.{is_own, is_block_under, place_in_store, block_in_store, port_in_store}
use Rattle.ilsyms.specs.Meaning.{port_of_block, place_of}
use Rattle.ilsyms.specs.NumberingSteps.{Numbering, slot_number, number_of_block, number_of_port, place_by_number}
use Rattle.ilsyms.specs.NumberingSteps.{number_of_global}
use Rattle.ilsyms.specs.Tasks.{NamedProgram}
use Rattle.ilsyms.specs.Variables.{own_slot, function_block, slots_of, own_slots, global_slots, blocks_of}
use Rattle.ilsyms.proofs.SlotGlobals.{no_own_global}
use Rattle.ilsyms.proofs.NumberingLabels.{first_or_end}
use Rattle.ilsyms.proofs.NumberingPlaces.{NonePass, number_among, found_among, passed_over}

abbrev variables_in : NamedProgram → List DeclaredVariable
variables_in i = i.program.variables

abbrev pub blocks_in : NamedProgram → List DeclaredBlock
blocks_in i = i.program.blocks

abbrev slot_of : NamedProgram → DeclaredVariable → Slot
slot_of i = own_slot i.name

abbrev pub block_of : NamedProgram → DeclaredBlock → FunctionBlock
block_of i = function_block i.name

abbrev is_meant : List ℕ → Name → Name → Slot → Bool
is_meant text instance name s = is_own text instance name s.variable

-- whether one passes, and the number of the first
any_cons : (b : Bool) (q : Option ℕ) (c : Bool) → c ≡ option_map_or (λ k. true) q false
    → (b || c) ≡ option_map_or (λ k. true) (if b then Some 0 else option_map suc q) false
any_cons true q c e = refl
any_cons false None c e = e
any_cons false (Some k) c e = e

any_is : {X : Type 0} (test : X → Bool) (xs : List X)
    → list_any test xs ≡ option_map_or (λ k. true) (first_at test xs) false
any_is test [] = refl
any_is test (x ∷ xs) = any_cons (test x) (first_at test xs) (list_any test xs) (any_is test xs)

any_first : {X : Type 0} (test : X → Bool) (xs : List X) (o : Option ℕ) → first_at test xs ≡ o
    → list_any test xs ≡ option_map_or (λ k. true) o false
any_first test xs o e = any_is test xs ∙ ap (λ q. option_map_or (λ k. true) q false) e

module _ (text : List ℕ) (instance name : Name) where
  -- no slot and no block instance of another instance is meant
  other_slots : (is : List NamedProgram) → AreOthers text instance is
      → NonePass variables_in slot_of (is_meant text instance name) is
  other_slots [] o = tt
  other_slots (i ∷ is) o = ((λ v. let e = o.0 in rw e refl), other_slots is o.1)

  pub other_blocks : (is : List NamedProgram) → AreOthers text instance is
      → NonePass blocks_in block_of (is_block_under text instance name) is
  other_blocks [] o = tt
  other_blocks (i ∷ is) o = ((λ b. let e = o.0 in rw e refl), other_blocks is o.1)

  -- one of the instance is meant where its name is
  pub own_is : (v : DeclaredVariable) → is_meant text instance name (own_slot instance v) ≡ same_name text name v.name
  own_is v = let e = same_as text instance instance refl in rw e refl

  pub own_block : (b : DeclaredBlock)
      → is_block_under text instance name (function_block instance b) ≡ same_name text name b.name
  own_block b = let e = same_as text instance instance refl in rw e refl

-- an instance among others with other names, whose labels have these numbers
module _ (tree : Tree) (front back : List NamedProgram) (p : NamedProgram) (labels : Kept ℕ) where
  abbrev all_instances : List NamedProgram
  all_instances = front ++ p ∷ back

  abbrev all_slots : List Slot
  all_slots = slots_of tree all_instances

  abbrev all_blocks : List FunctionBlock
  all_blocks = blocks_of all_instances

  abbrev pub numbering : Numbering
  numbering = record {
    tree = tree;
    program = p.program;
    slots = all_slots;
    first_slot = length (global_slots tree all_instances) + length (own_slots front);
    first_block = length (blocks_of front);
    all_blocks = length all_blocks;
    labels = labels;
  }

  module _ (before : AreOthers tree.text p.name front) (after : AreOthers tree.text p.name back) where
    own_place : (name : Name) (k : ℕ) → first_at (λ v. same_name tree.text name v.name) p.program.variables ≡ Some k
        → position_or_len (is_meant tree.text p.name name) all_slots
        ≡ length (global_slots tree all_instances) + length (own_slots front) + k
    own_place name k e =
        let test = is_meant tree.text p.name name in
        let over = passed_over test (global_slots tree all_instances) (own_slots all_instances)
        (no_own_global tree all_instances tree.text p.name name) in
        let own = number_among variables_in slot_of test p (λ v. same_name tree.text name v.name)
        (own_is tree.text p.name name) front back (other_slots tree.text p.name name front before)
        (other_slots tree.text p.name name back after) in
        let there = ap (λ o. option_map_or (λ n. length (own_slots front) + n) o (length (own_slots all_instances)))
        e in
        omega (arith, over, own, there)

    slot_is : (name : Name) → place_in_store tree all_slots p name ≡ slot_number numbering name
    slot_is name = by (first_at (λ v. same_name tree.text name v.name) p.program.variables) refl
      where
        by : (o : Option ℕ) → first_at (λ v. same_name tree.text name v.name) p.program.variables ≡ o
            → place_in_store tree all_slots p name
            ≡ option_map_or
            (λ k. numbering.first_slot + k)
            o
            (number_of_global all_slots (global_number tree name))
        by None e = let any = any_first (λ v. same_name tree.text name v.name) p.program.variables None e in rw any refl
        by (Some k) e = let any = any_first (λ v. same_name tree.text name v.name) p.program.variables (Some k) e in rw
            any (own_place name k e)

    block_is : (name : Name) → block_in_store tree.text all_blocks p.name name ≡ number_of_block numbering name
    block_is name =
        number_among blocks_in block_of (is_block_under tree.text p.name name) p (λ b. same_name tree.text name b.name)
        (own_block tree.text p.name name) front back (other_blocks tree.text p.name name front before)
        (other_blocks tree.text p.name name back after)

    port_is : (block port : Name)
        → port_in_store tree.text all_blocks (block_in_store tree.text all_blocks p.name block) port
        ≡ number_of_port numbering block port
    port_is block port =
        ap (λ (o : Option FunctionBlock). option_map_or (port_of_block tree.text port) o most_ports)
        (found_among blocks_in block_of (is_block_under tree.text p.name block) p
        (λ b. same_name tree.text block b.name)
        (own_block tree.text p.name block) front back (other_blocks tree.text p.name block front before)
        (other_blocks tree.text p.name block back after))
        ∙ by (option_and_then (slice_get p.program.blocks)
        (first_at (λ b. same_name tree.text block b.name) p.program.blocks))
      where
        named : (b : DeclaredBlock) (o : Option ℕ)
            → unwrap_or o most_ports
            ≡ option_map_or (λ (found : BlockKind × ℕ). found.1) (option_map (λ n. (b.kind, n)) o) most_ports
        named b None = refl
        named b (Some n) = refl

        by : (o : Option DeclaredBlock)
            → option_map_or (port_of_block tree.text port) (option_map (block_of p) o) most_ports
            ≡ option_map_or (λ (found : BlockKind × ℕ). found.1)
            (option_and_then (λ b. option_map (λ n. (b.kind, n)) (port_named b.kind (text_of tree.text port))) o)
            most_ports
        by None = refl
        by (Some b) = named b (port_named b.kind (text_of tree.text port))

    pub place_is : (symbol : Symbol)
        → place_of tree all_slots all_blocks p symbol ≡ place_by_number numbering symbol
    place_is (symbols.Variable name) = ap (λ n. places.Slot n) (slot_is name)
    place_is (symbols.Port block port) = λ i. places.Port (block_is block i) (port_is block port i)
    place_is (symbols.Block name) = ap (λ n. places.Block n) (block_is name)
    place_is (symbols.Function name) =
        ap (λ n. places.Function n)
        (sym (first_or_end (λ (f : DeclaredFunction). same_name tree.text name f.function.name)
        (declared_functions tree)))
