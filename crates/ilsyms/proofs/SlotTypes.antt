-- The initial values of slots are of their types.
use Rattle.std.proofs.Common.{suc, List, [], ◌∷◌, ◌++◌, map, arith, subst}
use Rattle.std.specs.Prelude.{All}
use Rattle.std.specs.List.{AllByRecursion}
use Rattle.std.proofs.lemmas.Option.{get_or_from_slice_get}
use Rattle.iltypes.specs.Values.{IsOf, AreOf}
use Rattle.ilsource.specs.declared.name.Name.{Name}
use Rattle.ilsource.specs.SourceTrees.{Tree}
use Rattle.ildeclared.specs.declared.global.DeclaredGlobal.{DeclaredGlobal}
use Rattle.ildeclared.specs.declared.variable.DeclaredVariable.{DeclaredVariable}
use Rattle.ilscope.specs.Configured.{globals_of}
use Rattle.ilscope.proofs.Typed.{declared_typed_globals, IsTypedVariable}
use Rattle.ilplan.specs.declared.slot.Slot.{Slot}
use Rattle.ilsyms.specs.Tasks.{NamedProgram}
use Rattle.ilsyms.specs.Variables.{own_slot, own_slots, slots_of, global_slots}
use Rattle.ilsyms.proofs.Lists.{below_end}
use Rattle.ilsyms.proofs.SlotOrder.{all_global}

abbrev AreTypedSlots : List Slot → Type 0
AreTypedSlots slots = AreOf (map (λ s. s.initial) slots) (map (λ s. s.value_type) slots)

variables_typed : (instance : Name) (vs : List DeclaredVariable) (rest : List Slot) → All IsTypedVariable vs
    → AreTypedSlots rest → AreTypedSlots (map (own_slot instance) vs ++ rest)
variables_typed instance [] rest h r = r
variables_typed instance (v ∷ vs) rest h r =
    (h 0 v (omega arith), variables_typed instance vs rest (λ k d below. h (suc k) d (omega arith)) r)

abbrev pub AreTypedInstances : List NamedProgram → Type 0
AreTypedInstances is = AllByRecursion (λ i. All IsTypedVariable i.program.variables) is

instances_typed : (is : List NamedProgram) → AreTypedInstances is → AreTypedSlots (own_slots is)
instances_typed [] h = tt
instances_typed (i ∷ is) h = variables_typed i.name i.program.variables (own_slots is) h.0 (instances_typed is h.1)

typed_before : (slots rest : List Slot) → AllByRecursion (λ s. IsOf s.initial s.value_type) slots → AreTypedSlots rest
    → AreTypedSlots (slots ++ rest)
typed_before [] rest h r = r
typed_before (s ∷ slots) rest h r = (h.0, typed_before slots rest h.1 r)

pub slots_typed : (tree : Tree) (is : List NamedProgram) → AreTypedInstances is → AreTypedSlots (slots_of tree is)
slots_typed tree is own =
    typed_before (global_slots tree is) (own_slots is)
    (all_global tree is (λ s. IsOf s.initial s.value_type)
    (λ n g e.
    subst (λ (h : DeclaredGlobal). IsOf h.initial h.value_type) (get_or_from_slice_get (globals_of tree) n g g e)
    (declared_typed_globals tree n g (below_end (globals_of tree) n g e))))
    (instances_typed is own)
