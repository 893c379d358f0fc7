-- The lines of a function over its own variables alone: these have slots in declared order, and nothing else has.
use Rattle.std.proofs.Common.{◌≡◌, ◌∙◌, ℕ, ◌+◌, List, [], ◌∷◌, ◌++◌, map, length, get_or, replicate, false}
use Rattle.std.proofs.Common.{refl, sym, ap, arith, append-nil, length-append}
use Rattle.std.specs.Prelude.{Option, Some, filter_map}
use Rattle.std.specs.List.{enumerate_from, list_any}
use Rattle.std.proofs.Math.ListN.{length-map}
use Rattle.std.proofs.lemmas.List.{get_or-replicate, length-replicate}
use Rattle.ilsource.specs.declared.instruction.Line.{Line}
use Rattle.ilsource.specs.SourceTrees.{Tree}
use Rattle.ildeclared.specs.Kept.{Kept}
use Rattle.ildeclared.specs.declared.global.DeclaredGlobal.{DeclaredGlobal}
use Rattle.ildeclared.specs.declared.variable.DeclaredVariable.{DeclaredVariable}
use Rattle.ilscope.specs.Configured.{globals_of}
use Rattle.ilscope.specs.Declarations.{DeclaredFunction, as_program}
use Rattle.ilplan.specs.declared.place.Place.{Place}
use Rattle.ilplan.specs.declared.slot.Slot.{Slot}
use Rattle.ilscope.specs.Labels.{AreNumbered}
use Rattle.ilsyms.specs.Meaning.{is_global}
use Rattle.ilsyms.specs.NumberingSteps.{AreGlobalSlots, numbering_of}
use Rattle.ilsyms.specs.Resolved.{planned_instance}
use Rattle.ilsyms.specs.Variables.{alone, as_instance, blocks_of, global_slots, named_slot, own_slot, own_slots}
use Rattle.ilsyms.specs.Variables.{slots_in, slots_of}
use Rattle.ilsyms.proofs.NumberingPlaces.{none_passes}
use Rattle.ilsyms.proofs.PlanningInstances.{instance_is, renamed}

module _ (tree : Tree) (f : DeclaredFunction) where
  -- ---- slots

  none_named : (gs : List (ℕ × DeclaredGlobal)) → filter_map (named_slot tree (alone f)) gs ≡ []
  none_named [] = refl
  none_named (g ∷ gs) = none_named gs

  no_globals : global_slots tree (alone f) ≡ []
  no_globals = none_named (enumerate_from 0 (globals_of tree))

  pub slots_are : slots_of tree (alone f) ≡ slots_in (as_instance f)
  slots_are =
      ap (λ (ss : List Slot). ss ++ own_slots (alone f)) no_globals ∙ append-nil (slots_in (as_instance f))

  pub many_slots : length (slots_of tree (alone f)) ≡ length f.inputs + length f.variables
  many_slots =
      ap (λ (ss : List Slot). length ss) slots_are
      ∙ length-map (f.inputs ++ f.variables) (own_slot f.function.name)
      ∙ length-append f.inputs f.variables

  -- none is that of a global variable
  none_global : (global : Option ℕ) (vs : List DeclaredVariable)
      → list_any (λ s. is_global global s.variable) (map (own_slot f.function.name) vs) ≡ false
  none_global global [] = refl
  none_global global (v ∷ vs) = none_global global vs

  pub no_global_slots : (slots : List Slot) → slots ≡ slots_in (as_instance f) → (count : ℕ) (numbers : List ℕ)
      → numbers ≡ replicate count (length slots) → AreGlobalSlots slots count numbers
  no_global_slots slots own count numbers are =
      record {
        many = ap (λ (ns : List ℕ). length ns) are ∙ length-replicate count (length slots);
        each = λ global below.
            let none : list_any (λ s. is_global (Some global) s.variable) slots ≡ false =
            ap (λ (ss : List Slot). list_any (λ s. is_global (Some global) s.variable) ss) own
            ∙ none_global (Some global) (f.inputs ++ f.variables)
            in
            ap (λ ns. get_or ns global 0) are
            ∙ get_or-replicate count global (length slots) 0 below
            ∙ sym (none_passes (λ s. is_global (Some global) s.variable) slots none);
      }

  -- ---- lines

  pub function_lines : (slots : List Slot) → slots ≡ slots_in (as_instance f) → (labels : Kept ℕ)
      → AreNumbered tree.text f.function.lines labels → (lines : List (Line Place ℕ))
      → lines ≡ renamed (numbering_of tree (as_program f) slots 0 0 0 labels) f.function.lines
      → lines ≡ (planned_instance tree (slots_of tree (alone f)) (blocks_of (alone f)) (as_instance f)).lines
  function_lines slots own labels numbered lines are =
      let all : slots ≡ slots_of tree (alone f) = own ∙ sym slots_are in
      let none = ap (λ (ss : List Slot). length ss) no_globals in
      let first : 0 ≡ length (global_slots tree (alone f)) + 0 = omega (arith, none) in
      instance_is tree [] [] (as_instance f) labels lines (tt, tt) numbered
      (are ∙ (λ j. renamed (numbering_of tree (as_program f) (all j) (first j) 0 0 labels) f.function.lines))
