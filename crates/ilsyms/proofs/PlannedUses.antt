-- The lines of a plan use what those of the text use, under their new names, at the same places.
use Rattle.std.proofs.Common.{◌≡◌, ℕ, List, [], ◌∷◌, ◌++◌, map, refl, sym, ap, ◌∙◌}
use Rattle.std.specs.Prelude.{flat_map, option_map}
use Rattle.std.specs.List.{cons_option}
use Rattle.std.proofs.lemmas.Grind.{flat_map-append}
use Rattle.std.proofs.lemmas.List.{map-append}
use Rattle.ilsource.specs.declared.instruction.Line.{Line}
use Rattle.ilsource.specs.declared.name.Name.{Name}
use Rattle.ilsource.specs.declared.operand.Operand.{Operand}
use Rattle.ilsource.specs.declared.operand.Operand.TheVariants.{Name as Named, Constant}
use Rattle.ilsource.specs.declared.symbol.Symbol.{Symbol}
use Rattle.ilsource.specs.declared.symbol.Symbol.TheVariants.{Variable, Port, Block, Function}
use Rattle.ilsource.specs.declared.uses.Purpose.{Purpose}
use Rattle.ilsource.specs.declared.uses.Purpose.TheVariants.{Read, Write, Call, Pass, Invoke}
use Rattle.ilsource.specs.declared.uses.Use.{Use}
use Rattle.ilsource.specs.Renaming.{NewNames, by_name, rename_line, rename_use}
use Rattle.ilsource.specs.SourceTrees.{Tree}
use Rattle.ilsource.specs.Uses.{uses_in}
use Rattle.ilsource.specs.Words.{places_in}
use Rattle.ilsource.proofs.KeptSizes.{places_kept, uses_kept}
use Rattle.ilscope.specs.Uses.{uses_of}
use Rattle.ilplan.specs.declared.instance.FunctionBlock.{FunctionBlock}
use Rattle.ilplan.specs.declared.place.Place.{Place}
use Rattle.ilplan.specs.declared.slot.Slot.{Slot}
use Rattle.ilplan.specs.Constants.{constant_in}
use Rattle.ilplan.specs.Functions.{function_in, functions_in}
use Rattle.ilplan.specs.Plans.{all_lines}
use Rattle.ilsyms.specs.FunctionSteps.{functions_named, invoked_name}
use Rattle.ilsyms.specs.Meaning.{function_in_text}
use Rattle.ilsyms.specs.Resolved.{label_number, new_places, planned_instance}
use Rattle.ilsyms.specs.Tasks.{NamedProgram}
use Rattle.ilsyms.specs.Variables.{lines_of}
use Rattle.ilsyms.proofs.UsesAlike.{all_counted, counted_of}

module _ (tree : Tree) (slots : List Slot) (blocks : List FunctionBlock) where
  module _ (i : NamedProgram) where
    abbrev new : NewNames Symbol Place
    new = new_places tree slots blocks i

    abbrev lines : List (Line Symbol Name)
    lines = i.program.program.lines

    abbrev planned : List (Line Place ℕ)
    planned = (planned_instance tree slots blocks i).lines

    uses_same : (label : Name → ℕ) (ls : List (Line Symbol Name))
        → flat_map uses_in (map (rename_line new label) ls) ≡ map (rename_use new) (flat_map uses_in ls)
    uses_same label [] = refl
    uses_same label (l ∷ ls) =
        ap (λ us. us ++ flat_map uses_in (map (rename_line new label) ls))
        (uses_kept new label (λ n. refl) l.at l.instruction)
        ∙ ap (λ us. map (rename_use new) (uses_in l) ++ us) (uses_same label ls)
        ∙ sym (map-append (rename_use new) (uses_in l) (flat_map uses_in ls))

    pub uses_planned : flat_map uses_in planned ≡ map (rename_use new) (uses_of lines)
    uses_planned = uses_same (label_number tree.text lines) lines

    words_same : (label : Name → ℕ) (ls : List (Line Symbol Name))
        → flat_map places_in (map (rename_line new label) ls) ≡ flat_map places_in ls
    words_same label [] = refl
    words_same label (l ∷ ls) =
        ap (λ ps. ps ++ flat_map places_in (map (rename_line new label) ls)) (places_kept new label l.at l.instruction)
        ∙ ap (λ ps. places_in l ++ ps) (words_same label ls)

    pub words_planned : flat_map places_in planned ≡ flat_map places_in lines
    words_planned = words_same (label_number tree.text lines) lines

    -- ---- functions that are called

    function_same : (p : Purpose) (o : Operand Symbol)
        → function_in p (by_name new.name o) ≡ option_map (function_in_text tree) (invoked_name p o)
    function_same Read o = refl
    function_same Write o = refl
    function_same Call o = refl
    function_same Pass o = refl
    function_same Invoke (Constant v) = refl
    function_same Invoke (Named (Variable name)) = refl
    function_same Invoke (Named (Port block port)) = refl
    function_same Invoke (Named (Block name)) = refl
    function_same Invoke (Named (Function name)) = refl

    functions_same : (us : List (Use Symbol)) → functions_in (map (rename_use new) us) ≡ functions_named tree us
    functions_same [] = refl
    functions_same (u ∷ us) = (λ j. cons_option (function_same u.purpose u.operand j) (functions_same us j))

    pub functions_planned : functions_in (flat_map uses_in planned) ≡ functions_named tree (uses_of lines)
    functions_planned = ap functions_in uses_planned ∙ functions_same (uses_of lines)

    -- ---- what is counted of uses

    constant_same : (o : Operand Symbol) → constant_in (by_name new.name o) ≡ constant_in o
    constant_same (Named name) = refl
    constant_same (Constant v) = refl

    counted_same : (us : List (Use Symbol)) → all_counted (map (rename_use new) us) ≡ all_counted us
    counted_same [] = refl
    counted_same (u ∷ us) =
        (λ j. (u.at, constant_same u.operand j) ∷ counted_same us j)

    pub counted_planned : all_counted (flat_map uses_in planned) ≡ all_counted (uses_of lines)
    counted_planned = ap all_counted uses_planned ∙ counted_same (uses_of lines)

  -- of all instances
  pub all_planned : (is : List NamedProgram)
      → all_counted (flat_map uses_in (all_lines (map (planned_instance tree slots blocks) is)))
      ≡ all_counted (uses_of (lines_of is))
  all_planned [] = refl
  all_planned (i ∷ is) =
      ap all_counted
      (flat_map-append uses_in (planned i) (all_lines (map (planned_instance tree slots blocks) is)))
      ∙ map-append counted_of (flat_map uses_in (planned i))
      (flat_map uses_in (all_lines (map (planned_instance tree slots blocks) is)))
      ∙ (λ j. counted_planned i j ++ all_planned is j)
      ∙ sym (map-append counted_of (uses_of (lines i)) (uses_of (lines_of is)))
      ∙ ap all_counted (sym (flat_map-append uses_in (lines i) (lines_of is)))
