-- Renamed lines keep the places of words and the constants, and stay shallow.
use Rattle.std.proofs.Common.{◌≡◌, ℕ, List, [], ◌∷◌, ◌++◌, map, refl, sym, ap, ◌∙◌}
use Rattle.std.specs.Prelude.{flat_map}
use Rattle.std.specs.List.{cons_option}
use Rattle.std.proofs.lemmas.Grind.{flat_map-append}
use Rattle.ilsource.specs.declared.instruction.Line.{Line}
use Rattle.ilsource.specs.declared.operand.Operand.{Operand}
use Rattle.ilsource.specs.declared.operand.Operand.TheVariants.{Name as Named, Constant}
use Rattle.ilsource.specs.declared.uses.Use.{Use}
use Rattle.ilsource.specs.Words.{places_in, AreShallow}
use Rattle.ilsource.specs.Uses.{uses_in}
use Rattle.ilsource.specs.Renaming.{rename_use, rename_line}
use Rattle.ilsource.proofs.KeptSizes.{places_kept, uses_kept, still_shallow}
use Rattle.ilsource.specs.declared.name.Name.{Name}
use Rattle.ilsource.specs.declared.symbol.Symbol.{Symbol}
use Rattle.ilsource.specs.SourceTrees.{Tree}
use Rattle.ilplan.specs.declared.instance.FunctionBlock.{FunctionBlock}
use Rattle.ilplan.specs.declared.slot.Slot.{Slot}
use Rattle.ilplan.specs.declared.place.Place.{Place}
use Rattle.ilplan.specs.Constants.{constant_in, constants_used, different_constants, each_once}
use Rattle.ilplan.specs.Plans.{all_lines}
use Rattle.ilscope.specs.Uses.{uses_of}
use Rattle.ilsyms.specs.Resolved.{new_places, label_number, planned_instance}
use Rattle.ilsyms.specs.Tasks.{NamedProgram}
use Rattle.ilsyms.specs.Variables.{lines_of}
use Rattle.ilsyms.proofs.CountingUses.{used_append}

pub shallow_append : {N L : Type 0} (xs ys : List (Line N L)) → AreShallow xs → AreShallow ys → AreShallow (xs ++ ys)
shallow_append [] ys h k = k
shallow_append (x ∷ xs) ys h k = (h.0, shallow_append xs ys h.1 k)

left_shallow : {N L : Type 0} (xs ys : List (Line N L)) → AreShallow (xs ++ ys) → AreShallow xs × AreShallow ys
left_shallow [] ys h = (tt, h)
left_shallow (x ∷ xs) ys h = let rest = left_shallow xs ys h.1 in ((h.0, rest.0), rest.1)

-- of one instance's lines
module _ (tree : Tree) (slots : List Slot) (blocks : List FunctionBlock) (instance : NamedProgram) (label : Name → ℕ)
  where
    abbrev pub renamed : List (Line Symbol Name) → List (Line Place ℕ)
    renamed lines = map (rename_line (new_places tree slots blocks instance) label) lines

    places_of : (lines : List (Line Symbol Name)) → flat_map places_in (renamed lines) ≡ flat_map places_in lines
    places_of [] = refl
    places_of (line ∷ lines) =
        let one = places_kept (new_places tree slots blocks instance) label line.at line.instruction in
        let rest = places_of lines in
        λ i. one i ++ rest i

    constant_same : (o : Operand Symbol) → constant_in ((new_places tree slots blocks instance).operand o)
        ≡ constant_in o
    constant_same (Named n) = refl
    constant_same (Constant v) = refl

    constants_same : (us : List (Use Symbol))
        → constants_used (map (rename_use (new_places tree slots blocks instance)) us) ≡ constants_used us
    constants_same [] = refl
    constants_same (u ∷ us) =
        let one = constant_same u.operand in
        let rest = constants_same us in
        λ i. cons_option (one i) (rest i)

    constants_of : (lines : List (Line Symbol Name))
        → constants_used (flat_map uses_in (renamed lines)) ≡ constants_used (flat_map uses_in lines)
    constants_of [] = refl
    constants_of (line ∷ lines) =
        let same = uses_kept (new_places tree slots blocks instance) label (λ n. refl) line.at line.instruction in
        let one = ap constants_used same ∙ constants_same (uses_in line) in
        let rest = constants_of lines in
        used_append (uses_in (rename_line (new_places tree slots blocks instance) label line))
        (flat_map uses_in (renamed lines))
        ∙ (λ j. one j ++ rest j)
        ∙ sym (used_append (uses_in line) (flat_map uses_in lines))

    shallow_of : (lines : List (Line Symbol Name)) → AreShallow lines → AreShallow (renamed lines)
    shallow_of [] h = tt
    shallow_of (line ∷ lines) h =
        (still_shallow (new_places tree slots blocks instance) label line.instruction h.0, shallow_of lines h.1)

-- of all instances
module _ (tree : Tree) (slots : List Slot) (blocks : List FunctionBlock) where
  abbrev pub planned : List NamedProgram → List (Line Place ℕ)
  planned is = all_lines (map (planned_instance tree slots blocks) is)

  own_places : (i : NamedProgram)
      → flat_map places_in (planned_instance tree slots blocks i).lines ≡ flat_map places_in i.program.program.lines
  own_places i = places_of tree slots blocks i (label_number tree.text i.program.program.lines) i.program.program.lines

  pub same_places : (is : List NamedProgram) → flat_map places_in (planned is) ≡ flat_map places_in (lines_of is)
  same_places [] = refl
  same_places (i ∷ is) =
      let one = own_places i in
      let rest = same_places is in
      flat_map-append places_in (planned_instance tree slots blocks i).lines (planned is)
      ∙ (λ j. one j ++ rest j)
      ∙ sym (flat_map-append places_in i.program.program.lines (lines_of is))

  own_constants : (i : NamedProgram)
      → constants_used (flat_map uses_in (planned_instance tree slots blocks i).lines)
      ≡ constants_used (flat_map uses_in i.program.program.lines)
  own_constants i = constants_of tree slots blocks i (label_number tree.text i.program.program.lines)
      i.program.program.lines

  used_of : {N L : Type 0} (xs ys : List (Line N L))
      → constants_used (flat_map uses_in (xs ++ ys))
      ≡ constants_used (flat_map uses_in xs) ++ constants_used (flat_map uses_in ys)
  used_of xs ys =
      ap constants_used (flat_map-append uses_in xs ys) ∙ used_append (flat_map uses_in xs) (flat_map uses_in ys)

  same_used : (is : List NamedProgram)
      → constants_used (flat_map uses_in (planned is)) ≡ constants_used (uses_of (lines_of is))
  same_used [] = refl
  same_used (i ∷ is) =
      let one = own_constants i in
      let rest = same_used is in
      used_of (planned_instance tree slots blocks i).lines (planned is)
      ∙ (λ j. one j ++ rest j)
      ∙ sym (used_of i.program.program.lines (lines_of is))

  pub same_constants : (is : List NamedProgram)
      → different_constants (planned is) ≡ different_constants (lines_of is)
  same_constants is = ap each_once (same_used is)

  pub all_shallow : (is : List NamedProgram) → AreShallow (lines_of is) → AreShallow (planned is)
  all_shallow [] h = tt
  all_shallow (i ∷ is) h =
      let parts = left_shallow i.program.program.lines (lines_of is) h in
      shallow_append (planned_instance tree slots blocks i).lines (planned is)
      (shallow_of tree slots blocks i (label_number tree.text i.program.program.lines) i.program.program.lines parts.0)
      (all_shallow is parts.1)
