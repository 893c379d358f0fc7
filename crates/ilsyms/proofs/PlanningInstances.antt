-- The instances that are planned, one after another, are those of the task, with the places of what their lines name.
use Rattle.std.proofs.Common.{◌≡◌, ℕ, suc, ◌+◌, ◌<◌, ◌≤◌, List, [], ◌∷◌, ◌++◌, map, length, take, drop, get_or}
use Rattle.std.proofs.Common.{sym, ap, ◌∙◌, subst, add-one, arith, length-append}
use Rattle.std.proofs.Math.ListN.{length-map}
use Rattle.std.proofs.Math.Seq.{drop-cons}
use Rattle.std.proofs.lemmas.Grind.{flat_map-append}
use Rattle.std.proofs.lemmas.List.{append-nil, map-append, take-append-drop}
use Rattle.std.proofs.lemmas.List.Folds.{length-flat_map-take}
use Rattle.std.proofs.lemmas.Option.{get_or_from_slice_get}
use Rattle.std.specs.Prelude.{Some, flat_map, slice_get}
use Rattle.std.specs.List.{AllByRecursion}
use Rattle.ilsource.specs.declared.instruction.Line.{Line}
use Rattle.ilsource.specs.Words.{AreShallow}
use Rattle.ilsource.specs.Renaming.{by_name, rename_line}
use Rattle.ilsource.specs.Uses.{uses_in}
use Rattle.ilsource.specs.Programs.{AreSorted, MayBeUsed}
use Rattle.ilsource.specs.declared.name.Name.{Name}
use Rattle.ilsource.specs.declared.symbol.Symbol.{Symbol}
use Rattle.ilsource.specs.SourceTrees.{Tree}
use Rattle.ildeclared.specs.Kept.{Kept}
use Rattle.ildeclared.proofs.Least.{take_more}
use Rattle.ilplan.specs.declared.instance.FunctionBlock.{FunctionBlock}
use Rattle.ilplan.specs.declared.slot.Slot.{Slot}
use Rattle.ilplan.specs.declared.place.Place.{Place}
use Rattle.ilplan.specs.Plans.{PlannedInstance}
use Rattle.ilscope.specs.Labels.{AreNumbered}
use Rattle.ilsyms.specs.NumberingSteps.{label_of, Numbering, numbering_of, numbers}
use Rattle.ilsyms.specs.PlanningSteps.{AreApart}
use Rattle.ilsyms.specs.Resolved.{label_number, new_places, planned_instance}
use Rattle.ilsyms.specs.Tasks.{NamedProgram}
use Rattle.ilsyms.specs.Variables.{blocks_in, blocks_of, function_block, global_slots, lines_of, own_slot, own_slots}
use Rattle.ilsyms.specs.Variables.{slots_in, slots_of}
use Rattle.ilsyms.proofs.Lists.{below_end}
use Rattle.ilsyms.proofs.NumberingInstances.{numbering, place_is}
use Rattle.ilsyms.proofs.NumberingLabels.{label_is_number}
use Rattle.ilsyms.proofs.NumberingLines.{shallow_append}
use Rattle.ilsyms.proofs.TaskNames.{others_around}

all_append : {X : Type 0} (P : X → Type 0) (xs ys : List X) → AllByRecursion P xs → AllByRecursion P ys
    → AllByRecursion P (xs ++ ys)
all_append P [] ys h k = k
all_append P (x ∷ xs) ys h k = (h.0, all_append P xs ys h.1 k)

-- a list in which an element stands
parted : {X : Type 0} (xs : List X) (i : ℕ) (x : X) → x ≡ get_or xs i x → i < length xs
    → take i xs ++ x ∷ drop (i + 1) xs ≡ xs
parted xs i x is below =
    rw add-one
    (ap (λ y. take i xs ++ y ∷ drop (suc i) xs) is
    ∙ ap (λ ys. take i xs ++ ys) (sym (drop-cons xs i x below))
    ∙ take-append-drop i xs)

pub parted_at : {X : Type 0} (xs : List X) (i : ℕ) (x : X) → slice_get xs i ≡ Some x
    → take i xs ++ x ∷ drop (i + 1) xs ≡ xs
parted_at xs i x e = parted xs i x (sym (get_or_from_slice_get xs i x x e)) (below_end xs i x e)

-- the places that are given are the places in the store
numbers_are : (tree : Tree) (front back : List NamedProgram) (p : NamedProgram) (labels : Kept ℕ)
    → AreApart tree.text (front ++ p ∷ back)
    → numbers (numbering tree front back p labels)
    ≡ new_places tree (slots_of tree (front ++ p ∷ back)) (blocks_of (front ++ p ∷ back)) p
numbers_are tree front back p labels apart =
    let others = others_around tree.text front back p apart in
    λ i. record {
      operand = by_name (λ symbol. sym (place_is tree front back p labels others.0 others.1 symbol) i);
      name = λ symbol. sym (place_is tree front back p labels others.0 others.1 symbol) i;
    }

-- lines with the places that are given
abbrev pub renamed : Numbering → List (Line Symbol Name) → List (Line Place ℕ)
renamed n lines = map (rename_line (numbers n) (label_of n)) lines

-- the instance, where its lines have these places
pub instance_is : (tree : Tree) (front back : List NamedProgram) (p : NamedProgram) (labels : Kept ℕ)
    (lines : List (Line Place ℕ)) → AreApart tree.text (front ++ p ∷ back)
    → AreNumbered tree.text p.program.program.lines labels
    → lines ≡ renamed (numbering tree front back p labels) p.program.program.lines
    → lines ≡ (planned_instance tree (slots_of tree (front ++ p ∷ back)) (blocks_of (front ++ p ∷ back)) p).lines
instance_is tree front back p labels lines apart numbered h =
    let labels_are : label_of (numbering tree front back p labels) ≡ label_number tree.text p.program.program.lines =
    λ i name. label_is_number tree.text p.program.program.lines labels numbered name i
    in
    let names_are = numbers_are tree front back p labels apart in
    h ∙ (λ i. map (rename_line (names_are i) (labels_are i)) p.program.program.lines)

module _ (tree : Tree) (ps : List NamedProgram) (i : ℕ) (p : NamedProgram) (is : p ≡ get_or ps i p)
    (below : i < length ps) where
  -- with one instance more
  pub planned_more : AreApart tree.text ps → (slots : List Slot) (first_slot all_blocks first_block : ℕ)
      → slots ≡ slots_of tree ps → first_slot ≡ length (global_slots tree ps) + length (own_slots (take i ps))
      → all_blocks ≡ length (blocks_of ps) → first_block ≡ length (blocks_of (take i ps))
      → (labels : Kept ℕ) → AreNumbered tree.text p.program.program.lines labels
      → (lines : List (Line Place ℕ))
      → lines ≡ renamed (numbering_of tree p.program slots first_slot all_blocks first_block labels)
      p.program.program.lines
      → (instances : List PlannedInstance)
      → instances ≡ map (planned_instance tree (slots_of tree ps) (blocks_of ps)) (take i ps)
      → instances ++ record { name = p.name; lines = lines } ∷ []
      ≡ map (planned_instance tree (slots_of tree ps) (blocks_of ps)) (take (i + 1) ps)
  planned_more apart slots first_slot all_blocks first_block s e k d labels numbered lines h instances so_far =
      let front = take i ps in
      let back = drop (i + 1) ps in
      let whole : front ++ p ∷ back ≡ ps = parted ps i p is below in
      let s : slots ≡ slots_of tree (front ++ p ∷ back) = s ∙ ap (λ qs. slots_of tree qs) (sym whole) in
      let e : first_slot ≡ length (global_slots tree (front ++ p ∷ back)) + length (own_slots front) =
      e ∙ ap (λ qs. length (global_slots tree qs) + length (own_slots front)) (sym whole)
      in
      let k : all_blocks ≡ length (blocks_of (front ++ p ∷ back)) = k ∙ ap (λ qs. length (blocks_of qs)) (sym whole) in
      let named : lines ≡ renamed (numbering tree front back p labels) p.program.program.lines =
      h ∙ (λ j. renamed (numbering_of tree p.program (s j) (e j) (k j) (d j) labels) p.program.program.lines)
      in
      let there = instance_is tree front back p labels lines (subst (AreApart tree.text) (sym whole) apart) numbered
      named in
      let here : lines ≡ (planned_instance tree (slots_of tree ps) (blocks_of ps) p).lines =
      there ∙ ap (λ qs. (planned_instance tree (slots_of tree qs) (blocks_of qs) p).lines) whole
      in
      (λ j. so_far j ++ record { name = p.name; lines = here j } ∷ [])
      ∙ sym (map-append (planned_instance tree (slots_of tree ps) (blocks_of ps)) front (p ∷ []))
      ∙ ap (map (planned_instance tree (slots_of tree ps) (blocks_of ps))) (sym (take_more ps i p below is))

  lines_more : lines_of (take (i + 1) ps) ≡ lines_of (take i ps) ++ p.program.program.lines
  lines_more =
      ap lines_of (take_more ps i p below is)
      ∙ flat_map-append (λ q. q.program.program.lines) (take i ps) (p ∷ [])
      ∙ ap (λ ls. lines_of (take i ps) ++ ls) (append-nil p.program.program.lines)

  -- its slots are among all
  own_fit : length (own_slots (take i ps)) + length p.program.variables ≤ length (own_slots ps)
  own_fit =
      let fit = length-flat_map-take slots_in ps i p below in
      let own = ap (λ q. length (slots_in q)) (sym is) in
      let many = length-map p.program.variables (own_slot p.name) in
      omega (arith, fit, own, many)

  pub slots_fit : length (global_slots tree ps) + length (own_slots (take i ps)) + length p.program.variables
      ≤ length (slots_of tree ps)
  slots_fit =
      let own = own_fit in
      let all = length-append (global_slots tree ps) (own_slots ps) in
      omega (arith, own, all)

  -- and so many are before the next
  pub slots_more : length (own_slots (take i ps)) + length p.program.variables ≡ length (own_slots (take (i + 1) ps))
  slots_more =
      let more = ap (λ qs. length (own_slots qs)) (take_more ps i p below is) in
      let parts = ap (λ (ss : List Slot). length ss) (flat_map-append slots_in (take i ps) (p ∷ [])) in
      let both = length-append (own_slots (take i ps)) (own_slots (p ∷ [])) in
      let own = length-append (slots_in p) [] in
      let many = length-map p.program.variables (own_slot p.name) in
      omega (arith, more, parts, both, own, many)

  -- its block instances likewise
  pub blocks_fit : length (blocks_of (take i ps)) + length p.program.blocks ≤ length (blocks_of ps)
  blocks_fit =
      let fit = length-flat_map-take blocks_in ps i p below in
      let own = ap (λ q. length (blocks_in q)) (sym is) in
      let many = length-map p.program.blocks (function_block p.name) in
      omega (arith, fit, own, many)

  pub blocks_more : length (blocks_of (take i ps)) + length p.program.blocks ≡ length (blocks_of (take (i + 1) ps))
  blocks_more =
      let more = ap (λ qs. length (blocks_of qs)) (take_more ps i p below is) in
      let parts = ap (λ (bs : List FunctionBlock). length bs)
      (flat_map-append blocks_in (take i ps) (p ∷ [])) in
      let both = length-append (blocks_of (take i ps)) (blocks_of (p ∷ [])) in
      let own = length-append (blocks_in p) [] in
      let many = length-map p.program.blocks (function_block p.name) in
      omega (arith, more, parts, both, own, many)

  -- the lines up to the next
  pub shallow_more : AreShallow (lines_of (take i ps)) → AreShallow p.program.program.lines
      → AreShallow (lines_of (take (i + 1) ps))
  shallow_more before own =
      subst AreShallow (sym lines_more) (shallow_append (lines_of (take i ps)) p.program.program.lines before own)

  pub sorted_more : AreSorted (lines_of (take i ps)) → AreSorted p.program.program.lines
      → AreSorted (lines_of (take (i + 1) ps))
  sorted_more before own =
      let before_lines = lines_of (take i ps) in
      subst AreSorted (sym lines_more)
      (subst (AllByRecursion MayBeUsed) (sym (flat_map-append uses_in before_lines p.program.program.lines))
      (all_append MayBeUsed (flat_map uses_in before_lines) (flat_map uses_in p.program.program.lines) before own))
