use Rattle.std.proofs.Common.{◌≡◌, ℕ, ◌+◌, ◌≤◌, List, ◌++◌, Bool, length, map, sym, subst, ap, ◌∙◌, arith, Option}
use Rattle.std.specs.Prelude.{flat_map, is_some, sum_by}
use Rattle.std.specs.List.{AllByRecursion}
use Rattle.std.proofs.lemmas.List.{length-map}
use Rattle.limits.specs.Limits.{most_slots, most_words}
use Rattle.iltypes.specs.declared.value.IlType.{IlType}
use Rattle.iltypes.specs.declared.value.Value.{Value}
use Rattle.ilsource.specs.Places.{line_at}
use Rattle.ilsource.specs.Words as counts
use Rattle.ilplan.specs.declared.slot.Slot.{Slot}
use Rattle.ilplan.specs.Functions.{PlannedFunction, function_types, slots_of_function, those_in, words_of_function}
use Rattle.ilplan.specs.PlanMeaning.{plan_scan}
use Rattle.ilplan.specs.Plans.{KeepsLimits, PlannedInstance, PlannedTask, all_lines, functions_of, types_of}
use Rattle.ilplan.specs.Plans.{used_functions}
use Rattle.ilcode.specs.declared.function.FunctionBody.{FunctionBody}
use Rattle.ilcode.specs.declared.word.Word.{Word}
use Rattle.ilcode.specs.Words.{HasWord}
use Rattle.ilcode.specs.Listings.{IsLawful}
use Rattle.ilcompile.specs.declared.numbers.Placed.{Placed}
use Rattle.ilcompile.specs.Layout.{Numbers, bodies_from, numbers_of, placed_from, places_of_body}
use Rattle.ilcompile.specs.Layout.{places_of_programs, programs_of, words_of_bodies, words_of_programs}
use Rattle.ilcompile.specs.LayoutSteps.{picked}
use Rattle.ilcompile.specs.Meant.{IsMeant}
use Rattle.ilcompile.proofs.Lawful.{bodies_held, laid_out_lawful, parts_are, programs_held}
use Rattle.ilcompile.proofs.Meant.{is_meant}
use Rattle.ilcompile.proofs.UsedFunctions.{picked_used, used_long}
use Rattle.ilcompile.proofs.compiler.lay_out.Goals as goal

-- the functions that are used, by a truth value for each
module _ (fs : List PlannedFunction) (t : PlannedTask) (used : List Bool)
    (is : used ≡ map is_some (used_functions fs t)) where
  flags : length used ≡ length fs
  flags = ap length is ∙ (length-map (used_functions fs t) is_some ∙ used_long (all_lines t.instances) fs 0)

  picks : picked fs used ≡ used_functions fs t
  picks = ap (picked fs) is ∙ picked_used (all_lines t.instances) fs 0

  abbrev stands : List (Option Placed)
  stands = placed_from 0 (length t.slots) (used_functions fs t)

  stands_so : (slots : List Slot) (placed : List (Option Placed)) → slots ≡ t.slots
      → placed ≡ placed_from 0 (length slots) (picked fs used) → placed ≡ stands
  stands_so slots placed e p = p ∙ (ap (λ (ss : List Slot). placed_from 0 (length ss) (picked fs used)) e
      ∙ ap (placed_from 0 (length t.slots)) picks)

  slots_fit : (slots : List Slot) → slots ≡ t.slots → KeepsLimits fs t
      → length slots + sum_by slots_of_function (those_in (picked fs used)) ≤ most_slots
  slots_fit slots e k =
      subst (λ gs. length slots + sum_by slots_of_function (those_in gs) ≤ most_slots) (sym picks)
      (subst (λ (ss : List Slot). length ss + sum_by slots_of_function (functions_of fs t) ≤ most_slots) (sym e)
      k.most_slots)

  words_fit : (instances : List PlannedInstance) (place : ℕ) → instances ≡ t.instances
      → place ≡ counts.words_of_lines (all_lines instances) → KeepsLimits fs t
      → place + sum_by words_of_function (those_in (picked fs used)) ≤ most_words
  words_fit instances place e p k =
      subst (λ gs. place + sum_by words_of_function (those_in gs) ≤ most_words) (sym picks)
      (subst (λ n. n + sum_by words_of_function (functions_of fs t) ≤ most_words)
      (sym (p ∙ ap (λ (xs : List PlannedInstance). counts.words_of_lines (all_lines xs)) e)) k.most_words)

  -- the words of the programs
  program_words : (n : Numbers) (constants : List Value) (slots : List Slot) (placed stand : List (Option Placed))
      (instances : List PlannedInstance) → n ≡ numbers_of constants 0 stand → constants ≡ t.constants
      → stand ≡ placed → slots ≡ t.slots → placed ≡ placed_from 0 (length slots) (picked fs used)
      → instances ≡ t.instances
      → words_of_programs n 0 (programs_of instances)
      ≡ words_of_programs (numbers_of t.constants 0 stands) 0 (programs_of t.instances)
  program_words n constants slots placed stand instances a b c d e f =
      let so = c ∙ stands_so slots placed d e in
      ap (λ m. words_of_programs m 0 (programs_of instances))
      (a ∙ (ap (λ (vs : List Value). numbers_of vs 0 stand) b ∙ ap (numbers_of t.constants 0) so))
      ∙ ap (λ (xs : List PlannedInstance). words_of_programs (numbers_of t.constants 0 stands) 0 (programs_of xs)) f

  -- and those of the functions
  body_words : (constants : List Value) (slots : List Slot) (placed stand : List (Option Placed)) (place : ℕ)
      (instances : List PlannedInstance) → constants ≡ t.constants → stand ≡ placed → slots ≡ t.slots
      → placed ≡ placed_from 0 (length slots) (picked fs used) → instances ≡ t.instances
      → place ≡ counts.words_of_lines (all_lines instances)
      → words_of_bodies constants stand place (length slots) (those_in (picked fs used))
      ≡ words_of_bodies t.constants stands (counts.words_of_lines (all_lines t.instances)) (length t.slots)
      (functions_of fs t)
  body_words constants slots placed stand place instances b c d e f g =
      let so = c ∙ stands_so slots placed d e in
      let end = g ∙ ap (λ (xs : List PlannedInstance). counts.words_of_lines (all_lines xs)) f in
      ap (λ (vs : List Value). words_of_bodies vs stand place (length slots) (those_in (picked fs used))) b
      ∙ (ap (λ ps. words_of_bodies t.constants ps place (length slots) (those_in (picked fs used))) so
      ∙ (ap (λ m. words_of_bodies t.constants stands m (length slots) (those_in (picked fs used))) end
      ∙ (ap (λ (ss : List Slot). words_of_bodies t.constants stands
      (counts.words_of_lines (all_lines t.instances)) (length ss) (those_in (picked fs used))) d
      ∙ ap (λ gs. words_of_bodies t.constants stands (counts.words_of_lines (all_lines t.instances)) (length t.slots)
      (those_in gs)) picks)))

  abbrev words_laid : List Word
  words_laid =
      words_of_programs (numbers_of t.constants 0 stands) 0 (programs_of t.instances)
      ++ words_of_bodies t.constants stands (counts.words_of_lines (all_lines t.instances)) (length t.slots)
      (functions_of fs t)

  all_words : (n : Numbers) (one other : List Value) (slots : List Slot) (placed stand again : List (Option Placed))
      (instances : List PlannedInstance) (first all : List Word) → n ≡ numbers_of one 0 stand → one ≡ t.constants
      → other ≡ t.constants → stand ≡ placed → again ≡ placed → slots ≡ t.slots
      → placed ≡ placed_from 0 (length slots) (picked fs used) → instances ≡ t.instances
      → first ≡ words_of_programs n 0 (programs_of instances)
      → length first ≡ counts.words_of_lines (all_lines instances)
      → all ≡ first ++ words_of_bodies other again (length first) (length slots) (those_in (picked fs used))
      → all ≡ words_laid
  all_words n one other slots placed stand again instances first all a b c d e f g h i j k =
      let behind = words_of_bodies other again (length first) (length slots) (those_in (picked fs used)) in
      let programs = words_of_programs (numbers_of t.constants 0 stands) 0 (programs_of t.instances) in
      k
      ∙ (ap (λ ws. ws ++ behind) (i ∙ program_words n one slots placed stand instances a b d f g h)
      ∙ ap (λ ws. programs ++ ws) (body_words other slots placed again (length first) instances c e f g h j))

  all_types : (slots : List Slot) (first all : List IlType) → slots ≡ t.slots → first ≡ map (λ s. s.value_type) slots
      → all ≡ first ++ flat_map function_types (those_in (picked fs used))
      → all ≡ types_of t ++ flat_map function_types (functions_of fs t)
  all_types slots first all a b c =
      c
      ∙ (ap (λ (ts : List IlType). ts ++ flat_map function_types (those_in (picked fs used)))
      (b ∙ ap (λ (ss : List Slot). map (λ (s : Slot). s.value_type) ss) a)
      ∙ ap (λ gs. types_of t ++ flat_map function_types (those_in gs)) picks)

  all_lines_of : (text : List ℕ) (instances : List PlannedInstance) (numbers : List ℕ) → instances ≡ t.instances
      → numbers ≡ map (line_at text) (places_of_programs (programs_of instances)
      ++ flat_map places_of_body (those_in (picked fs used)))
      → numbers ≡ map (line_at text) (places_of_programs (programs_of t.instances)
      ++ flat_map places_of_body (functions_of fs t))
  all_lines_of text instances numbers a b =
      b
      ∙ (ap (λ (xs : List PlannedInstance). map (line_at text) (places_of_programs (programs_of xs)
      ++ flat_map places_of_body (those_in (picked fs used)))) a
      ∙ ap (λ gs. map (line_at text) (places_of_programs (programs_of t.instances)
      ++ flat_map places_of_body (those_in gs))) picks)

  all_bodies : (place : ℕ) (slots : List Slot) (instances : List PlannedInstance) (bodies : List FunctionBody)
      → slots ≡ t.slots → instances ≡ t.instances → place ≡ counts.words_of_lines (all_lines instances)
      → bodies ≡ bodies_from place (length slots) (those_in (picked fs used))
      → bodies ≡ bodies_from (counts.words_of_lines (all_lines t.instances)) (length t.slots) (functions_of fs t)
  all_bodies place slots instances bodies a b c d =
      d
      ∙ (ap (λ n. bodies_from n (length slots) (those_in (picked fs used)))
      (c ∙ ap (λ (xs : List PlannedInstance). counts.words_of_lines (all_lines xs)) b)
      ∙ (ap (λ (ss : List Slot). bodies_from (counts.words_of_lines (all_lines t.instances)) (length ss)
      (those_in (picked fs used))) a
      ∙ ap (λ gs. bodies_from (counts.words_of_lines (all_lines t.instances)) (length t.slots) (those_in gs)) picks))

pub placed-requires-clause-flags : goal.placed-requires-clause-flags
placed-requires-clause-flags c = flags c.args.functions.now c.args.task.now c.args.used.now c.requires.used

pub bodies-requires-clause-flags : goal.bodies-requires-clause-flags
bodies-requires-clause-flags c = flags c.args.functions.now c.args.task.now c.args.used.now c.requires.used

pub push_bodies-requires-clause-flags : goal.push_bodies-requires-clause-flags
push_bodies-requires-clause-flags c = flags c.args.functions.now c.args.task.now c.args.used.now c.requires.used

pub push_types-requires : goal.push_types-requires
push_types-requires c =
    record { flags = flags c.args.functions.now c.args.task.now c.args.used.now c.requires.used }

pub line_numbers-requires-clause-flags : goal.line_numbers-requires-clause-flags
line_numbers-requires-clause-flags c = flags c.args.functions.now c.args.task.now c.args.used.now c.requires.used

pub placed-requires-clause-slots : goal.placed-requires-clause-slots
placed-requires-clause-slots c =
    slots_fit c.args.functions.now c.args.task.now c.args.used.now c.requires.used c.slots-own.result.now
    c.slots-own.ensures.value c.requires.limits

pub bodies-requires-clause-slots : goal.bodies-requires-clause-slots
bodies-requires-clause-slots c =
    slots_fit c.args.functions.now c.args.task.now c.args.used.now c.requires.used c.slots-own.result.now
    c.slots-own.ensures.value c.requires.limits

pub push_bodies-requires-clause-slots : goal.push_bodies-requires-clause-slots
push_bodies-requires-clause-slots c =
    slots_fit c.args.functions.now c.args.task.now c.args.used.now c.requires.used c.slots-own.result.now
    c.slots-own.ensures.value c.requires.limits

pub bodies-requires-clause-words : goal.bodies-requires-clause-words
bodies-requires-clause-words c =
    let long : c.len.result ≡ length c.in_ok-starts.words.items =
    omega (arith, c.len.ensures, c.in_ok-starts.words.ok.0) in
    words_fit c.args.functions.now c.args.task.now c.args.used.now c.requires.used c.instances.result.now c.len.result
    c.instances.ensures.value (long ∙ c.in_ok-starts.ensures.long) c.requires.limits

pub push_bodies-requires-clause-words : goal.push_bodies-requires-clause-words
push_bodies-requires-clause-words c =
    words_fit c.args.functions.now c.args.task.now c.args.used.now c.requires.used c.instances.result.now
    (length c.in_ok-starts.words.items) c.instances.ensures.value c.in_ok-starts.ensures.long c.requires.limits

pub words-requires-clause-near : goal.words-requires-clause-near
words-requires-clause-near c =
    let same = program_words c.args.functions.now c.args.task.now c.args.used.now c.requires.used c.new-numbers.result
    c.constants.result.now c.slots-own.result.now c.in_ok-placed.placed.items c.deref.result.now c.instances.result.now
    c.new-numbers.ensures c.constants.ensures.value c.deref.ensures.value c.slots-own.ensures.value
    c.in_ok-placed.ensures c.instances.ensures.value in
    subst (AllByRecursion HasWord) (sym same)
    (programs_held c.args.buses c.args.text.now c.args.functions.now c.args.task.now c.requires.first c.requires.last
    c.requires.short c.requires.few c.requires.bodies c.requires.limits)

pub push_bodies-requires-clause-near : goal.push_bodies-requires-clause-near
push_bodies-requires-clause-near c =
    let same = body_words c.args.functions.now c.args.task.now c.args.used.now c.requires.used c.constants-2.result.now
    c.slots-own.result.now c.in_ok-placed.placed.items c.deref-2.result.now (length c.in_ok-starts.words.items)
    c.instances.result.now c.constants-2.ensures.value c.deref-2.ensures.value c.slots-own.ensures.value
    c.in_ok-placed.ensures c.instances.ensures.value c.in_ok-starts.ensures.long in
    subst (AllByRecursion HasWord) (sym same)
    (bodies_held c.args.buses c.args.text.now c.args.functions.now c.args.task.now c.requires.first c.requires.last
    c.requires.short c.requires.few c.requires.bodies c.requires.limits)

pub pack-requires : goal.pack-requires
pack-requires c =
    let words = all_words c.args.functions.now c.args.task.now c.args.used.now c.requires.used c.new-numbers.result
    c.constants.result.now c.constants-2.result.now c.slots-own.result.now c.in_ok-placed.placed.items
    c.deref.result.now c.deref-2.result.now c.instances.result.now c.in_ok-starts.words.items
    c.push_bodies.new.words.items c.new-numbers.ensures c.constants.ensures.value c.constants-2.ensures.value
    c.deref.ensures.value c.deref-2.ensures.value c.slots-own.ensures.value c.in_ok-placed.ensures
    c.instances.ensures.value c.in_ok-starts.ensures.words c.in_ok-starts.ensures.long c.in_ok-push_bodies.ensures in
    let lawful = laid_out_lawful c.args.buses c.args.text.now c.args.functions.now c.args.task.now c.requires.first
    c.requires.last c.requires.short c.requires.few c.requires.bodies c.requires.limits in
    subst (AllByRecursion HasWord) (sym (c.deref-3.ensures.value ∙ words)) lawful.words

pub new-requires : goal.new-requires
new-requires c =
    let fs = c.args.functions.now in
    let t = c.args.task.now in
    let used = c.args.used.now in
    let long : c.len.result ≡ length c.in_ok-starts.words.items =
    omega (arith, c.len.ensures, c.in_ok-starts.words.ok.0) in
    let words = all_words fs t used c.requires.used c.new-numbers.result c.constants.result.now c.constants-2.result.now
    c.slots-own.result.now c.in_ok-placed.placed.items c.deref.result.now c.deref-2.result.now c.instances.result.now
    c.in_ok-starts.words.items c.push_bodies.new.words.items c.new-numbers.ensures c.constants.ensures.value
    c.constants-2.ensures.value c.deref.ensures.value c.deref-2.ensures.value c.slots-own.ensures.value
    c.in_ok-placed.ensures c.instances.ensures.value c.in_ok-starts.ensures.words c.in_ok-starts.ensures.long
    c.in_ok-push_bodies.ensures in
    let laid = parts_are c.args.buses c.args.text.now fs t _ _ _ _ _ _ _
    (c.in_ok-constants.ensures.items ∙ c.as_slice.ensures.value ∙ c.constants-3.ensures.value)
    (all_types fs t used c.requires.used c.slots.result.now c.in_ok-slots.slots.items c.push_types.new.types.items
    c.slots.ensures.value c.in_ok-slots.ensures c.in_ok-push_types.ensures)
    (rw c.blocks-2.ensures.value at c.in_ok-kinds.ensures)
    (rw c.instances.ensures.value at c.in_ok-starts.ensures.starts)
    (c.in_ok-words.ensures ∙ c.deref-3.ensures.value ∙ words)
    (all_lines_of fs t used c.requires.used c.args.text.now c.instances-2.result.now c.in_ok-lines.lines.items
    c.instances-2.ensures.value c.in_ok-lines.ensures)
    (all_bodies fs t used c.requires.used c.len.result c.slots-own.result.now c.instances.result.now
    c.in_ok-bodies.bodies.items c.slots-own.ensures.value c.instances.ensures.value
    (long ∙ c.in_ok-starts.ensures.long) c.in_ok-bodies.ensures) in
    subst IsLawful (sym laid)
    (laid_out_lawful c.args.buses c.args.text.now fs t c.requires.first c.requires.last c.requires.short c.requires.few
    c.requires.bodies c.requires.limits)

pub returns-clause-layout : goal.returns-clause-layout
returns-clause-layout c =
    let fs = c.args.functions.now in
    let t = c.args.task.now in
    let used = c.args.used.now in
    let long : c.len.result ≡ length c.in_ok-starts.words.items =
    omega (arith, c.len.ensures, c.in_ok-starts.words.ok.0) in
    let words = all_words fs t used c.requires.used c.new-numbers.result c.constants.result.now c.constants-2.result.now
    c.slots-own.result.now c.in_ok-placed.placed.items c.deref.result.now c.deref-2.result.now c.instances.result.now
    c.in_ok-starts.words.items c.push_bodies.new.words.items c.new-numbers.ensures c.constants.ensures.value
    c.constants-2.ensures.value c.deref.ensures.value c.deref-2.ensures.value c.slots-own.ensures.value
    c.in_ok-placed.ensures c.instances.ensures.value c.in_ok-starts.ensures.words c.in_ok-starts.ensures.long
    c.in_ok-push_bodies.ensures in
    let laid = parts_are c.args.buses c.args.text.now fs t _ _ _ _ _ _ _
    (c.in_ok-constants.ensures.items ∙ c.as_slice.ensures.value ∙ c.constants-3.ensures.value)
    (all_types fs t used c.requires.used c.slots.result.now c.in_ok-slots.slots.items c.push_types.new.types.items
    c.slots.ensures.value c.in_ok-slots.ensures c.in_ok-push_types.ensures)
    (rw c.blocks-2.ensures.value at c.in_ok-kinds.ensures)
    (rw c.instances.ensures.value at c.in_ok-starts.ensures.starts)
    (c.in_ok-words.ensures ∙ c.deref-3.ensures.value ∙ words)
    (all_lines_of fs t used c.requires.used c.args.text.now c.instances-2.result.now c.in_ok-lines.lines.items
    c.instances-2.ensures.value c.in_ok-lines.ensures)
    (all_bodies fs t used c.requires.used c.len.result c.slots-own.result.now c.instances.result.now
    c.in_ok-bodies.bodies.items c.slots-own.ensures.value c.instances.ensures.value
    (long ∙ c.in_ok-starts.ensures.long) c.in_ok-bodies.ensures) in
    c.new.ensures ∙ laid

pub returns-clause-meaning : goal.returns-clause-meaning
returns-clause-meaning c =
    let fs = c.args.functions.now in
    let t = c.args.task.now in
    subst (IsMeant (plan_scan c.args.buses fs t)) (sym (returns-clause-layout c))
    (is_meant c.args.buses c.args.text.now fs t c.requires.bodies c.requires.depths c.requires.limits)
