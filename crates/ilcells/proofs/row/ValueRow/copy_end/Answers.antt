use Rattle.std.proofs.Common.{◌≡◌, ◌∙◌, ◌++◌, ◌≤◌, ℕ, Bool, List, ap, length, take, drop, arith}
use Rattle.std.specs.Arc.{arc_value}
use Rattle.iltypes.specs.declared.value.Value.{Value}
use Rattle.ilcells.specs.Banks.{truth_count, number_count, row_in}
use Rattle.ilcells.proofs.Rows.{length_row, same_kinds}
use Rattle.ilcells.proofs.RowEnds.{fewer_truths, fewer_numbers, spliced_long, row_spliced}
use Rattle.ilcells.proofs.row.ValueRow.copy_end.Goals as goal

pub counts_before-truths-requires : goal.counts_before-truths-requires
counts_before-truths-requires c =
    let f = c.self.inside in
    let l = length_row (arc_value f.layout) f.truths.items f.numbers.items in
    let m = ap length c.self.view_is in
    let n = ap length c.deref.ensures in
    let h = c.requires.there in
    omega arith

pub copy_truths-requires-clause-long : goal.copy_truths-requires-clause-long
copy_truths-requires-clause-long c =
    let f = c.self.inside in
    let g = c.other.inside in
    let k = same_kinds (arc_value f.layout) (arc_value g.layout) f.truths.items g.truths.items f.numbers.items
    g.numbers.items c.args.self.now c.args.other.now c.self.view_is c.other.view_is c.requires.kinds in
    let t = ap truth_count k in
    let a = c.self.invariant.of_truths in
    let b = c.other.invariant.of_truths in
    let l = ap length c.deref-2.ensures.value in
    omega arith

pub copy_truths-requires-clause-there : goal.copy_truths-requires-clause-there
copy_truths-requires-clause-there c =
    let f = c.self.inside in
    let t = c.counts_before-truths.ensures.truths
    ∙ ap (λ (ks : List Bool). truth_count (take c.args.slot ks)) c.deref.ensures in
    let w = fewer_truths (arc_value f.layout) c.args.slot in
    let a = c.self.invariant.of_truths in
    omega arith

pub copy_numbers-requires-clause-long : goal.copy_numbers-requires-clause-long
copy_numbers-requires-clause-long c =
    let f = c.self.inside in
    let g = c.other.inside in
    let k = same_kinds (arc_value f.layout) (arc_value g.layout) f.truths.items g.truths.items f.numbers.items
    g.numbers.items c.args.self.now c.args.other.now c.self.view_is c.other.view_is c.requires.kinds in
    let t = ap number_count k in
    let a = c.self.invariant.of_numbers in
    let b = c.other.invariant.of_numbers in
    let l = ap length c.deref-3.ensures.value in
    omega arith

pub copy_numbers-requires-clause-there : goal.copy_numbers-requires-clause-there
copy_numbers-requires-clause-there c =
    let f = c.self.inside in
    let t = c.counts_before-truths.ensures.numbers
    ∙ ap (λ (ks : List Bool). number_count (take c.args.slot ks)) c.deref.ensures in
    let w = fewer_numbers (arc_value f.layout) c.args.slot in
    let a = c.self.invariant.of_numbers in
    omega arith

pub invariant_of-self : goal.invariant_of-self
invariant_of-self c =
    let f = c.self.inside in
    let g = c.other.inside in
    let k = same_kinds (arc_value f.layout) (arc_value g.layout) f.truths.items g.truths.items f.numbers.items
    g.numbers.items c.args.self.now c.args.other.now c.self.view_is c.other.view_is c.requires.kinds in
    let t = c.counts_before-truths.ensures.numbers
    ∙ ap (λ (ks : List Bool). number_count (take c.args.slot ks)) c.deref.ensures in
    let w = fewer_numbers (arc_value f.layout) c.args.slot in
    let n = ap number_count k in
    let a = c.self.invariant.of_numbers in
    let b = c.other.invariant.of_numbers in
    let l = ap length c.deref-3.ensures.value in
    let there : c.counts_before-truths.result.1 ≤ length f.numbers.items = omega arith in
    let long : length c.deref-3.result.now ≡ length f.numbers.items = omega arith in
    record {
      of_truths = c.copy_truths.ensures.long ∙ c.self.invariant.of_truths;
      of_numbers = ap length c.copy_numbers.ensures
          ∙ spliced_long f.numbers.items c.deref-3.result.now c.counts_before-truths.result.1 there long ∙ a;
    }

pub returns : goal.returns
returns c =
    let f = c.self.inside in
    let g = c.other.inside in
    let kinds = arc_value f.layout in
    let slot = c.args.slot in
    let t = f.truths.items in
    let n = f.numbers.items in
    let u = c.deref-2.result.now in
    let m = c.deref-3.result.now in
    let k = same_kinds kinds (arc_value g.layout) t g.truths.items n g.numbers.items c.args.self.now c.args.other.now
    c.self.view_is c.other.view_is c.requires.kinds in
    let truths = c.counts_before-truths.ensures.truths
    ∙ ap (λ (ks : List Bool). truth_count (take slot ks)) c.deref.ensures in
    let numbers = c.counts_before-truths.ensures.numbers
    ∙ ap (λ (ks : List Bool). number_count (take slot ks)) c.deref.ensures in
    let w = fewer_numbers kinds slot in
    let a = c.self.invariant.of_numbers in
    row_spliced kinds t u c.copy_truths.new.words.items n m c.copy_numbers.new.numbers.items
    c.counts_before-truths.result.0 c.counts_before-truths.result.1 slot
    (record {
      before = c.copy_truths.ensures.before;
      rest = c.copy_truths.ensures.rest;
      numbers_are = c.copy_numbers.ensures;
      there = omega arith;
    }) truths numbers
    ∙ ap (λ (r : List Value). take slot r ++ drop slot (row_in kinds u m)) c.self.view_is
    ∙ ap (λ (r : List Value). take slot c.args.self.now ++ drop slot r)
    (ap (λ (ts : List ℕ). row_in kinds ts m) c.deref-2.ensures.value
    ∙ ap (row_in kinds g.truths.items) c.deref-3.ensures.value
    ∙ ap (λ (ks : List Bool). row_in ks g.truths.items g.numbers.items) k ∙ c.other.view_is)
