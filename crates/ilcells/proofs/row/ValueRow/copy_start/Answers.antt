use Rattle.std.proofs.Common.{◌∙◌, sym, ap, length, pos, arith}
use Rattle.std.specs.Arc.{arc_value}
use Rattle.ilcells.specs.Banks.{kinds_of}
use Rattle.ilcells.proofs.Rows.{kinds_of_row}
use Rattle.ilcells.proofs.RowStarts.{starts, start_same, copied, head_long}
use Rattle.ilcells.proofs.row.ValueRow.copy_start.Goals as goal

pub copy_words-requires-clause-mine : goal.copy_words-requires-clause-mine
copy_words-requires-clause-mine c =
    let f = c.self.inside in
    let g = c.other.inside in
    let s = starts (arc_value f.layout) (arc_value g.layout) g.truths.items f.truths.items g.numbers.items
    f.numbers.items c.args.self.now c.args.other.now c.self.view_is c.other.view_is c.self.invariant
    c.other.invariant c.requires in
    omega (arith, s.truths, c.len.ensures, c.deref.ensures.len, ap length c.deref.ensures.value)

pub copy_first-requires-clause-mine : goal.copy_first-requires-clause-mine
copy_first-requires-clause-mine c =
    let f = c.self.inside in
    let g = c.other.inside in
    let s = starts (arc_value f.layout) (arc_value g.layout) g.truths.items f.truths.items g.numbers.items
    f.numbers.items c.args.self.now c.args.other.now c.self.view_is c.other.view_is c.self.invariant
    c.other.invariant c.requires in
    omega (arith, s.numbers, c.len-2.ensures, c.deref-2.ensures.len, ap length c.deref-2.ensures.value)

pub invariant_of-self : goal.invariant_of-self
invariant_of-self c =
    let f = c.self.inside in
    let g = c.other.inside in
    let s = starts (arc_value f.layout) (arc_value g.layout) g.truths.items f.truths.items g.numbers.items
    f.numbers.items c.args.self.now c.args.other.now c.self.view_is c.other.view_is c.self.invariant
    c.other.invariant c.requires in
    record {
      of_truths = ap length c.copy_words.ensures
          ∙ head_long f.truths.items c.deref.result.now c.len.result
          (omega (arith, c.len.ensures, c.deref.ensures.len))
          (omega (arith, s.truths, c.len.ensures, c.deref.ensures.len, ap length c.deref.ensures.value))
          ∙ c.self.invariant.of_truths;
      of_numbers = ap length c.copy_first.ensures
          ∙ head_long f.numbers.items c.deref-2.result.now c.len-2.result
          (omega (arith, c.len-2.ensures, c.deref-2.ensures.len))
          (omega (arith, s.numbers, c.len-2.ensures, c.deref-2.ensures.len, ap length c.deref-2.ensures.value))
          ∙ c.self.invariant.of_numbers;
    }

pub returns-clause-kinds : goal.returns-clause-kinds
returns-clause-kinds c =
    let f = c.self.inside in
    let kinds = arc_value f.layout in
    kinds_of_row kinds c.copy_words.new.words.items c.copy_first.new.numbers.items
    ∙ sym (kinds_of_row kinds f.truths.items f.numbers.items) ∙ ap kinds_of c.self.view_is

pub returns-clause-start : goal.returns-clause-start
returns-clause-start c =
    let f = c.self.inside in
    let g = c.other.inside in
    let s = starts (arc_value f.layout) (arc_value g.layout) g.truths.items f.truths.items g.numbers.items
    f.numbers.items c.args.self.now c.args.other.now c.self.view_is c.other.view_is c.self.invariant
    c.other.invariant c.requires in
    let truths = copied f.truths.items c.deref.result.now g.truths.items c.copy_words.new.words.items c.len.result 0
    c.copy_words.ensures c.deref.ensures.value
    (c.len.ensures ∙ sym c.deref.ensures.len ∙ ap length c.deref.ensures.value) in
    let numbers = copied f.numbers.items c.deref-2.result.now g.numbers.items c.copy_first.new.numbers.items
    c.len-2.result (pos 0) c.copy_first.ensures c.deref-2.ensures.value
    (c.len-2.ensures ∙ sym c.deref-2.ensures.len ∙ ap length c.deref-2.ensures.value) in
    start_same (arc_value f.layout) (arc_value g.layout) (length c.args.other.now) g.truths.items
    c.copy_words.new.words.items g.numbers.items c.copy_first.new.numbers.items s.same c.other.invariant truths numbers
    ∙ c.other.view_is
