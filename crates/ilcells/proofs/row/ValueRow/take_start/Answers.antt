use Rattle.std.proofs.Common.{◌∙◌, ◌≡◌, ◌≤◌, List, sym, ap, length, take, pos, arith}
use Rattle.std.specs.Arc.{arc_value}
use Rattle.ilcells.specs.Banks.{AreBanks}
use Rattle.ilcells.proofs.RowStarts.{starts, start_same, taken, as_long}
use Rattle.ilcells.proofs.row.ValueRow.take_start.Goals as goal

pub copy_words-requires-clause-theirs : goal.copy_words-requires-clause-theirs
copy_words-requires-clause-theirs c =
    let f = c.self.inside in
    let g = c.other.inside in
    let s = starts (arc_value g.layout) (arc_value f.layout) f.truths.items g.truths.items f.numbers.items
    g.numbers.items c.args.other.now c.args.self.now c.other.view_is c.self.view_is c.other.invariant
    c.self.invariant c.requires in
    omega (arith, s.truths, c.len-truths.ensures, c.self.inside.truths.ok.0, ap length c.deref.ensures.value)

pub copy_first-requires-clause-theirs : goal.copy_first-requires-clause-theirs
copy_first-requires-clause-theirs c =
    let f = c.self.inside in
    let g = c.other.inside in
    let s = starts (arc_value g.layout) (arc_value f.layout) f.truths.items g.truths.items f.numbers.items
    g.numbers.items c.args.other.now c.args.self.now c.other.view_is c.self.view_is c.other.invariant
    c.self.invariant c.requires in
    omega (arith, s.numbers, c.len-numbers.ensures, c.self.inside.numbers.ok.0, ap length c.deref-2.ensures.value)

pub invariant_of-self : goal.invariant_of-self
invariant_of-self c =
    let f = c.self.inside in
    let g = c.other.inside in
    let s = starts (arc_value g.layout) (arc_value f.layout) f.truths.items g.truths.items f.numbers.items
    g.numbers.items c.args.other.now c.args.self.now c.other.view_is c.self.view_is c.other.invariant
    c.self.invariant c.requires in
    record {
      of_truths = as_long f.truths.items c.deref.result.now c.copy_words.new.words.items c.len-truths.result
          c.copy_words.ensures
          (omega (arith, s.truths, c.len-truths.ensures, c.self.inside.truths.ok.0, ap length c.deref.ensures.value))
          (omega (arith, c.len-truths.ensures, c.self.inside.truths.ok.0)) ∙ c.self.invariant.of_truths;
      of_numbers = as_long f.numbers.items c.deref-2.result.now c.copy_first.new.numbers.items c.len-numbers.result
          c.copy_first.ensures
          (omega (
            arith,
            s.numbers,
            c.len-numbers.ensures,
            c.self.inside.numbers.ok.0,
            ap length c.deref-2.ensures.value,
          ))
          (omega (arith, c.len-numbers.ensures, c.self.inside.numbers.ok.0)) ∙ c.self.invariant.of_numbers;
    }

pub returns : goal.returns
returns c =
    let f = c.self.inside in
    let g = c.other.inside in
    let few = arc_value f.layout in
    let s = starts (arc_value g.layout) few f.truths.items g.truths.items f.numbers.items g.numbers.items
    c.args.other.now c.args.self.now c.other.view_is c.self.view_is c.other.invariant c.self.invariant c.requires in
    let t = f.truths.items in
    let n = f.numbers.items in
    let truths : c.len-truths.result ≡ length t = omega (arith, c.len-truths.ensures, c.self.inside.truths.ok.0) in
    let numbers : c.len-numbers.result ≡ length n = omega (arith, c.len-numbers.ensures, c.self.inside.numbers.ok.0) in
    let some : c.len-truths.result ≤ length c.deref.result.now =
    omega (arith, s.truths, truths, ap length c.deref.ensures.value) in
    let many : c.len-numbers.result ≤ length c.deref-2.result.now =
    omega (arith, s.numbers, numbers, ap length c.deref-2.ensures.value) in
    let banks : AreBanks few c.copy_words.new.words.items c.copy_first.new.numbers.items = record {
      of_truths = as_long t c.deref.result.now c.copy_words.new.words.items c.len-truths.result c.copy_words.ensures some
          truths ∙ c.self.invariant.of_truths;
      of_numbers = as_long n c.deref-2.result.now c.copy_first.new.numbers.items c.len-numbers.result
          c.copy_first.ensures many numbers ∙ c.self.invariant.of_numbers;
    } in
    sym (start_same (arc_value g.layout) few (length c.args.self.now) c.copy_words.new.words.items g.truths.items
    c.copy_first.new.numbers.items g.numbers.items s.same banks
    (taken t c.deref.result.now g.truths.items c.copy_words.new.words.items c.len-truths.result 0 c.copy_words.ensures
    c.deref.ensures.value some truths)
    (taken n c.deref-2.result.now g.numbers.items c.copy_first.new.numbers.items c.len-numbers.result (pos 0)
    c.copy_first.ensures c.deref-2.ensures.value many numbers))
    ∙ ap (take (length c.args.self.now)) c.other.view_is
