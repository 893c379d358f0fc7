use Rattle.std.proofs.Common.{◌≡◌, ℕ, ◌+◌, ◌++◌, List, ap, length, drop, length-append, refl, subst, sym, ◌∙◌, arith}
use Rattle.std.specs.List.{AllByRecursion}
use Rattle.std.proofs.lemmas.List.{append-nil, drop_all}
use Rattle.ilsource.specs.Words as counts
use Rattle.ilsource.specs.declared.instruction.Line.{Line}
use Rattle.ilplan.specs.declared.place.Place.{Place}
use Rattle.ilcode.specs.Words.{HasWord}
use Rattle.ilcompile.specs.Layout.{words_of_lines}
use Rattle.ilcompile.proofs.Sizes.{count_more, lines_long}
use Rattle.ilcompile.specs.LayoutSteps.{targets_of}
use Rattle.ilcompile.proofs.TwoPasses.{the_next, next_fits, AreLeft, fewer_left, line_near}
use Rattle.ilcompile.proofs.words.push_lines.Goals as goal

pub loop-line-init : goal.loop-line-init
loop-line-init c =
    let start : c.len-2.result ≡ length c.args.words.now.items =
    omega (arith, c.len-2.ensures, c.args.words.now.ok.0) in
    let end : c.len.result + c.count.result
    ≡ length c.args.words.now.items + counts.words_of_lines c.args.lines.now =
    omega (arith, c.len.ensures, c.args.words.now.ok.0, c.count.ensures) in
    record {
      words = refl;
      targets = c.in_ok-targets.ensures ∙ ap (λ n. targets_of n c.args.lines.now) start;
      limit = c.requires.limit;
      near = subst
          (λ n. AllByRecursion HasWord (words_of_lines c.args.numbers.now n (length c.args.words.now.items)
          c.args.lines.now)) (sym end) c.requires.near;
    }

pub overflow_add-next : goal.overflow_add-next
overflow_add-next c =
    let fits = next_fits (length c.loop-line.words.items) c.args.lines.now c.loop-line.line-index c.line-item.result
    c.loop-line-test.true c.line-item.is c.loop-line.invariant.limit in
    omega (arith, c.len-in-loop-line.ensures, c.loop-line.words.ok.0, c.words.ensures, fits)

pub overflow_cast-next : goal.overflow_cast-next
overflow_cast-next c =
    let fits = next_fits (length c.loop-line.words.items) c.args.lines.now c.loop-line.line-index c.line-item.result
    c.loop-line-test.true c.line-item.is c.loop-line.invariant.limit in
    omega (arith, c.len-in-loop-line.ensures, c.loop-line.words.ok.0, c.words.ensures, fits)

pub push_line-requires : goal.push_line-requires
push_line-requires c =
    let i = c.loop-line.line-index in
    let all = c.args.lines.now in
    let line = c.line-item.result in
    let numbers = c.args.numbers.now in
    let end = c.len.result + c.count.result in
    let before = c.args.words.now.items in
    let wanted = before ++ words_of_lines numbers end (length before) all in
    let left =
    subst (AreLeft numbers end wanted c.loop-line.words.items c.loop-line.targets.items)
    (the_next all i line c.loop-line-test.true c.line-item.is) c.loop-line.invariant in
    let limit = left.limit in
    let counted = count_more line (drop (i + 1) all) in
    let place : c.len-in-loop-line.result + c.words.result
    ≡ length c.loop-line.words.items + counts.words_in line =
    omega (arith, c.len-in-loop-line.ensures, c.loop-line.words.ok.0, c.words.ensures, counted, limit) in
    record {
      near = line_near numbers end wanted c.loop-line.words.items c.loop-line.targets.items
          c.next_target-target.new.targets.items _ c.next_target-target.result line (drop (i + 1) all) left
          c.next_target-target.ensures place;
    }

pub loop-line-preserved : goal.loop-line-preserved
loop-line-preserved c =
    let i = c.loop-line.line-index in
    let all = c.args.lines.now in
    let line = c.line-item.result in
    let numbers = c.args.numbers.now in
    let end = c.len.result + c.count.result in
    let before = c.args.words.now.items in
    let wanted = before ++ words_of_lines numbers end (length before) all in
    let left =
    subst (AreLeft numbers end wanted c.loop-line.words.items c.loop-line.targets.items)
    (the_next all i line c.loop-line-test.true c.line-item.is) c.loop-line.invariant in
    let limit = left.limit in
    let counted = count_more line (drop (i + 1) all) in
    let place : c.len-in-loop-line.result + c.words.result
    ≡ length c.loop-line.words.items + counts.words_in line =
    omega (arith, c.len-in-loop-line.ensures, c.loop-line.words.ok.0, c.words.ensures, counted, limit) in
    fewer_left numbers end wanted c.loop-line.words.items c.push_line.new.words.items c.loop-line.targets.items
    c.next_target-target.new.targets.items _ c.next_target-target.result line (drop (i + 1) all) left
    c.next_target-target.ensures place c.in_ok-push_line.ensures

pub returns-clause-words : goal.returns-clause-words
returns-clause-words c =
    let lines = c.args.lines.now in
    let before = c.args.words.now.items in
    let words = c.loop-line.words.items in
    let end = c.len.result + c.count.result in
    let last : end ≡ length before + counts.words_of_lines lines =
    omega (arith, c.len.ensures, c.args.words.now.ok.0, c.count.ensures) in
    sym (append-nil words)
    ∙ (ap (λ (ls : List (Line Place ℕ)). words ++ words_of_lines c.args.numbers.now end (length words) ls)
    (sym (drop_all c.loop-line.line-index lines c.loop-line-test.false))
    ∙ (c.loop-line.invariant.words
    ∙ ap (λ n. before ++ words_of_lines c.args.numbers.now n (length before) lines) last))

pub returns-clause-long : goal.returns-clause-long
returns-clause-long c =
    let lines = c.args.lines.now in
    let numbers = c.args.numbers.now in
    let before = c.args.words.now.items in
    let end = length before + counts.words_of_lines lines in
    let mine = words_of_lines numbers end (length before) lines in
    let all : c.loop-line.words.items ≡ before ++ mine = returns-clause-words c in
    ap length all
    ∙ (length-append before mine ∙ ap (λ n. length before + n) (lines_long numbers end (length before) lines))
