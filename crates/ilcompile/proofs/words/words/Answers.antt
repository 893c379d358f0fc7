use Rattle.std.proofs.Common.{◌≡◌, ℕ, ◌+◌, ◌<◌, ◌≤◌, List, ◌∷◌, [], ◌++◌, length, get_or, drop, ap, ◌∙◌}
use Rattle.std.proofs.Common.{subst, sym, arith}
use Rattle.std.proofs.lemmas.List.{append-nil, drop_all}
use Rattle.limits.specs.Limits.{most_words}
use Rattle.ilsource.specs.Words as counts
use Rattle.ilplan.specs.Plans.{PlannedInstance, all_lines}
use Rattle.ilcompile.proofs.Sizes.{count_both, programs_long}
use Rattle.ilcompile.specs.Layout.{words_of_programs, starts_from, programs_of}
use Rattle.ilcompile.proofs.TwoPasses.{the_next, ProgramsLeft, fewer_programs, program_near}
use Rattle.ilcompile.proofs.words.words.Goals as goal

-- where the programs that are left have room, the next one has
program_fits : (place : ℕ) (all : List PlannedInstance) (i : ℕ) (instance : PlannedInstance) → i < length all
    → instance ≡ get_or all i instance → place + counts.words_of_lines (all_lines (drop i all)) ≤ most_words
    → place + counts.words_of_lines instance.lines ≤ most_words
program_fits place all i instance below is room =
    let left =
    ap (λ (left : List PlannedInstance). counts.words_of_lines (all_lines left)) (the_next all i instance below is) in
    omega (arith, left, count_both instance.lines (all_lines (drop (i + 1) all)), room)

pub push_lines-requires-clause-limit : goal.push_lines-requires-clause-limit
push_lines-requires-clause-limit c =
    rw c.lines.ensures.value
    (program_fits (length c.loop-instance.words.items) c.args.instances.now c.loop-instance.instance-index
    c.instance-item.result c.loop-instance-test.true c.instance-item.is c.loop-instance.invariant.limit)

pub push_lines-requires-clause-near : goal.push_lines-requires-clause-near
push_lines-requires-clause-near c =
    let i = c.loop-instance.instance-index in
    let all = c.args.instances.now in
    let old = c.loop-instance.invariant in
    let left =
    subst
    (λ xs. ProgramsLeft c.args.numbers.now (words_of_programs c.args.numbers.now 0 (programs_of all))
    (starts_from 0 (programs_of all)) c.loop-instance.words.items c.loop-instance.starts.items xs)
    (the_next all i c.instance-item.result c.loop-instance-test.true c.instance-item.is)
    (record { words = old.words; starts = old.starts; limit = old.limit; near = old.near }) in
    rw c.lines.ensures.value
    (program_near c.args.numbers.now (words_of_programs c.args.numbers.now 0 (programs_of all))
    (starts_from 0 (programs_of all)) c.loop-instance.words.items c.loop-instance.starts.items
    c.instance-item.result (drop (i + 1) all) left)

pub loop-instance-preserved : goal.loop-instance-preserved
loop-instance-preserved c =
    let i = c.loop-instance.instance-index in
    let all = c.args.instances.now in
    let old = c.loop-instance.invariant in
    let next = the_next all i c.instance-item.result c.loop-instance-test.true c.instance-item.is in
    let len : c.len.result ≡ length c.loop-instance.words.items =
    omega (arith, c.len.ensures, c.loop-instance.words.ok.0) in
    let start : c.push.new.self.items ≡ c.loop-instance.starts.items ++ length c.loop-instance.words.items ∷ [] =
    c.in_ok-push.ensures.items ∙ ap (λ n. c.loop-instance.starts.items ++ n ∷ []) len in
    let left =
    subst
    (λ xs. ProgramsLeft c.args.numbers.now (words_of_programs c.args.numbers.now 0 (programs_of all))
    (starts_from 0 (programs_of all)) c.loop-instance.words.items c.loop-instance.starts.items xs)
    next (record { words = old.words; starts = old.starts; limit = old.limit; near = old.near }) in
    let fewer =
    fewer_programs c.args.numbers.now (words_of_programs c.args.numbers.now 0 (programs_of all))
    (starts_from 0 (programs_of all)) c.loop-instance.words.items c.push_lines.new.words.items
    c.loop-instance.starts.items c.push.new.self.items c.instance-item.result (drop (i + 1) all) left start
    (rw c.lines.ensures.value at c.in_ok-push_lines.ensures.words) in
    record { words = fewer.words; starts = fewer.starts; limit = fewer.limit; near = fewer.near }

pub returns-clause-long : goal.returns-clause-long
returns-clause-long c =
    let n = c.args.numbers.now in
    let all = c.args.instances.now in
    let words = c.loop-instance.words.items in
    let none = drop_all c.loop-instance.instance-index all c.loop-instance-test.false in
    let same : words ≡ words_of_programs n 0 (programs_of all) =
    sym (append-nil words)
    ∙ (ap (λ (left : List PlannedInstance). words ++ words_of_programs n (length words) (programs_of left)) (sym none)
    ∙ c.loop-instance.invariant.words) in
    ap length same ∙ programs_long n 0 all
