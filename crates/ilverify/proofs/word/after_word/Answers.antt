use Rattle.std.proofs.Common.{ℕ, length, sym, subst}
use Rattle.ilverify.specs.Refusals.{StaysOpen, open_after}
use Rattle.ilverify.proofs.WordCauses.{open_refused, closed_ruled}
use Rattle.ilverify.proofs.word.after_word.Goals as goal

pub returns-then-stays_open : goal.returns-then-stays_open
returns-then-stays_open c =
    let code = c.args.code.now in
    let at = λ (count : ℕ). StaysOpen code c.args.place c.args.met c.args.word (open_after c.args.word count) in
    let s = subst at c.len.ensures (c.stays_open.ensures.0 c.if-stays_open.true) in
    rw c.least_cause.ensures
    (open_refused code c.args.place c.args.met c.args.entry.now c.args.word c.judge-judged.result s
    c.judge-judged.ensures)

pub returns : goal.returns
returns c =
    let code = c.args.code.now in
    let at = λ (count : ℕ). StaysOpen code c.args.place c.args.met c.args.word (open_after c.args.word count) in
    let closed : ¬ at (length c.args.entry.now.nesting) = λ s.
    let t = c.stays_open.ensures.1 (subst at (sym c.len.ensures) s) in
    let f = c.if-stays_open.false in absurd (cc) in
    closed_ruled code c.args.place c.args.met c.args.entry.now c.args.word c.judge-judged.result closed
    c.judge-judged.ensures
