use Rattle.std.proofs.Common.{◌≡◌, ℕ, Bool, ◌+◌, ◌-◌, take, eqb, ap, arith}
use Rattle.std.specs.List.{count_by}
use Rattle.ilsource.proofs.Counting.{count_by-take-add}
use Rattle.ilsource.proofs.line_counter.line_further.Goals as goal

pub returns : goal.returns
returns c =
    let test : ℕ → Bool = λ byte. eqb byte 10 in
    let passed : c.line_feeds.result ≡ _ = rw c.between.ensures at c.line_feeds.ensures in
    let parts = count_by-take-add test c.args.text.now c.args.from (c.args.to - c.args.from) in
    let whole : c.args.from + (c.args.to - c.args.from) ≡ c.args.to = omega arith in
    let same = ap (λ (n : ℕ). count_by test (take n c.args.text.now)) whole in
    let from_there = c.requires.known in
    omega (arith, passed, parts, same, from_there)
