use Rattle.std.proofs.Common.{◌≡◌, ◌++◌, [], drop, sym, ◌∙◌, ap, arith}
use Rattle.std.proofs.lemmas.List.{drop_all, append-nil}
use Rattle.buslink.specs.Attempts.{sent_with}
use Rattle.buslink.proofs.ReadingLemmas.{sent_with_none}
use Rattle.buslink.proofs.reports.push_attempt.Goals as goal

pub returns : goal.returns
returns c =
    let over : drop c.loop-i.i c.args.marks.now ≡ [] = drop_all c.loop-i.i c.args.marks.now (omega arith) in
    let none : sent_with (drop c.loop-i.i c.args.frames.now) c.loop-i.priority (drop c.loop-i.i c.args.marks.now) ≡ [] =
    rw over (sent_with_none (drop c.loop-i.i c.args.frames.now) c.loop-i.priority) in
    sym (append-nil c.loop-i.sent.items) ∙ ap (λ xs. c.loop-i.sent.items ++ xs) (sym none) ∙ c.loop-i.invariant.1
