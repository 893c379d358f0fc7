use Rattle.std.proofs.Common.{◌≡◌, ◌+◌, length, subst, sym, ap, ◌∙◌, arith}
use Rattle.std.specs.List.{AllByRecursion}
use Rattle.ilsource.specs.Words as counts
use Rattle.ilplan.specs.Functions.{starting_values, words_of_function}
use Rattle.ilcode.specs.Words.{HasWord}
use Rattle.ilcompile.specs.Layout.{words_of_lines, words_of_values}
use Rattle.ilcompile.proofs.Held.{back}
use Rattle.ilcompile.proofs.bodies.push_body.Goals as goal

pub push_lines-requires-clause-near : goal.push_lines-requires-clause-near
push_lines-requires-clause-near c =
    let n = c.args.numbers.now in
    let f = c.args.function.now in
    let place = length c.args.words.now.items in
    let ws = c.push_values.new.words.items in
    let end = place + words_of_function f in
    let long : length ws ≡ place + length f.variables =
    c.in_ok-push_values.ensures.long ∙ ap (λ vs. place + length vs) c.variables.ensures.value in
    let near = back HasWord (words_of_values n.constants (n.own + length f.inputs) (starting_values f))
    (words_of_lines n end (place + length f.variables) f.lines) c.requires.near in
    let last : end ≡ length ws + counts.words_of_lines f.lines = omega (arith, long) in
    rw c.lines.ensures.value
    (subst (λ e. AllByRecursion HasWord (words_of_lines n e (length ws) f.lines)) last
    (subst (λ p. AllByRecursion HasWord (words_of_lines n end p f.lines)) (sym long) near))
