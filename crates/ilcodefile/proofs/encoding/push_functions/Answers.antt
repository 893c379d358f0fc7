use Rattle.std.proofs.Common.{List, ℕ, ◌+◌, ◌++◌, drop, sym, ap, ◌∙◌, append_assoc}
use Rattle.std.proofs.lemmas.List.{at_drop_more}
use Rattle.ilcodefile.specs.Files.{function, functions}
use Rattle.ilcodefile.proofs.encoding.push_functions.Goals as goal

pub loop-body-preserved : goal.loop-body-preserved
loop-body-preserved c =
    let given = c.args.given.now in
    let i = c.loop-body.body-index in
    let old = c.loop-body.bytes.items in
    let rest = functions (drop (i + 1) given) in
    ap (λ (bs : List ℕ). bs ++ rest) c.in_ok-push_function.ensures
    ∙ append_assoc old (function _) rest
    ∙ ap (λ (bs : List ℕ). old ++ bs) (sym (at_drop_more functions given i _ c.loop-body-test.true))
    ∙ c.loop-body.invariant
