use Rattle.std.proofs.Common.{List, ℕ, ℤ, ap, ◌∙◌, ◌++◌, append_assoc}
use Rattle.std.specs.Prelude.{FitsSigned}
use Rattle.std.specs.Int.{w64}
use Rattle.std.proofs.Common.{rules}
use Rattle.std.proofs.lemmas.Int.{to_z-of_z}
use Rattle.std.proofs.lemmas.Result.{on_ok_weaker}
use Rattle.ilcodefile.specs.Files.{tag, whole}
use Rattle.ilcodefile.proofs.encoding.push_slot.Goals as goal

pub returns-in_ok-push_whole-in-Int-clause-added : goal.returns-in_ok-push_whole-in-Int-clause-added
returns-in_ok-push_whole-in-Int-clause-added c =
    let lo = c.in-Int.range.lo in
    let hi = c.in-Int.range.hi in
    let old = c.args.bytes.now.items in
    let fit : FitsSigned w64 lo = search rules in
    let fits : FitsSigned w64 hi = search rules in
    let first = c.in_ok-push_whole-in-Int.ensures
    ∙ ap (λ (y : ℤ). c.push_tag-in-Int.new.bytes.items ++ whole y) (to_z-of_z w64 lo fit)
    ∙ ap (λ (bs : List ℕ). bs ++ whole lo) c.in_ok-push_tag-in-Int.ensures in
    rw c.in-Int.is
    (on_ok_weaker c.push_whole-in-Int-2.result
    (λ e.
    e ∙ ap (λ (y : ℤ). c.push_whole-in-Int.new.bytes.items ++ whole y) (to_z-of_z w64 hi fits)
    ∙ ap (λ (bs : List ℕ). bs ++ whole hi) first ∙ append_assoc (old ++ tag 1) (whole lo) (whole hi)
    ∙ append_assoc old (tag 1) (whole lo ++ whole hi))
    c.push_whole-in-Int-2.ensures)
