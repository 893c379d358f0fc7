use Rattle.std.proofs.Common.{List, ℕ, ℤ, ap, ◌∙◌, ◌++◌, append_assoc}
use Rattle.std.specs.Prelude.{FitsSigned}
use Rattle.std.specs.Int.{w64}
use Rattle.std.proofs.Common.{rules}
use Rattle.std.proofs.lemmas.Int.{to_z-of_z}
use Rattle.std.proofs.lemmas.Result.{on_ok_weaker}
use Rattle.ilcodefile.specs.Files.{tag, whole}
use Rattle.ilcodefile.proofs.encoding.push_constant.Goals as goal

pub returns-in_ok-push_tag-in-Int-clause-added : goal.returns-in_ok-push_tag-in-Int-clause-added
returns-in_ok-push_tag-in-Int-clause-added c =
    let z = c.in-Int.number in
    let old = c.args.bytes.now.items in
    let fits : FitsSigned w64 z = search rules in
    rw c.in-Int.is
    (on_ok_weaker c.push_whole-in-Int.result
    (λ e.
    e ∙ ap (λ (y : ℤ). c.push_tag-in-Int.new.bytes.items ++ whole y) (to_z-of_z w64 z fits)
    ∙ ap (λ (bs : List ℕ). bs ++ whole z) c.in_ok-push_tag-in-Int.ensures ∙ append_assoc old (tag 1) (whole z))
    c.push_whole-in-Int.ensures)
