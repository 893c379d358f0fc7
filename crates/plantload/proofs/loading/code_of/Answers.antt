use Rattle.std.proofs.Common.{◌≡◌, ap, sym, subst, ◌∙◌}
use Rattle.std.specs.Prelude.{slice_get}
use Rattle.std.specs.Arc.{arc_value}
use Rattle.ilcode.specs.Paths.{IsBound}
use Rattle.ilverify.specs.Verdicts.{Accepted}
use Rattle.ilverify.specs.declared.refusal.VerifyError.{VerifyError}
use Rattle.plantload.proofs.CodeLemmas.{is_code, was_ok}
use Rattle.plantload.proofs.loading.code_of.Goals as goal

pub returns-clause-code : goal.returns-clause-code
returns-clause-code c =
    let plan = c.args.plan.now in
    let task = slice_get plan.tasks c.args.task in
    let listing = c.in_ok-code.code in
    let verified = c.in_ok-verified.verified in
    let code = arc_value c.in_ok-code-2.code in
    let compiled = was_ok VerifyError c.compile.result listing _ c.in_ok-code.ensures.cases (λ e h. h) in
    let layout = rw compiled at c.compile.ensures.layout in
    let meaning = rw compiled at c.compile.ensures.meaning in
    let taken = was_ok VerifyError c.shared.result c.in_ok-code-2.code _ c.in_ok-code-2.ensures.cases (λ e h. h) in
    let same : code ≡ verified = rw taken at c.shared.ensures.same in
    let accepted = c.in_ok-verified.ensures in
    let bound = subst (λ (a : Accepted). IsBound a.code a.bound) (sym same) c.shared.ensures.bound in
    let laid : code.code ≡ listing = ap (λ (a : Accepted). a.code) same ∙ accepted.accepted in
    is_code task plan listing code layout meaning laid accepted.certified bound
