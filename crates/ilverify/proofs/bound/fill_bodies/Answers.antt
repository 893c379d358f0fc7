use Rattle.std.proofs.Common.{◌≡◌, ℕ, ◌+◌, length, arith, subst, sym, ap, ◌∙◌}
use Rattle.ilcode.specs.Listings.{start_of}
use Rattle.ilcode.proofs.Bodies.{start_suc}
use Rattle.ilverify.specs.Tables.{AreDone, IsFilled}
use Rattle.ilverify.specs.BoundSteps.{longest_from}
use Rattle.ilverify.proofs.Fills.{done_next, done_all}
use Rattle.ilverify.proofs.Bounds.{all_right}
use Rattle.ilverify.proofs.bound.fill_bodies.Goals as goal

pub loop-function-preserved : goal.loop-function-preserved
loop-function-preserved c =
    let code = c.args.code.now in
    let kept = c.fill.new.longest.items in
    let function = c.loop-function.function in
    let through = c.args.through.now in
    let start : c.end_of.result ≡ start_of code (function + 1) = c.end_of.ensures ∙ sym (start_suc code function) in
    let filled : IsFilled code 0 (longest_from code through) kept (function + 1) (start_of code (function + 1)) =
    subst (IsFilled code 0 (longest_from code through) kept (function + 1)) start c.fill.ensures in
    record { long = filled.long; done = done_next code 0 (longest_from code through) kept function filled }

pub fill-requires-2-clause-done : goal.fill-requires-2-clause-done
fill-requires-2-clause-done c =
    let code = c.args.code.now in
    let kept = c.loop-function.longest.items in
    let says = longest_from code c.args.through.now in
    let all = ap length c.functions-function-end.ensures.value in
    let e : c.loop-function.function ≡ length code.functions = omega (arith, all) in
    done_all code 0 says kept (subst (λ (n : ℕ). AreDone code 0 says kept (n + 1)) e c.loop-function.invariant.done)

pub returns : goal.returns
returns c =
    all_right c.args.code.now c.args.through.now c.fill-2.new.longest.items c.requires.good
    c.functions-function-end.ensures.lawful c.requires.ways c.fill-2.ensures
