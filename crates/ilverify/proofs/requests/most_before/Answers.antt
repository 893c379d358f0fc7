use Rattle.std.proofs.Common.{◌≡◌, ℕ, ◌+◌, ◌-◌, List, Option, None, length, replicate, rules, arith, subst}
use Rattle.std.proofs.Common.{sym, ap, ◌∙◌}
use Rattle.ilcode.specs.Listings.{start_of, end_of}
use Rattle.ilcode.proofs.Bodies.{within, start_suc}
use Rattle.ilverify.specs.RequestSteps.{AreMost, raised}
use Rattle.ilverify.proofs.RequestBounds.{all_most}
use Rattle.ilverify.proofs.RequestMoves.{most_at_first, most_behind_programs, most_before}
use Rattle.ilverify.proofs.requests.most_before.Goals as goal

pub raise-requires : goal.raise-requires
raise-requires c =
    let w = within c.args.code.now c.len.ensures.lawful 0 in
    let e = c.end_of.ensures in
    let long = c.in_ok-most.ensures.len in
    let all = c.len.ensures.value in
    omega (arith, w, e, long, all)

pub pass-requires-clause-most : goal.pass-requires-clause-most
pass-requires-clause-most c =
    let code = c.args.code.now in
    let blank = c.in_ok-most.ensures.items_if_clones_equal (search rules)
    ∙ ap (λ (n : ℕ). replicate n None) c.len.ensures.value in
    subst (λ (most : List (Option ℕ)). AreMost code c.deref.result.now most 0 0)
    (sym (c.raise.ensures ∙ ap (λ (most : List (Option ℕ)). raised most c.end_of.result 0 0) blank
    ∙ ap (λ (end : ℕ). raised (replicate (length code.instructions) None) end 0 0) c.end_of.ensures))
    (most_at_first code c.deref.result.now c.len.ensures.lawful)

pub loop-function-init : goal.loop-function-init
loop-function-init c =
    let code = c.args.code.now in
    let through = c.in_ok-through.through.items in
    let most = c.pass.new.most.items in
    let m = subst
    (λ (t : List (Option ℕ)). AreMost code t most 0 (end_of code 0)) c.deref.ensures.value c.pass.ensures in
    subst (λ (n : ℕ). AreMost code through most (n + 1) (end_of code (n + 1)))
    (sym (ap length c.functions-function.ensures.value))
    (most_behind_programs code through most c.len.ensures.lawful m)

pub pass-requires-in-loop-function-clause-most : goal.pass-requires-in-loop-function-clause-most
pass-requires-in-loop-function-clause-most c =
    let code = c.args.code.now in
    let most = c.loop-function.most.items in
    let body = c.loop-function.function in
    let m = most_before code c.in_ok-through.through.items most body c.loop-function.invariant in
    let one : body ≡ body - 1 + 1 = omega arith in
    let start : start_of code (body - 1 + 1) ≡ c.end_of-in-loop-function.result =
    start_suc code (body - 1) ∙ sym c.end_of-in-loop-function.ensures in
    subst (λ (t : List (Option ℕ)). AreMost code t most (body - 1 + 1) c.end_of-in-loop-function.result)
    (sym c.deref-in-loop-function.ensures.value)
    (subst (AreMost code c.in_ok-through.through.items most (body - 1 + 1)) start
    (subst (λ (b : ℕ). AreMost code c.in_ok-through.through.items most b (start_of code b)) one m))

pub returns : goal.returns
returns c =
    let code = c.args.code.now in
    let through = c.in_ok-through.through.items in
    let most = c.loop-function.most.items in
    let e : c.loop-function.function ≡ 0 = omega arith in
    all_most code through most
    (record { good = c.requires; lawful = c.len.ensures.lawful; ways = c.in_ok-through.ensures })
    (subst (λ (n : ℕ). AreMost code through most (n + 1) (end_of code (n + 1))) e c.loop-function.invariant)
