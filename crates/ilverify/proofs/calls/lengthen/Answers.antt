use Rattle.std.proofs.Common.{◌+◌, List, Bool, length, subst, sym, ap, arith}
use Rattle.std.specs.Prelude.{IsTrue, ◌↔◌}
use Rattle.ilverify.specs.Calls.{HasChain}
use Rattle.ilverify.proofs.Chains.{AreBegun, begun_more, shorter}
use Rattle.ilverify.proofs.calls.lengthen.Goals as goal
use Rattle.ilverify.proofs.calls.lengthen.Goals.{then-chains-function, else-chains-function}

-- whether a longer chain begins in the body: only where a shorter one does
longer : (c : goal.In_ok-push) → IsTrue c.if-chains-function.is_longer
    ↔ HasChain c.args.code.now (c.args.calls + 1) c.loop-function.function
longer c =
    let code = c.args.code.now in
    let calls = c.args.calls in
    let f = c.loop-function.function in
    elim c.if-chains-function.branch [
      | then-chains-function w ↦
          subst (λ (b : Bool). IsTrue b ↔ HasChain code (calls + 1) f) (sym w.is_longer-is) w.begins-is_longer.ensures
      | else-chains-function w ↦ (
        λ t. absurd (let a = w.is_longer-is in let b = w.if-chains-function.false in cc),
        λ chain. absurd (
            let all = ap length c.functions-function-end.ensures.value in
            let t = (c.requires.each f (omega (arith, all))).1 (shorter code calls f chain) in
            let b = w.if-chains-function.false in cc),
      )
    ]

pub loop-function-preserved : goal.loop-function-preserved
loop-function-preserved c =
    subst (λ (l : List Bool). AreBegun c.args.code.now (c.args.calls + 1) l (c.loop-function.function + 1))
    (sym c.in_ok-push.ensures.items)
    (begun_more c.args.code.now (c.args.calls + 1) c.loop-function.longer.items c.loop-function.function
    c.if-chains-function.is_longer c.loop-function.invariant (longer c))
