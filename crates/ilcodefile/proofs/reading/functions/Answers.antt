use Rattle.std.proofs.Common.{◌+◌, length, ap, ◌∙◌, arith}
use Rattle.std.proofs.lemmas.List.{length_push, length-drop}
use Rattle.ilcodefile.specs.BodySteps.{IsSmall}
use Rattle.ilcodefile.specs.Files.{function}
use Rattle.ilcodefile.proofs.Sections.{all_read, one_read}
use Rattle.ilcodefile.proofs.reading.functions.Goals as goal

pub loop-preserved : goal.loop-preserved
loop-preserved c =
    let l = c.loop in
    let size = ap length c.function_at.ensures.rest in
    let cut = length-drop 16 l.rest.now in
    let left = l.invariant.left in
    record {
      read =
          one_read function IsSmall c.args.count c.args.bytes.now l.counter l.rest.now
          c.function_at.result.1.now l.bodies.items _ c.function_at.result.0
          c.loop-test.true l.invariant.read
          c.function_at.ensures.exact
          c.in_ok-push.ensures.items;
      left = omega arith;
      within = omega arith;
      long =
          ap length c.in_ok-push.ensures.items ∙ length_push l.bodies.items c.function_at.result.0
          ∙ ap (λ m. m + 1) l.invariant.long;
    }

pub returns-clause-exact : goal.returns-clause-exact
returns-clause-exact c =
    λ xs n fit e.
    all_read function IsSmall c.args.count c.args.bytes.now c.loop.counter c.loop.rest.now c.loop.bodies.items
    (omega (arith, c.loop-test.false, c.loop.invariant.within)) c.loop.invariant.read xs n fit e
