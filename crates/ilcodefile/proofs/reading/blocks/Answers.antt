use Rattle.std.proofs.Common.{◌+◌, length, ap, ◌∙◌, arith}
use Rattle.std.specs.Prelude.{⊤}
use Rattle.std.proofs.lemmas.List.{length_push, length-drop}
use Rattle.ilblocks.specs.declared.kind.BlockKind.{BlockKind}
use Rattle.ilcodefile.specs.Files.{block}
use Rattle.ilcodefile.proofs.Sections.{all_read, none_is, none_there, one_read, some_is}
use Rattle.ilcodefile.proofs.Sections.{all_top}
use Rattle.ilcodefile.proofs.reading.blocks.Goals as goal

pub loop-preserved : goal.loop-preserved
loop-preserved c =
    let l = c.loop in
    let size = ap length c.block_at-found.ensures.rest in
    let cut = length-drop 1 l.rest.now in
    let left = l.invariant.left in
    record {
      read =
          one_read block (λ (kind : BlockKind). ⊤) c.args.count c.args.bytes.now l.counter l.rest.now
          c.block_at-found.result.1.now l.kinds.items _ c.in-Some.kind
          c.loop-test.true l.invariant.read
          (λ x others fit e.
          let one = c.block_at-found.ensures.exact x others e in
          (some_is c.block_at-found.result.0 c.in-Some.kind x c.in-Some.is one.0, one.1))
          c.in_ok-push.ensures.items;
      left = omega arith;
      within = omega arith;
      long =
          ap length c.in_ok-push.ensures.items ∙ length_push l.kinds.items c.in-Some.kind
          ∙ ap (λ m. m + 1) l.invariant.long;
    }

pub returns-in_default-clause-exact : goal.returns-in_default-clause-exact
returns-in_default-clause-exact c =
    λ xs n e.
    absurd (none_there block (λ (kind : BlockKind). ⊤) c.args.count c.args.bytes.now c.loop.counter c.loop.rest.now
    c.loop.kinds.items c.loop-test.true c.loop.invariant.read
    (λ x others fit e. none_is c.block_at-found.result.0 _ c.in_default.is
    (c.block_at-found.ensures.exact x others e).0) xs n (all_top xs) e)

pub returns-clause-exact : goal.returns-clause-exact
returns-clause-exact c =
    λ xs n e.
    all_read block (λ (kind : BlockKind). ⊤) c.args.count c.args.bytes.now c.loop.counter c.loop.rest.now
    c.loop.kinds.items
    (omega (arith, c.loop-test.false, c.loop.invariant.within)) c.loop.invariant.read xs n (all_top xs) e
