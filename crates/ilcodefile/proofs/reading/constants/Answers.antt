use Rattle.std.proofs.Common.{◌+◌, length, ap, ◌∙◌, arith}
use Rattle.std.proofs.lemmas.List.{length_push, length-drop}
use Rattle.ilcodefile.specs.Files.{FitsValue}
use Rattle.ilcodefile.specs.Files.{constant}
use Rattle.ilcodefile.proofs.Sections.{all_read, fits_push, one_read}
use Rattle.ilcodefile.proofs.reading.constants.Goals as goal

pub loop-preserved : goal.loop-preserved
loop-preserved c =
    let l = c.loop in
    let size = ap length c.constant_at-value.ensures.rest in
    let cut = length-drop 16 l.rest.now in
    let left = l.invariant.left in
    record {
      read =
          one_read constant FitsValue c.args.count c.args.bytes.now l.counter l.rest.now
          c.constant_at-value.result.1.now l.values.items _ c.constant_at-value.result.0
          c.loop-test.true l.invariant.read
          c.constant_at-value.ensures.exact
          c.in_ok-push.ensures.items;
      left = omega arith;
      within = omega arith;
      fits = fits_push FitsValue l.values.items _ c.constant_at-value.result.0 c.in_ok-push.ensures.items
          l.invariant.fits c.constant_at-value.ensures.fits;
      long =
          ap length c.in_ok-push.ensures.items ∙ length_push l.values.items c.constant_at-value.result.0
          ∙ ap (λ m. m + 1) l.invariant.long;
    }

pub returns-clause-exact : goal.returns-clause-exact
returns-clause-exact c =
    λ xs n fit e.
    all_read constant FitsValue c.args.count c.args.bytes.now c.loop.counter c.loop.rest.now c.loop.values.items
    (omega (arith, c.loop-test.false, c.loop.invariant.within)) c.loop.invariant.read xs n fit e
