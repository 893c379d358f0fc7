use Rattle.std.proofs.Common.{ℕ, ◌+◌, ◌^◌, ◌<◌, length, ap, ◌∙◌, arith}
use Rattle.std.proofs.lemmas.List.{length_push, length-drop}
use Rattle.ilcodefile.specs.Files.{number}
use Rattle.ilcodefile.proofs.FieldLaws.{number_read}
use Rattle.ilcodefile.proofs.Sections.{all_read, fits_push, one_read}
use Rattle.ilcodefile.proofs.reading.numbers.Goals as goal

pub loop-preserved : goal.loop-preserved
loop-preserved c =
    let l = c.loop in
    let size = ap length c.number_at-number.ensures.rest in
    let cut = length-drop 4 l.rest.now in
    let left = l.invariant.left in
    record {
      read =
          one_read number (λ (n : ℕ). n < 2 ^ 32) c.args.count c.args.bytes.now l.counter l.rest.now
          c.number_at-number.result.1.now l.given.items _ c.number_at-number.result.0
          c.loop-test.true l.invariant.read
          (λ n others small e. number_read l.rest.now others c.number_at-number.result.1.now n
          c.number_at-number.result.0
          c.number_at-number.ensures.value c.number_at-number.ensures.rest small e)
          c.in_ok-push.ensures.items;
      left = omega arith;
      within = omega arith;
      fits = fits_push (λ (n : ℕ). n < 2 ^ 32) l.given.items _ c.number_at-number.result.0
          c.in_ok-push.ensures.items l.invariant.fits c.number_at-number.ensures.small;
      long =
          ap length c.in_ok-push.ensures.items ∙ length_push l.given.items c.number_at-number.result.0
          ∙ ap (λ m. m + 1) l.invariant.long;
    }

pub returns-clause-exact : goal.returns-clause-exact
returns-clause-exact c =
    λ xs n fit e.
    all_read number (λ (n : ℕ). n < 2 ^ 32) c.args.count c.args.bytes.now c.loop.counter c.loop.rest.now
    c.loop.given.items
    (omega (arith, c.loop-test.false, c.loop.invariant.within)) c.loop.invariant.read xs n fit e
