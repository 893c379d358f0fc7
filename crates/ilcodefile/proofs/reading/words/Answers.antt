use Rattle.std.proofs.Common.{◌+◌, length, ap, ◌∙◌, arith}
use Rattle.std.proofs.lemmas.List.{length_push, length-drop}
use Rattle.ilcode.specs.Words.{HasWord}
use Rattle.ilcodefile.specs.Files.{word}
use Rattle.ilcodefile.proofs.Sections.{all_read, fits_push, none_is, none_there, one_read, some_is}
use Rattle.ilcodefile.proofs.reading.words.Goals as goal

pub loop-preserved : goal.loop-preserved
loop-preserved c =
    let l = c.loop in
    let size = ap length c.word_at-found.ensures.rest in
    let cut = length-drop 4 l.rest.now in
    let left = l.invariant.left in
    record {
      read =
          one_read word HasWord c.args.count c.args.bytes.now l.counter l.rest.now
          c.word_at-found.result.1.now l.given.items _ c.in-Some.word
          c.loop-test.true l.invariant.read
          (λ x others fit e.
          let one = c.word_at-found.ensures.exact x others fit e in
          (some_is c.word_at-found.result.0 c.in-Some.word x c.in-Some.is one.0, one.1))
          c.in_ok-push.ensures.items;
      left = omega arith;
      within = omega arith;
      fits = fits_push HasWord l.given.items _ c.in-Some.word c.in_ok-push.ensures.items l.invariant.fits
          (rw c.in-Some.is at c.word_at-found.ensures.held);
      long =
          ap length c.in_ok-push.ensures.items ∙ length_push l.given.items c.in-Some.word
          ∙ ap (λ m. m + 1) l.invariant.long;
    }

pub returns-in_default-clause-exact : goal.returns-in_default-clause-exact
returns-in_default-clause-exact c =
    λ xs n fit e.
    absurd (none_there word HasWord c.args.count c.args.bytes.now c.loop.counter c.loop.rest.now
    c.loop.given.items c.loop-test.true c.loop.invariant.read
    (λ x others fit e. none_is c.word_at-found.result.0 _ c.in_default.is
    (c.word_at-found.ensures.exact x others fit e).0) xs n fit e)

pub returns-clause-exact : goal.returns-clause-exact
returns-clause-exact c =
    λ xs n fit e.
    all_read word HasWord c.args.count c.args.bytes.now c.loop.counter c.loop.rest.now c.loop.given.items
    (omega (arith, c.loop-test.false, c.loop.invariant.within)) c.loop.invariant.read xs n fit e
