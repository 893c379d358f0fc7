use Rattle.std.proofs.Common.{◌+◌, length, ap, ◌∙◌, arith}
use Rattle.std.proofs.lemmas.List.{length_push, length-drop}
use Rattle.ilcodefile.specs.Files.{FitsType}
use Rattle.ilcodefile.specs.Files.{slot}
use Rattle.ilcodefile.proofs.Sections.{all_read, fits_push, none_is, none_there, one_read, some_is}
use Rattle.ilcodefile.proofs.reading.slots.Goals as goal

pub loop-preserved : goal.loop-preserved
loop-preserved c =
    let l = c.loop in
    let size = ap length c.slot_at-found.ensures.rest in
    let cut = length-drop 24 l.rest.now in
    let left = l.invariant.left in
    record {
      read =
          one_read slot FitsType c.args.count c.args.bytes.now l.counter l.rest.now
          c.slot_at-found.result.1.now l.types.items _ c.in-Some.slot
          c.loop-test.true l.invariant.read
          (λ x others fit e.
          let one = c.slot_at-found.ensures.exact x others fit e in
          (some_is c.slot_at-found.result.0 c.in-Some.slot x c.in-Some.is one.0, one.1))
          c.in_ok-push.ensures.items;
      left = omega arith;
      within = omega arith;
      fits = fits_push FitsType l.types.items _ c.in-Some.slot c.in_ok-push.ensures.items l.invariant.fits
          (rw c.in-Some.is at c.slot_at-found.ensures.fits);
      long =
          ap length c.in_ok-push.ensures.items ∙ length_push l.types.items c.in-Some.slot
          ∙ ap (λ m. m + 1) l.invariant.long;
    }

pub returns-in_default-clause-exact : goal.returns-in_default-clause-exact
returns-in_default-clause-exact c =
    λ xs n fit e.
    absurd (none_there slot FitsType c.args.count c.args.bytes.now c.loop.counter c.loop.rest.now
    c.loop.types.items c.loop-test.true c.loop.invariant.read
    (λ x others fit e. none_is c.slot_at-found.result.0 _ c.in_default.is
    (c.slot_at-found.ensures.exact x others fit e).0) xs n fit e)

pub returns-clause-exact : goal.returns-clause-exact
returns-clause-exact c =
    λ xs n fit e.
    all_read slot FitsType c.args.count c.args.bytes.now c.loop.counter c.loop.rest.now c.loop.types.items
    (omega (arith, c.loop-test.false, c.loop.invariant.within)) c.loop.invariant.read xs n fit e
