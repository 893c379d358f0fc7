use Rattle.std.proofs.Common.{ap, sym, ◌∙◌}
use Rattle.ilcodefile.specs.Files.{file}
use Rattle.ilcodefile.proofs.FirstFaults.{bad_field}
use Rattle.ilcodefile.proofs.decoding.compare.Goals as goal

pub returns-else-are_same-clause-only : goal.returns-else-are_same-clause-only
returns-else-are_same-clause-only c =
    λ code is.
    let same = c.are_same.ensures.1
    (c.deref.ensures.value ∙ sym c.in-Ok.ensures.1 ∙ ap file (c.requires.only code is) ∙ is.1) in
    let unequal = c.if-are_same.false in
    absurd (cc)

pub returns-else-are_same-clause-fault : goal.returns-else-are_same-clause-fault
returns-else-are_same-clause-fault c =
    bad_field c.args.bytes.now c.requires.shaped
    (λ is.
    let same = c.are_same.ensures.1
    (c.deref.ensures.value ∙ sym c.in-Ok.ensures.1 ∙ ap file (c.requires.only is.0 is.1) ∙ is.1.1) in
    let unequal = c.if-are_same.false in
    absurd (cc))
