use Rattle.std.proofs.Common.{refl}
use Rattle.refusalsload.proofs.names.letter_case_of_a_name_does_not_matter.Goals as goal

pub returns : goal.returns
returns c = c.is_named.ensures.1 (rw c.requires.declared refl)
