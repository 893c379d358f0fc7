use Rattle.iltext.specs.Roles.{role_of_word}
use Rattle.refusalslanguage.proofs.roles.udint_to_sint_converts_to_sint.Goals as goal

pub returns : goal.returns
unfolding role_of_word
returns c = c.role_of.ensures
