use Rattle.plantevents.proofs.Handing.{handout_first, first_handout, nothing_there, there_nothing}
use Rattle.plantevents.proofs.laws.what_is_handed_out.Goals as goal

pub returns-clause-first : goal.returns-clause-first
returns-clause-first c p b h x = (handout_first p b h x, first_handout p b h x)

pub returns-clause-nothing : goal.returns-clause-nothing
returns-clause-nothing c p b h = (nothing_there p b h, there_nothing p b h)
