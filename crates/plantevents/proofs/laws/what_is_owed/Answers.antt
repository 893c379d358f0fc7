use Rattle.plantevents.proofs.Owing.{has_owed, owed_has}
use Rattle.plantevents.proofs.Handing.{first_owed, owed_first}
use Rattle.plantevents.proofs.laws.what_is_owed.Goals as goal

pub returns-clause-each : goal.returns-clause-each
returns-clause-each c p b class h o = (has_owed p b class h o, owed_has p b class h o)

pub returns-clause-first : goal.returns-clause-first
returns-clause-first c p b class h o = (first_owed p b class h o, owed_first p b class h o)
