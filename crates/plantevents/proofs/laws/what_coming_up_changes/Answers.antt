use Rattle.plantevents.proofs.ComingUp.{owed_anew, anew_owed, owed_elsewhere, unchanged}
use Rattle.plantevents.proofs.laws.what_coming_up_changes.Goals as goal

pub returns-clause-owed : goal.returns-clause-owed
returns-clause-owed c p b class h o = (owed_anew p b class h o, anew_owed p b class h o)

pub returns-clause-others : goal.returns-clause-others
returns-clause-others c p b other class h ne = owed_elsewhere p b other class h ne

pub returns-clause-same : goal.returns-clause-same
returns-clause-same c = unchanged
