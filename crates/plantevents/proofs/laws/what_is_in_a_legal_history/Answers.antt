use Rattle.plantevents.specs.declared.event.Event.TheVariants.{Commit, Hand}
use Rattle.plantevents.proofs.Legality.{was_allowed}
use Rattle.plantevents.proofs.laws.what_is_in_a_legal_history.Goals as goal

pub returns-clause-commits : goal.returns-clause-commits
returns-clause-commits c p later front w n r legal = was_allowed p later front (Commit w n r) legal

pub returns-clause-hands : goal.returns-clause-hands
returns-clause-hands c p later front b s t legal = (was_allowed p later front (Hand b s t) legal).legal
