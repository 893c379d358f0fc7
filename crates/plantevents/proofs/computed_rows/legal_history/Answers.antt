use Rattle.plantevents.proofs.LegalRows.{one_of_each_is_legal}
use Rattle.plantevents.proofs.computed_rows.legal_history.Goals as goal

pub returns : goal.returns
returns c = one_of_each_is_legal
