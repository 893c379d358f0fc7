use Rattle.ilsyms.proofs.PlacedTasks.{all_have_places}
use Rattle.ilsyms.proofs.placing.names_have_places.Goals as goal

pub returns : goal.returns
returns c = record { places = all_have_places }
