use Rattle.plantevents.proofs.Linking.{frames_counted, heards_counted}
use Rattle.plantevents.proofs.laws.what_is_counted.Goals as goal

pub returns-clause-frames : goal.returns-clause-frames
returns-clause-frames c = frames_counted

pub returns-clause-heards : goal.returns-clause-heards
returns-clause-heards c = heards_counted
