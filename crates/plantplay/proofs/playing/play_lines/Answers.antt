use Rattle.wordlines.specs.Happenings.{happenings}
use Rattle.plantplay.specs.Installations.{stage_of}
use Rattle.plantplay.proofs.Followed.{nothing_played}
use Rattle.plantplay.proofs.playing.play_lines.Goals as goal

pub returns-in-Err : goal.returns-in-Err
returns-in-Err g c = nothing_played (happenings c.args.scenario.now) (stage_of c.args.installation.now)
