use Rattle.std.proofs.Common.{◌≡◌, ◌⊎◌, ◌<◌, true}
use Rattle.wordlines.specs.Happenings.{happenings}
use Rattle.plantevents.specs.Histories.{moment}
use Rattle.plant.specs.Shown.{is_full}
use Rattle.plantplay.specs.declared.ending.Ending.TheVariants.{Limit}
use Rattle.plantplay.specs.Installations.{stage_of}
use Rattle.plantplay.specs.Stage.{IsPlayedSomeFar, IsPlayedTo}
use Rattle.refusalsplant.proofs.Played.{at_limit, if_match}
use Rattle.refusalsplant.proofs.plays.play_ends_at_its_limit_where_it_is_full.Goals as goal

pub returns : goal.returns
returns g c =
    let all = happenings c.args.scenario.now in
    let start = stage_of c.args.installation.now in
    let left = stage_of c.play_on.new.installation in
    if_match (λ ending. IsPlayedTo ending all start left) (λ error. IsPlayedSomeFar all start left)
    (λ ending. ending ≡ Limit
    → (is_full left.plant ≡ true) ⊎ (90000000 < moment left.plant.history)) c.play_on.result
    c.play_on.ensures.played (λ ending played. at_limit all 90000000 start left ending c.requires played)
