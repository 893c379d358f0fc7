use Rattle.std.proofs.Common.{◌≡◌, ◌∙◌, [], ◌∷◌}
use Rattle.wordlines.specs.Happenings.{happenings}
use Rattle.plantevents.specs.Histories.{given_in}
use Rattle.plantplay.specs.declared.ending.Ending.TheVariants.{Whole}
use Rattle.plantplay.specs.Installations.{stage_of}
use Rattle.plantplay.specs.Stage.{IsPlayedSomeFar, IsPlayedTo}
use Rattle.refusalsplant.proofs.Played.{if_match}
use Rattle.refusalsplant.proofs.plays.whole_play_has_each_tick.Goals as goal

pub returns : goal.returns
returns g c =
    let scenario = c.args.scenario.now in
    let start = c.args.installation.now in
    let left = stage_of c.play_on.new.installation in
    if_match (λ ending. IsPlayedTo ending (happenings scenario) (stage_of start) left)
    (λ error. IsPlayedSomeFar (happenings scenario) (stage_of start) left)
    (λ ending. ending ≡ Whole → given_in left.plant.history ≡ 5 ∷ 9 ∷ []) c.play_on.result c.play_on.ensures.played
    (λ ending played whole.
    (c.plays_are_by_scenario.ensures c.args.setup.now scenario c.args.limit start left ending c.requires.start played).all_ticks whole
    ∙ c.requires.ticks)
