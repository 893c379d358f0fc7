use Rattle.std.proofs.Common.{◌≡◌, ◌∙◌, [], ◌∷◌, false}
use Rattle.wordlines.specs.Happenings.{happenings}
use Rattle.plantevents.specs.Histories.{heard_in, is_down}
use Rattle.plantplay.specs.declared.ending.Ending.TheVariants.{Whole}
use Rattle.plantplay.specs.Installations.{stage_of}
use Rattle.plantplay.specs.Stage.{IsPlayedSomeFar, IsPlayedTo}
use Rattle.refusalsplant.proofs.Played.{if_match}
use Rattle.refusalsplant.proofs.plays.event_is_heard_on_its_bus.Goals as goal

pub returns : goal.returns
returns g c =
    let scenario = c.args.scenario.now in
    let start = c.args.installation.now in
    let left = stage_of c.play_on.new.installation in
    let h = left.plant.history in
    if_match (λ ending. IsPlayedTo ending (happenings scenario) (stage_of start) left)
    (λ error. IsPlayedSomeFar (happenings scenario) (stage_of start) left)
    (λ ending. ending ≡ Whole → is_down 1 h ≡ false → heard_in 1 h ≡ 7 ∷ []) c.play_on.result
    c.play_on.ensures.played (λ ending played whole up.
    (c.plays_are_by_scenario.ensures c.args.setup.now scenario c.args.limit start left ending c.requires.start played).all_heard
    whole 1 c.requires.known up
    ∙ c.requires.event)
