use Rattle.std.proofs.Common.{◌+◌, ◌≤◌, length}
use Rattle.wordlines.specs.Happenings.{happenings}
use Rattle.plantdriving.specs.Tellings.{HasToldAll}
use Rattle.plantplay.specs.Installations.{stage_of}
use Rattle.plantplay.specs.PlaySteps.{IsFollowed}
use Rattle.plantplay.proofs.playing.Installation+SimBus.follow.Given as goal

abbrev pub invariant-loop : goal.invariant-loop
invariant-loop g l =
    record {
      followed : IsFollowed (happenings l.fn.scenario) l.happenings (stage_of l.fn.self) (stage_of l.self);
      few : length l.happenings + l.index ≤ length l.fn.scenario;
      told : HasToldAll l.fn.self.plant.history l.self.plant.history (g.O.Observer.told l.fn.observer)
          (g.O.Observer.told l.observer);
    }
