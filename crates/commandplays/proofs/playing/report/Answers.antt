use Rattle.std.proofs.Common.{◌∙◌, ap, inl, inr, refl, IsTrue}
use Rattle.commandfiles.specs.ExitStatuses.{status_of_play}
use Rattle.commandplays.specs.Plays.{status_of_played}
use Rattle.commandplays.proofs.PlaysOut.{judged_by, played_under}
use Rattle.commandplays.proofs.playing.report.Goals as goal

pub returns-then-not-knows : goal.returns-then-not-knows
returns-then-not-knows g c =
    inr (inl (record {
      start = c.in-Ok.installation;
      statements = c.in-Ok.scenario;
      started = c.in-Ok.ensures.started;
      unknown = λ known. let t = c.knows.ensures.1 known in absurd (cc);
      misused = refl;
    }))

pub returns-in_ok-flush-in-Ok : goal.returns-in_ok-flush-in-Ok
returns-in_ok-flush-in-Ok g c =
    let ending = c.in_ok-ending-in-Ok.ending in let left = c.play_watched.new.installation in
    let t : IsTrue c.knows.result = cc in
    let same = c.of_play-status.ensures ∙ ap (status_of_play ending) c.has_down.ensures in
    inr (inr (
    played_under c.args.pages.now c.args.limit c.in-Ok.installation left c.in-Ok.scenario ending
    c.scans_are_as_meant.ensures c.kept_scans_are_as_meant.ensures c.plays_are_by_scenario.ensures
    c.in-Ok.ensures.started
    c.in_ok-ending-in-Ok.ensures.played c.in_ok-ending-in-Ok.ensures.legal c.args.asked.expected.now
    c.args.asked.watched.now c.judged.result (c.knows.ensures.0 t)
    (judged_by (status_of_played ending left) c.of_play-status.result left.plant c.args.asked.expected.now
    c.judged.result same c.judged.ensures)
    ))
