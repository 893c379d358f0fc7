use Rattle.std.proofs.Common.{◌∷◌, length, refl, arith}
use Rattle.plantevents.specs.declared.event.Event.TheVariants.{Take}
use Rattle.plantevents.specs.Choices.{is_free, rank}
use Rattle.refusalsplant.specs.Turns.{scanned}
use Rattle.refusalsplant.proofs.TaskTurns.{as_many, open_scan, passed_over}
use Rattle.refusalsplant.proofs.tasks.task_without_events_is_passed_over.Goals as goal

pub note_commit-requires : goal.note_commit-requires
note_commit-requires c =
    let h = c.args.plant.now.history in
    let took = c.take_event.ensures.follows c.args.plant.now.plant 0 c.args.snapshot.now h c.requires.follows c.requires.place in
    record {
      known = as_many c.args.plant.now.plant h (Take 0 0 c.args.snapshot.now ∷ h) c.args.tasks.now c.take_event.new.self c.requires.follows took 0
          (omega (arith, c.requires.known));
    }

pub returns : goal.returns
returns c =
    let h = c.args.plant.now.history in
    let scan = scanned c.args.snapshot.now c.args.made.now h in
    let took = c.take_event.ensures.follows c.args.plant.now.plant 0 c.args.snapshot.now h c.requires.follows c.requires.place in
    let ended = c.note_commit.ensures.follows c.args.plant.now.plant 0 (length h) c.args.made.now (open_scan h c.args.snapshot.now)
    (Take 0 0 c.args.snapshot.now ∷ h) took refl refl in
    passed_over (is_free c.args.plant.now.plant scan) (rank c.args.plant.now.plant scan) (length c.args.plant.now.plant.plan.tasks) c.next.result
    (c.next.ensures.next c.args.plant.now.plant scan ended) c.requires.none
