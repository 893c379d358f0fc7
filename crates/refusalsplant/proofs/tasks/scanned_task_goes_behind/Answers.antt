use Rattle.std.proofs.Common.{◌∷◌, length, refl, arith}
use Rattle.plantevents.specs.declared.event.Event.TheVariants.{Take}
use Rattle.plantevents.specs.Choices.{is_free, rank}
use Rattle.plantevents.specs.Plants.{activator}
use Rattle.refusalsplant.specs.Turns.{scanned}
use Rattle.refusalsplant.proofs.TaskTurns.{as_many, behind, open_scan, since_take}
use Rattle.refusalsplant.proofs.tasks.scanned_task_goes_behind.Goals as goal

pub note_commit-requires : goal.note_commit-requires
note_commit-requires c =
    let h = c.args.plant.now.history in
    let took = c.take_event.ensures.follows c.args.plant.now.plant 0 c.args.snapshot.now h c.requires.follows c.requires.place in
    record {
      known = as_many c.args.plant.now.plant h (Take 0 0 c.args.snapshot.now ∷ h) c.args.tasks.now c.take_event.new.self c.requires.follows took 0
          (omega (arith, c.requires.known));
    }

pub returns : goal.returns
returns c =
    let h = c.args.plant.now.history in
    let scan = scanned c.args.snapshot.now c.args.made.now h in
    let took = c.take_event.ensures.follows c.args.plant.now.plant 0 c.args.snapshot.now h c.requires.follows c.requires.place in
    let ended = c.note_commit.ensures.follows c.args.plant.now.plant 0 (length h) c.args.made.now (open_scan h c.args.snapshot.now)
    (Take 0 0 c.args.snapshot.now ∷ h) took refl refl in
    behind (is_free c.args.plant.now.plant scan) (rank c.args.plant.now.plant scan) (length c.args.plant.now.plant.plan.tasks) c.next.result
    (c.next.ensures.next c.args.plant.now.plant scan ended)
    (let many = c.requires.follows.count in let known = c.requires.known in omega arith) c.requires.waits
    c.requires.alike
    (let longer = c.requires.longer in let anew = since_take (activator c.args.plant.now.plant 0) c.args.snapshot.now c.args.made.now h in
    omega arith)
