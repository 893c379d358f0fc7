use Rattle.std.proofs.Common.{◌≡◌, refl, sym}
use Rattle.plantevents.specs.declared.event.Event.TheVariants.{Commit}
use Rattle.plantreceipts.specs.Receipts.{whole}
use Rattle.plantlock.proofs.Ending.{scan_shown, scan_own, scan_open}
use Rattle.plantlock.proofs.locked_plant.LockedPlant.commit.Goals as goal

pub meet-requires : goal.meet-requires
meet-requires g c = record { tied = (c.self.inside.plant, c.self.invariant.1) }

pub commit-requires : goal.commit-requires
commit-requires g c =
    let p = c.self.inside.plant in
    let share = c.args.share.now in
    record {
      own = scan_own p (whole share) c.args.worker c.args.scan
          (scan_shown p share c.args.worker c.requires.role (c.meet.ensures.agree p c.self.invariant.1).0
          (c.what_a_part_shows.ensures.worker c.args.worker p.history))
          c.requires.own;
    }

pub invariant_of-self : goal.invariant_of-self
invariant_of-self g c = rw (c.in-Err.ensures.err.0, c.meet.ensures.same.0) c.self.invariant

pub returns-in-Err : goal.returns-in-Err
returns-in-Err g c =
    let p = c.self.inside.plant in
    let share = c.args.share.now in
    rw (← c.self.view_is) (record {
      event = tt;
      noted = tt;
      decided = c.in-Err.ensures.stranger;
      err = (c.in-Err.ensures.err.0, c.meet.ensures.same.1, c.in-Err.ensures.err.1);
      «open» = λ shows. absurd (c.in-Err.ensures.stranger (scan_open g.J.LockStart.start p (whole share) share.role
          c.args.worker c.args.scan c.requires.role c.meet.ensures.known c.self.invariant.1.same_plant
          (scan_shown p share c.args.worker c.requires.role (c.meet.ensures.agree p c.self.invariant.1).0
          (c.what_a_part_shows.ensures.worker c.args.worker p.history)) shows));
    })

pub file-requires : goal.file-requires
file-requires g c =
    let filed = Commit c.args.worker c.number-number.result c.of-noted.result in
    let noted : filed ≡ Commit c.args.worker c.args.scan.number c.args.scan = cc in
    record {
      cells = rw c.meet.ensures.same.0 c.self.invariant.0;
      tied = (c.self.inside.plant, rw noted c.in-Ok.ensures.grown, rw c.meet.ensures.same.0 c.self.invariant.1);
      role = rw c.meet.ensures.same.1 (sym c.requires.role);
    }

pub invariant_of-self-2 : goal.invariant_of-self-2
invariant_of-self-2 g c = (rw (c.file.ensures.cells, c.meet.ensures.same.0) c.self.invariant.0, c.file.ensures.tied)

pub returns : goal.returns
returns g c =
    let filed = Commit c.args.worker c.number-number.result c.of-noted.result in
    let noted : filed ≡ Commit c.args.worker c.args.scan.number c.args.scan = cc in
    rw (← c.self.view_is) (record {
      event = c.in-Ok.ensures.grown;
      noted = rw (c.meet.ensures.same.1, noted)
          at (c.file.ensures.noted c.self.inside.plant (rw noted c.in-Ok.ensures.grown));
      decided = c.in-Ok.ensures.open;
      err = tt;
      «open» = λ _. refl;
    })
