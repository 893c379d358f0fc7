use Rattle.std.proofs.Common.{◌≡◌, ◌∙◌, refl, ap, sym}
use Rattle.buslink.specs.Attempts.{ReportParts}
use Rattle.plantevents.specs.Plants.{Plant, tries_of}
use Rattle.plantreceipts.specs.Receipts.{whole}
use Rattle.plantlock.proofs.Ending.{hand_shown, transaction_open}
use Rattle.plantlock.proofs.Refusing.{bus_known}
use Rattle.plantlock.proofs.locked_plant.LockedPlant.note_report.Goals as goal

pub meet-requires : goal.meet-requires
meet-requires g c = record { tied = (c.self.inside.plant, c.self.invariant.1) }

pub invariant_of-self : goal.invariant_of-self
invariant_of-self g c = rw (c.in-Err.ensures.err.0, c.meet.ensures.same.0) c.self.invariant

pub returns-in-Err : goal.returns-in-Err
returns-in-Err g c =
    let p = c.self.inside.plant in
    let share = c.args.share.now in
    rw (← c.self.view_is) (record {
      event = tt;
      noted = tt;
      decided = c.in-Err.ensures.stranger;
      err = (c.in-Err.ensures.err.0, c.meet.ensures.same.1, c.in-Err.ensures.err.1);
      «open» = λ shows tries. absurd (c.in-Err.ensures.stranger (record {
        is_open = transaction_open p (whole share) c.args.bus c.args.number c.args.report.transaction
            (bus_known g.J.LockStart.start p _ c.args.bus c.requires.role c.meet.ensures.known
            c.self.invariant.1.same_plant)
            (hand_shown p share c.args.bus c.requires.role (c.meet.ensures.agree p c.self.invariant.1).0
            (c.what_a_part_shows.ensures.hand c.args.bus p.history)) shows;
        tries = tries ∙ ap (λ (x : Plant). tries_of x c.args.bus) (sym c.self.invariant.1.same_plant);
      }));
    })

pub file-requires : goal.file-requires
file-requires g c =
    let noted : c.unwrap-noted.result ≡ c.args.report = rw c.unwrap-noted.ensures at c.clone.ensures.cases in
    record {
      cells = rw c.meet.ensures.same.0 c.self.invariant.0;
      tied = (c.self.inside.plant, rw noted c.in-Ok.ensures.grown, rw c.meet.ensures.same.0 c.self.invariant.1);
      role = rw c.meet.ensures.same.1 (sym c.requires.role);
    }

pub invariant_of-self-2 : goal.invariant_of-self-2
invariant_of-self-2 g c = (rw (c.file.ensures.cells, c.meet.ensures.same.0) c.self.invariant.0, c.file.ensures.tied)

pub returns : goal.returns
returns g c =
    let noted : c.unwrap-noted.result ≡ c.args.report = rw c.unwrap-noted.ensures at c.clone.ensures.cases in
    rw (← c.self.view_is) (record {
      event = c.in-Ok.ensures.grown;
      noted = rw (c.meet.ensures.same.1, noted)
          at (c.file.ensures.noted c.self.inside.plant (rw noted c.in-Ok.ensures.grown));
      decided = c.in-Ok.ensures.open;
      err = tt;
      «open» = λ _ _. refl;
    })
