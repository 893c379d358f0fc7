use Rattle.std.proofs.Common.{◌≡◌, ◌<◌, List, ◌++◌, None, length, get_or, refl, sym, ap, ◌∙◌, arith}
use Rattle.plantevents.specs.Parts.{Placed, part}
use Rattle.plant.specs.Shown.{is_reserved}
use Rattle.plantreceipts.specs.Receipts.{index_of}
use Rattle.plantlock.proofs.Filing.{filed, said_at, get_or_any}
use Rattle.plantlock.proofs.Fitting.{has_cell, place_of, not_later}
use Rattle.plantlock.proofs.lock_notes.LockNotes.file.Goals as goal

pub overflow_sub-index : goal.overflow_sub-index
overflow_sub-index g c =
    let tied = c.requires.tied in
    (place_of tied.0 c.args.plant.now c.args.event c.len-index.result tied.1 c.len-index.ensures.value).0

pub index_of-slot-requires : goal.index_of-slot-requires
index_of-slot-requires g c = (g.J.LockStart.start.plant, rw c.role.ensures.value c.role.ensures.known)

pub note-token-requires : goal.note-token-requires
note-token-requires g c =
    let tied = c.requires.tied in
    let p = tied.0 in
    let place = place_of p c.args.plant.now c.args.event c.len-index.result tied.1 c.len-index.ensures.value in
    let cell = has_cell g.J.LockStart.cells g.J.LockStart.start p c.args.plant.now _ _ c.args.event c.len-index.result _
    tied.2
    tied.1 c.len-index.ensures.value c.len-index.ensures.within c.limit-most.ensures.most in
    record {
      cells = c.requires.cells;
      from = cell.from;
      index = rw (ap length c.requires.cells) cell.within;
      small = cell.small;
      order = rw (c.meet.ensures.same.0, c.meet.ensures.same.1, place.1)
          (not_later g.J.LockStart.cells g.J.LockStart.start p (g.K.Tallies.number c.args.self.now.numbers) _
          c.args.share.now.role c.role.ensures.known tied.2);
    }

pub returns-clause-noted : goal.returns-clause-noted
returns-clause-noted g c p is =
    let place = place_of p c.args.plant.now c.args.event c.len-index.result is c.len-index.ensures.value in
    rw (place.1, c.meet.ensures.same.1) at c.note-token.ensures.noted

pub returns-clause-tied : goal.returns-clause-tied
returns-clause-tied g c =
    let p = c.requires.tied.0 in
    let is = c.requires.tied.1 in
    let tied = c.requires.tied.2 in
    let e = c.args.event in
    let r = c.args.share.now.role in
    let tokens = c.args.self.now.newest.items in
    let place = place_of p c.args.plant.now e c.len-index.result is c.len-index.ensures.value in
    let slot : c.index_of-slot.result ≡ index_of r = c.index_of-slot.ensures.value ∙ ap index_of c.role.ensures.value in
    let was = tied.each r c.role.ensures.known in
    let inside : c.index_of-slot.result < length tokens =
    let a = tied.slots in let b = c.index_of-slot.ensures.below in omega arith in
    let token : get_or tokens (index_of r) None ≡ c.index.result.now =
    sym (c.index.ensures ∙ get_or_any tokens c.index_of-slot.result c.index.result.now None inside
    ∙ ap (λ k. get_or tokens k None) slot) in
    let m = c.meet.ensures in
    let agree = m.agree was.reach (is_reserved r p) was.receipts
    (said_at (length g.J.LockStart.start.history) g.J.LockStart.cells _ _ was.reach _ _ _ _ was.receipts refl token refl
    was.says) in
    let f = c.note-token.ensures in
    let held = rw (f.noted.receipts, m.same.1, place.1) at f.held in
    let mine = rw (m.same.1, agree.1, place.1) at f.mine in
    let others = rw (m.same.0, m.same.1) at f.others in
    rw (is, slot)
    (filed g.J.LockStart.cells g.J.LockStart.start p (g.K.Tallies.number c.args.self.now.numbers)
    (g.K.Tallies.number c.note-token.new.numbers) tokens c.note-token.result e c.args.share.now.receipts
    r c.requires.role tied c.role.ensures.known
    (ap (λ (rs : List Placed). rs ++ part r g.J.LockStart.start.history) agree.0 ∙ was.since) held mine others)
