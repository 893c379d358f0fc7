use Rattle.std.proofs.Common.{◌≡◌, ◌+◌, ◌*◌, Bool, length, ◌∙◌, ap, refl, sym, subst}
use Rattle.plantevents.specs.Parts.{placed}
use Rattle.plantreceipts.specs.Receipts.{ShareParts, reach_of, seat_of, reserved_after}
use Rattle.plantreceipts.specs.Tokens.{one_if}
use Rattle.plantreceipts.proofs.Noting.{not_later, twice_fits, was_fits, next_fits, next_twice_fits, is_fits}
use Rattle.plantreceipts.proofs.Noting.{grows, grown, others_stay, one_more, is_noted, noted_held}
use Rattle.plantreceipts.proofs.share.Share.note.Goals as goal

pub overflow_mul-was : goal.overflow_mul-was
overflow_mul-was g c =
    twice_fits c.args.index c.self.inside.reach (one_if c.self.inside.reserved) c.requires.small
    (not_later (g.K.Tallies.number c.args.numbers.now) (length g.J.LockStart.start.history) g.J.LockStart.cells
    (g.T.Tally.seat c.self.inside.tally)
    (g.T.Tally.amount c.self.inside.tally) c.args.index c.self.inside.reach (one_if c.self.inside.reserved)
    c.self.inside.newest _ c.args.self.now c.self.view_is c.audit.ensures.same c.self.invariant.seated
    c.self.invariant.says refl c.requires.order)

pub overflow_add-was : goal.overflow_add-was
overflow_add-was g c =
    was_fits c.args.index c.self.inside.reach c.one_if.result c.requires.small
    (not_later (g.K.Tallies.number c.args.numbers.now) (length g.J.LockStart.start.history) g.J.LockStart.cells
    (g.T.Tally.seat c.self.inside.tally)
    (g.T.Tally.amount c.self.inside.tally) c.args.index c.self.inside.reach c.one_if.result c.self.inside.newest _
    c.args.self.now c.self.view_is c.audit.ensures.same c.self.invariant.seated c.self.invariant.says c.one_if.ensures
    c.requires.order)

pub overflow_add-self : goal.overflow_add-self
overflow_add-self g c = next_fits c.args.index c.requires.small

pub overflow_mul-is : goal.overflow_mul-is
overflow_mul-is g c = next_twice_fits c.args.index c.requires.small

pub overflow_add-is : goal.overflow_add-is
overflow_add-is g c =
    is_fits c.args.index c.one_if-2.result c.reserved_after-self-inside.result c.requires.small c.one_if-2.ensures

pub overflow_sub-is : goal.overflow_sub-is
overflow_sub-is g c =
    grows (2 * c.self.inside.reach + c.one_if.result) c.args.index c.one_if-2.result
    (not_later (g.K.Tallies.number c.args.numbers.now) (length g.J.LockStart.start.history) g.J.LockStart.cells
    (g.T.Tally.seat c.self.inside.tally)
    (g.T.Tally.amount c.self.inside.tally) c.args.index c.self.inside.reach c.one_if.result c.self.inside.newest _
    c.args.self.now c.self.view_is c.audit.ensures.same c.self.invariant.seated c.self.invariant.says c.one_if.ensures
    c.requires.order)

pub cell_of-cell-requires-clause-from : goal.cell_of-cell-requires-clause-from
cell_of-cell-requires-clause-from g c = rw c.self.invariant.based c.requires.from

pub cell_of-cell-requires-clause-index : goal.cell_of-cell-requires-clause-index
cell_of-cell-requires-clause-index g c = rw c.self.invariant.based c.requires.index

pub invariant_of-self : goal.invariant_of-self
invariant_of-self g c = record {
  known = c.self.invariant.known;
  based = c.self.invariant.based;
  seated = c.add.ensures.seat ∙ ap g.T.Tally.seat c.audit.ensures.tally ∙ c.self.invariant.seated;
  says = record {
    numbered =
        grown (g.T.Tally.amount c.self.inside.tally) (g.T.Tally.amount c.audit.new.tally) c.self.inside.reach
        c.args.index c.one_if.result c.one_if-2.result (g.T.Tally.amount c.add.new.tally) c.self.inside.reserved
        c.reserved_after-self-inside.result (ap g.T.Tally.amount c.audit.ensures.tally)
        c.self.invariant.says.numbered c.one_if.ensures c.one_if-2.ensures
        (grows (2 * c.self.inside.reach + c.one_if.result) c.args.index c.one_if-2.result
        (not_later (g.K.Tallies.number c.args.numbers.now) (length g.J.LockStart.start.history) g.J.LockStart.cells
        (g.T.Tally.seat c.self.inside.tally)
        (g.T.Tally.amount c.self.inside.tally) c.args.index c.self.inside.reach c.one_if.result c.self.inside.newest _
        c.args.self.now c.self.view_is c.audit.ensures.same c.self.invariant.seated c.self.invariant.says
        c.one_if.ensures c.requires.order))
        c.add.ensures.amount;
    held =
        noted_held c.args.cells.now g.J.LockStart.cells c.args.index c.self.inside.base
        (length g.J.LockStart.start.history)
        c.cell_of-cell.result.now c.again.result _ c.requires.cells c.self.invariant.based c.requires.from
        c.cell_of-cell.ensures (c.again.ensures.0 ∙ c.write-token.ensures.of)
        (c.again.ensures.1 ∙ c.write-token.ensures.value ∙ c.of-2.ensures);
  };
  last =
      ap reach_of
      (sym (one_more c.self.inside.receipts.items c.push-2.new.self.items c.of.result (placed c.args.index c.args.event)
      c.push-2.ensures c.of.ensures));
}

pub returns-clause-noted : goal.returns-clause-noted
returns-clause-noted g c =
    is_noted c.args.index c.args.event _ c.args.self.now _ c.self.view_is refl
    (one_more c.self.inside.receipts.items c.push-2.new.self.items c.of.result (placed c.args.index c.args.event)
    c.push-2.ensures c.of.ensures)
    refl c.reserved_after-self-inside.ensures

pub returns-clause-held : goal.returns-clause-held
returns-clause-held g c =
    noted_held c.args.cells.now g.J.LockStart.cells c.args.index c.self.inside.base (length g.J.LockStart.start.history)
    c.cell_of-cell.result.now c.write-token.result _ c.requires.cells c.self.invariant.based c.requires.from
    c.cell_of-cell.ensures c.write-token.ensures.of
    (c.write-token.ensures.value ∙ c.of-2.ensures)

pub returns-clause-mine : goal.returns-clause-mine
returns-clause-mine g c =
    subst (λ (s : ShareParts).
    g.K.Tallies.number c.add.new.self (seat_of s.role)
    ≡ 2 * (c.args.index + 1) + one_if (reserved_after c.args.event s.reserved)) c.self.view_is
    (ap (g.K.Tallies.number c.add.new.self)
    (sym (ap g.T.Tally.seat c.audit.ensures.tally ∙ c.self.invariant.seated))
    ∙ grown (g.T.Tally.amount c.self.inside.tally) (g.T.Tally.amount c.audit.new.tally) c.self.inside.reach
    c.args.index c.one_if.result c.one_if-2.result
    (g.K.Tallies.number c.add.new.self (g.T.Tally.seat c.audit.new.tally)) c.self.inside.reserved
    c.reserved_after-self-inside.result (ap g.T.Tally.amount c.audit.ensures.tally) c.self.invariant.says.numbered
    c.one_if.ensures c.one_if-2.ensures
    (grows (2 * c.self.inside.reach + c.one_if.result) c.args.index c.one_if-2.result
    (not_later (g.K.Tallies.number c.args.numbers.now) (length g.J.LockStart.start.history) g.J.LockStart.cells
    (g.T.Tally.seat c.self.inside.tally)
    (g.T.Tally.amount c.self.inside.tally) c.args.index c.self.inside.reach c.one_if.result c.self.inside.newest _
    c.args.self.now c.self.view_is c.audit.ensures.same c.self.invariant.seated c.self.invariant.says
    c.one_if.ensures c.requires.order))
    c.add.ensures.mine
    ∙ ap (λ (b : Bool). 2 * (c.args.index + 1) + one_if b) c.reserved_after-self-inside.ensures)

pub returns-clause-others : goal.returns-clause-others
returns-clause-others g c =
    others_stay (g.K.Tallies.number c.add.new.self) (g.K.Tallies.number c.audit.new.self)
    (g.K.Tallies.number c.args.numbers.now) (g.T.Tally.seat c.audit.new.tally) (seat_of c.args.self.now.role)
    (ap g.T.Tally.seat c.audit.ensures.tally ∙ c.self.invariant.seated
    ∙ ap (λ (s : ShareParts). seat_of s.role) c.self.view_is)
    c.add.ensures.others (λ k. ap (λ (b : g.row.K.Denot). g.K.Tallies.number b k) c.audit.ensures.tallies)
