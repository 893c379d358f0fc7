use Rattle.std.proofs.Common.{length, ◌∙◌, ap}
use Rattle.plant.specs.Shown.{Shown, is_reserved}
use Rattle.plantreceipts.specs.Receipts.{index_of}
use Rattle.plantreceipts.proofs.Roles.{index_below}
use Rattle.plantreceipts.proofs.Seating.{counted_next}
use Rattle.plantreceipts.proofs.shares.next_share.Goals as goal

pub next_tally-tally-requires : goal.next_tally-tally-requires
next_tally-tally-requires g c =
    (index_of c.args.role, index_below g.J.LockStart.start.plant c.args.role c.requires.known, c.requires.unused)

pub count_place-requires : goal.count_place-requires
count_place-requires g c =
    (c.next_tally-tally.ensures (index_of c.args.role)
    (index_below g.J.LockStart.start.plant c.args.role c.requires.known)
    c.requires.unused).unused

pub new-requires-clause-base : goal.new-requires-clause-base
new-requires-clause-base g c = c.len.ensures.value ∙ ap (λ (p : Shown). length p.history) c.requires.start

pub new-requires-clause-known : goal.new-requires-clause-known
new-requires-clause-known g c = c.requires.known

pub new-requires-clause-tally : goal.new-requires-clause-tally
new-requires-clause-tally g c = (
  c.count_place.ensures.seat
      ∙ (c.next_tally-tally.ensures (index_of c.args.role)
      (index_below g.J.LockStart.start.plant c.args.role c.requires.known) c.requires.unused).seated,
  c.count_place.ensures.amount,
)

pub new-requires-clause-reserved : goal.new-requires-clause-reserved
new-requires-clause-reserved g c =
    c.keeps-reserved.ensures.value ∙ ap (λ (p : Shown). is_reserved c.args.role p) c.requires.start

pub returns-clause-fresh : goal.returns-clause-fresh
returns-clause-fresh g c = c.new.ensures.fresh

pub returns-clause-unused : goal.returns-clause-unused
returns-clause-unused g c =
    (c.next_tally-tally.ensures (index_of c.args.role)
    (index_below g.J.LockStart.start.plant c.args.role c.requires.known)
    c.requires.unused).rest

pub returns-clause-counted : goal.returns-clause-counted
returns-clause-counted g c =
    counted_next g.J.LockStart.start (g.K.Tallies.number c.args.tallies.now)
    (g.K.Tallies.number c.count_place.new.tallies)
    c.args.role (g.T.Tally.seat c.next_tally-tally.result) c.keeps-reserved.result c.requires.known
    (c.next_tally-tally.ensures (index_of c.args.role)
    (index_below g.J.LockStart.start.plant c.args.role c.requires.known)
    c.requires.unused).seated
    (c.keeps-reserved.ensures.value ∙ ap (λ (p : Shown). is_reserved c.args.role p) c.requires.start)
    c.count_place.ensures.mine c.count_place.ensures.others
