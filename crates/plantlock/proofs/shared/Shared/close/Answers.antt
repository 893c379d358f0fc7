use Rattle.std.proofs.Common.{◌≡◌, ◌∙◌, List, sym, subst}
use Rattle.plant.specs.Shown.{Shown}
use Rattle.plantreceipts.specs.Each.{Each}
use Rattle.plantreceipts.specs.Receipts.{ShareParts}
use Rattle.plantlock.specs.Tied.{IsMet}
use Rattle.plantlock.proofs.Since.{have_parts, has_receipts, have_receipts}
use Rattle.plantlock.proofs.shared.Shared.close.Goals as goal

pub returns : goal.returns
returns g c =
    let start = g.J.LockStart.start.history in
    let made = c.into_plant-plant.result in
    let third : made ≡ c.meet_all-2.new.locked = c.into_plant-plant.ensures.same ∙ c.meet.ensures.same.0 in
    let second : made ≡ c.meet_all.new.locked = third ∙ c.meet_all-2.ensures.locked in
    let first : made ≡ c.into_inner-locked.result = second ∙ c.meet_all.ensures.locked in
    let workers : Each (λ k s. IsMet start s made.history) 0 c.meet_all.new.shares.items =
    subst (λ (p : Shown). Each (λ k s. IsMet start s p.history) 0 c.meet_all.new.shares.items) (sym {A = Shown} first)
    (subst (λ (xs : List ShareParts). Each (λ k s. IsMet start s c.into_inner-locked.result.history) 0 xs)
    (sym {A = List ShareParts} c.meet_all.ensures.shares) c.meet_all.ensures.met) in
    let buses : Each (λ k s. IsMet start s made.history) 0 c.meet_all-2.new.shares.items =
    subst (λ (p : Shown). Each (λ k s. IsMet start s p.history) 0 c.meet_all-2.new.shares.items)
    (sym {A = Shown} second)
    (subst (λ (xs : List ShareParts). Each (λ k s. IsMet start s c.meet_all.new.locked.history) 0 xs)
    (sym {A = List ShareParts} c.meet_all-2.ensures.shares) c.meet_all-2.ensures.met) in
    let clock : IsMet start c.meet.new.share made.history =
    subst (λ (p : Shown). IsMet start c.meet.new.share p.history) (sym {A = Shown} third)
    (subst (λ (s : ShareParts). IsMet start s c.meet_all-2.new.locked.history)
    (sym {A = ShareParts} c.meet.ensures.same.1)
    (record { before = c.meet.ensures.before; now = c.meet.ensures.under.part })) in
    let front = c.into_plant-plant.ensures.front in
    record {
      legal = c.into_plant-plant.ensures.legal;
      plant = c.into_plant-plant.ensures.plant;
      limit = c.into_plant-plant.ensures.limit;
      front = front;
      workers = c.meet_all.ensures.shares;
      buses = c.meet_all-2.ensures.shares;
      clock = c.meet.ensures.same.1;
      parts = record {
        workers = have_parts start made.history _ workers;
        buses = have_parts start made.history _ buses;
        clock = record { is = clock.now };
      };
      receipts = record {
        later = front.later;
        is = front.is;
        workers = have_receipts start front.later made.history _ front.is workers;
        buses = have_receipts start front.later made.history _ front.is buses;
        clock = has_receipts start front.later made.history c.meet.new.share front.is clock;
      };
    }
