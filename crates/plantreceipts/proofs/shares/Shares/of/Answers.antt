use Rattle.std.proofs.lemmas.Result.{IfOk-from_err}
use Rattle.plantreceipts.proofs.Outcomes.{on_ok-from_err}
use Rattle.plantreceipts.proofs.shares.Shares.of.Goals as goal

pub worker_shares-requires-clause-start : goal.worker_shares-requires-clause-start
worker_shares-requires-clause-start g c = c.requires.start

pub worker_shares-requires-clause-seated : goal.worker_shares-requires-clause-seated
worker_shares-requires-clause-seated g c = c.requires.workers

pub worker_shares-requires-clause-unused : goal.worker_shares-requires-clause-unused
worker_shares-requires-clause-unused g c = c.requires.unused

pub returns-in_err-workers-clause-fresh : goal.returns-in_err-workers-clause-fresh
returns-in_err-workers-clause-fresh g c = IfOk-from_err c.from_residual.result _ c.from_residual.ensures.0

pub returns-in_err-workers-clause-counted : goal.returns-in_err-workers-clause-counted
returns-in_err-workers-clause-counted g c = on_ok-from_err c.from_residual.result _ c.from_residual.ensures.0

pub bus_shares-requires-clause-start : goal.bus_shares-requires-clause-start
bus_shares-requires-clause-start g c = c.requires.start

pub bus_shares-requires-clause-seated : goal.bus_shares-requires-clause-seated
bus_shares-requires-clause-seated g c = c.requires.buses

pub bus_shares-requires-clause-unused : goal.bus_shares-requires-clause-unused
bus_shares-requires-clause-unused g c = c.in_ok-workers.ensures.unused

pub bus_shares-requires-clause-counted : goal.bus_shares-requires-clause-counted
bus_shares-requires-clause-counted g c = c.in_ok-workers.ensures.counted

pub returns-in_err-buses-clause-fresh : goal.returns-in_err-buses-clause-fresh
returns-in_err-buses-clause-fresh g c =
    IfOk-from_err c.from_residual-in_err-buses.result _ c.from_residual-in_err-buses.ensures.0

pub returns-in_err-buses-clause-counted : goal.returns-in_err-buses-clause-counted
returns-in_err-buses-clause-counted g c =
    on_ok-from_err c.from_residual-in_err-buses.result _ c.from_residual-in_err-buses.ensures.0

pub next_share-clock-requires-clause-start : goal.next_share-clock-requires-clause-start
next_share-clock-requires-clause-start g c = c.requires.start

pub next_share-clock-requires-clause-known : goal.next_share-clock-requires-clause-known
next_share-clock-requires-clause-known g c = tt

pub next_share-clock-requires-clause-unused : goal.next_share-clock-requires-clause-unused
next_share-clock-requires-clause-unused g c = c.in_ok-buses.ensures.unused

pub returns-clause-fresh : goal.returns-clause-fresh
returns-clause-fresh g c =
    record {
      workers = c.in_ok-workers.ensures.shares;
      buses = c.in_ok-buses.ensures.shares;
      clock = c.next_share-clock.ensures.fresh;
    }

pub returns-clause-counted : goal.returns-clause-counted
returns-clause-counted g c = c.next_share-clock.ensures.counted c.in_ok-buses.ensures.counted
