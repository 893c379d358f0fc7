-- The Shares of a lock: when it is made, and when it is opened for good.
use Rattle.std.specs.Prelude.{◌≡◌, List, ◌++◌, length}
use Rattle.buslink.specs.Each.{Each}
use Rattle.plantevents.specs.declared.event.Event.{Event}
use Rattle.plantevents.specs.declared.role.Role.TheVariants as roles
use Rattle.plant.specs.Shown.{Shown}
use Rattle.plantreceipts.specs.declared.shares.Shares.{Shares}
use Rattle.plantreceipts.specs.Receipts.{AreFresh, IsFresh, HasPart, HasReceipts, HaveParts}

-- one for each scan worker, each bus and the clock, none with a receipt
pub record AreFreshShares {J T : Type 0} (start : Shown) (shares : Shares J T) : Type 0 where
  pub workers : AreFresh start roles.Worker start.plant.workers shares.workers.items
  pub buses : AreFresh start roles.Bus start.plant.plan.buses shares.buses.items
  pub clock : IsFresh start roles.Clock shares.clock

-- the receipts of each, with its part of the history at the start, are its part of this history
pub record HaveAllParts {J T : Type 0} (shares : Shares J T) (h : List Event) : Type 0 where
  pub workers : HaveParts shares.workers.items h
  pub buses : HaveParts shares.buses.items h
  pub clock : HasPart shares.clock h

-- events came after the history at the start, and the receipts of each are its role's events among these
pub record HaveReceipts {J T : Type 0} (start : List Event) (shares : Shares J T) (h : List Event) : Type 0 where
  pub later : List Event
  pub is : h ≡ later ++ start
  pub workers : Each (λ k s. HasReceipts s (length start) later) 0 shares.workers.items
  pub buses : Each (λ k s. HasReceipts s (length start) later) 0 shares.buses.items
  pub clock : HasReceipts shares.clock (length start) later
