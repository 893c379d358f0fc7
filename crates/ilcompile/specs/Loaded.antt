-- A plan with its tasks' codes, as contracts see it: for each of its tasks an accepted code (IEC 61131-3, 2.7.2, and
-- profile).
use Rattle.std.specs.Prelude.{◌≡◌, List, map, Option}
use Rattle.std.specs.Arc.{arc_value}
use Rattle.std.specs.List.{AllZip}
use Rattle.std.specs.declared.alloc.Global.{Global}
use Rattle.std.specs.declared.sync.Arc.{Arc}
use Rattle.ilblocks.specs.Stores.{Store}
use Rattle.ilplan.specs.PlanMeaning.{plan_scan}
use Rattle.ilplan.specs.Plans.{Planned, PlannedTask}
use Rattle.ilcode.specs.Listings.{Listing}
use Rattle.ilcode.specs.Paths.{IsBound}
use Rattle.ilcompile.specs.Layout.{laid_out}
use Rattle.ilcompile.specs.Meant.{IsMeant}
use Rattle.ilverify.specs.Certificates.{IsAccepted}
use Rattle.ilverify.specs.Verdicts.{Accepted}

-- a plan and its tasks' codes
pub record Loaded : Type 0 where
  pub plan : Planned
  pub codes : List Accepted

abbrev pub loaded_of : Planned → List Accepted → Loaded
loaded_of plan codes = record { plan = plan; codes = codes }

-- the accepted codes that are shared
abbrev pub accepted_of : List (Arc Accepted Global) → List Accepted
accepted_of codes = map (λ c. arc_value c) codes

-- the code that is laid out for a task of a plan
abbrev pub listing_for : Planned → PlannedTask → Listing
listing_for plan task = laid_out plan.buses plan.text plan.functions task

-- what a scan of a task of a plan means
abbrev pub scan_of : Planned → PlannedTask → Store → Option Store
scan_of plan task = plan_scan plan.buses plan.functions task

-- the code is what is laid out for the task; its runs are the scans of the task, both ways; it has a certificate; and
-- its bound is its greatest path
pub record IsCodeOf (plan : Planned) (task : PlannedTask) (code : Accepted) : Type 0 where
  pub laid : code.code ≡ listing_for plan task
  pub meant : IsMeant (scan_of plan task) code.code
  pub certified : IsAccepted (listing_for plan task)
  pub bound : IsBound code.code code.bound

-- for each task of the plan, in order, its code
abbrev pub AreCodes : Planned → List Accepted → Type 0
AreCodes plan codes = AllZip (IsCodeOf plan) plan.tasks codes
