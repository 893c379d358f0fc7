-- Which histories are legal (IEC 61131-3, 2.7.2, IEC 62386-101, and profile).
use Rattle.std.specs.Prelude.{◌≡◌, ℕ, ◌<◌, ◌≤◌, true, false, List, [], ◌∷◌, slice_get, Some, None, ⊤}
use Rattle.gearcmd.specs.FrameLists.{FrameList, IsLegal}
use Rattle.buslink.specs.Attempts.{ReportParts, IsReportParts}
use Rattle.ilplan.specs.Plans.{PlannedTask}
use Rattle.ilplan.specs.PlanMeaning.{plan_scan}
use Rattle.ilmachine.specs.Snapshots.{ScanStart}
use Rattle.ilmachine.specs.Scans.{Scan, IsScan, store_of}
use Rattle.plantevents.specs.declared.event.Origin.{Origin}
use Rattle.plantevents.specs.declared.event.Event.{Event}
use Rattle.plantevents.specs.declared.event.Event.TheVariants.{Tick, Heard, Take, Commit, Hand, Done, Down, Up}
use Rattle.plantevents.specs.Plants.{Plant, task_at, tries_of}
use Rattle.plantevents.specs.Histories.{OpenScan, OpenHand, moment, scan, hand, is_down}
use Rattle.plantevents.specs.Variables.{IsSnapshot}
use Rattle.plantevents.specs.Choices.{IsNextTask}
use Rattle.plantevents.specs.Waiting.{handouts}

-- the bus is there, and is not down
pub record IsUp (p : Plant) (h : List Event) (b : ℕ) : Type 0 where
  pub known : b < p.plan.buses
  pub up : is_down b h ≡ false

-- the bus is there, and is down: so it may come up
pub record IsBack (p : Plant) (h : List Event) (b : ℕ) : Type 0 where
  pub known : b < p.plan.buses
  pub down : is_down b h ≡ true

-- a worker that has no scan open takes the next task, with a snapshot of it
pub record IsTake (p : Plant) (h : List Event) (w t : ℕ) (s : ScanStart) : Type 0 where
  pub known : w < p.workers
  pub idle : scan w h ≡ None
  pub next : IsNextTask p h t
  pub snapshot : IsSnapshot p t h s

-- the result is what the task's programs mean on the snapshot of the open scan, and its steps are those of the task's
-- code
pub record IsResult (p : Plant) (running : OpenScan) (result : Scan) : Type 0 where
  pub number : result.number ≡ running.place
  pub snapshot : result.snapshot ≡ running.snapshot
  pub task : PlannedTask
  pub is_task : task_at p running.task ≡ Some task
  pub meant : plan_scan p.plan.buses p.plan.functions task (store_of running.snapshot) ≡ Some result.after
  pub run : IsScan running.snapshot.verified (store_of running.snapshot) result.steps result.after

-- the scan from place n, which the worker has open, came to this result
pub record IsCommit (p : Plant) (h : List Event) (w n : ℕ) (result : Scan) : Type 0 where
  pub known : w < p.workers
  pub running : OpenScan
  pub is_open : scan w h ≡ Some running
  pub place : running.place ≡ n
  pub meant : IsResult p running result

-- a bus that is up and has nothing open is handed the first of what may be handed to it, whose frames are legal
pub record IsHand (p : Plant) (h : List Event) (b : ℕ) (s : Origin) (t : FrameList) : Type 0 where
  pub up : IsUp p h b
  pub idle : hand b h ≡ None
  pub first : slice_get (handouts p b h) 0 ≡ Some (record { origin = s; transaction = t })
  pub legal : IsLegal t.frames t.first_priority

-- the report is one of the transaction that was handed out at place n and is open, by the attempts of the bus
pub record IsDone (p : Plant) (h : List Event) (b n : ℕ) (r : ReportParts) : Type 0 where
  pub known : b < p.plan.buses
  pub handed : OpenHand
  pub is_open : hand b h ≡ Some handed
  pub place : handed.place ≡ n
  pub transaction : r.transaction ≡ handed.transaction
  pub tries : r.tries ≡ tries_of p b
  pub report : IsReportParts r

-- the event may follow the history
abbrev pub Allowed : Plant → List Event → Event → Type 0
Allowed p h (Tick m) = moment h ≤ m
Allowed p h (Heard b f) = IsUp p h b
Allowed p h (Take w t s) = IsTake p h w t s
Allowed p h (Commit w n r) = IsCommit p h w n r
Allowed p h (Hand b s t) = IsHand p h b s t
Allowed p h (Done b n r) = IsDone p h b n r
Allowed p h (Down b) = IsUp p h b
Allowed p h (Up b) = IsBack p h b

-- each event is allowed after its front
abbrev pub AreLegal : Plant → List Event → Type 0
AreLegal p [] = ⊤
AreLegal p (e ∷ h) = Allowed p h e × AreLegal p h
