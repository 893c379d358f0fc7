-- A legal history with an event of each kind: the first task of the worked plant is scanned, the lamp's first level is
-- sent, the button is pushed, and the bus goes down and comes up again.
use Rattle.std.specs.Prelude.{List, [], ◌∷◌, drop, map, false}
use Rattle.daliframe.specs.declared.forward.Frame.TheVariants.{Forward16}
use Rattle.gearcmd.specs.FrameLists.{FrameList}
use Rattle.buslink.specs.declared.marks.Mark.TheVariants as mark
use Rattle.buslink.specs.declared.marks.Reply.TheVariants as reply
use Rattle.buslink.specs.declared.marks.Outcome.TheVariants as outcome
use Rattle.buslink.specs.Attempts.{ReportParts}
use Rattle.ilmachine.specs.WordOperand.TheVariants.{Slot}
use Rattle.ilmachine.specs.Target.TheVariants as variables
use Rattle.ilmachine.specs.Word.TheVariants.{Load, Store as St}
use Rattle.ilmachine.specs.Listings.{listing_of}
use Rattle.ilplan.specs.Plans.{types_of}
use Rattle.ilmachine.specs.Verdicts.{Accepted}
use Rattle.ilmachine.specs.Snapshots.{ScanStart, start_of}
use Rattle.ilmachine.specs.Scans.{Scan}
use Rattle.plantevents.specs.declared.event.Event.{Event}
use Rattle.plantevents.specs.declared.event.Event.TheVariants.{Tick, Take, Commit, Hand, Done, Down, Up}
use Rattle.plantevents.specs.declared.event.Origin.TheVariants.{Output}
use Rattle.plantevents.specs.Plants.{Plant}
use Rattle.plantevents.specs.Variables.{whole}
use Rattle.plantevents.specs.Rows.{named, ld, st, task, tasks, code, house, push}
use Rattle.ilplan.specs.declared.activation.Activation.TheVariants.{Cyclic}

-- LD y, ST x, over the slots of the first task
abbrev pub copying : Accepted
copying =
    record {
      code = listing_of 1 [] (types_of (task (Cyclic 100) 0 (named 0 ∷ named 1 ∷ []) (ld 1 ∷ st 0 ∷ []))) [] (0 ∷ [])
          (Load false (Slot 1) ∷ St false (variables.Slot 0) ∷ []) (1 ∷ 1 ∷ []) [];
      bound = 2;
    }

-- the plant whose first task has this code
abbrev pub working_house : Plant
working_house = record { plan = house.plan; codes = copying ∷ map code (drop 1 tasks); workers = 2 }

-- x is 0 and y is 1
abbrev pub first_snapshot : ScanStart
first_snapshot = start_of copying (record { slots = whole 0 ∷ whole 1 ∷ []; blocks = [] }) 0

-- both are 1
abbrev pub first_result : Scan
first_result =
    record {
      number = 1;
      snapshot = first_snapshot;
      steps = 2;
      after = record { slots = whole 1 ∷ whole 1 ∷ []; blocks = []; requests = []; moment = 0 };
    }

abbrev pub lamp_off : FrameList
lamp_off = record { frames = Forward16 0x0A00 ∷ []; first_priority = 2 }

abbrev pub lamp_report : ReportParts
lamp_report =
    record {
      transaction = lamp_off;
      tries = 3;
      attempts = record { frame = Forward16 0x0A00; priority = 2; mark = mark.Quiet } ∷ [];
      outcome = outcome.Done reply.Quiet;
    }

abbrev pub one_of_each : List Event
one_of_each =
    Up 0
    ∷ Down 0
    ∷ push 9
    ∷ Done 0 3 lamp_report
    ∷ Hand 0 (Output 5 0) lamp_off
    ∷ Commit 0 1 first_result
    ∷ Take 0 0 first_snapshot
    ∷ Tick 0
    ∷ []
