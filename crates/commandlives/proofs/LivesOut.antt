-- What a building leaves, from what it began with.
use Rattle.std.proofs.Common.{ℕ, List, Option, Result, Ok, Err, IfOk, refl, subst}
use Rattle.buslink.specs.BusLog.{BusLog}
use Rattle.buslink.specs.ClockLog.{ClockLog}
use Rattle.ilcompile.specs.Loaded.{Loaded}
use Rattle.plant.specs.Shown.{plant_of}
use Rattle.livehouse.specs.Lived.{Lived}
use Rattle.livehouse.specs.Lives.{HasLived}
use Rattle.commandoptions.specs.declared.live_options.LiveOptions.{LiveOptions}
use Rattle.commandoptions.specs.declared.live_options.RunSize.{RunSize}
use Rattle.commandoptions.specs.declared.line_word.LineWord.{LineWord}
use Rattle.livehouse.specs.declared.buildings.Building.{Building}
use Rattle.livehouse.specs.Buildings.{IsOpened}
use Rattle.commandfiles.specs.declared.beginning.Beginning.{Beginning}
use Rattle.commandfiles.specs.declared.beginning.KeptNote.{KeptNote}
use Rattle.commandlives.specs.declared.living.Halted.TheVariants as halts
use Rattle.commandfiles.specs.Beginnings.{HasBegun, IsNoteTold, begins_at}
use Rattle.commandlives.specs.Buildings.{IsLivedOut, IsToldWhereBegun, LiveEnd, OfLine, TimedAs}
use Rattle.commandfiles.proofs.MeantOut.{KeptScansAreAsMeant, ScansAreAsMeant, meant_of}

pub lived_out : {B C : Type 0} (binding text : List ℕ) (file : Option (List ℕ)) (bus_log : B → BusLog)
    (clock_log : C → ClockLog) (is_of : OfLine B) (is_timed : TimedAs C) (words : List LineWord)
    (options : LiveOptions) (begun : Beginning) (building : Building B C) (left : Lived B C) → ScansAreAsMeant
    → KeptScansAreAsMeant → HasBegun binding text file begun
    → IsOpened bus_log clock_log is_of is_timed begun.setup words options (begins_at begun.kept) building
    → HasLived building.setup building.size.workers building.size.limit building.buses.items building.clock bus_log
    clock_log left
    → IsLivedOut binding text file bus_log clock_log is_of is_timed words options left
lived_out binding text file bus_log clock_log is_of is_timed words options begun building left law kept_law has opened lived =
    let size = options.size in
    let of_setup : HasLived begun.setup building.size.workers building.size.limit building.buses.items building.clock
    bus_log clock_log left =
    subst (λ (s : Loaded). HasLived s building.size.workers building.size.limit building.buses.items building.clock bus_log
    clock_log left) opened.setup lived in
    let of_size : HasLived begun.setup size.workers size.limit building.buses.items building.clock bus_log clock_log left =
    subst (λ (s : RunSize). HasLived begun.setup s.workers s.limit building.buses.items building.clock bus_log clock_log
    left) opened.size of_setup in
    record {
      setup = begun.setup;
      kept = begun.kept;
      used = has.used;
      loaded = has.loaded;
      building = building;
      opened = opened;
      lived = of_size;
      meant =
          meant_of has.loaded.0 text begun.kept begun.setup has.loaded.2 (plant_of begun.setup size.workers)
          left.left.plant.history law kept_law refl of_size.closed.legal;
    }

-- what is so of what is left, where it follows from what is known of it
pub if_left : {L E : Type 0} (Known Shown : L → Type 0) → ((left : L) → Known left → Shown left) → (end : Result L E)
    → IfOk end Known → IfOk end Shown
if_left Known Shown all (Ok left) known = all left known
if_left Known Shown all (Err halted) known = tt

-- what was told before is told, whatever the building comes to
pub told_before : {B C : Type 0} (is_told : KeptNote → Type 0) (binding text : List ℕ) (file : Option (List ℕ))
    (end : LiveEnd B C) → IsNoteTold is_told binding text file → IsToldWhereBegun is_told binding text file end
told_before is_told binding text file (Ok left) told = told
told_before is_told binding text file (Err (halts.Building stop)) told = told
told_before is_told binding text file (Err (halts.Text stop)) told = tt
