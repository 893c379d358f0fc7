-- What the scans of a plant of a text came to, by its source program (IEC 61131-3, 2.7.2, and profile).
use Rattle.std.specs.Prelude.{◌≡◌, ℕ, List, ◌∷◌, ◌++◌, slice_get, Some}
use Rattle.ilsource.specs.SourceTrees.{Tree}
use Rattle.ilsyms.specs.Meaning.{source_scan}
use Rattle.ilsyms.specs.Tasks.{SourceTask, tasks_of}
use Rattle.plantevents.specs.Scans.{Scan, store_of}
use Rattle.plantevents.specs.declared.event.Event.{Event}
use Rattle.plantevents.specs.declared.event.Event.TheVariants.{Commit}
use Rattle.plantevents.specs.Histories.{OpenScan, scan}

-- the scan that worker w took from place n came to what its task means, by the source program, of the snapshot that it
-- took
pub record IsAsMeant (tree : Tree) (buses : ℕ) (front : List Event) (w n : ℕ) (result : Scan) : Type 0 where
  pub running : OpenScan
  pub is_open : scan w front ≡ Some running
  pub number : running.place ≡ n
  pub task : SourceTask
  pub is_task : slice_get (tasks_of tree) running.task ≡ Some task
  pub meant : source_scan tree buses task (store_of running.snapshot) ≡ Some result.after

-- each scan of the history did
abbrev pub AreAsMeant : Tree → ℕ → List Event → Type 0
AreAsMeant tree buses h =
    (later front : List Event) (w n : ℕ) (result : Scan) → h ≡ later ++ Commit w n result ∷ front
    → IsAsMeant tree buses front w n result
