-- A text that is driven: from its bytes to the plant that its steps leave (IEC 61131-3, 2.7.2, and profile).
use Rattle.std.specs.Prelude.{ℕ, List}
use Rattle.wordlines.specs.Wirings.{Wiring}
use Rattle.plantevents.specs.Legal.{AreLegal}
use Rattle.plant.specs.Shown.{Shown, opened, IsOpenFault}
use Rattle.ilcompile.specs.Loaded.{Loaded}
use Rattle.plantload.specs.Loading.{IsLoadFault, IsLoadFaultOrMemory, IsSetup}
use Rattle.plantload.specs.MeantScans.{AreAsMeant}
use Rattle.plantscript.specs.declared.step.Step.{Step}
use Rattle.plantscript.specs.declared.step.StepReply.{StepReply}
use Rattle.plantscript.specs.declared.text.DriveFault.{DriveFault}
use Rattle.plantscript.specs.declared.text.DriveFault.TheVariants.{Load, Open}
use Rattle.plantscript.specs.Runs.{Run, IsHistoryOf}

-- the bytes are those of a source program, whose plan with its verified codes was opened; these replies to these steps
-- lead to q; its history is that of the steps that were accepted, and legal; and each scan came to what the source
-- program means
pub record IsDriven (wiring : Wiring) (bytes : List ℕ) (workers limit : ℕ) (steps : List Step)
    (replies : List StepReply) (q : Shown) : Type 0 where
  pub setup : Loaded
  pub loaded : IsSetup wiring bytes setup
  pub run : Run (opened setup workers limit) steps replies q
  pub history : IsHistoryOf (opened setup workers limit) steps replies q
  pub legal : AreLegal q.plant q.history
  pub meant : AreAsMeant loaded.plan.tree wiring.buses q.history

-- why a text is not driven: what stands against loading it, else against opening the plant
abbrev pub IsDriveFault : Wiring → List ℕ → ℕ → ℕ → DriveFault → Type 0
IsDriveFault wiring bytes workers limit (Load fault) = IsLoadFaultOrMemory (IsLoadFault wiring bytes) fault
IsDriveFault wiring bytes workers limit (Open fault) =
    (setup : Loaded) × IsSetup wiring bytes setup × IsOpenFault setup.plan.buses workers limit fault
