-- What a text is loaded as where its variables begin with kept values: as ever, but that the variables of its plan begin
-- with these (profile). What is wrong with a text does not hang on them.
use Rattle.std.specs.Prelude.{◌≡◌, ℕ, List, Result, Ok, Err}
use Rattle.wordlines.specs.Wirings.{Wiring}
use Rattle.ilplan.specs.Plans.{Planned}
use Rattle.ilcompile.specs.Loaded.{AreCodes, Loaded}
use Rattle.livekeep.specs.KeptFiles.{KeptEntry}
use Rattle.livekeep.specs.KeptPlans.{IsKeptPlan, left_out_of}
use Rattle.plantload.specs.Loading.{IsLoadFault, IsPlanOfText}
use Rattle.plantload.specs.declared.fault.LoadFault.{LoadFault}

-- the bytes' plan, begun with the kept values, with the code of each of its tasks
pub record IsKeptSetup (wiring : Wiring) (bytes : List ℕ) (kept : List KeptEntry) (setup : Loaded) : Type 0 where
  pub own : Planned
  pub plan : IsPlanOfText wiring bytes own
  pub begins : IsKeptPlan kept own setup.plan
  pub codes : AreCodes setup.plan setup.codes

-- these are the kept values that are left out of the bytes' plan
abbrev pub AreLeftOut : Wiring → List ℕ → List KeptEntry → List KeptEntry → Type 0
AreLeftOut wiring bytes kept left = (plan : Planned) → IsPlanOfText wiring bytes plan → left ≡ left_out_of kept plan

-- what the bytes are loaded as, beginning with the kept values
abbrev pub IsKeptLoaded : Wiring → List ℕ → List KeptEntry → Result Loaded LoadFault → Type 0
IsKeptLoaded wiring bytes kept (Ok setup) = IsKeptSetup wiring bytes kept setup
IsKeptLoaded wiring bytes kept (Err fault) = IsLoadFault wiring bytes fault
