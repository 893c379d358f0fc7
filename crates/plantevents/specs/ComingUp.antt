-- What is so once a bus came up again, asked of a whole history.
use Rattle.std.specs.Prelude.{◌≡◌, ◌≢◌, ℕ, ◌≤◌, List, Option, Some}
use Rattle.ilmachine.specs.Images.{ImageVariable, Global}
use Rattle.plantevents.specs.declared.activator.Activator.{Activator}
use Rattle.plantevents.specs.declared.event.Event.{Event}
use Rattle.plantevents.specs.Plants.{Plant, output_at}
use Rattle.plantevents.specs.Histories.{moment, scan, hand}
use Rattle.plantevents.specs.Readiness.{pending, lost}
use Rattle.plantevents.specs.Variables.{value, blocks, whole}
use Rattle.plantevents.specs.Waiting.{OwedLevel, level_class, waiting, dropped}

-- the level is the value of the global variable that is located at its address of bus b, it is of class c, and it is
-- not 255, which is no new level
pub record IsOwedAnew (p : Plant) (b c : ℕ) (h : List Event) (o : OwedLevel) : Type 0 where
  pub address : o.address ≤ 80
  pub global : ℕ
  pub output : output_at p b o.address ≡ Some global
  pub class : level_class p global ≡ c
  pub is_value : value p (Global global) h ≡ Some (whole o.level)
  pub is_level : o.level ≢ 255

-- no variable, block instance, open scan or transaction, request that waits or was dropped, event that is pending or was
-- given up, and no moment differs
pub record IsUnchanged (p : Plant) (before after : List Event) : Type 0 where
  pub variables : (v : ImageVariable) → value p v after ≡ value p v before
  pub instances : (t : ℕ) → blocks p t after ≡ blocks p t before
  pub scans : (w : ℕ) → scan w after ≡ scan w before
  pub transactions : (b : ℕ) → hand b after ≡ hand b before
  pub requests : (b c : ℕ) → waiting p b c after ≡ waiting p b c before
  pub drops : (b c : ℕ) → dropped p b c after ≡ dropped p b c before
  pub events : (a : Option Activator) (t : ℕ) → pending a t after ≡ pending a t before
  pub losses : (a : Option Activator) (t : ℕ) → lost a t after ≡ lost a t before
  pub time : moment after ≡ moment before
