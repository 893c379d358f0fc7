-- Rows that are kept ready: of each task, in the slots of its programs, what a scan would be given now (profile).
use Rattle.std.specs.Prelude.{◌≡◌, ℕ, List, map, length, drop, slice_get, Some}
use Rattle.std.specs.List.{AllZip}
use Rattle.iltypes.specs.declared.value.IlType.{IlType}
use Rattle.iltypes.specs.declared.value.Value.{Value}
use Rattle.iltypes.specs.Values.{AreOf}
use Rattle.ilblocks.specs.Calls.{Block, IsBlockOf}
use Rattle.ilverify.specs.Listings.{lasting_types}
use Rattle.ilverify.specs.Verdicts.{Accepted}
use Rattle.ilmachine.specs.declared.external.External.{External}
use Rattle.ilmachine.specs.Images.{TaskLayout, TaskImage, ProcessImage, image_of}
use Rattle.ilmachine.specs.ImageSteps.{slot_values}

-- a task with a value for each slot of its programs, and its block instances
pub record TaskRow : Type 0 where
  pub layout : TaskLayout
  pub row : List Value
  pub blocks : List Block

abbrev pub task_row_of : Accepted → List External → List Value → List Block → TaskRow
task_row_of verified externals row blocks =
    record { layout = record { verified = verified; externals = externals }; row = row; blocks = blocks }

-- the task of the image: the row ends with the values of the task's own variables
abbrev pub shown : TaskRow → TaskImage
shown t =
    record {
      layout = t.layout;
      own = record { slots = drop (length t.layout.externals) t.row; blocks = t.blocks };
    }

abbrev pub shown_image : List IlType → List Value → List TaskRow → ProcessImage
shown_image types globals tasks = image_of types globals (map shown tasks)

-- each value of the row is in its slot's type, and each block instance is of its kind
pub record IsTaskRow (t : TaskRow) : Type 0 where
  pub values : AreOf t.row (lasting_types t.layout.verified.code)
  pub blocks : AllZip (IsBlockOf t.layout.verified.code.buses) t.blocks t.layout.verified.code.kinds

-- the row is what gathering the values of the slots would give
abbrev pub IsReady : List Value → TaskRow → Type 0
IsReady globals t = t.row ≡ slot_values globals (shown t)

pub record AreReady (globals : List Value) (tasks : List TaskRow) : Type 0 where
  pub rows : (task : ℕ) (t : TaskRow) → slice_get tasks task ≡ Some t → IsReady globals t

-- a task with its row, where the global variables have these values
abbrev pub ready_task : List Value → TaskImage → TaskRow
ready_task globals t = record { layout = t.layout; row = slot_values globals t; blocks = t.own.blocks }
