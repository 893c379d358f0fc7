-- What the variables of simulated control gear are at first, and become by a frame (IEC 62386-102, clauses 9 to 11,
-- with the levels MIN 1 and MAX 254, and without fading).
use Rattle.std.specs.Prelude.{ℕ, ◌+◌, ◌-◌, ◌==◌, nat_le, min, max, Bool, true, false, if◌then◌else◌, replicate}
use Rattle.std.specs.Prelude.{slice_index, slice_index_or, slice_set}
use Rattle.wordlines.specs.declared.statements.GearStart.{GearStart}
use Rattle.simbus.specs.declared.commands.GearAction.{GearAction}
use Rattle.simbus.specs.declared.commands.GearAction.TheVariants as action
use Rattle.simbus.specs.declared.commands.Setting.{Setting}
use Rattle.simbus.specs.declared.commands.Setting.TheVariants as setting
use Rattle.simbus.specs.declared.commands.GearCommand.{GearCommand}
use Rattle.simbus.specs.declared.commands.GearCommand.TheVariants.{Act, Set, Ask, Nothing}
use Rattle.simbus.specs.declared.gears.GearVariables.{GearVariables}
use Rattle.simbus.specs.Commands.{command_of}
use Rattle.simbus.specs.FrameFields.{fields_of}
use Rattle.daliframe.specs.declared.addressing.Address.{Address}
use Rattle.daliframe.specs.declared.addressing.Address.TheVariants.{Short, Group, Broadcast}
use Rattle.daliframe.specs.declared.forward.Frame.{Frame}
use Rattle.daliframe.specs.declared.forward.Frame.TheVariants.{Forward16, Forward24}
use Rattle.daliframe.specs.declared.forward16.Fields16.{Fields16}
use Rattle.daliframe.specs.declared.forward16.Fields16.TheVariants as said

-- MIN LEVEL, MAX LEVEL, and the MASK, which is no level
abbrev pub min_level : ℕ
min_level = 1

abbrev pub max_level : ℕ
max_level = 254

abbrev pub mask : ℕ
mask = 255

-- before any frame: as the scenario has it begin, and last active at that level, or at MAX LEVEL where it begins off
abbrev pub start_variables : GearStart → GearVariables
start_variables start = record {
  level = start.level;
  last_active = if start.level == 0 then max_level else start.level;
  scenes = start.scenes;
  groups = start.groups;
  dtr0 = 0;
  dtr1 = 0;
}

-- at a level, which is the last active one where it is not 0
abbrev pub at_level : ℕ → GearVariables → GearVariables
at_level level v = record v { level = level; last_active = if level == 0 then v.last_active else level }

-- a direct level or that of a scene: the MASK changes nothing, 0 is off, and others are held between MIN and MAX LEVEL
abbrev pub to_level : ℕ → GearVariables → GearVariables
to_level level v =
    if level == mask then v
    else (if level == 0 then at_level 0 v
    else at_level (max min_level (min level max_level)) v)

-- one step up, at most to MAX LEVEL, and one step down, at least to MIN LEVEL
abbrev pub step_up : GearVariables → GearVariables
step_up v = at_level (min (v.level + 1) max_level) v

abbrev pub step_down : GearVariables → GearVariables
step_down v = at_level (max (v.level - 1) min_level) v

abbrev pub after_action : GearAction → GearVariables → GearVariables
after_action action.Off v = at_level 0 v
after_action action.StepUp v = if v.level == 0 then v else step_up v
after_action action.StepDown v = if v.level == 0 then v else step_down v
after_action action.RecallMaxLevel v = at_level max_level v
after_action action.RecallMinLevel v = at_level min_level v
after_action action.StepDownAndOff v = if nat_le v.level min_level then at_level 0 v else step_down v
after_action action.OnAndStepUp v = if v.level == 0 then at_level min_level v else step_up v
after_action action.GoToLastActiveLevel v = at_level v.last_active v
after_action (action.GoToScene scene) v = to_level (slice_index v.scenes scene) v

-- with this level in a scene; as a member of a group, or no member
abbrev pub with_scene : ℕ → ℕ → GearVariables → GearVariables
with_scene scene level v = record v { scenes = slice_set v.scenes scene level }

abbrev pub with_member : ℕ → Bool → GearVariables → GearVariables
with_member group is_member v = record v { groups = slice_set v.groups group is_member }

-- RESET leaves DTR0 and DTR1
abbrev pub after_setting : Setting → GearVariables → GearVariables
after_setting setting.Reset v = record v {
  level = max_level;
  last_active = max_level;
  scenes = replicate 16 mask;
  groups = replicate 16 false;
}
after_setting setting.StoreActualLevelInDtr0 v = record v { dtr0 = v.level }
after_setting (setting.SetScene scene) v = with_scene scene v.dtr0 v
after_setting (setting.RemoveFromScene scene) v = with_scene scene mask v
after_setting (setting.AddToGroup group) v = with_member group true v
after_setting (setting.RemoveFromGroup group) v = with_member group false v

-- whether an address is that of gear with a short address and these variables
abbrev pub is_addressed : Address → ℕ → GearVariables → Bool
is_addressed (Short address) own v = address == own
is_addressed (Group group) own v = slice_index_or v.groups group false
is_addressed Broadcast own v = true

-- a command that is sent twice acts only as a pair, at the second frame
abbrev pub after_command : Bool → GearCommand → GearVariables → GearVariables
after_command is_pair (Act action) v = after_action action v
after_command is_pair (Set setting) v = if is_pair then after_setting setting v else v
after_command is_pair (Ask query) v = v
after_command is_pair Nothing v = v

-- after a frame that says this
abbrev pub after_fields : Bool → ℕ → Fields16 → GearVariables → GearVariables
after_fields is_pair own (said.Level address level) v = if is_addressed address own v then to_level level v else v
after_fields is_pair own (said.Command address opcode) v =
    if is_addressed address own v then after_command is_pair (command_of opcode) v else v
after_fields is_pair own (said.Dtr0 value) v = record v { dtr0 = value }
after_fields is_pair own (said.Dtr1 value) v = record v { dtr1 = value }
after_fields is_pair own said.Other v = v

-- after a frame: those of 24 bits are not for gear
abbrev pub after_frame : Bool → ℕ → Frame → GearVariables → GearVariables
after_frame is_pair own (Forward16 frame) v = after_fields is_pair own (fields_of frame) v
after_frame is_pair own (Forward24 frame) v = v
