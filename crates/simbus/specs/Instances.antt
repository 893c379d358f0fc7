-- What simulated instances of control devices become by a frame, and what they answer (profile).
use Rattle.std.specs.Prelude.{ℕ, ◌==◌, Bool, true, false, ◌&&◌, if◌then◌else◌, Option, Some, None}
use Rattle.daliframe.specs.declared.forward.Frame.{Frame}
use Rattle.daliframe.specs.declared.forward.Frame.TheVariants.{Forward16, Forward24}
use Rattle.daliframe.specs.declared.forward24.Fields24.{Fields24}
use Rattle.daliframe.specs.declared.forward24.Fields24.TheVariants as said
use Rattle.daliframe.specs.declared.schemes.EventScheme.{EventScheme}
use Rattle.daliframe.specs.EventSchemes.{scheme_number}
use Rattle.wordlines.specs.Saying.{scheme_with}
use Rattle.simbus.specs.declared.instances.DeviceCommand.{DeviceCommand}
use Rattle.simbus.specs.declared.instances.DeviceCommand.TheVariants.{Enable, Disable, SetEventScheme}
use Rattle.simbus.specs.declared.instances.DeviceCommand.TheVariants.{QueryInstanceType}
use Rattle.simbus.specs.declared.instances.DeviceCommand.TheVariants.{QueryEventScheme, QueryInputValue, Nothing}
use Rattle.simbus.specs.declared.instances.InputInstance.{InputInstance}
use Rattle.simbus.specs.declared.instances.InstanceVariables.{InstanceVariables}
use Rattle.simbus.specs.FrameFields.{device_fields_of}

-- the opcodes of control devices
unfoldable pub device_command_of : ℕ → DeviceCommand
device_command_of opcode =
    if opcode == 0x62 then Enable
    else (if opcode == 0x63 then Disable
    else (if opcode == 0x67 then SetEventScheme
    else (if opcode == 0x80 then QueryInstanceType
    else (if opcode == 0x8B then QueryEventScheme
    else (if opcode == 0x8C then QueryInputValue
    else Nothing)))))

-- what a frame that says this commands an instance: nothing, where it is for another one
abbrev pub command_to : InputInstance → Fields24 → DeviceCommand
command_to instance (said.Command address number opcode) =
    if address == instance.address && number == instance.number then device_command_of opcode else Nothing
command_to instance said.Event = Nothing
command_to instance (said.Dtr0 value) = Nothing
command_to instance said.OtherCommand = Nothing

-- before any frame: enabled, with the event scheme that was declared
abbrev pub variables_of : InputInstance → InstanceVariables
variables_of instance = record { scheme = instance.scheme; is_enabled = true }

-- the variables with this event scheme, where there is one
abbrev pub with_scheme : Option EventScheme → InstanceVariables → InstanceVariables
with_scheme None v = v
with_scheme (Some scheme) v = record v { scheme = scheme }

-- the settings act only as a pair, and the event scheme is taken from DTR0 where that is the number of one
abbrev pub after_device_command : Bool → ℕ → DeviceCommand → InstanceVariables → InstanceVariables
after_device_command is_pair dtr0 Enable v = if is_pair then record v { is_enabled = true } else v
after_device_command is_pair dtr0 Disable v = if is_pair then record v { is_enabled = false } else v
after_device_command is_pair dtr0 SetEventScheme v = if is_pair then with_scheme (scheme_with dtr0) v else v
after_device_command is_pair dtr0 QueryInstanceType v = v
after_device_command is_pair dtr0 QueryEventScheme v = v
after_device_command is_pair dtr0 QueryInputValue v = v
after_device_command is_pair dtr0 Nothing v = v

abbrev pub instance_after_fields : Bool → ℕ → InputInstance → Fields24 → InstanceVariables → InstanceVariables
instance_after_fields is_pair dtr0 instance fields v = after_device_command is_pair dtr0 (command_to instance fields) v

-- after a frame: those of 16 bits are not for devices
abbrev pub instance_after_frame : Bool → ℕ → InputInstance → Frame → InstanceVariables → InstanceVariables
instance_after_frame is_pair dtr0 instance (Forward16 frame) v = v
instance_after_frame is_pair dtr0 instance (Forward24 frame) v =
    instance_after_fields is_pair dtr0 instance (device_fields_of frame) v

-- DTR0 of the control devices: `C1 30 d` sets it in all of them
abbrev pub dtr0_after_fields : Fields24 → ℕ → ℕ
dtr0_after_fields (said.Dtr0 value) dtr0 = value
dtr0_after_fields said.Event dtr0 = dtr0
dtr0_after_fields (said.Command address instance opcode) dtr0 = dtr0
dtr0_after_fields said.OtherCommand dtr0 = dtr0

abbrev pub dtr0_after_frame : Frame → ℕ → ℕ
dtr0_after_frame (Forward16 frame) dtr0 = dtr0
dtr0_after_frame (Forward24 frame) dtr0 = dtr0_after_fields (device_fields_of frame) dtr0

-- the answer to a command
abbrev pub device_answer : InputInstance → DeviceCommand → InstanceVariables → Option ℕ
device_answer instance QueryInstanceType v = Some instance.instance_type
device_answer instance QueryEventScheme v = Some (scheme_number v.scheme)
device_answer instance QueryInputValue v = Some instance.value
device_answer instance Enable v = None
device_answer instance Disable v = None
device_answer instance SetEventScheme v = None
device_answer instance Nothing v = None

abbrev pub instance_fields_answer : InputInstance → Fields24 → InstanceVariables → Option ℕ
instance_fields_answer instance fields v = device_answer instance (command_to instance fields) v

-- the answer of an instance to a frame
abbrev pub instance_answer : Frame → InputInstance → InstanceVariables → Option ℕ
instance_answer (Forward16 frame) instance v = None
instance_answer (Forward24 frame) instance v = instance_fields_answer instance (device_fields_of frame) v
