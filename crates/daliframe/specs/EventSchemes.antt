-- The event schemes of control devices by their numbers.
use Rattle.std.specs.Prelude.{ℕ}
use Rattle.daliframe.specs.declared.schemes.EventScheme.{EventScheme}
use Rattle.daliframe.specs.declared.schemes.EventScheme.TheVariants.{Instance, Device, DeviceInstance}
use Rattle.daliframe.specs.declared.schemes.EventScheme.TheVariants.{DeviceGroup, InstanceGroup}

-- the numbers of the schemes, as SET EVENT SCHEME takes them (IEC 62386-103, clause 9)
abbrev pub scheme_number : EventScheme → ℕ
scheme_number Instance = 0
scheme_number Device = 1
scheme_number DeviceInstance = 2
scheme_number DeviceGroup = 3
scheme_number InstanceGroup = 4
