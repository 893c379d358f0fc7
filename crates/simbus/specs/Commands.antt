-- What an opcode commands control gear: the rows of sixteen opcodes of IEC 62386-102, clause 11, with those that
-- simulated gear obeys or answers. In a row of its own a command has the number of a scene or group in its last four
-- bits.
use Rattle.std.specs.Prelude.{ℕ, ◌==◌, ◌/◌, ◌%◌, if◌then◌else◌, List, [], ◌∷◌}
use Rattle.simbus.specs.declared.commands.GearAction.TheVariants as action
use Rattle.simbus.specs.declared.commands.Setting.TheVariants as setting
use Rattle.simbus.specs.declared.commands.Query.TheVariants as query
use Rattle.simbus.specs.declared.commands.GearCommand.{GearCommand}
use Rattle.simbus.specs.declared.commands.GearCommand.TheVariants.{Act, Set, Ask, Nothing}

-- the command that stands at a number among some, or nothing where none does
abbrev pub command_among : List (ℕ × GearCommand) → ℕ → GearCommand
command_among [] n = Nothing
command_among (c ∷ commands) n = if n == c.0 then c.1 else command_among commands n

-- 00 to 0F: changes of the level; UP (01) and DOWN (02) do nothing here
unfoldable pub action_at : ℕ → GearCommand
action_at n =
    command_among
    ((0x0, Act action.Off)
    ∷ (0x3, Act action.StepUp)
    ∷ (0x4, Act action.StepDown)
    ∷ (0x5, Act action.RecallMaxLevel)
    ∷ (0x6, Act action.RecallMinLevel)
    ∷ (0x7, Act action.StepDownAndOff)
    ∷ (0x8, Act action.OnAndStepUp)
    ∷ (0xA, Act action.GoToLastActiveLevel)
    ∷ [])
    n

-- 20 to 2F: SET MAX LEVEL (2A) and those after it do nothing here
unfoldable pub setting_at : ℕ → GearCommand
setting_at n =
    command_among
    ((0x0, Set setting.Reset)
    ∷ (0x1, Set setting.StoreActualLevelInDtr0)
    ∷ [])
    n

-- 90 to 9F
unfoldable pub query_at : ℕ → GearCommand
query_at n =
    command_among
    ((0x0, Ask query.Status)
    ∷ (0x1, Ask query.ControlGearPresent)
    ∷ (0x2, Ask query.LampFailure)
    ∷ (0x3, Ask query.LampPowerOn)
    ∷ (0x8, Ask query.ContentDtr0)
    ∷ (0xC, Ask query.ContentDtr1)
    ∷ [])
    n

-- A0 to AF
unfoldable pub level_query_at : ℕ → GearCommand
level_query_at n =
    command_among
    ((0x0, Ask query.ActualLevel)
    ∷ (0x1, Ask query.MaxLevel)
    ∷ (0x2, Ask query.MinLevel)
    ∷ [])
    n

-- C0 to CF
unfoldable pub group_query_at : ℕ → GearCommand
group_query_at n =
    command_among
    ((0x0, Ask query.Groups0To7)
    ∷ (0x1, Ask query.Groups8To15)
    ∷ (0x5, Ask query.Memory)
    ∷ [])
    n

-- the command in a row of opcodes at a number
unfoldable pub command_at : ℕ → ℕ → GearCommand
command_at row n =
    command_among
    ((0x0, action_at n)
    ∷ (0x1, Act (action.GoToScene n))
    ∷ (0x2, setting_at n)
    ∷ (0x4, Set (setting.SetScene n))
    ∷ (0x5, Set (setting.RemoveFromScene n))
    ∷ (0x6, Set (setting.AddToGroup n))
    ∷ (0x7, Set (setting.RemoveFromGroup n))
    ∷ (0x9, query_at n)
    ∷ (0xA, level_query_at n)
    ∷ (0xB, Ask (query.SceneLevel n))
    ∷ (0xC, group_query_at n)
    ∷ [])
    row

-- the command of an opcode
abbrev pub command_of : ℕ → GearCommand
command_of opcode = command_at (opcode / 16) (opcode % 16)
