-- How a bus differs from what a text and its binding declare there, by what a survey of it was answered: which gear and
-- which devices are silent, or there and not declared; which levels are others than the text first sends; and which
-- groups have no gear.
use Rattle.std.specs.Prelude.{ℕ, pos, suc, zero, ◌+◌, ◌/◌, ◌%◌, ◌^◌, ◌==◌, ◌&&◌, ◌||◌, not, nat_lt, Bool, true}
use Rattle.std.specs.Prelude.{false, List, [], ◌++◌, codes, bit_and, find, slice_get, Option, Some, None}
use Rattle.std.specs.Prelude.{option_map, if◌then◌else◌}
use Rattle.std.specs.List.{list_any, filter_map}
use Rattle.std.specs.Option.{option_map_or}
use Rattle.std.specs.Fmt.{decimal}
use Rattle.daliframe.specs.declared.schemes.EventScheme.{EventScheme}
use Rattle.daliframe.specs.declared.schemes.EventScheme.TheVariants as schemes
use Rattle.gearcmd.specs.declared.requests.Command.{Command}
use Rattle.gearcmd.specs.declared.requests.Command.TheVariants.{GearAsk, DevAsk}
use Rattle.buslink.specs.declared.marks.Outcome.{Outcome}
use Rattle.buslink.specs.declared.marks.Outcome.TheVariants.{Done}
use Rattle.buslink.specs.declared.marks.Reply.TheVariants.{Answer}
use Rattle.iltypes.specs.declared.value.Value.{Value}
use Rattle.iltypes.specs.declared.value.Value.TheVariants.{Int}
use Rattle.ilplan.specs.declared.global.Global.{Global as GlobalVariable}
use Rattle.ilplan.specs.declared.global.Location.{Location}
use Rattle.ilplan.specs.declared.global.Location.TheVariants.{Level, GearAnswer, DeviceAnswer}
use Rattle.ilplan.specs.Plans.{Planned}
use Rattle.wordlines.specs.declared.sources.BoundSource.{BoundSource}
use Rattle.commissioning.specs.declared.asking.Asked.{Asked}
use Rattle.commissioning.specs.declared.differences.Difference.{Difference}
use Rattle.commissioning.specs.declared.differences.Difference.TheVariants.{Silent, Undeclared, Empty, OtherLevel}
use Rattle.commissioning.specs.declared.differences.Levels.{Levels}
use Rattle.commissioning.specs.declared.differences.Member.{Member}
use Rattle.commissioning.specs.declared.differences.Member.TheVariants.{Gear, Device, Instance}
use Rattle.commissioning.specs.Surveys.{is_answer}

-- ---- what was answered

-- both are the same question to gear, or to an instance of a device
abbrev pub is_question : Command → Command → Bool
is_question (GearAsk address query) (GearAsk other asked) = address == other && query == asked
is_question (DevAsk address instance query) (DevAsk other number asked) =
    address == other && instance == number && query == asked
is_question _ _ = false

-- the outcome of a question, where it was asked: the first time
abbrev pub outcome_of : Command → List Asked → Option Outcome
outcome_of question survey = option_map (λ a. a.outcome) (find (λ a. is_question question a.command) survey)

-- something answered it
abbrev pub is_there : Command → List Asked → Bool
is_there question survey = option_map_or is_answer (outcome_of question survey) false

-- the byte that is an outcome's answer
abbrev pub byte_of : Option Outcome → Option ℕ
byte_of (Some (Done (Answer byte))) = Some byte
byte_of _ = None

abbrev pub answer_of : Command → List Asked → Option ℕ
answer_of question survey = byte_of (outcome_of question survey)

-- gear is there that answers CONTROL GEAR PRESENT
abbrev pub has_gear : List Asked → ℕ → Bool
has_gear survey address = is_there (GearAsk address 1) survey

-- an instance is there that answers INSTANCE TYPE
abbrev pub has_instance : List Asked → ℕ → ℕ → Bool
has_instance survey device instance = is_there (DevAsk device instance 0) survey

-- bit of a byte
abbrev pub bit : ℕ → ℕ → Bool
bit k byte = bit_and (byte / 2 ^ k) 1 == 1

-- gear is in the group: its bit is 1 in the answer to QUERY GROUPS 0-7 or 8-15
abbrev pub is_in_group : List Asked → ℕ → ℕ → Bool
is_in_group survey group address =
    option_map_or (bit (group % 8)) (answer_of (GearAsk address (41 + group / 8)) survey) false

-- ---- what is declared

-- both are one place
abbrev pub same_place : Location → Location → Bool
same_place (Level bus address) (Level other number) = bus == other && address == number
same_place (GearAnswer bus address) (GearAnswer other number) = bus == other && address == number
same_place (DeviceAnswer bus address) (DeviceAnswer other number) = bus == other && address == number
same_place _ _ = false

abbrev pub is_at : Location → GlobalVariable → Bool
is_at place variable = option_map_or (same_place place) variable.location false

-- a variable is located there
abbrev pub is_located : Planned → Location → Bool
is_located plan place = list_any (is_at place) plan.globals

-- the text has the level or the answer of this gear
abbrev pub declares_gear : Planned → ℕ → ℕ → Bool
declares_gear plan bus address = is_located plan (Level bus address) || is_located plan (GearAnswer bus address)

-- the text has the level of this group
abbrev pub declares_group : Planned → ℕ → ℕ → Bool
declares_group plan bus group = is_located plan (Level bus (64 + group))

-- a value that is sent as a level: 255 is none
abbrev pub level_of : Value → Option ℕ
level_of (Int (pos level)) = if nat_lt level 255 then Some level else None
level_of _ = None

-- the level that a variable sends first there, if it is located there
abbrev pub level_at : Location → GlobalVariable → Option ℕ
level_at place variable = if is_at place variable then level_of variable.initial else None

-- the level that the text sends first to this gear, if it sends one
abbrev pub first_level : Planned → ℕ → ℕ → Option ℕ
first_level plan bus address = slice_get (filter_map (level_at (Level bus address)) plan.globals) 0

-- a source of this scheme names the short address of a device
abbrev pub names_device : EventScheme → Bool
names_device schemes.Device = true
names_device schemes.DeviceInstance = true
names_device _ = false

-- .. and an instance of it
abbrev pub names_instance : EventScheme → Bool
names_instance schemes.DeviceInstance = true
names_instance _ = false

abbrev pub is_of_device : ℕ → ℕ → BoundSource → Bool
is_of_device bus device bound = bound.bus == bus && bound.source.a == device && names_device bound.source.scheme

abbrev pub is_of_instance : ℕ → ℕ → ℕ → BoundSource → Bool
is_of_instance bus device instance bound =
    bound.bus == bus && bound.source.a == device && bound.source.b == instance && names_instance bound.source.scheme

-- the text has the answer of this device, or the binding listens to it
abbrev pub declares_device : Planned → ℕ → ℕ → Bool
declares_device plan bus device =
    is_located plan (DeviceAnswer bus device) || list_any (is_of_device bus device) plan.sources

-- the binding listens to this instance
abbrev pub declares_instance : Planned → ℕ → ℕ → ℕ → Bool
declares_instance plan bus device instance = list_any (is_of_instance bus device instance) plan.sources

-- ---- the differences

-- it holds of one of 0, 1 and so on, so many of them
abbrev pub any_below : (ℕ → Bool) → ℕ → Bool
any_below test zero = false
any_below test (suc count) = any_below test count || test count

-- a group of the text has this gear
abbrev pub is_in_declared_group : List Asked → Planned → ℕ → ℕ → Bool
is_in_declared_group survey plan bus address =
    any_below (λ group. declares_group plan bus group && is_in_group survey group address) 16

-- gear that is declared and there differs by its level
abbrev pub level_difference : ℕ → Option ℕ → Option ℕ → Option Difference
level_difference gear (Some level) (Some first) =
    if level == first then None else Some (OtherLevel gear (record { level = level; first = first }))
level_difference gear _ _ = None

-- by whether gear is declared, and whether it is there; in a declared group it may be there without a level of its own
abbrev pub gear_difference : List Asked → Planned → ℕ → ℕ → Option Difference
gear_difference survey plan bus gear =
    if declares_gear plan bus gear then
    (if has_gear survey gear then
    level_difference gear (answer_of (GearAsk gear 16) survey) (first_level plan bus gear)
    else Some (Silent (Gear gear)))
    else (if has_gear survey gear && not (is_in_declared_group survey plan bus gear) then Some (Undeclared (Gear gear))
    else None)

-- a group of the text in which no gear is
abbrev pub group_difference : List Asked → Planned → ℕ → ℕ → Option Difference
group_difference survey plan bus group =
    if declares_group plan bus group && not (any_below (is_in_group survey group) 64) then Some (Empty group) else None

-- a device is there whose first instance is
abbrev pub device_difference : List Asked → Planned → ℕ → ℕ → Option Difference
device_difference survey plan bus device =
    if declares_device plan bus device then
    (if has_instance survey device 0 then None else Some (Silent (Device device)))
    else (if has_instance survey device 0 then Some (Undeclared (Device device)) else None)

-- an instance of a device that is there
abbrev pub instance_difference : List Asked → Planned → ℕ → ℕ → ℕ → Option Difference
instance_difference survey plan bus device instance =
    if declares_instance plan bus device instance && has_instance survey device 0
    && not (has_instance survey device instance)
    then Some (Silent (Instance device instance)) else None

-- ---- their lines

abbrev pub member_words : Member → List ℕ
member_words (Gear gear) = codes "gear " ++ decimal gear
member_words (Device device) = codes "device " ++ decimal device
member_words (Instance device instance) = codes "device " ++ decimal device ++ codes " instance " ++ decimal instance

unfoldable pub level_words : Levels → List ℕ
level_words levels = codes "level " ++ decimal levels.level ++ codes ", and the text first sends " ++ decimal levels.first

abbrev pub difference_words : Difference → List ℕ
difference_words (Silent member) = member_words member ++ codes " is declared and silent"
difference_words (Undeclared member) = member_words member ++ codes " is there and not declared"
difference_words (Empty group) = codes "group " ++ decimal group ++ codes " is declared and empty"
difference_words (OtherLevel gear levels) = codes "gear " ++ decimal gear ++ codes " is at " ++ level_words levels

-- one on a line
abbrev pub line_of : Option Difference → List ℕ
line_of None = []
line_of (Some difference) = difference_words difference ++ codes "\n"

-- the lines of 0, 1 and so on, so many of them
abbrev pub lines_below : (ℕ → List ℕ) → ℕ → List ℕ
lines_below lines zero = []
lines_below lines (suc count) = lines_below lines count ++ lines count

-- those of a device and of its instances
abbrev pub device_lines : List Asked → Planned → ℕ → ℕ → List ℕ
device_lines survey plan bus device =
    line_of (device_difference survey plan bus device)
    ++ lines_below (λ instance. line_of (instance_difference survey plan bus device instance)) 32

-- all lines: of all gear, of all groups, and of all devices
abbrev pub difference_lines : List Asked → Planned → ℕ → List ℕ
difference_lines survey plan bus =
    lines_below (λ gear. line_of (gear_difference survey plan bus gear)) 64
    ++ (lines_below (λ group. line_of (group_difference survey plan bus group)) 16
    ++ lines_below (device_lines survey plan bus) 64)
