-- What the words of a line say (profile): a keyword, then numbers, each in its range, and no word more. Numbers are
-- decimal; the 24 bits of an event's frame are six hexadecimal digits.
use Rattle.std.specs.Prelude.{ℕ, ◌-◌, ◌==◌, List, [], ◌∷◌, Option, Some, None, option_map, option_and_then, slice_get}
use Rattle.std.specs.Prelude.{Bool, true, false, replicate, slice_set, codes, bytes_eq, if◌then◌else◌}
use Rattle.limits.specs.Limits.{most_buses}
use Rattle.wordlines.specs.WordLines.{after_word, number_in, number_upto, hex_number}
use Rattle.wordlines.specs.TickRows.{row_of}
use Rattle.daliframe.specs.declared.schemes.EventScheme.{EventScheme}
use Rattle.daliframe.specs.declared.schemes.EventScheme.TheVariants as scheme
use Rattle.wordlines.specs.declared.entries.ScenarioEntry.{ScenarioEntry}
use Rattle.wordlines.specs.declared.entries.ScenarioEntry.TheVariants.{One, Ticks}
use Rattle.wordlines.specs.declared.statements.FrameFate.{FrameFate}
use Rattle.wordlines.specs.declared.statements.FrameFate.TheVariants.{Lost, Damaged, Fault}
use Rattle.wordlines.specs.declared.statements.Statement.{Statement}
use Rattle.wordlines.specs.declared.statements.Statement.TheVariants.{Gear, LampFailure, Memory, Device}
use Rattle.wordlines.specs.declared.statements.Statement.TheVariants.{InputInstance, Reply, HearFault, Tick, Event}

-- what the first word gives, where it gives something, and what the words after it make of that
abbrev pub first : {A B : Type 0} → Option (A × List (List ℕ)) → (A → List (List ℕ) → Option B) → Option B
first None says = None
first (Some taken) says = says taken.0 taken.1

-- no word is left
abbrev pub at_end : {A : Type 0} → List (List ℕ) → A → Option A
at_end [] said = Some said
at_end (word ∷ rest) said = None

abbrev pub fate_of : List ℕ → Option FrameFate
fate_of word =
    if bytes_eq word (codes "lost") then Some Lost
    else if bytes_eq word (codes "damaged") then Some Damaged
    else if bytes_eq word (codes "fault") then Some Fault
    else None

abbrev pub fate_in : List (List ℕ) → Option (FrameFate × List (List ℕ))
fate_in [] = None
fate_in (word ∷ rest) = option_map (λ fate. (fate, rest)) (fate_of word)

abbrev pub frame_in : List (List ℕ) → Option (ℕ × List (List ℕ))
frame_in [] = None
frame_in (word ∷ rest) = option_map (λ frame. (frame, rest)) (hex_number word)

-- the number of a bus, below that of the buses
abbrev pub bus_in : List (List ℕ) → Option (ℕ × List (List ℕ))
bus_in words = number_in (most_buses - 1) words

-- the event schemes in the order of their numbers, from 0 (IEC 62386-103, clause 9)
abbrev pub event_schemes : List EventScheme
event_schemes = scheme.Instance ∷ scheme.Device ∷ scheme.DeviceInstance ∷ scheme.DeviceGroup ∷ scheme.InstanceGroup ∷ []

abbrev pub scheme_with : ℕ → Option EventScheme
scheme_with number = slice_get event_schemes number

-- an event scheme, by its number
abbrev pub scheme_in : List (List ℕ) → Option (EventScheme × List (List ℕ))
scheme_in words =
    option_and_then (λ taken. option_map (λ named. (named, taken.1)) (scheme_with taken.0)) (number_in 255 words)

-- `level l`: the level at which gear begins. Where it is not said, that is 0, which is off
abbrev pub level_behind : Option (List (List ℕ)) → List (List ℕ) → Option (ℕ × List (List ℕ))
level_behind None words = Some (0, words)
level_behind (Some rest) words = number_in 254 rest

abbrev pub level_in : List (List ℕ) → Option (ℕ × List (List ℕ))
level_in words = level_behind (after_word (codes "level") words) words

-- `group g`, as often as it stands there: whether gear begins as a member of each group, where these are its groups
-- before
abbrev pub groups_from : List Bool → List (List ℕ) → Option (List Bool × List (List ℕ))
groups_from groups [] = Some (groups, [])
groups_from groups (word ∷ []) = if bytes_eq word (codes "group") then None else Some (groups, word ∷ [])
groups_from groups (word ∷ digits ∷ rest) =
    if bytes_eq word (codes "group")
    then option_and_then (λ group. groups_from (slice_set groups group true) rest) (number_upto 15 digits)
    else Some (groups, word ∷ digits ∷ rest)

abbrev pub groups_in : List (List ℕ) → Option (List Bool × List (List ℕ))
groups_in words = groups_from (replicate 16 false) words

-- `scene n l`, as often as it stands there: the level of each scene with which gear begins, where these are its levels
-- before. Of two for one scene the second counts
abbrev pub scenes_from : List ℕ → List (List ℕ) → Option (List ℕ × List (List ℕ))
scenes_from scenes [] = Some (scenes, [])
scenes_from scenes (word ∷ []) = if bytes_eq word (codes "scene") then None else Some (scenes, word ∷ [])
scenes_from scenes (word ∷ digits ∷ []) =
    if bytes_eq word (codes "scene") then None else Some (scenes, word ∷ digits ∷ [])
scenes_from scenes (word ∷ digits ∷ more ∷ rest) =
    if bytes_eq word (codes "scene")
    then option_and_then (λ scene. option_and_then (λ level. scenes_from (slice_set scenes scene level) rest)
    (number_upto 255 more)) (number_upto 15 digits)
    else Some (scenes, word ∷ digits ∷ more ∷ rest)

-- where nothing is said of a scene it has the level 255, which is none
abbrev pub scenes_in : List (List ℕ) → Option (List ℕ × List (List ℕ))
scenes_in words = scenes_from (replicate 16 255) words

-- `gear b s`, and how it begins, in this order
abbrev pub gear_of : List (List ℕ) → Option Statement
gear_of words =
    first (bus_in words) (λ bus rest.
    first (number_in 63 rest) (λ short rest.
    first (level_in rest) (λ level rest.
    first (groups_in rest) (λ groups rest.
    first (scenes_in rest) (λ scenes rest.
    at_end rest (Gear bus short (record { level = level; groups = groups; scenes = scenes })))))))

-- `lampfailure b s`
abbrev pub lamp_failure_of : List (List ℕ) → Option Statement
lamp_failure_of words =
    first (bus_in words) (λ bus rest.
    first (number_in 63 rest) (λ short rest. at_end rest (LampFailure bus short)))

-- `memory b s bank offset value`
abbrev pub memory_of : List (List ℕ) → Option Statement
memory_of words =
    first (bus_in words) (λ bus rest.
    first (number_in 63 rest) (λ short rest.
    first (number_in 255 rest) (λ bank rest.
    first (number_in 255 rest) (λ offset rest.
    first (number_in 255 rest) (λ value rest. at_end rest (Memory bus short bank offset value))))))

-- `device b s`
abbrev pub device_of : List (List ℕ) → Option Statement
device_of words =
    first (bus_in words) (λ bus rest.
    first (number_in 63 rest) (λ short rest. at_end rest (Device bus short)))

-- `instance b s i type scheme value`
abbrev pub instance_of : List (List ℕ) → Option Statement
instance_of words =
    first (bus_in words) (λ bus rest.
    first (number_in 63 rest) (λ short rest.
    first (number_in 31 rest) (λ number rest.
    first (number_in 31 rest) (λ kind rest.
    first (scheme_in rest) (λ scheme rest.
    first (number_in 255 rest) (λ value rest. at_end rest (InputInstance bus short number kind scheme value)))))))

-- `reply b n lost`, `damaged` or `fault`, where n counts from 1
abbrev pub reply_of : List (List ℕ) → Option Statement
reply_of words =
    first (bus_in words) (λ bus rest.
    first (number_in 18446744073709551615 rest) (λ place rest.
    first (fate_in rest) (λ fate rest. if place == 0 then None else at_end rest (Reply bus place fate))))

-- `hearfault b`
abbrev pub hear_fault_of : List (List ℕ) → Option Statement
hear_fault_of words = first (bus_in words) (λ bus rest. at_end rest (HearFault bus))

-- `tick m`
abbrev pub tick_of : List (List ℕ) → Option Statement
tick_of words = first (number_in 18446744073709551615 words) (λ moment rest. at_end rest (Tick moment))

-- `event b HHHHHH`
abbrev pub event_of : List (List ℕ) → Option Statement
event_of words =
    first (bus_in words) (λ bus rest.
    first (frame_in rest) (λ frame rest. at_end rest (Event bus frame)))

-- a moment, in milliseconds
abbrev pub moment_in : List (List ℕ) → Option (ℕ × List (List ℕ))
moment_in words = number_in 18446744073709551615 words

-- `ticks from to every`
abbrev pub ticks_of : List (List ℕ) → Option ScenarioEntry
ticks_of words =
    first (moment_in words) (λ from rest.
    first (moment_in rest) (λ to rest.
    first (moment_in rest) (λ every rest.
    option_and_then (λ row. at_end rest (Ticks row)) (row_of from to every))))

-- what the words after the keyword of one statement say
abbrev pub said_after : List ℕ → List (List ℕ) → Option Statement
said_after keyword words =
    if bytes_eq keyword (codes "gear") then gear_of words
    else if bytes_eq keyword (codes "lampfailure") then lamp_failure_of words
    else if bytes_eq keyword (codes "memory") then memory_of words
    else if bytes_eq keyword (codes "device") then device_of words
    else if bytes_eq keyword (codes "instance") then instance_of words
    else if bytes_eq keyword (codes "reply") then reply_of words
    else if bytes_eq keyword (codes "hearfault") then hear_fault_of words
    else if bytes_eq keyword (codes "tick") then tick_of words
    else if bytes_eq keyword (codes "event") then event_of words
    else None

-- what the words of a line say, where it is a line of a scenario
abbrev pub said : List (List ℕ) → Option ScenarioEntry
said [] = None
said (keyword ∷ words) =
    if bytes_eq keyword (codes "ticks") then ticks_of words else option_map One (said_after keyword words)
