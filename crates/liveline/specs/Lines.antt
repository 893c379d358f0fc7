-- What is said on the line of a bus interface, versions 1 to 3 (profile): a greeting, and then requests, each with one
-- line that answers it. In version 3 what comes on the bus is said as soon as it comes, also before that line. Each line
-- ends with a line feed. Numbers are decimal. A 16-bit frame has four hexadecimal digits, a 24-bit frame six.
use Rattle.std.specs.Prelude.{◌≡◌, ℕ, List, [], ◌∷◌, ◌++◌, Option, Some, None, codes, flat_map, map}
use Rattle.std.specs.Fmt.{decimal}
use Rattle.daliframe.specs.declared.forward.Frame.{Frame}
use Rattle.daliframe.specs.Printed.{printed}
use Rattle.buslink.specs.declared.marks.Reply.{Reply}
use Rattle.buslink.specs.declared.marks.Reply.TheVariants.{Quiet, Answer, Damaged, Lost}
use Rattle.wordlines.specs.WordLines.{hex_number, number_upto}

-- a line feed (10)
abbrev pub line_end : List ℕ
line_end = 10 ∷ []

-- ---- the greeting

-- The controller greets in a version by a number that no earlier greeting had: `gushewa 3 1764351660000`.
abbrev pub numbered_greeting : ℕ → ℕ → List ℕ
numbered_greeting version number = codes "gushewa " ++ decimal version ++ codes " " ++ decimal number

-- The interface answers with this number, so that an echo of the greeting is no answer: `gushewa 3 hears 1764351660000`.
abbrev pub numbered_answer : ℕ → ℕ → List ℕ
numbered_answer version number = codes "gushewa " ++ decimal version ++ codes " hears " ++ decimal number

-- an interface that does not know a request answers so
abbrev pub fault_line : List ℕ
fault_line = codes "fault"

-- version 1, in which both ends say this
abbrev pub greeting : List ℕ
greeting = codes "gushewa 1"

-- ---- what is asked

-- send this frame with this priority: `send 2 0A80`
abbrev pub send_line : Frame → ℕ → List ℕ
send_line frame priority = codes "send " ++ decimal priority ++ codes " " ++ printed frame

-- say what has come; in version 3: say what is not said yet
abbrev pub hear_line : List ℕ
hear_line = codes "hear"

-- ---- what is answered

-- the line says that this became of the frame: `quiet`, `answer 128`, `damaged` or `lost`
abbrev pub IsReply : Reply → List ℕ → Type 0
IsReply Quiet line = line ≡ codes "quiet"
IsReply (Answer byte) line =
    (digits : List ℕ) × (line ≡ codes "answer " ++ digits) × (number_upto 255 digits ≡ Some byte)
IsReply Damaged line = line ≡ codes "damaged"
IsReply Lost line = line ≡ codes "lost"

-- the line says that nothing has come, or nothing more: `none`
abbrev pub none_line : List ℕ
none_line = codes "none"

-- the line says that nothing has come, `none`, or this 24-bit frame, `event 0A8809`
abbrev pub IsMessage : Option ℕ → List ℕ → Type 0
IsMessage None line = line ≡ none_line
IsMessage (Some frame) line =
    (digits : List ℕ) × (line ≡ codes "event " ++ digits) × (hex_number digits ≡ Some frame)

-- ---- what is said unasked, in version 3

-- this frame came, and this line says so
pub record Event : Type 0 where
  pub frame : ℕ
  pub line : List ℕ
  pub says : IsMessage (Some frame) line

-- these lines, each with its end
abbrev pub ended : List (List ℕ) → List ℕ
ended lines = flat_map (λ line. line ++ line_end) lines

-- these frames, first to last
abbrev pub frames_of : List Event → List ℕ
frames_of events = map (λ event. event.frame) events

-- the bytes that say these events, first to last
abbrev pub said_by : List Event → List ℕ
said_by events = ended (map (λ event. event.line) events)
