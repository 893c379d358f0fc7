-- The command line (profile): `check TEXT [BIND] [--code] [--json]`, `explain TEXT [BIND [SCENARIO]] [--json]`,
-- `notes TEXT [BIND] [--deny NOTE] [--json]`, `list TEXT [BIND] [TASK] [--json]`, `code TEXT [BIND] [TASK] OUT`,
-- `step TEXT [BIND] [TASK] [--scans N] [--every MS]`,
-- `play TEXT BIND SCENARIO [--keep FILE] [--limit N] [--names] [--brief] [--expect NAME=VALUE].. [--watch NAME]..`,
-- `look TEXT BIND SCENARIO [--keep FILE] [--text] [--out FILE] [--bus B] [--from MS] [--to MS] [--watch NAME]..`,
-- `run TEXT BIND SCENARIO [--keep FILE] [--limit N] [--workers W]`, in each of which `--bind FILE` may stand in place of
-- BIND,
-- `probe --line PATH [--patience MS] [TEXT BIND] [--bus B] [--record FILE] [--json]`,
-- `listen --line PATH [--patience MS] [--bind FILE] [--bus B] [--record FILE] [--for SECONDS] [--stop PATH]`,
-- `blink --line PATH [--patience MS] ADR`, `ask --line PATH [--patience MS] REQUEST ADR [VALUE] [VALUE2]`,
-- `live TEXT BIND --line B=PATH.. [--period MS] [--for SECONDS] [--stop PATH] [--limit N] [--workers W] [--patience MS]
-- [--end-on-down] [--stay] [--log FILE] [--log-size BYTES] [--record FILE] [--status FILE] [--json] [--keep FILE]`,
-- `frame HEX [HEX2] [HEX3] [HEX4]` and `event BIND B.K INFORMATION`, with the reading of words that `clap` has.
use Rattle.std.specs.Prelude.{◌≡◌, ℕ, ◌<◌, ◌⊎◌, List, [], Option, Some, true, pos, codes, length, IsSome, Result}
use Rattle.std.specs.Prelude.{Ok, Err, option_map}
use Rattle.std.specs.Borrow.{Bor}
use Rattle.clap.specs.Words.{App, HasKind, Row, Rule, Text, fault_of, first_of, kind_of, new_app, new_rule, one_of}
use Rattle.clap.specs.Words.{subcommand_of, with_rule, with_subcommand}
use Rattle.clap.specs.Simple.{on_top}
use Rattle.clap.specs.declared.builder.action.ArgAction.TheVariants.{Append, Set, SetTrue}
use Rattle.clap.specs.declared.builder.value_parser.ValueParser.TheVariants as parsers
use Rattle.clap.specs.declared.error.Error.{Error}
use Rattle.clap.specs.declared.error.kind.ErrorKind.{ErrorKind}
use Rattle.clap.specs.declared.error.kind.ErrorKind.TheVariants.{ArgumentConflict, MissingRequiredArgument}
use Rattle.clap.specs.declared.error.kind.ErrorKind.TheVariants.{ValueValidation}
use Rattle.commandline.specs.ExpectedWords.{AreExpected}
use Rattle.commandline.specs.Invocations.{IsLineName, IsOfCommand, expected_words, line_word, line_words}
use Rattle.commandline.specs.Invocations.{watched_words}
use Rattle.commandline.specs.LineWords.{AreLines, ArePaths}
use Rattle.commandline.specs.TextWords.{AreCodeWords}
use Rattle.commandoptions.specs.declared.expected_word.ExpectedWord.{ExpectedWord}
use Rattle.commandoptions.specs.declared.files.Files.{Files}
use Rattle.commandline.specs.declared.invocations.Invocation.{Invocation}
use Rattle.commandoptions.specs.declared.line_word.LineWord.{LineWord}

-- ---- the words that are taken

-- a word that must be given
abbrev pub wanted : Text → Rule
wanted id = record (new_rule id) { required = true; action = Some Set }

-- a word that may be given
abbrev pub optional : Text → Rule
optional id = record (new_rule id) { action = Some Set }

-- an option with one value
abbrev pub option : Text → Rule
option id = record (new_rule id) { long = Some id; value_names = 1; action = Some Set }

-- an option with one value that must be given
abbrev pub wanted_option : Text → Rule
wanted_option id = record (option id) { required = true }

-- an option with one value that may be given several times
abbrev pub listed_option : Text → Rule
listed_option id = record (option id) { action = Some Append }

-- an option with one value that must be given, once or several times
abbrev pub repeated_option : Text → Rule
repeated_option id = record (wanted_option id) { action = Some Append }

-- an option with no value
abbrev pub flag : Text → Rule
flag id = record (new_rule id) { long = Some id; action = Some SetTrue }

-- a word or an option whose value is a whole number in this range
abbrev pub in_range : ℕ → ℕ → Rule → Rule
in_range least most rule = record rule { parser = Some (parsers.Signed (pos least) (pos most)) }

-- an option with a whole number in this range
abbrev pub number_option : Text → ℕ → ℕ → Rule
number_option id least most = in_range least most (option id)

-- a command of this name on a text, and on the binding that may stand behind it
abbrev pub text_files : Text → App
text_files name = with_rule (with_rule (new_app name) (wanted (codes "TEXT"))) (optional (codes "BIND"))

abbrev pub check_command : App
check_command =
    with_rule (with_rule (with_rule (text_files (codes "check")) (option (codes "bind"))) (flag (codes "code")))
    (flag (codes "json"))

abbrev pub explain_command : App
explain_command =
    with_rule (with_rule (with_rule (text_files (codes "explain")) (optional (codes "SCENARIO")))
    (option (codes "bind")))
    (flag (codes "json"))

abbrev pub notes_command : App
notes_command =
    with_rule (with_rule (with_rule (text_files (codes "notes")) (option (codes "bind"))) (option (codes "deny")))
    (flag (codes "json"))

abbrev pub list_command : App
list_command =
    with_rule (with_rule (with_rule (text_files (codes "list")) (optional (codes "TASK"))) (option (codes "bind")))
    (flag (codes "json"))

abbrev pub code_command : App
code_command =
    with_rule (with_rule (with_rule (text_files (codes "code")) (optional (codes "TASK"))) (optional (codes "OUT")))
    (option (codes "bind"))

abbrev pub step_files : App
step_files =
    with_rule (with_rule (text_files (codes "step")) (optional (codes "TASK"))) (option (codes "bind"))

abbrev pub step_command : App
step_command =
    with_rule (with_rule step_files (number_option (codes "scans") 1 1000000))
    (number_option (codes "every") 0 4294967295)

-- a command of this name on the files of a scenario, and on that of the kept values with which it may begin
abbrev pub scenario_files : Text → App
scenario_files name =
    with_rule (with_rule (with_rule (text_files name) (optional (codes "SCENARIO"))) (option (codes "bind")))
    (option (codes "keep"))

abbrev pub play_command : App
play_command =
    with_rule (with_rule (with_rule (with_rule (with_rule (scenario_files (codes "play"))
    (number_option (codes "limit") 100 1000000))
    (flag (codes "names")))
    (flag (codes "brief")))
    (listed_option (codes "expect")))
    (listed_option (codes "watch"))

abbrev pub run_command : App
run_command =
    with_rule (with_rule (scenario_files (codes "run")) (number_option (codes "limit") 100 1000000))
    (number_option (codes "workers") 1 16)

abbrev pub live_files : App
live_files = with_rule (with_rule (new_app (codes "live")) (wanted (codes "TEXT"))) (wanted (codes "BIND"))

abbrev pub live_time : App
live_time =
    with_rule (with_rule (with_rule (with_rule live_files (repeated_option (codes "line")))
    (number_option (codes "period") 1 60000))
    (number_option (codes "for") 1 4294967))
    (option (codes "stop"))

abbrev pub live_size : App
live_size =
    with_rule (with_rule live_time (number_option (codes "limit") 100 1000000)) (number_option (codes "workers") 1 16)

-- how long a line may be silent
abbrev pub patience_option : Rule
patience_option = number_option (codes "patience") 100 60000

abbrev pub live_downs : App
live_downs =
    with_rule (with_rule (with_rule live_size patience_option) (flag (codes "end-on-down"))) (flag (codes "stay"))

abbrev pub live_log : App
live_log =
    with_rule (with_rule live_downs (option (codes "log"))) (number_option (codes "log-size") 10000 4000000000)

abbrev pub live_command : App
live_command =
    with_rule (with_rule (with_rule (with_rule live_log (option (codes "record"))) (option (codes "status")))
    (flag (codes "json")))
    (option (codes "keep"))

-- a command of this name at one line
abbrev pub at_line : Text → App
at_line name = with_rule (with_rule (new_app name) (wanted_option (codes "line"))) patience_option

abbrev pub probe_files : App
probe_files = with_rule (with_rule (at_line (codes "probe")) (optional (codes "TEXT"))) (optional (codes "BIND"))

abbrev pub probe_command : App
probe_command =
    with_rule (with_rule (with_rule probe_files (number_option (codes "bus") 0 63)) (option (codes "record")))
    (flag (codes "json"))

abbrev pub listen_files : App
listen_files =
    with_rule (with_rule (with_rule (at_line (codes "listen")) (option (codes "bind")))
    (number_option (codes "bus") 0 63))
    (option (codes "record"))

abbrev pub listen_command : App
listen_command =
    with_rule (with_rule listen_files (number_option (codes "for") 1 4294967)) (option (codes "stop"))

abbrev pub blink_command : App
blink_command = with_rule (at_line (codes "blink")) (in_range 0 63 (wanted (codes "ADR")))

abbrev pub ask_command : App
ask_command =
    with_rule (with_rule (with_rule (with_rule (at_line (codes "ask")) (wanted (codes "REQUEST")))
    (in_range 0 80 (wanted (codes "ADR"))))
    (in_range 0 255 (optional (codes "VALUE"))))
    (in_range 0 255 (optional (codes "VALUE2")))

abbrev pub look_picture : App
look_picture = with_rule (with_rule (scenario_files (codes "look")) (flag (codes "text"))) (option (codes "out"))

abbrev pub look_command : App
look_command =
    with_rule (with_rule (with_rule (with_rule look_picture (number_option (codes "bus") 0 63))
    (number_option (codes "from") 0 4294967295))
    (number_option (codes "to") 0 4294967295))
    (listed_option (codes "watch"))

abbrev pub frame_command : App
frame_command =
    with_rule (with_rule (with_rule (with_rule (new_app (codes "frame")) (wanted (codes "HEX")))
    (optional (codes "HEX2")))
    (optional (codes "HEX3")))
    (optional (codes "HEX4"))

abbrev pub event_command : App
event_command =
    with_rule (with_rule (with_rule (new_app (codes "event")) (wanted (codes "BIND"))) (wanted (codes "B.K")))
    (in_range 0 1023 (wanted (codes "INFORMATION")))

-- the program has a version, and of its commands one must be given
abbrev pub program : App
program =
    on_top (λ top. record top { has_version = true; subcommand_required = true }) (new_app (codes "dalictl"))

-- the commands at the desk,
abbrev pub desk_line : App
desk_line =
    with_subcommand (with_subcommand (with_subcommand (with_subcommand (with_subcommand program check_command.top)
    explain_command.top)
    notes_command.top)
    list_command.top)
    code_command.top

-- those that try a text out,
abbrev pub trying_line : App
trying_line =
    with_subcommand (with_subcommand (with_subcommand (with_subcommand desk_line step_command.top)
    play_command.top)
    look_command.top)
    run_command.top

-- those at one line,
abbrev pub tool_line : App
tool_line =
    with_subcommand (with_subcommand (with_subcommand (with_subcommand trying_line probe_command.top)
    listen_command.top)
    blink_command.top)
    ask_command.top

-- and that for a building, and those by hand
abbrev pub command_line : App
command_line =
    with_subcommand (with_subcommand (with_subcommand tool_line live_command.top) frame_command.top) event_command.top

-- ---- what they say

-- the words spell a command, and this holds of its name and of what was found
abbrev pub Spell : (Text → List Row → Type 0) → List Text → Type 0
Spell Holds words =
    (name : Text) × (found : List Row) × (subcommand_of command_line words ≡ Some (name, found)) × Holds name found

-- the words spell the invocation
abbrev pub IsInvocation : List Text → Invocation → Type 0
IsInvocation words invocation = Spell (λ name found. IsOfCommand name found invocation) words

-- ---- how they are taken

-- what was found asks for a binding or for JSON
abbrev pub AsksOfText : List Row → Type 0
AsksOfText found =
    IsSome (first_of (codes "bind") found) ⊎ IsSome (first_of (codes "BIND") found)
    ⊎ (one_of (codes "json") found ≡ Some (codes "true"))

-- what was found under `check` asks for that beside a code file, which has neither
abbrev pub AsksBesideCode : Text → List Row → Type 0
AsksBesideCode name found =
    (name ≡ codes "check") × (one_of (codes "code") found ≡ Some (codes "true")) × AsksOfText found

-- what was found under one of two commands has this word
abbrev pub IsGivenUnder : Text → Text → Text → Text → List Row → Type 0
IsGivenUnder one other id name found = ((name ≡ one) ⊎ (name ≡ other)) × IsSome (first_of id found)

-- what was found has the last of the words that may stand behind the text, of which beside `--bind` there is one less
abbrev pub HasLastWord : Text → List Row → Type 0
HasLastWord name found =
    IsGivenUnder (codes "check") (codes "notes") (codes "BIND") name found
    ⊎ IsGivenUnder (codes "step") (codes "list") (codes "TASK") name found
    ⊎ IsGivenUnder (codes "code") (codes "code") (codes "OUT") name found
    ⊎ IsGivenUnder (codes "look") (codes "explain") (codes "SCENARIO") name found
    ⊎ IsGivenUnder (codes "play") (codes "run") (codes "SCENARIO") name found

-- what was found names the binding by `--bind`, and by a word too
abbrev pub NamesBindingTwice : Text → List Row → Type 0
NamesBindingTwice name found = IsSome (first_of (codes "bind") found) × HasLastWord name found

-- of what was found one thing cannot be used beside another one
abbrev pub IsConflicting : Text → List Row → Type 0
IsConflicting name found = AsksBesideCode name found ⊎ NamesBindingTwice name found

-- what was found under `probe` names a text without its binding
abbrev pub NamesNoBinding : Text → List Row → Type 0
NamesNoBinding name found =
    (name ≡ codes "probe") × IsSome (first_of (codes "TEXT") found) × ¬ IsSome (first_of (codes "BIND") found)

-- what was found has a word behind the text, and the binding by `--bind` or one word more
abbrev pub HasPlayFiles : List Row → Type 0
HasPlayFiles found =
    IsSome (first_of (codes "BIND") found)
    × (IsSome (first_of (codes "bind") found) ⊎ IsSome (first_of (codes "SCENARIO") found))

-- a scenario is asked for under this name
abbrev pub IsPlayName : Text → Type 0
IsPlayName name = (name ≡ codes "play") ⊎ (name ≡ codes "look") ⊎ (name ≡ codes "run")

-- what was found under such a name names no scenario, or no binding
abbrev pub NamesNoScenario : Text → List Row → Type 0
NamesNoScenario name found = IsPlayName name × ¬ HasPlayFiles found

-- what was found under `code` has no word behind the text, so that no code file is named
abbrev pub NamesNoCodeFile : Text → List Row → Type 0
NamesNoCodeFile name found = (name ≡ codes "code") × ¬ IsSome (first_of (codes "BIND") found)

-- what was found asks for JSON without a file for how the building stands,
abbrev pub HasNoStatus : List Row → Type 0
HasNoStatus found =
    (one_of (codes "json") found ≡ Some (codes "true")) × ¬ IsSome (first_of (codes "status") found)

-- or gives the size of a log that has no file
abbrev pub HasNoLog : List Row → Type 0
HasNoLog found = IsSome (first_of (codes "log-size") found) × ¬ IsSome (first_of (codes "log") found)

-- what was found under `live` lacks a file for what is written beside the building
abbrev pub HasNoFileBeside : Text → List Row → Type 0
HasNoFileBeside name found = (name ≡ codes "live") × (HasNoStatus found ⊎ HasNoLog found)

-- what was found lacks a file
abbrev pub IsLacking : Text → List Row → Type 0
IsLacking name found =
    NamesNoBinding name found ⊎ NamesNoScenario name found ⊎ NamesNoCodeFile name found ⊎ HasNoFileBeside name found

-- the path is that of the text, or that of the binding
abbrev pub IsInput : Files → Bor Text → Type 0
IsInput files to = (files.text.now ≡ to.now) ⊎ (option_map (λ path. path.now) files.binding ≡ Some to.now)

-- what was found under `code` names the text or the binding as the code file that is written
abbrev pub NamesInput : List Row → Type 0
NamesInput found =
    (files : Files) × (task : Option (Bor Text)) × (to : Bor Text) × AreCodeWords found files task to × IsInput files to

abbrev pub WritesOverInput : Text → List Row → Type 0
WritesOverInput name found = (name ≡ codes "code") × NamesInput found

-- what was found names no lines: under `live` a word is none, or names a bus or a path that another one names; at one
-- line the word is neither a path nor two
abbrev pub NamesNoLines : Text → List Row → Type 0
NamesNoLines name found =
    ((name ≡ codes "live") × ((lines : List LineWord) → ¬ AreLines (line_words found) lines))
    ⊎ (IsLineName name × ((from : Text) (to : Option Text) → ¬ ArePaths (line_word found) from to))

-- what was found under `play` has a word that says nothing that is expected, or more than 16
abbrev pub IsUnexpected : Text → List Row → Type 0
IsUnexpected name found =
    (name ≡ codes "play") × ((expected : List ExpectedWord) → ¬ AreExpected (expected_words found) expected)

-- what was found under `play` or `look` names more than 16 variables that are watched
abbrev pub WatchesTooMany : Text → List Row → Type 0
WatchesTooMany name found =
    ((name ≡ codes "play") ⊎ (name ≡ codes "look")) × (16 < length (watched_words found))

-- what was found has a value that is not taken
abbrev pub HasWrongValue : Text → List Row → Type 0
HasWrongValue name found =
    WritesOverInput name found ⊎ NamesNoLines name found ⊎ IsUnexpected name found ⊎ WatchesTooMany name found

-- what was found is at fault, and the first fault is of this kind: a thing beside another one, then a file that lacks,
-- then a value
abbrev pub IsAtFault : ErrorKind → Text → List Row → Type 0
IsAtFault kind name found =
    (IsConflicting name found × (kind ≡ ArgumentConflict))
    ⊎ (IsLacking name found × ¬ IsConflicting name found × (kind ≡ MissingRequiredArgument))
    ⊎ (HasWrongValue name found × ¬ IsConflicting name found × ¬ IsLacking name found × (kind ≡ ValueValidation))

-- what `clap` finds at fault comes first; and the allocator may be out of memory
abbrev pub AreTaken : {T : Type 0} → List Text → Result T Error → Type 0
AreTaken words (Ok taken) =
    (fault_of command_line words ≡ []) × ¬ Spell IsConflicting words × ¬ Spell IsLacking words
    × ¬ Spell HasWrongValue words
AreTaken words (Err error) =
    HasKind (fault_of command_line words) error
    ⊎ ((fault_of command_line words ≡ []) × Spell (IsAtFault (kind_of error)) words)
