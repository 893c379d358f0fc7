-- What the user asks for, by the name of a command and by what was found under it (profile).
use Rattle.std.specs.Prelude.{◌≡◌, ℕ, ◌^◌, ◌<◌, ◌⊎◌, List, [], ◌∷◌, Bool, Option, Some, None, IsSome, true, false}
use Rattle.std.specs.Prelude.{codes, map, option_map, unwrap_or}
use Rattle.std.specs.Borrow.{Bor}
use Rattle.std.specs.Str.Parse.{IsNumeral, digits_value, without_leading_plus}
use Rattle.clap.specs.Words.{Row, Text, all_of, first_of, one_of}
use Rattle.commandline.specs.ExpectedWords.{AreExpected, IsFirstUnexpected}
use Rattle.commandline.specs.LineWords.{AreLines, ArePaths, IsFirstFault, IsNoPath}
use Rattle.commandline.specs.TextWords.{AreCodeWords, AreTaskWords, IsBound, given, scenario_by}
use Rattle.commandline.specs.WatchedNames.{AreWatched, IsSeventeenth}
use Rattle.commandoptions.specs.declared.files.Files.{Files}
use Rattle.commandoptions.specs.declared.files.LiveFiles.{LiveFiles}
use Rattle.commandoptions.specs.declared.files.PlayFiles.{PlayFiles}
use Rattle.commandoptions.specs.declared.inquiry.Inquiry.{Inquiry}
use Rattle.commandoptions.specs.declared.inquiry.Inquiry.TheVariants.{Check, Step}
use Rattle.commandoptions.specs.declared.beside.Beside.{Beside}
use Rattle.commandline.specs.declared.invocations.GivenFrames.{GivenFrames}
use Rattle.commandline.specs.declared.invocations.Invocation.{Invocation}
use Rattle.commandline.specs.declared.invocations.Invocation.TheVariants as invocations
use Rattle.commandline.specs.declared.invocations.Invocation.TheVariants.{Ask, CheckCode, Code, EventLine, Frame, Live}
use Rattle.commandline.specs.declared.invocations.Invocation.TheVariants.{Look, Play, Run, Tell}
use Rattle.commandoptions.specs.declared.live_options.LiveOptions.{LiveOptions}
use Rattle.commandline.specs.declared.invocations.LookOptions.{LookOptions}
use Rattle.commandline.specs.declared.invocations.PlayShows.{PlayShows}
use Rattle.commandoptions.specs.declared.live_options.RunSize.{RunSize}
use Rattle.commandoptions.specs.declared.expected_word.ExpectedWord.{ExpectedWord}
use Rattle.commandoptions.specs.declared.line_word.LineWord.{LineWord}
use Rattle.commandline.specs.declared.line_words.LineWordFault.{LineWordFault}
use Rattle.commandline.specs.declared.questions.Question.{Question}
use Rattle.commandline.specs.declared.questions.Question.TheVariants.{Faults, Notes, Sizes, Words}
use Rattle.commandline.specs.declared.tools.GivenListenEnd.{GivenListenEnd}
use Rattle.commandline.specs.declared.tools.GivenRequest.{GivenRequest}
use Rattle.commandline.specs.declared.tools.Tool.{Tool}
use Rattle.commandline.specs.declared.tools.Tool.TheVariants.{Blink, Listen, Probe, Request}
use Rattle.commandline.specs.declared.word_fault.WordFault.{WordFault}
use Rattle.commandline.specs.declared.word_fault.WordFault.TheVariants.{Expected, Line, Watched}

-- the path that was given, where one was
abbrev pub IsGivenPath : Option Text → Option (Bor Text) → Type 0
IsGivenPath text path = option_map (λ p. p.now) path ≡ text

-- digits, or a plus and digits, write the number, where it has at most so many bits
abbrev pub IsWritten : ℕ → List ℕ → ℕ → Type 0
IsWritten bits digits number =
    IsNumeral 10 digits → digits_value 10 digits < 2 ^ bits → number ≡ digits_value 10 digits

-- the number that was given, or without one the default
abbrev pub IsNumber : ℕ → Option Text → ℕ → Type 0
IsNumber default None number = number ≡ default
IsNumber default (Some text) number = IsWritten 32 (without_leading_plus text) number

-- the byte that was given, or without one 0
abbrev pub IsByte : Option Text → ℕ → Type 0
IsByte None number = number ≡ 0
IsByte (Some text) number = IsWritten 8 (without_leading_plus text) number

-- the number that was given, where one was
abbrev pub IsGivenNumber : Option Text → Option ℕ → Type 0
IsGivenNumber None number = number ≡ None
IsGivenNumber (Some text) number =
    let digits = without_leading_plus text in
    IsNumeral 10 digits → digits_value 10 digits < 2 ^ 32 → number ≡ Some (digits_value 10 digits)

-- whether the flag was given; the row of a flag has one of these two texts
abbrev pub IsFlag : Option Text → Bool → Type 0
IsFlag None is = is ≡ false
IsFlag (Some text) is = ((text ≡ codes "true") → is ≡ true) × ((text ≡ codes "false") → is ≡ false)

-- the scans that are asked for: one, and 100 milliseconds from scan to scan, where nothing else is said
pub record AreScans (found : List Row) (scans every : ℕ) : Type 0 where
  pub many : IsNumber 1 (one_of (codes "scans") found) scans
  pub apart : IsNumber 100 (one_of (codes "every") found) every

-- what was found under a command's name is the inquiry
abbrev pub IsOfInquiry : Text → List Row → Inquiry → Type 0
IsOfInquiry name found (Check files) =
    (name ≡ codes "check") × IsFlag (one_of (codes "code") found) false × IsFlag (one_of (codes "json") found) false
    × IsBound found files
IsOfInquiry name found (Step files task scans every) =
    ¬ (name ≡ codes "check") × AreTaskWords found files task × AreScans found scans every

-- what was found under a command's name is the question about these files
abbrev pub IsQuestion : Text → List Row → Files → Question → Type 0
IsQuestion name found files (Notes denied is_json) =
    (name ≡ codes "notes") × IsBound found files
    × (option_map (λ note. note.now) denied ≡ first_of (codes "deny") found)
    × IsFlag (one_of (codes "json") found) is_json
IsQuestion name found files (Words task is_json) =
    (name ≡ codes "list") × AreTaskWords found files task × IsFlag (one_of (codes "json") found) is_json
IsQuestion name found files (Faults scenario is_json) =
    (name ≡ codes "explain") × IsBound found files
    × (option_map (λ path. path.now) scenario
    ≡ scenario_by (first_of (codes "bind") found) (first_of (codes "BIND") found) (first_of (codes "SCENARIO") found))
    × IsFlag (one_of (codes "json") found) is_json
IsQuestion name found files Sizes =
    (name ≡ codes "check") × IsFlag (one_of (codes "code") found) false × IsFlag (one_of (codes "json") found) true
    × IsBound found files

-- no question is asked under this name
abbrev pub IsNoQuestion : Text → Type 0
IsNoQuestion name = ¬ (name ≡ codes "notes") × ¬ (name ≡ codes "list") × ¬ (name ≡ codes "explain")

-- the binding and the scenario behind a text: where `--bind` names the binding, the second word is the scenario; else
-- the second word is the binding, and the third the scenario
abbrev pub AreBehindText : Option Text → List Row → PlayFiles → Type 0
AreBehindText (Some binding) found files =
    (files.binding.now ≡ binding) × (files.scenario.now ≡ given (first_of (codes "BIND") found))
AreBehindText None found files =
    (files.binding.now ≡ given (first_of (codes "BIND") found))
    × (files.scenario.now ≡ given (first_of (codes "SCENARIO") found))

-- the files that are named for a scenario that is played, run or looked at, with that of kept values, where one is given
pub record ArePlayFiles (found : List Row) (files : PlayFiles) : Type 0 where
  pub text : files.text.now ≡ given (first_of (codes "TEXT") found)
  pub others : AreBehindText (first_of (codes "bind") found) found files
  pub keep : IsGivenPath (first_of (codes "keep") found) files.keep

-- the words for what is expected at a play's end
abbrev pub expected_words : List Row → List Text
expected_words found = unwrap_or (all_of (codes "expect") found) []

-- the words that name the variables that are watched
abbrev pub watched_words : List Row → List Text
watched_words found = unwrap_or (all_of (codes "watch") found) []

-- what a play shows beside what happens: whether frames are in words too, whether quiet moments are left out, what is
-- expected at its end, and the variables whose changes are shown
pub record AreShows (found : List Row) (shows : PlayShows) : Type 0 where
  pub names : IsFlag (one_of (codes "names") found) shows.names
  pub is_brief : IsFlag (one_of (codes "brief") found) shows.is_brief
  pub expects : AreExpected (expected_words found) shows.expects.items
  pub watches : AreWatched (watched_words found) shows.watches.items

-- what of a scenario a picture shows, and where it goes: whether it is lines for a terminal, the path that it goes to,
-- its bus, and the milliseconds at which it begins and ends, where they are given
pub record AreLookOptions (found : List Row) (options : LookOptions) : Type 0 where
  pub is_text : IsFlag (one_of (codes "text") found) options.is_text
  pub to : IsGivenPath (first_of (codes "out") found) options.to
  pub bus : IsGivenNumber (one_of (codes "bus") found) options.bus
  pub begins : IsGivenNumber (one_of (codes "from") found) options.from
  pub ends : IsGivenNumber (one_of (codes "to") found) options.until

-- how large a run may become: 100,000 events at most, and two scan workers, where nothing else is said
pub record IsRunSize (found : List Row) (size : RunSize) : Type 0 where
  pub limit : IsNumber 100000 (one_of (codes "limit") found) size.limit
  pub workers : IsNumber 2 (one_of (codes "workers") found) size.workers

-- the files that are named for a building
pub record AreLiveFiles (found : List Row) (files : LiveFiles) : Type 0 where
  pub text : files.text.now ≡ given (first_of (codes "TEXT") found)
  pub binding : files.binding.now ≡ given (first_of (codes "BIND") found)

-- what is written beside a building: the paths that are given, a log of which a file is full after 16,000,000 bytes
-- where nothing else is said, and whether how it stands is written as JSON
pub record IsBeside (found : List Row) (beside : Beside) : Type 0 where
  pub log : IsGivenPath (first_of (codes "log") found) beside.log
  pub log_size : IsNumber 16000000 (one_of (codes "log-size") found) beside.log_size
  pub scenario : IsGivenPath (first_of (codes "record") found) beside.«record»
  pub status : IsGivenPath (first_of (codes "status") found) beside.status
  pub is_json : IsFlag (one_of (codes "json") found) beside.is_json
  pub keep : IsGivenPath (first_of (codes "keep") found) beside.keep

-- the milliseconds that all answers of a transaction may take, and 1,000 where nothing else is said
abbrev pub IsPatience : List Row → ℕ → Type 0
IsPatience found patience = IsNumber 1000 (one_of (codes "patience") found) patience

-- how a building is run: the period, the seconds and the path of the file that ends it, where they are given; how large
-- a run may become; whether it ends where a bus has gone down; how long the answers of a transaction may take; and what is
-- written beside it
pub record AreLiveOptions (found : List Row) (options : LiveOptions) : Type 0 where
  pub period : IsGivenNumber (one_of (codes "period") found) options.period
  pub seconds : IsGivenNumber (one_of (codes "for") found) options.seconds
  pub stop : IsGivenPath (first_of (codes "stop") found) options.stop
  pub size : IsRunSize found options.size
  pub ends_on_down : IsFlag (one_of (codes "end-on-down") found) options.ends_on_down
  pub patience : IsPatience found options.patience
  pub beside : IsBeside found options.beside

-- the words for the lines of buses
abbrev pub line_words : List Row → List Text
line_words found = unwrap_or (all_of (codes "line") found) []

-- a command at one line has this name
abbrev pub IsLineName : Text → Type 0
IsLineName name =
    (name ≡ codes "probe") ⊎ (name ≡ codes "listen") ⊎ (name ≡ codes "blink") ⊎ (name ≡ codes "ask")

-- the word for the line of a command at one line
abbrev pub line_word : List Row → Text
line_word found = given (first_of (codes "line") found)

-- the line that is named, of bus 0 where nothing else is said
pub record IsLine (found : List Row) (line : LineWord) : Type 0 where
  pub bus : IsByte (one_of (codes "bus") found) line.bus
  pub paths : ArePaths (line_word found) line.from.now (option_map (λ path. path.now) line.to)

-- the files that a line is compared with: a text and a binding, where both are given
abbrev pub AreAgainst : List Row → Option LiveFiles → Type 0
AreAgainst found None = ¬ (IsSome (first_of (codes "TEXT") found) × IsSome (first_of (codes "BIND") found))
AreAgainst found (Some files) =
    (first_of (codes "TEXT") found ≡ Some files.text.now) × (first_of (codes "BIND") found ≡ Some files.binding.now)

-- how a line is probed: what it is compared with, the path of the scenario, where it is given, and whether as JSON
pub record IsProbing (found : List Row) (against : Option LiveFiles) (scenario : Option (Bor Text))
    (is_json : Bool) : Type 0 where
  pub compared : AreAgainst found against
  pub recorded : IsGivenPath (first_of (codes "record") found) scenario
  pub formed : IsFlag (one_of (codes "json") found) is_json

-- when listening ends: the seconds and the path of the file that ends it, where they are given
pub record IsListenEnd (found : List Row) (end : GivenListenEnd) : Type 0 where
  pub seconds : IsGivenNumber (one_of (codes "for") found) end.seconds
  pub stop : IsGivenPath (first_of (codes "stop") found) end.stop

-- how a line is listened to: the path of the binding and that of the scenario, where they are given, and the end
pub record IsListening (found : List Row) (binding scenario : Option (Bor Text)) (end : GivenListenEnd) : Type 0 where
  pub bound : IsGivenPath (first_of (codes "bind") found) binding
  pub recorded : IsGivenPath (first_of (codes "record") found) scenario
  pub ends : IsListenEnd found end

-- the request that is asked for: its name, an address, and the values that are given
pub record AreRequestWords (found : List Row) (words : GivenRequest) : Type 0 where
  pub request : words.request.now ≡ given (first_of (codes "REQUEST") found)
  pub address : IsByte (one_of (codes "ADR") found) words.address
  pub value : IsGivenNumber (one_of (codes "VALUE") found) words.value
  pub second : IsGivenNumber (one_of (codes "VALUE2") found) words.second_value

-- the words for frames, one that is always given and up to three more
pub record AreFrameWords (found : List Row) (words : GivenFrames) : Type 0 where
  pub first : words.first.now ≡ given (first_of (codes "HEX") found)
  pub others : map (option_map (λ word. word.now)) words.others
      ≡ first_of (codes "HEX2") found ∷ first_of (codes "HEX3") found ∷ first_of (codes "HEX4") found ∷ []

-- the event whose line is asked for: its source under the binding, and its information
pub record IsEventWords (found : List Row) (binding source : Bor Text) (information : ℕ) : Type 0 where
  pub bound : binding.now ≡ given (first_of (codes "BIND") found)
  pub of_source : source.now ≡ given (first_of (codes "B.K") found)
  pub informs : IsNumber 0 (one_of (codes "INFORMATION") found) information

-- no building, no line, no scenario, no code, no frame and no event is asked for under this name
abbrev pub IsTextName : Text → Type 0
IsTextName name =
    ¬ (name ≡ codes "live") × ¬ IsLineName name × ¬ (name ≡ codes "play") × ¬ (name ≡ codes "run")
    × ¬ (name ≡ codes "look") × ¬ (name ≡ codes "code") × ¬ (name ≡ codes "frame") × ¬ (name ≡ codes "event")

-- and no question
abbrev pub IsInquiryName : Text → Type 0
IsInquiryName name = IsTextName name × IsNoQuestion name

-- what was found under a command's name is what is done at one line
abbrev pub IsOfTool : Text → List Row → Tool → Type 0
IsOfTool name found (Probe line patience against scenario is_json) =
    (name ≡ codes "probe") × IsLine found line × IsPatience found patience × IsProbing found against scenario is_json
IsOfTool name found (Listen line patience binding scenario end) =
    (name ≡ codes "listen") × IsLine found line × IsPatience found patience × IsListening found binding scenario end
IsOfTool name found (Blink line patience address) =
    (name ≡ codes "blink") × IsLine found line × IsPatience found patience
    × IsByte (one_of (codes "ADR") found) address
IsOfTool name found (Request line patience words) =
    (name ≡ codes "ask") × IsLine found line × IsPatience found patience × AreRequestWords found words

-- what was found under a command's name is the invocation; a played history has 100,000 events at most where nothing
-- else is said
abbrev pub IsOfCommand : Text → List Row → Invocation → Type 0
IsOfCommand name found (Play files limit shows) =
    (name ≡ codes "play") × ArePlayFiles found files × IsNumber 100000 (one_of (codes "limit") found) limit
    × AreShows found shows
IsOfCommand name found (Run files size) = (name ≡ codes "run") × ArePlayFiles found files × IsRunSize found size
IsOfCommand name found (Live files lines options) =
    (name ≡ codes "live") × AreLiveFiles found files × AreLines (line_words found) lines.items
    × AreLiveOptions found options
IsOfCommand name found (invocations.Tool tool) = IsOfTool name found tool
IsOfCommand name found (Look files options watches) =
    (name ≡ codes "look") × ArePlayFiles found files × AreLookOptions found options
    × AreWatched (watched_words found) watches.items
IsOfCommand name found (Code files task to) = (name ≡ codes "code") × AreCodeWords found files task to
IsOfCommand name found (CheckCode path) =
    (name ≡ codes "check") × IsFlag (one_of (codes "code") found) true
    × (path.now ≡ given (first_of (codes "TEXT") found))
IsOfCommand name found (Frame words) = (name ≡ codes "frame") × AreFrameWords found words
IsOfCommand name found (EventLine binding source information) =
    (name ≡ codes "event") × IsEventWords found binding source information
IsOfCommand name found (Ask inquiry) = IsInquiryName name × IsOfInquiry name found inquiry
IsOfCommand name found (Tell files question) = IsTextName name × IsQuestion name found files question

-- what was found under the name of a command at one line has a word for the line that is at fault
abbrev pub IsOfLineFault : Text → List Row → LineWordFault → Type 0
IsOfLineFault name found fault = IsLineName name × IsNoPath (line_word found) fault

-- what was found under a command's name names what is watched: it is `look`, or it is `play` and no word for what is
-- expected is at fault
abbrev pub IsWatching : Text → List Row → Type 0
IsWatching name found =
    (name ≡ codes "look")
    ⊎ ((name ≡ codes "play") × ((expected : List ExpectedWord) × AreExpected (expected_words found) expected))

-- what was found under a command's name has a word at fault: under `live` the first among those for the lines of buses,
-- at one line that for it, under `play` the first among those for what is expected, and under `look`, or under `play`
-- where these are not at fault, the seventeenth that names what is watched
abbrev pub IsOfFault : Text → List Row → WordFault → Type 0
IsOfFault name found (Line fault) =
    ((name ≡ codes "live") × IsFirstFault (line_words found) fault) ⊎ IsOfLineFault name found fault
IsOfFault name found (Expected fault) =
    (name ≡ codes "play") × IsFirstUnexpected (expected_words found) fault
IsOfFault name found (Watched fault) = IsWatching name found × IsSeventeenth (watched_words found) fault
