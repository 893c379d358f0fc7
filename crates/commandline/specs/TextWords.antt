-- The words behind a text: which of them is its binding, and which names a task (profile).
use Rattle.std.specs.Prelude.{◌≡◌, ◌==◌, ◌||◌, Bool, List, [], Option, Some, None, codes, if◌then◌else◌, option_map, unwrap_or}
use Rattle.std.specs.Borrow.{Bor}
use Rattle.std.specs.List.{list_any}
use Rattle.std.specs.Option.{option_or}
use Rattle.clap.specs.Words.{Row, Text, first_of}
use Rattle.commandoptions.specs.declared.files.Files.{Files}

-- the text that was given, or none
abbrev pub given : Option Text → Text
given text = unwrap_or text []

-- a word names a file where it has a `.` (46) or a `/` (47), which no task's name has
abbrev pub names_file : Text → Bool
names_file word = list_any (λ byte. byte == 46) word || list_any (λ byte. byte == 47) word

-- a word that is alone behind a text names the binding where it names a file,
abbrev pub binding_alone : Option Text → Option Text
binding_alone None = None
binding_alone (Some word) = (if names_file word then Some word else None)

-- and else the task
abbrev pub task_alone : Option Text → Option Text
task_alone None = None
task_alone (Some word) = (if names_file word then None else Some word)

-- the binding, by `--bind` and the words behind the text: `--bind` names it, else the first of two words, or a word that
-- is alone
abbrev pub binding_by : Option Text → Option Text → Option Text → Option Text
binding_by (Some binding) first second = Some binding
binding_by None first (Some task) = first
binding_by None first None = binding_alone first

-- the task: beside `--bind` the first word names it, else the second, or a word that is alone
abbrev pub task_by : Option Text → Option Text → Option Text → Option Text
task_by (Some binding) first second = first
task_by None first (Some task) = Some task
task_by None first None = task_alone first

-- the text, and the binding that is named by `--bind` or by the word behind the text
pub record IsBound (found : List Row) (files : Files) : Type 0 where
  pub text : files.text.now ≡ given (first_of (codes "TEXT") found)
  pub binding : option_map (λ path. path.now) files.binding
      ≡ option_or (first_of (codes "bind") found) (first_of (codes "BIND") found)

-- the text, and the binding and the task that these words behind it name
pub record AreNamed (found : List Row) (first second : Option Text) (files : Files) (task : Option (Bor Text))
    : Type 0 where
  pub text : files.text.now ≡ given (first_of (codes "TEXT") found)
  pub binding : option_map (λ path. path.now) files.binding ≡ binding_by (first_of (codes "bind") found) first second
  pub of_task : option_map (λ name. name.now) task ≡ task_by (first_of (codes "bind") found) first second

-- the files and the task that up to two words behind the text name
abbrev pub AreTaskWords : List Row → Files → Option (Bor Text) → Type 0
AreTaskWords found files task =
    AreNamed found (first_of (codes "BIND") found) (first_of (codes "TASK") found) files task

-- of up to three words the last names the code file; those before it name the binding and the task
abbrev pub last_of : Option Text → Option Text → Option Text → Text
last_of first second (Some out) = out
last_of first (Some out) None = out
last_of first None None = given first

abbrev pub first_before : Option Text → Option Text → Option Text → Option Text
first_before first second (Some out) = first
first_before first (Some out) None = first
first_before first None None = None

abbrev pub second_before : Option Text → Option Text → Option Text
second_before second (Some out) = second
second_before second None = None

-- the files and the task of `code`, and the path to which its code file goes
pub record AreCodeWords (found : List Row) (files : Files) (task : Option (Bor Text)) (to : Bor Text) : Type 0 where
  pub named : AreNamed found
      (first_before (first_of (codes "BIND") found) (first_of (codes "TASK") found) (first_of (codes "OUT") found))
      (second_before (first_of (codes "TASK") found) (first_of (codes "OUT") found))
      files task
  pub out : to.now
      ≡ last_of (first_of (codes "BIND") found) (first_of (codes "TASK") found) (first_of (codes "OUT") found)

-- the scenario behind a binding: beside `--bind` the first word behind the text, else the second
abbrev pub scenario_by : Option Text → Option Text → Option Text → Option Text
scenario_by (Some binding) first second = first
scenario_by None first second = second
