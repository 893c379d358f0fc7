-- Kept values by the names of what they were kept of (profile).
use Rattle.std.specs.Prelude.{ℕ, List, ◌++◌, codes, bytes_eq, find, if◌then◌else◌, Option, Some, None, option_map}
use Rattle.iltypes.specs.declared.value.IlType.{IlType}
use Rattle.iltypes.specs.declared.value.Value.{Value}
use Rattle.iltypes.specs.Slots.{is_of}
use Rattle.ilsource.specs.declared.name.Name.{Name}
use Rattle.ilsource.specs.Names.{text_of}
use Rattle.ilplan.specs.declared.global.Global.{Global as GlobalVariable}
use Rattle.livekeep.specs.KeptFiles.{KeptEntry}

-- ---- names

abbrev pub global_name : List ℕ → GlobalVariable → List ℕ
global_name text g = text_of text g.name

-- `light.seen`: the variable `seen` of the program instance `light`
abbrev pub own_name : List ℕ → Name → Name → List ℕ
own_name text instance name = text_of text instance ++ (codes "." ++ text_of text name)

-- ---- the kept value of a variable

-- the value that was kept under a name
abbrev pub kept_under : List KeptEntry → List ℕ → Option Value
kept_under kept name = option_map (λ entry. entry.value) (find (λ entry. bytes_eq entry.name name) kept)

-- the value, where a variable of the type may have it
abbrev pub fitting : IlType → Option Value → Option Value
fitting type None = None
fitting type (Some value) = if is_of type value then Some value else None

-- the value that was kept under the name, where a variable of the type may have it
abbrev pub kept_value : List KeptEntry → List ℕ → IlType → Option Value
kept_value kept name type = fitting type (kept_under kept name)
