-- What statements declare, by which the statements after them are judged: only private functions speak of it.
use Rattle.std.specs.Prelude.{◌≡◌, Bool, List, Option, Some, None}
use Rattle.std.specs.List.{list_any}
use Rattle.wordlines.specs.Following.{is_gear_at, is_device_at, is_instance_at, is_reply_to}
use Rattle.wordlines.specs.declared.known.Declaration.{Declaration}
use Rattle.wordlines.specs.declared.known.Declaration.TheVariants.{Gear, Device, Instance, Reply}
use Rattle.wordlines.specs.declared.statements.Statement.{Statement}
use Rattle.wordlines.specs.declared.statements.Statement.TheVariants as statement

abbrev pub declared_by : Statement → Option Declaration
declared_by (statement.Gear bus short start) = Some (Gear bus short)
declared_by (statement.Device bus short) = Some (Device bus short)
declared_by (statement.InputInstance bus short number kind scheme value) = Some (Instance bus short number)
declared_by (statement.Reply bus place fate) = Some (Reply bus place)
declared_by _ = None

-- whether a statement makes a declaration
abbrev pub declares : Declaration → Statement → Bool
declares (Gear bus short) = is_gear_at bus short
declares (Device bus short) = is_device_at bus short
declares (Instance bus short number) = is_instance_at bus short number
declares (Reply bus place) = is_reply_to bus place

-- the declarations that are known are those that statements make
abbrev pub AreDeclared : (Declaration → Bool) → List Statement → Type 0
AreDeclared is_known statements =
    (declaration : Declaration) → is_known declaration ≡ list_any (declares declaration) statements
