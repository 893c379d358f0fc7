-- Which statement may stand after which (profile): a gear, a device or an instance is declared before it is named, and
-- once; what is on the buses stands before the first tick or event, and ticks do not fall.
use Rattle.std.specs.Prelude.{◌≡◌, ℕ, ◌+◌, ◌/◌, ◌≤◌, ◌==◌, Bool, true, false, ◌&&◌, List, [], ◌∷◌, ◌++◌, length}
use Rattle.std.specs.Prelude.{Option, Some, None, IfSome, unwrap_or, ⊤}
use Rattle.std.specs.List.{list_any, fold}
use Rattle.limits.specs.Limits.{most_bytes}
use Rattle.wordlines.specs.Entries.{statements_of}
use Rattle.wordlines.specs.TickRows.{further}
use Rattle.wordlines.specs.declared.entries.ScenarioEntry.{ScenarioEntry}
use Rattle.wordlines.specs.declared.entries.ScenarioEntry.TheVariants.{One, Ticks}
use Rattle.wordlines.specs.declared.statements.Statement.{Statement}
use Rattle.wordlines.specs.declared.statements.Statement.TheVariants.{Gear, LampFailure, Memory, Device}
use Rattle.wordlines.specs.declared.statements.Statement.TheVariants.{InputInstance, Reply, HearFault, Tick, Event}

abbrev pub is_gear_at : ℕ → ℕ → Statement → Bool
is_gear_at bus short (Gear on at start) = (on == bus) && (at == short)
is_gear_at bus short _ = false

abbrev pub is_device_at : ℕ → ℕ → Statement → Bool
is_device_at bus short (Device on at) = (on == bus) && (at == short)
is_device_at bus short _ = false

abbrev pub is_instance_at : ℕ → ℕ → ℕ → Statement → Bool
is_instance_at bus short number (InputInstance on at its kind scheme value) =
    ((on == bus) && (at == short)) && (its == number)
is_instance_at bus short number _ = false

abbrev pub is_reply_to : ℕ → ℕ → Statement → Bool
is_reply_to bus place (Reply on at fate) = (on == bus) && (at == place)
is_reply_to bus place _ = false

-- what the statement names is declared before it, and what it declares is not
abbrev pub IsKnown : List Statement → Statement → Type 0
IsKnown before (Gear bus short start) = list_any (is_gear_at bus short) before ≡ false
IsKnown before (LampFailure bus short) = list_any (is_gear_at bus short) before ≡ true
IsKnown before (Memory bus short bank offset value) = list_any (is_gear_at bus short) before ≡ true
IsKnown before (Device bus short) = list_any (is_device_at bus short) before ≡ false
IsKnown before (InputInstance bus short number kind scheme value) =
    (list_any (is_device_at bus short) before ≡ true) × (list_any (is_instance_at bus short number) before ≡ false)
IsKnown before (Reply bus place fate) = list_any (is_reply_to bus place) before ≡ false
IsKnown before _ = ⊤

-- the clock stands at the last tick; before the first one it stands at 0 from the first event on, and before that
-- nowhere
abbrev pub clock_after : Option ℕ → Statement → Option ℕ
clock_after now (Tick moment) = Some moment
clock_after now (Event bus frame) = Some (unwrap_or now 0)
clock_after now _ = now

abbrev pub clock : List Statement → Option ℕ
clock statements = fold clock_after None statements

-- a tick is not before the clock, events and faults of hearing stand anywhere, and all else where the clock stands
-- nowhere
abbrev pub IsInTime : Option ℕ → Statement → Type 0
IsInTime now (Tick moment) = IfSome now (λ last. last ≤ moment)
IsInTime now (Event bus frame) = ⊤
IsInTime now (HearFault bus) = ⊤
IsInTime now _ = now ≡ None

-- the statement may stand after these
pub record Follows (before : List Statement) (statement : Statement) : Type 0 where
  pub known : IsKnown before statement
  pub in_time : IsInTime (clock before) statement

-- each statement may stand after those before it
abbrev pub FollowOneAnother : List Statement → List Statement → Type 0
FollowOneAnother before [] = ⊤
FollowOneAnother before (statement ∷ more) = Follows before statement × FollowOneAnother (before ++ statement ∷ []) more

-- as many statements as a file can have lines `tick 0`, of seven bytes with the line feed that the last one needs not
abbrev pub most_statements : ℕ
most_statements = (most_bytes + 1) / 7

-- behind these statements is room for the ticks of a row; a line of one statement always has it
abbrev pub HasRoom : List Statement → ScenarioEntry → Type 0
HasRoom before (One statement) = ⊤
HasRoom before (Ticks row) = length before + (further row + 1) ≤ most_statements

-- what a line stands for may stand after these statements
pub record MayStand (before : List Statement) (entry : ScenarioEntry) : Type 0 where
  pub order : FollowOneAnother before (statements_of entry)
  pub room : HasRoom before entry
