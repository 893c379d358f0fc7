-- When the files beside a building are tried, and that one that could not be written is tried again (profile).
use Rattle.std.specs.Prelude.{◌≡◌, ℕ, ◌/◌, ◌⊎◌, ⊤, Bool, true, false, ◌&&◌, List}
use Rattle.std.specs.Prelude.{Option, Some, None, IsSomeAnd, is_some, is_none, option_map}
use Rattle.livejournal.specs.declared.page.Pace.{Pace}
use Rattle.livejournal.specs.declared.page.Pace.TheVariants.{EachSecond, EachTenSeconds, EachMinute}
use Rattle.livejournal.specs.declared.page.Page.{Page}
use Rattle.livejournal.specs.declared.page.Turn.{Turn}
use Rattle.livejournal.specs.declared.page.Turn.TheVariants.{Same, Fails, Mended}

-- the milliseconds of one period of a file
abbrev pub period_of : Pace → ℕ
period_of EachSecond = 1000
period_of EachTenSeconds = 10000
period_of EachMinute = 60000

-- A file is due at a moment in whose period it was not tried yet. Moments are those of ticks, which never fall, and no
-- dates.
abbrev pub IsDue : ℕ → Page → Type 0
IsDue moment page = ¬ (page.tried ≡ Some (moment / period_of page.pace))

-- At the end each file is wanted, and before that one that is due.
abbrev pub IsWanted : Bool → ℕ → Page → Type 0
IsWanted at_once moment page = (at_once ≡ true) ⊎ IsDue moment page

-- what a file has, where the last try wrote it
abbrev pub bytes_in : Page → Option (List ℕ)
bytes_in page = option_map (λ bytes. bytes.items) page.has

-- What a try for these bytes comes to, where there is memory for them: the file has them, since it had them before or
-- took them now; or it is not written, and nothing is known of what it has.
abbrev pub CameTo : (List ℕ → List ℕ → Type 0) → (List ℕ → Type 0) → Page → Option (List ℕ) → Option (List ℕ)
    → Type 0
CameTo replaced unwritten page (Some wanted) (Some has) =
    (has ≡ wanted) × ((bytes_in page ≡ Some wanted) ⊎ replaced page.path.now wanted)
CameTo replaced unwritten page (Some wanted) None = unwritten page.path.now
CameTo replaced unwritten page None (Some has) = ⊥
CameTo replaced unwritten page None None = ⊤

-- a file is tried at a moment, for these bytes
pub record IsTried (replaced : List ℕ → List ℕ → Type 0) (unwritten : List ℕ → Type 0) (moment : ℕ)
    (bytes : Option (List ℕ)) (old new : Page) : Type 0 where
  pub tried : new.tried ≡ Some (moment / period_of old.pace)
  pub came_to : CameTo replaced unwritten old bytes (bytes_in new)
  pub path : new.path ≡ old.path
  pub pace : new.pace ≡ old.pace
  pub care : new.care ≡ old.care

-- so is the file that there may be: none is given up, and none begins
abbrev pub AreTried : (List ℕ → List ℕ → Type 0) → (List ℕ → Type 0) → ℕ → Option (List ℕ) → Option Page → Option Page
    → Type 0
AreTried replaced unwritten moment bytes None None = ⊤
AreTried replaced unwritten moment bytes None (Some new) = ⊥
AreTried replaced unwritten moment bytes (Some old) None = ⊥
AreTried replaced unwritten moment bytes (Some old) (Some new) = IsTried replaced unwritten moment bytes old new

-- The file that there may be is tried; or none that is wanted is there, and all stays as it was.
abbrev pub IsServed : (List ℕ → List ℕ → Type 0) → (List ℕ → Type 0) → Bool → ℕ → Option Page → Option Page → Type 0
IsServed replaced unwritten at_once moment old new =
    ((bytes : Option (List ℕ)) × AreTried replaced unwritten moment bytes old new)
    ⊎ ((new ≡ old) × ¬ (IsSomeAnd old (IsWanted at_once moment)))

-- A file fails that was tried, and was not written by the last try.
abbrev pub is_failing : Page → Bool
is_failing page = is_some page.tried && is_none page.has

-- what is told of a file: that it begins to fail, or that it is mended
abbrev pub turn_between : Bool → Bool → Turn
turn_between false true = Fails
turn_between true false = Mended
turn_between false false = Same
turn_between true true = Same
