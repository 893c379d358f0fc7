-- When each of the files beside a building is tried (profile).
use Rattle.std.specs.Prelude.{ℕ, Bool, List}
use Rattle.livejournal.specs.declared.files.Files.{Files}
use Rattle.livejournal.specs.Trying.{IsServed}

-- Each file is tried that is due at the moment of the building, or each at all: none is given up.
pub record AreServed (replaced : List ℕ → List ℕ → Type 0) (unwritten : List ℕ → Type 0) (at_once : Bool) (moment : ℕ)
    (old new : Files) : Type 0 where
  pub status : IsServed replaced unwritten at_once moment old.status new.status
  pub keep : IsServed replaced unwritten at_once moment old.keep new.keep
  pub record_page : IsServed replaced unwritten at_once moment old.record new.record
