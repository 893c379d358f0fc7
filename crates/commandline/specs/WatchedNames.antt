-- The words that name the variables that are watched (profile).
use Rattle.std.specs.Prelude.{◌≡◌, ◌≤◌, List, ◌∷◌, ◌++◌, length, map}
use Rattle.std.specs.Borrow.{Bor}
use Rattle.clap.specs.Words.{Text}
use Rattle.commandline.specs.declared.watched_names.WatchedFault.{WatchedFault}

-- the words are the names, one after another, and there are at most 16
pub record AreWatched (words : List Text) (watched : List (Bor Text)) : Type 0 where
  pub same : map (λ name. name.now) watched ≡ words
  pub few : length words ≤ 16

-- the fault is that of the seventeenth word
pub record IsSeventeenth (words : List Text) (fault : WatchedFault) : Type 0 where
  pub before : List Text
  pub after : List Text
  pub place : words ≡ before ++ fault.name.now ∷ after
  pub sixteen : length before ≡ 16
