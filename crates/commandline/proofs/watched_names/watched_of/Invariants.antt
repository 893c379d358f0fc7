use Rattle.std.proofs.Common.{map, take}
use Rattle.commandline.specs.WatchedNames.{AreWatched}
use Rattle.commandline.proofs.watched_names.watched_of.Given as goal

-- the words so far name what is watched
abbrev pub invariant-loop-word : goal.invariant-loop-word
invariant-loop-word l = AreWatched (map (λ word. word.now) (take l.word-index l.words)) l.watched.items
