use Rattle.std.proofs.Common.{length}
use Rattle.languagetests.proofs.foreign_codes.+may_pack.Given as goal

abbrev pub decreases-may_pack : goal.decreases-may_pack
decreases-may_pack l = length l.words.now
