use Rattle.std.proofs.Common.{◌≡◌, length, map}
use Rattle.iltokens.specs.KeywordSteps.{lookup, row_of}
use Rattle.iltokens.proofs.keyword.lookup.Given as goal

abbrev pub invariant-table : goal.invariant-table
invariant-table l =
    lookup (map row_of l.table) l.text ≡ lookup (map row_of l.initial.table) l.text

abbrev pub decreases-table : goal.decreases-table
decreases-table l = length l.table
