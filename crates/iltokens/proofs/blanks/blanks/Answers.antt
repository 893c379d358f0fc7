use Rattle.std.proofs.Common.{sym, ◌∙◌, arith}
use Rattle.iltokens.proofs.OverBlanks.{past_shorter, goes_over, stops_there, fails_there}
use Rattle.iltokens.proofs.blanks.blanks.Goals as goal

pub returns-in-Here-clause-exact : goal.returns-in-Here-clause-exact
returns-in-Here-clause-exact c = sym (stops_there c.blanks.rest.now c.in-Here.ensures) ∙ c.blanks.invariant.0

pub blanks-smaller : goal.blanks-smaller
blanks-smaller c = past_shorter c.blanks.rest.now c.in-Past.after.now c.in-Past.ensures

pub blanks-preserved : goal.blanks-preserved
blanks-preserved c = let lt = past_shorter c.blanks.rest.now c.in-Past.after.now c.in-Past.ensures in (
  goes_over c.blanks.rest.now c.in-Past.after.now c.in-Past.ensures ∙ c.blanks.invariant.0,
  omega
      (arith, lt, c.blanks.invariant.1),
)

pub returns-in-OpenComment-clause-exact : goal.returns-in-OpenComment-clause-exact
returns-in-OpenComment-clause-exact c =
    sym (fails_there c.blanks.rest.now c.in-OpenComment.ensures) ∙ c.blanks.invariant.0
