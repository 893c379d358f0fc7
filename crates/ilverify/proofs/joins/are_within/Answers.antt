use Rattle.std.proofs.Common.{rules, arith}
use Rattle.std.proofs.lemmas.Option.{slice_get_within}
use Rattle.ilverify.proofs.joins.are_within.Goals as goal

pub returns : goal.returns
returns c = (
  λ t. record {
    long = c.requires;
    each = λ k a b p q. c.loop-i.invariant k a b (let w = slice_get_within _ k a p in omega arith) p q;
  },
  λ w. search rules,
)
