use Rattle.std.proofs.Common.{◌≤◌, ◌-◌, ◌++◌, List, length, All}
use Rattle.iltext.specs.declared.token.Token.{Token}
use Rattle.iltext.specs.Cutting.{Cuts}
use Rattle.iltext.proofs.cutting.tokens.Given as goal

abbrev pub invariant-all : goal.invariant-all
invariant-all l = record {
  cut : (rest : List Token) → Cuts l.text l.at rest → Cuts l.text 0 (l.all.items ++ rest);
  place : l.at ≤ length l.text;
  within : All (λ t. t.from ≤ length l.text) l.all.items;
}

abbrev pub decreases-all : goal.decreases-all
decreases-all l = length l.text - l.at
