use Rattle.std.proofs.Common.{IsTrue, inr}
use Rattle.refusalscode.proofs.Unsafe.{not_true}
use Rattle.refusalscode.proofs.verdicts.chain_of_nine_calls_is_refused.Goals as goal

pub returns : goal.returns
returns c =
    not_true c.is_accepted.result (λ (yes : IsTrue c.is_accepted.result).
    c.is_accepted.ensures.calls yes c.args.place (record {
      body = 0;
      in_body = c.requires.programs;
      function = c.args.function;
      is = c.requires.call;
      bad = inr (inr c.requires.chain);
    }))
