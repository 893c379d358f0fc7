use Rattle.std.proofs.Common.{◌≡◌, ◌≤◌, ◌++◌, take}
use Rattle.ilscope.specs.CallSteps.{calls_ended}
use Rattle.ilscope.proofs.CallsRead.{given_by}
use Rattle.ilscope.proofs.calls.push_calls_in.Given as goal

abbrev pub invariant-loop-piece : goal.invariant-loop-piece
invariant-loop-piece l =
    record {
      ended : l.calls.items ≡ l.fn.calls.items ++ calls_ended 0 (take l.piece-index l.piece-items);
      counted : l.given ≡ given_by 0 (take l.piece-index l.piece-items);
      few : l.given ≤ l.piece-index;
    }
