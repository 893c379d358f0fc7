use Rattle.std.proofs.Common.{◌≡◌}
use Rattle.liveline.specs.Lines.{numbered_answer}
use Rattle.liveline.proofs.Greeting.{ArePassed}
use Rattle.liveline.proofs.greetings.read_answer.Given as goal

abbrev pub invariant-loop : goal.invariant-loop
invariant-loop g l =
    ArePassed l.fn.version l.fn.number (g.R.Read.remaining l.fn.from) (g.R.Read.remaining l.from)
    × (l.answer.items ≡ numbered_answer l.fn.version l.fn.number)
