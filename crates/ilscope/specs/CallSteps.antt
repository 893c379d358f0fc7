-- The calls in parentheses, read piece by piece.
use Rattle.std.specs.Prelude.{ℕ, ◌+◌, List, [], ◌∷◌, ◌++◌}
use Rattle.ilsource.specs.declared.nested.Action.{Action}
use Rattle.ilsource.specs.declared.nested.Action.TheVariants as actions
use Rattle.ilsource.specs.declared.nested.Piece.{Piece}
use Rattle.ilsource.specs.declared.symbol.Symbol.{Symbol}
use Rattle.ilscope.specs.Calls.{call}
use Rattle.ilscope.specs.declared.calls.FunctionCall.{FunctionCall}

-- how many operands are given in the call that is read, after a piece that does this
abbrev pub given_after : ℕ → Action Symbol → ℕ
given_after given (actions.Hand f) = 0
given_after given (actions.Give f number o) = given + 1
given_after given action = given

-- the call that such a piece ends
abbrev pub call_ended : ℕ → Action Symbol → List FunctionCall
call_ended given (actions.Invoke f) = call f given ∷ []
call_ended given action = []

-- the calls that pieces end, where so many operands are given before
abbrev pub calls_ended : ℕ → List (Piece Symbol) → List FunctionCall
calls_ended given [] = []
calls_ended given (p ∷ ps) = call_ended given p.action ++ calls_ended (given_after given p.action) ps
