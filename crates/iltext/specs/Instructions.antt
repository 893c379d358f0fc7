-- Instructions (IEC 61131-3, 3.2, with this project's profile), as items over tokens. What stands in parentheses is one
-- tree, though each of its instructions has a line of the text of its own.
use Rattle.std.specs.Prelude.{ℕ, zero, suc, Bool, true, false, List, [], ◌∷◌, Option, Some, None}
use Rattle.limits.specs.Limits.{most_nesting}
use Rattle.iltypes.specs.declared.condition.Condition.{Condition}
use Rattle.iltypes.specs.declared.operator.Operator.{Operator}
use Rattle.iltypes.specs.declared.operator.Operator.TheVariants.{Min, Max}
use Rattle.iltypes.specs.Operators.{may_defer}
use Rattle.ilsource.specs.declared.arguments.Argument.{Argument}
use Rattle.ilsource.specs.declared.instruction.Instruction.{Instruction}
use Rattle.ilsource.specs.declared.instruction.Instruction.TheVariants as instructions
use Rattle.ilsource.specs.declared.instruction.Line.{Line}
use Rattle.ilsource.specs.declared.operand.Operand.{Operand}
use Rattle.ilsource.specs.Trees.{Tree, Load, Reload, Apply, Transform, Deferred, Call}
use Rattle.iltokens.specs.Items.{Item, one, empty, map, seq, select, opt, alt, many}
use Rattle.ilsource.specs.declared.name.Name.{Name}
use Rattle.ilsource.specs.declared.symbol.Symbol.{Symbol}
use Rattle.ilsource.specs.declared.symbol.Symbol.TheVariants as symbols
use Rattle.iltokens.specs.declared.lexed.Delimiter.TheVariants as delimiters
use Rattle.iltext.specs.declared.roles.OperatorRole.{OperatorRole}
use Rattle.iltext.specs.declared.roles.OperatorRole.TheVariants as roles
use Rattle.iltext.specs.declared.token.Token.{Token}
use Rattle.iltext.specs.Roles.{role_of, role_at, inner_role_at}
use Rattle.iltext.specs.Terminals.{delimiter, name, closing, line_break, ended}
use Rattle.iltext.specs.Operands.{symbol, operand}
use Rattle.iltext.specs.Calls.{call}
use Rattle.iltext.specs.Invocations.{handed}

abbrev pub TextInstruction : Type 0
TextInstruction = Instruction Symbol Name

abbrev pub TextLine : Type 0
TextLine = Line Symbol Name

-- an instruction at the place of its operator, with no label
abbrev pub line_of : ℕ → TextInstruction → TextLine
line_of at i = record { at = at; label = None; instruction = Some i }

-- ---- a tree that is read instruction by instruction

-- in parentheses LIMIT is MAX and then MIN, both at its place
abbrev pub grown : Tree Symbol → ℕ → Option TextInstruction → Tree Symbol
grown t at (Some (instructions.Load negated o)) = Reload t at negated o
grown t at (Some (instructions.Apply operator o)) = Apply t at operator o
grown t at (Some (instructions.Deferred operator u close)) = Deferred t at operator u close
grown t at (Some (instructions.Transform function)) = Transform t at function
grown t at (Some (instructions.Limit low high)) = Apply (Apply t at Max low) at Min high
grown t at (Some (instructions.Invoke function os)) = Call t at function os
grown t at _ = t

abbrev pub grows : Tree Symbol → TextLine → Tree Symbol
grows t line = grown t line.at line.instruction

abbrev pub grows_by : Tree Symbol → List TextLine → Tree Symbol
grows_by t [] = t
grows_by t (line ∷ lines) = grows_by (grows t line) lines

-- ---- what follows an operator at a place

-- operand
unfoldable pub on_operand : Operator → ℕ → Item Token TextLine
on_operand operator at = map (λ o. line_of at (instructions.Apply operator o)) operand

-- "(" content ")"
unfoldable pub on_content : (ℕ → Item Token (Tree Symbol)) → Operator → ℕ → Item Token TextLine
on_content content operator at =
    map (λ x. line_of at (instructions.Deferred operator x.1.0 x.1.1))
    (seq (delimiter delimiters.Open) (seq (content at) closing))

-- parentheses too, where the operator may be deferred
abbrev pub on_either : Bool → (ℕ → Item Token (Tree Symbol)) → Operator → ℕ → Item Token TextLine
on_either true content operator at = alt (on_content content operator at) (on_operand operator at)
on_either false content operator at = on_operand operator at

-- operand "," operand
unfoldable pub bounds : Item Token (Operand Symbol × Operand Symbol)
bounds = map (λ x. (x.0, x.1.1)) (seq operand (seq (delimiter delimiters.Comma) operand))

abbrev pub call_of : Condition → Name × List (Argument Symbol) → TextInstruction
call_of condition x = instructions.Call condition (symbols.Block x.0) x.1

-- by what the operator does, where `applied` says what AND .. LT, MIN and MAX are applied to
abbrev pub operands : (Operator → ℕ → Item Token TextLine) → OperatorRole → ℕ → Item Token TextLine
operands applied (roles.Load negated) at = map (λ o. line_of at (instructions.Load negated o)) operand
operands applied (roles.Apply operator) at = applied operator at
operands applied (roles.Transform function) at = empty (line_of at (instructions.Transform function))
operands applied roles.Limit at = map (λ x. line_of at (instructions.Limit x.0 x.1)) bounds
operands applied (roles.Store negated) at = map (λ n. line_of at (instructions.Store negated n)) symbol
operands applied roles.Set at = map (λ n. line_of at (instructions.Set n)) symbol
operands applied roles.Reset at = map (λ n. line_of at (instructions.Reset n)) symbol
operands applied (roles.Jump condition) at = map (λ n. line_of at (instructions.Jump condition n)) name
operands applied (roles.Return condition) at = empty (line_of at (instructions.Return condition))
operands applied (roles.Call condition) at = map (λ x. line_of at (call_of condition x)) call

-- ---- calls of functions

-- [operand {"," operand}], after the function's name, at which the call has its place
unfoldable pub invoked : Name → Item Token TextLine
invoked n = map (λ os. line_of n.from (instructions.Invoke (symbols.Function n) os)) handed

-- name [operand {"," operand}]
unfoldable pub invocation : Item Token TextLine
invocation = select name invoked

-- ---- what stands in parentheses

abbrev pub load_of : Option OperatorRole → ℕ → Option (Bool × ℕ)
load_of (Some (roles.Load negated)) at = Some (negated, at)
load_of _ at = None

-- LD operand, LDN operand
unfoldable pub load : Item Token (Tree Symbol)
load = map (λ x. Load x.0.1 x.0.0 x.1) (seq (one (λ t. load_of (role_of t.kind) t.from)) operand)

-- LD or LDN on the next line, or an operand on this one, which is loaded at the operator's place
unfoldable pub beginning : ℕ → Item Token (Tree Symbol)
beginning at = alt (map (λ x. x.1) (seq line_break (ended load))) (ended (map (λ o. Load at false o) operand))

-- an operator that may stand in parentheses, and what follows it
unfoldable pub inner_operation : (Operator → ℕ → Item Token TextLine) → Item Token TextLine
inner_operation applied = select (one inner_role_at) (λ x. operands applied x.0 x.1)

-- such an operator, or a call of a function
unfoldable pub inner_of : (Operator → ℕ → Item Token TextLine) → Item Token TextLine
inner_of applied = alt (inner_operation applied) invocation

-- beginning {inner end-of-line}
unfoldable pub content_of : (Operator → ℕ → Item Token TextLine) → ℕ → Item Token (Tree Symbol)
content_of applied at = map (λ x. grows_by x.0 x.1) (seq (beginning at) (many (ended (inner_of applied))))

-- what an operator is applied to, where this many more parentheses may be open at once
unfoldable pub applied : ℕ → Operator → ℕ → Item Token TextLine
applied zero operator at = on_operand operator at
applied (suc more) operator at = on_either (may_defer operator) (content_of (applied more)) operator at

abbrev pub inner : ℕ → Item Token TextLine
inner more = inner_of (applied more)

abbrev pub content : ℕ → ℕ → Item Token (Tree Symbol)
content more at = content_of (applied more) at

-- ---- lines

-- an operator, and what follows it
unfoldable pub operation : Item Token TextLine
operation = select (one role_at) (λ x. operands (applied most_nesting) x.0 x.1)

-- an operator and what follows it, or a call of a function
unfoldable pub instruction : Item Token TextLine
instruction = alt operation invocation

-- the line of an instruction, with a label before it; the place of a label alone is the label's
abbrev pub labelled : Name → Option TextLine → TextLine
labelled n None = record { at = n.from; label = Some n; instruction = None }
labelled n (Some line) = record { at = line.at; label = Some n; instruction = line.instruction }

-- ":" [instruction], after a label
unfoldable pub after_label : Name → Item Token TextLine
after_label n = map (λ x. labelled n x.1) (seq (delimiter delimiters.Colon) (opt instruction))

-- what follows a name with which a line begins: it is a label where a colon follows, and else a function that is called
unfoldable pub after_name : Name → Item Token TextLine
after_name n = alt (after_label n) (invoked n)

-- name ":" [instruction], or name [operand {"," operand}]
unfoldable pub named_line : Item Token TextLine
named_line = select name after_name

-- [name ":"] [instruction] end-of-line, where a label, an instruction or both are written
unfoldable pub line : Item Token TextLine
line = ended (alt named_line operation)

unfoldable pub lines : Item Token (List TextLine)
lines = many line
