-- What lines are read of some tokens.
use Rattle.std.proofs.Common.{◌≡◌, List, [], ◌∷◌, Bool, true, false, None, Some, Result, Ok, Err, IfErr, IfOk, is_ok, pos, refl}
use Rattle.iltypes.specs.declared.operator.Operator.TheVariants as operators
use Rattle.iltypes.specs.declared.value.Value.TheVariants as values
use Rattle.ilsource.specs.declared.instruction.Instruction.TheVariants as instructions
use Rattle.ilsource.specs.declared.operand.Operand.TheVariants as operands
use Rattle.ilsource.specs.Trees.{Apply, Load}
use Rattle.iltokens.specs.Items.{many_read}
use Rattle.iltokens.specs.Results.{Gives}
use Rattle.iltokens.specs.declared.read_error.ReadError.{ReadError}
use Rattle.iltokens.specs.declared.read_error.ReadError.TheVariants.{Memory, Fault}
use Rattle.iltext.specs.declared.token.Token.{Token}
use Rattle.iltext.specs.Terminals.{delimiter, name, closing, line_ends, line_break}
use Rattle.iltext.specs.Operands.{symbol, port, dot_port, literal, operand}
use Rattle.iltext.specs.Invocations.{next_operand, more_operands, some_operands, handed}
use Rattle.iltext.specs.Roles.{role_of_word}
use Rattle.iltext.specs.Instructions.{TextLine, on_operand, on_content, bounds, invoked, invocation, load, beginning}
use Rattle.iltext.specs.Instructions.{inner_operation, inner_of, content_of, applied, operation, instruction}
use Rattle.iltext.specs.Instructions.{after_label, after_name, named_line, line, lines}
use Rattle.refusalslanguage.specs.Texts.{called, limited, opened}

-- ---- what a function returns that reads

pub no_fault : {X Y : Type 0} (view : X → Y) (given : Result X (ReadError Token)) (read : Result Y (List Token))
    → Gives view given read → is_ok read ≡ true → IfErr given (λ error. error ≡ Memory)
no_fault view (Ok x) read gives good = tt
no_fault view (Err Memory) read gives good = refl
no_fault view (Err (Fault f)) read gives good = absurd (cc)

pub not_read : {X Y : Type 0} (view : X → Y) (given : Result X (ReadError Token)) (read : Result Y (List Token))
    → Gives view given read → is_ok read ≡ false → is_ok given ≡ false
not_read view (Ok x) read gives bad = absurd (cc)
not_read view (Err e) read gives bad = refl

pub value_read : {X Y : Type 0} (view : X → Y) (given : Result X (ReadError Token)) (read : Result Y (List Token)) (y : Y)
    → Gives view given read → read ≡ Ok y → IfOk given (λ x. view x ≡ y)
value_read view (Ok x) read y gives is = cc
value_read view (Err e) read y gives is = tt

-- ---- what reading gives

pub of_call : is_ok (lines.read called) ≡ true
unfolding many_read delimiter name closing line_ends line_break symbol port dot_port literal operand next_operand
    more_operands some_operands handed role_of_word invoked invocation operation after_label after_name named_line line
    lines
of_call = refl

pub of_33 : is_ok (lines.read (opened 33)) ≡ false
unfolding many_read delimiter name closing line_ends line_break symbol port dot_port literal operand next_operand
    more_operands some_operands handed role_of_word on_operand on_content bounds invoked invocation load beginning
    inner_operation inner_of content_of applied operation after_label after_name named_line line lines
of_33 = refl

-- ADD( 1, then LIMIT 2, 3
abbrev pub least : TextLine
least = record {
  at = 0;
  label = None;
  instruction = Some (instructions.Deferred operators.Add
      (Apply (Apply (Load 0 false (operands.Constant (values.Int (pos 1))))
      0 operators.Max (operands.Constant (values.Int (pos 2))))
      0 operators.Min (operands.Constant (values.Int (pos 3)))) 0);
}

pub of_limit : lines.read limited ≡ Ok (least ∷ [], [])
unfolding many_read delimiter name closing line_ends line_break symbol port dot_port literal operand next_operand
    more_operands some_operands handed role_of_word on_operand on_content bounds invoked invocation load beginning
    inner_operation inner_of content_of applied operation after_label after_name named_line line lines
of_limit = refl
