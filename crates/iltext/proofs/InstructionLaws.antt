-- The items of instructions are lawful, in parentheses to any depth and outside them.
use Rattle.std.proofs.Common.{◌≡◌, ◌||◌, ℕ, zero, suc, Bool, true, false, List, refl}
use Rattle.limits.specs.Limits.{most_nesting}
use Rattle.iltypes.specs.declared.operator.Operator.{Operator}
use Rattle.iltypes.specs.Operators.{may_defer}
use Rattle.ilsource.specs.declared.operand.Operand.{Operand}
use Rattle.ilsource.specs.Trees.{Tree}
use Rattle.iltokens.specs.Items.{Item, is_in}
use Rattle.iltokens.proofs.Laws.{Lawful, Lawful-fewer, Lawful-map}
use Rattle.iltokens.proofs.Selects.{Lawful-empty}
use Rattle.iltokens.proofs.Choices.{Lawful-alt_open}
use Rattle.iltokens.proofs.Firm.{Firm, Firm-one, Firm-map, Firm-seq, Firm-seq_open, Firm-alt, Firm-fewer, Firm-select}
use Rattle.iltokens.proofs.Firm.{from_opt, from_many}
use Rattle.ilsource.specs.declared.name.Name.{Name}
use Rattle.ilsource.specs.declared.symbol.Symbol.{Symbol}
use Rattle.iltokens.specs.declared.keyword.Keyword.TheVariants as words
use Rattle.iltokens.specs.declared.lexed.Delimiter.TheVariants as delimiters
use Rattle.iltokens.specs.declared.lexed.What.TheVariants as whats
use Rattle.iltext.specs.declared.roles.OperatorRole.{OperatorRole}
use Rattle.iltext.specs.declared.roles.OperatorRole.TheVariants as roles
use Rattle.iltext.specs.declared.token.TokenKind.{TokenKind}
use Rattle.iltext.specs.declared.token.TokenKind.TheVariants as kinds
use Rattle.iltext.specs.declared.token.Token.{Token}
use Rattle.iltext.specs.Roles.{role_of_word, inner_role_at}
use Rattle.iltext.specs.Terminals.{delimiter, name, closing, line_break, ended}
use Rattle.iltext.specs.Operands.{symbol, literal, operand}
use Rattle.iltext.specs.Invocations.{some_operands, handed}
use Rattle.iltext.specs.Instructions.{TextLine, on_operand, on_content, on_either, bounds, operands, load, beginning}
use Rattle.iltext.specs.Instructions.{invoked, invocation, inner_operation, inner_of, content_of, applied, inner}
use Rattle.iltext.specs.Instructions.{operation, instruction, after_label, after_name, named_line, line, lines}
use Rattle.iltext.proofs.Delimiters.{Anything, token_of, Firm-delimiter, apart_delimiter}
use Rattle.iltext.proofs.Ends.{NoEnd, NoDot, NoMore, Firm-name, Firm-closing, Firm-line_break, Firm-ended}
use Rattle.iltext.proofs.Ends.{end_apart as end_no_more}
use Rattle.iltext.proofs.InvocationLaws.{Lawful-handed}
use Rattle.iltext.proofs.OperandLaws.{Firm-symbol, Firm-operand, operand_no_end}
use Rattle.iltext.proofs.CallLaws.{Firm-call}

-- ---- what follows an operator

Firm-on_operand : (operator : Operator) (at : ℕ) → Firm Token TextLine (on_operand operator at) NoDot
unfolding on_operand
Firm-on_operand operator at = Firm-map _ Firm-operand

-- whether an instruction in parentheses begins with the token: an operator, or the name of a function
abbrev begins_as_inner : Token → Bool
begins_as_inner t = is_in (inner_role_at t) || name.starts t

-- what may not follow an instruction in parentheses
abbrev NoInner : Token → Type 0
NoInner t = NoEnd t × (begins_as_inner t ≡ false)

closing_apart : (k : TokenKind) (f g : ℕ) → closing.starts (token_of k f g) ≡ true → NoInner (token_of k f g)
unfolding closing delimiter name
closing_apart (kinds.Good (whats.Delimiter delimiters.Close)) f g e = (refl, refl)
closing_apart _ f g e = absurd cc

module _ (content : ℕ → Item Token (Tree Symbol)) (law : (at : ℕ) → Firm Token (Tree Symbol) (content at) NoInner)
    (operator : Operator) (at : ℕ) where
  Firm-on_content : Firm Token TextLine (on_content content operator at) Anything
  unfolding on_content
  Firm-on_content = Firm-map _ (Firm-seq (Firm-delimiter delimiters.Open) (λ t e. tt)
      (Firm-seq (law at) (λ t e. closing_apart t.kind t.from t.to e) Firm-closing))

  operand_apart : (k : TokenKind) (f g : ℕ) → (on_operand operator at).starts (token_of k f g) ≡ true
      → (on_content content operator at).starts (token_of k f g) ≡ false
  unfolding on_operand on_content operand symbol literal name delimiter
  operand_apart (kinds.Good (whats.Delimiter m)) f g e = absurd cc
  operand_apart _ f g e = refl

  Firm-on_either : (may : Bool) → Firm Token TextLine (on_either may content operator at) NoDot
  Firm-on_either true = Firm-fewer NoDot (λ t e. (tt, e))
      (Firm-alt Firm-on_content (λ t e. operand_apart t.kind t.from t.to e) (Firm-on_operand operator at))
  Firm-on_either false = Firm-on_operand operator at

Firm-bounds : Firm Token (Operand Symbol × Operand Symbol) bounds NoDot
unfolding bounds delimiter
Firm-bounds = Firm-map _ (Firm-seq Firm-operand
    (λ t e. apart_delimiter delimiters.Comma (delimiter delimiters.Dot).starts (λ f g. refl) t.kind t.from t.to e)
    (Firm-seq (Firm-delimiter delimiters.Comma) (λ t e. tt) Firm-operand))

abbrev AreFirm : (Operator → ℕ → Item Token TextLine) → Type 0
AreFirm applied = (operator : Operator) (at : ℕ) → Firm Token TextLine (applied operator at) NoDot

-- with more that may not follow
fewer : {A : Type 0} {a : Item Token A} → Firm Token A a NoDot → Firm Token A a NoMore
fewer x = Firm-fewer NoMore (λ t e. e.0.0) x

Lawful-operands : (applied : Operator → ℕ → Item Token TextLine) → AreFirm applied → (role : OperatorRole) (at : ℕ)
    → Lawful Token TextLine (operands applied role at) NoMore
Lawful-operands applied law (roles.Load negated) at = (fewer (Firm-map _ Firm-operand)).lawful
Lawful-operands applied law (roles.Apply operator) at = (fewer (law operator at)).lawful
Lawful-operands applied law (roles.Transform function) at = Lawful-fewer _ _ _ _ NoMore (λ t e. tt) (Lawful-empty _ _ _)
Lawful-operands applied law roles.Limit at = (fewer (Firm-map _ Firm-bounds)).lawful
Lawful-operands applied law (roles.Store negated) at = (fewer (Firm-map _ Firm-symbol)).lawful
Lawful-operands applied law roles.Set at = (fewer (Firm-map _ Firm-symbol)).lawful
Lawful-operands applied law roles.Reset at = (fewer (Firm-map _ Firm-symbol)).lawful
Lawful-operands applied law (roles.Jump condition) at = (Firm-fewer NoMore (λ t e. tt) (Firm-map _ Firm-name)).lawful
Lawful-operands applied law (roles.Return condition) at = Lawful-fewer _ _ _ _ NoMore (λ t e. tt) (Lawful-empty _ _ _)
Lawful-operands applied law (roles.Call condition) at = (Firm-fewer NoMore (λ t e. e.0.1) (Firm-map _ Firm-call)).lawful

-- ---- calls of functions

Lawful-invoked : (n : Name) → Lawful Token TextLine (invoked n) NoMore
unfolding invoked
Lawful-invoked n = Lawful-fewer _ _ _ _ NoMore (λ t e. ((e.0.0, e.1.0), e.1.1)) (Lawful-map _ _ _ _ _ _ Lawful-handed)

Firm-invocation : Firm Token TextLine invocation NoMore
unfolding invocation
Firm-invocation = Firm-fewer NoMore (λ t e. (tt, e)) (Firm-select Firm-name (λ n t e. tt) Lawful-invoked)

-- ---- what stands in parentheses

abbrev load_word : Token
load_word = token_of (kinds.Good (whats.Keyword words.Ld)) 0 0

Firm-load : Firm Token (Tree Symbol) load NoDot
unfolding load role_of_word
Firm-load = Firm-map _ (Firm-seq (Firm-one _ load_word (false, 0) refl) (λ t e. tt) Firm-operand)

load_no_end : (k : TokenKind) (f g : ℕ) → (ended load).starts (token_of k f g) ≡ true → NoEnd (token_of k f g)
unfolding load delimiter
load_no_end (kinds.Good (whats.Delimiter delimiters.LineEnd)) f g e = absurd cc
load_no_end _ f g e = refl

break_apart : (t : Token) → operand.starts t ≡ true → line_break.starts t ≡ false
unfolding line_break
break_apart t e = operand_no_end t.kind t.from t.to e

Firm-beginning : (at : ℕ) → Firm Token (Tree Symbol) (beginning at) NoEnd
unfolding beginning
Firm-beginning at = Firm-fewer NoEnd (λ t e. (e, e))
    (Firm-alt (Firm-map _ (Firm-seq Firm-line_break (λ t e. load_no_end t.kind t.from t.to e)
    (Firm-ended (fewer Firm-load))))
    (λ t e. break_apart t e) (Firm-ended (fewer (Firm-map _ Firm-operand))))

Firm-inner_operation : (applied : Operator → ℕ → Item Token TextLine) → AreFirm applied
    → Firm Token TextLine (inner_operation applied) NoMore
unfolding inner_operation role_of_word
Firm-inner_operation applied law = Firm-fewer NoMore (λ t e. (tt, e))
    (Firm-select (Firm-one _ load_word (roles.Load false, 0) refl) (λ x t e. tt)
    (λ x. Lawful-operands applied law x.0 x.1))

-- a name is no operator
name_apart : (applied : Operator → ℕ → Item Token TextLine) (k : TokenKind) (f g : ℕ)
    → invocation.starts (token_of k f g) ≡ true → (inner_operation applied).starts (token_of k f g) ≡ false
unfolding invocation inner_operation name
name_apart applied (kinds.Good whats.Name) f g e = refl
name_apart applied _ f g e = absurd cc

Firm-inner_of : (applied : Operator → ℕ → Item Token TextLine) → AreFirm applied
    → Firm Token TextLine (inner_of applied) NoMore
unfolding inner_of
Firm-inner_of applied law = Firm-fewer NoMore (λ t e. (e, e))
    (Firm-alt (Firm-inner_operation applied law) (λ t e. name_apart applied t.kind t.from t.to e) Firm-invocation)

inner_no_end : (k : TokenKind) (f g : ℕ) → begins_as_inner (token_of k f g) ≡ true → NoEnd (token_of k f g)
unfolding delimiter name
inner_no_end (kinds.Good (whats.Delimiter delimiters.LineEnd)) f g e = absurd cc
inner_no_end _ f g e = refl

begins_inner : (applied : Operator → ℕ → Item Token TextLine) (t : Token)
    → (ended (inner_of applied)).starts t ≡ begins_as_inner t
unfolding inner_of inner_operation invocation
begins_inner applied t = refl

Firm-content_of : (applied : Operator → ℕ → Item Token TextLine) → AreFirm applied
    → (at : ℕ) → Firm Token (Tree Symbol) (content_of applied at) NoInner
unfolding content_of
Firm-content_of applied law at =
    let inside = λ (t : Token) (e : (ended (inner_of applied)).starts t ≡ true).
    inner_no_end t.kind t.from t.to (rw begins_inner at e) in
    Firm-fewer NoInner (λ t e. (e.0, (e.0, rw begins_inner e.1)))
    (Firm-map _ (Firm-seq_open (Firm-beginning at) inside (from_many inside (Firm-ended (Firm-inner_of applied law)))))

pub Firm-applied : (more : ℕ) → AreFirm (applied more)
unfolding applied
Firm-applied zero operator at = Firm-on_operand operator at
Firm-applied (suc more) operator at =
    Firm-on_either _ (Firm-content_of (applied more) (Firm-applied more)) operator at (may_defer operator)

pub Firm-inner_line : (more : ℕ) → Firm Token TextLine (ended (inner more)) NoEnd
Firm-inner_line more = Firm-ended (Firm-inner_of (applied more) (Firm-applied more))

-- ---- lines

Firm-operation : Firm Token TextLine operation NoMore
unfolding operation role_of_word
Firm-operation = Firm-fewer NoMore (λ t e. (tt, e))
    (Firm-select (Firm-one _ load_word (roles.Load false, 0) refl) (λ x t e. tt)
    (λ x. Lawful-operands (applied most_nesting) (Firm-applied most_nesting) x.0 x.1))

-- a name is no operator, and an operator no name
invocation_apart : (k : TokenKind) (f g : ℕ) → invocation.starts (token_of k f g) ≡ true
    → operation.starts (token_of k f g) ≡ false
unfolding invocation operation name
invocation_apart (kinds.Good whats.Name) f g e = refl
invocation_apart _ f g e = absurd cc

operation_apart : (k : TokenKind) (f g : ℕ) → operation.starts (token_of k f g) ≡ true
    → named_line.starts (token_of k f g) ≡ false
unfolding operation named_line name
operation_apart (kinds.Good whats.Name) f g e = absurd cc
operation_apart _ f g e = refl

Firm-instruction : Firm Token TextLine instruction NoMore
unfolding instruction
Firm-instruction = Firm-fewer NoMore (λ t e. (e, e))
    (Firm-alt Firm-operation (λ t e. invocation_apart t.kind t.from t.to e) Firm-invocation)

-- what may not follow a label alone
abbrev NoInstruction : Token → Type 0
NoInstruction t = NoMore t × (instruction.starts t ≡ false)

Firm-after_label : (n : Name) → Firm Token TextLine (after_label n) NoInstruction
unfolding after_label
Firm-after_label n = Firm-map _ (Firm-fewer NoInstruction (λ t e. (tt, e))
    (Firm-seq_open (Firm-delimiter delimiters.Colon) (λ t e. tt) (from_opt Firm-instruction)))

-- no operand begins with a colon
colon_apart : (n : Name) (k : TokenKind) (f g : ℕ) → (invoked n).starts (token_of k f g) ≡ true
    → (after_label n).starts (token_of k f g) ≡ false
unfolding invoked handed some_operands operand symbol literal name after_label delimiter
colon_apart n (kinds.Good (whats.Delimiter m)) f g e = absurd cc
colon_apart n _ f g e = refl

-- what may not follow a name with which a line begins
abbrev NoNamed : Token → Type 0
NoNamed t = NoInstruction t × ((delimiter delimiters.Colon).starts t ≡ false)

Lawful-after_name : (n : Name) → Lawful Token TextLine (after_name n) NoNamed
unfolding after_name after_label
Lawful-after_name n = Lawful-fewer _ _ _ _ NoNamed (λ t e. ((e.0, e.0.0), e.1))
    (Lawful-alt_open _ _ _ _ _ _ (Firm-after_label n).lawful (Lawful-invoked n) (Firm-after_label n).solid
    (λ t e. colon_apart n t.kind t.from t.to e))

Firm-named_line : Firm Token TextLine named_line NoNamed
unfolding named_line
Firm-named_line = Firm-fewer NoNamed (λ t e. (tt, e)) (Firm-select Firm-name (λ n t e. tt) Lawful-after_name)

end_apart : (t : Token) → line_break.starts t ≡ true → NoNamed t
unfolding line_break instruction operation invocation name delimiter
end_apart t e = (
  (
    end_no_more t e,
    apart_delimiter delimiters.LineEnd instruction.starts (λ f g. refl) t.kind t.from t.to e,
  ),
  apart_delimiter delimiters.LineEnd (delimiter delimiters.Colon).starts (λ f g. refl) t.kind t.from t.to e,
)

pub Firm-line : Firm Token TextLine line NoEnd
unfolding line
Firm-line = Firm-map _ (Firm-seq
    (Firm-alt Firm-named_line (λ t e. operation_apart t.kind t.from t.to e) Firm-operation)
    (λ t e. (end_apart t e, (end_apart t e).0.0)) Firm-line_break)

abbrev pub NoLine : Token → Type 0
NoLine t = line.starts t ≡ false

pub line_no_end : (k : TokenKind) (f g : ℕ) → line.starts (token_of k f g) ≡ true → NoEnd (token_of k f g)
unfolding line named_line name operation delimiter
line_no_end (kinds.Good (whats.Delimiter delimiters.LineEnd)) f g e = absurd cc
line_no_end _ f g e = refl

pub Lawful-lines : Lawful Token (List TextLine) lines (λ t. NoEnd t × NoLine t)
unfolding lines
Lawful-lines = from_many (λ t e. line_no_end t.kind t.from t.to e) Firm-line
