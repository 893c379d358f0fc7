-- What a word is spelled by means it, and has 32 bits.
use Rattle.std.proofs.Common.{◌≡◌, ◌≢◌, ℕ, ◌+◌, ◌*◌, ◌/◌, ◌%◌, ◌^◌, ◌<◌, true, false, refl, sym, ap, ◌∙◌, subst}
use Rattle.std.proofs.Common.{arith, lit<}
use Rattle.std.specs.Prelude.{◌==◌}
use Rattle.std.proofs.lemmas.Bool.{both_ways, eq-eqb}
use Rattle.iltypes.specs.declared.condition.Condition.{Condition}
use Rattle.iltypes.specs.declared.condition.Condition.TheVariants.{Always, IfTrue, IfFalse}
use Rattle.iltypes.specs.declared.function.Function.TheVariants.{Not, Abs, Convert}
use Rattle.iltypes.specs.declared.function.IntegerType.{IntegerType}
use Rattle.iltypes.specs.declared.function.IntegerType.TheVariants.{Sint, Int, Dint, Usint, Uint, Udint}
use Rattle.iltypes.specs.declared.operator.Operator.{Operator}
use Rattle.iltypes.specs.declared.operator.Operator.TheVariants as operators
use Rattle.ilcode.specs.declared.word.WordOperand.{WordOperand}
use Rattle.ilcode.specs.declared.word.WordOperand.TheVariants as operands
use Rattle.ilcode.specs.declared.word.Target.{Target}
use Rattle.ilcode.specs.declared.word.Target.TheVariants as variables
use Rattle.ilcode.specs.declared.word.Word.{Word}
use Rattle.ilcode.specs.declared.word.Word.TheVariants as words
use Rattle.ilcode.specs.Words.{spelling, HasWord, IsNear, IsNearTarget, fields, number_of, on_operand, on_target}
use Rattle.ilcode.specs.Words.{operator_number, jump_number, type_number}
use Rattle.ilcode.specs.Reading.{meaning, meant, operand_of, target_of, operator_of, IsPacked}

-- fields are found again in their number
reads : (op kind a b : ℕ) → op < 64 → kind < 4 → a < 4096
    → meaning (number_of (fields op kind a b)) ≡ meant op kind a b
reads op kind a b o k h =
    let n : ℕ = (op + 64 * kind) + 256 * a + 1048576 * b in
    let of_op : n % 64 ≡ op = omega arith in
    let of_kind : n / 64 % 4 ≡ kind = omega arith in
    let of_a : n / 256 % 4096 ≡ a = omega arith in
    let of_b : n / 1048576 ≡ b = omega arith in
    ap (λ (x : ℕ). meant x (n / 64 % 4) (n / 256 % 4096) (n / 1048576)) of_op
    ∙ ap (λ (x : ℕ). meant op x (n / 256 % 4096) (n / 1048576)) of_kind
    ∙ ap (λ (x : ℕ). meant op kind x (n / 1048576)) of_a
    ∙ ap (meant op kind a) of_b

of_port : {A : Type 0} (f : ℕ → ℕ → A) (port block : ℕ) → port < 16
    → f ((block * 16 + port) % 16) ((block * 16 + port) / 16) ≡ f port block
of_port f port block p =
    let x : (block * 16 + port) % 16 ≡ port = omega arith in
    let y : (block * 16 + port) / 16 ≡ block = omega arith in
    ap (λ (m : ℕ). f m ((block * 16 + port) / 16)) x ∙ ap (f port) y

on : (op b : ℕ) (f : WordOperand → Word) (operand : WordOperand) → op < 64 → IsNear operand
    → ((kind a : ℕ) → meant op kind a b ≡ f (operand_of kind a))
    → meaning (number_of (on_operand op operand b)) ≡ f operand
on op b f (operands.Slot slot) o h e = reads op 1 slot b o (lit< tt) h ∙ e 1 slot
on op b f (operands.Constant constant) o h e = reads op 2 constant b o (lit< tt) h ∙ e 2 constant
on op b f (operands.Port port block) o h e =
    reads op 3 (block * 16 + port) b o (lit< tt) (omega arith) ∙ e 3 (block * 16 + port)
    ∙ of_port (λ (p q : ℕ). f (operands.Port p q)) port block h.0

at : (op : ℕ) (f : Target → Word) (variable : Target) → op < 64 → IsNearTarget variable
    → ((kind a : ℕ) → meant op kind a 0 ≡ f (target_of kind a))
    → meaning (number_of (on_target op variable)) ≡ f variable
at op f (variables.Slot slot) o h e = reads op 1 slot 0 o (lit< tt) h ∙ e 1 slot
at op f (variables.Port port block) o h e =
    reads op 3 (block * 16 + port) 0 o (lit< tt) (omega arith) ∙ e 3 (block * 16 + port)
    ∙ of_port (λ (p q : ℕ). f (variables.Port p q)) port block h.0

small : (operator : Operator) → operator_number operator < 64
small (operators.And false) = lit< tt
small (operators.And true) = lit< tt
small (operators.Or false) = lit< tt
small (operators.Or true) = lit< tt
small (operators.Xor false) = lit< tt
small (operators.Xor true) = lit< tt
small operator = lit< tt

applies : (operator : Operator) (kind a : ℕ)
    → meant (operator_number operator) kind a 0 ≡ words.Apply operator (operand_of kind a)
applies (operators.And false) kind a = refl
applies (operators.And true) kind a = refl
applies (operators.Or false) kind a = refl
applies (operators.Or true) kind a = refl
applies (operators.Xor false) kind a = refl
applies (operators.Xor true) kind a = refl
applies operator kind a = refl

numbered : (operator : Operator) → operator_of (operator_number operator) ≡ operator
numbered (operators.And false) = refl
numbered (operators.And true) = refl
numbered (operators.Or false) = refl
numbered (operators.Or true) = refl
numbered (operators.Xor false) = refl
numbered (operators.Xor true) = refl
numbered operator = refl

converts : (target : IntegerType)
    → meaning (spelling (words.Transform (Convert target))) ≡ words.Transform (Convert target)
converts Sint = refl
converts Int = refl
converts Dint = refl
converts Usint = refl
converts Uint = refl
converts Udint = refl

jumps : (condition : Condition) (target : ℕ) (a b : ℕ) → a + 4096 * b ≡ target → a < 4096
    → meaning (number_of (fields (jump_number condition) 0 a b)) ≡ words.Jump condition target
jumps Always target a b e h = reads 28 0 a b (lit< tt) (lit< tt) h ∙ ap (words.Jump Always) e
jumps IfTrue target a b e h = reads 29 0 a b (lit< tt) (lit< tt) h ∙ ap (words.Jump IfTrue) e
jumps IfFalse target a b e h = reads 30 0 a b (lit< tt) (lit< tt) h ∙ ap (words.Jump IfFalse) e

-- the word of an instruction means it
pub again : (word : Word) → HasWord word → meaning (spelling word) ≡ word
again (words.Load false operand) h = on 0 0 (words.Load false) operand (lit< tt) h (λ kind a. refl)
again (words.Load true operand) h = on 1 0 (words.Load true) operand (lit< tt) h (λ kind a. refl)
again (words.Store false variable) h = at 2 (words.Store false) variable (lit< tt) h (λ kind a. refl)
again (words.Store true variable) h = at 3 (words.Store true) variable (lit< tt) h (λ kind a. refl)
again (words.Set variable) h = at 4 words.Set variable (lit< tt) h (λ kind a. refl)
again (words.Reset variable) h = at 5 words.Reset variable (lit< tt) h (λ kind a. refl)
again (words.Apply operator operand) h =
    on (operator_number operator) 0 (words.Apply operator) operand (small operator) h (applies operator)
again (words.Transform Not) h = refl
again (words.Transform Abs) h = refl
again (words.Transform (Convert target)) h = converts target
again (words.Jump condition target) h =
    jumps condition target (target % 4096) (target / 4096) (omega arith) (omega arith)
again (words.Pass port block operand) h =
    on 31 (block * 16 + port) (λ (o : WordOperand). words.Pass ((block * 16 + port) % 16) ((block * 16 + port) / 16) o)
    operand (lit< tt) h.1 (λ kind a. refl)
    ∙ of_port (λ (p q : ℕ). words.Pass p q operand) port block h.0.0
again (words.Call block) h = reads 32 0 block 0 (lit< tt) (lit< tt) h
again words.Close h = refl
again (words.Open operator) h =
    reads 34 0 (operator_number operator) 0 (lit< tt) (lit< tt) (let s = small operator in omega arith)
    ∙ ap words.Open (numbered operator)
again (words.Give operand slot) h =
    on 35 slot (λ (o : WordOperand). words.Give o slot) operand (lit< tt) h.0 (λ kind a. refl)
again (words.Invoke function) h = reads 36 0 function 0 (lit< tt) (lit< tt) h

-- the spelling of an instruction is a word
pub spelled_word : (word : Word) (bits : ℕ) → HasWord word → bits ≡ spelling word → IsPacked bits
spelled_word word bits h e =
    let means : meaning bits ≡ word = ap meaning e ∙ again word h in
    record { has = subst HasWord (sym means) h; is = ap spelling means ∙ sym e }

-- a word has 32 bits
number_small : (op kind a b : ℕ) → op < 64 → kind < 4 → a < 4096 → b < 4096 → number_of (fields op kind a b) < 2 ^ 32
number_small op kind a b o k h g = omega arith

operand_small : (op b : ℕ) (operand : WordOperand) → op < 64 → b < 4096 → IsNear operand
    → number_of (on_operand op operand b) < 2 ^ 32
operand_small op b (operands.Slot slot) o g h = number_small op 1 slot b o (lit< tt) h g
operand_small op b (operands.Constant constant) o g h = number_small op 2 constant b o (lit< tt) h g
operand_small op b (operands.Port port block) o g h =
    number_small op 3 (block * 16 + port) b o (lit< tt) (omega arith) g

variable_small : (op : ℕ) (variable : Target) → op < 64 → IsNearTarget variable
    → number_of (on_target op variable) < 2 ^ 32
variable_small op (variables.Slot slot) o h = number_small op 1 slot 0 o (lit< tt) h (lit< tt)
variable_small op (variables.Port port block) o h =
    number_small op 3 (block * 16 + port) 0 o (lit< tt) (omega arith) (lit< tt)

type_small : (target : IntegerType) → type_number target < 4096
type_small Sint = lit< tt
type_small Int = lit< tt
type_small Dint = lit< tt
type_small Usint = lit< tt
type_small Uint = lit< tt
type_small Udint = lit< tt

jump_small : (condition : Condition) → jump_number condition < 64
jump_small Always = lit< tt
jump_small IfTrue = lit< tt
jump_small IfFalse = lit< tt

pub spelling_small : (word : Word) → HasWord word → spelling word < 2 ^ 32
spelling_small (words.Load false operand) h = operand_small 0 0 operand (lit< tt) (lit< tt) h
spelling_small (words.Load true operand) h = operand_small 1 0 operand (lit< tt) (lit< tt) h
spelling_small (words.Store false variable) h = variable_small 2 variable (lit< tt) h
spelling_small (words.Store true variable) h = variable_small 3 variable (lit< tt) h
spelling_small (words.Set variable) h = variable_small 4 variable (lit< tt) h
spelling_small (words.Reset variable) h = variable_small 5 variable (lit< tt) h
spelling_small (words.Apply operator operand) h =
    operand_small (operator_number operator) 0 operand (small operator) (lit< tt) h
spelling_small (words.Transform Not) h = lit< tt
spelling_small (words.Transform Abs) h = lit< tt
spelling_small (words.Transform (Convert target)) h =
    number_small 27 0 (type_number target) 0 (lit< tt) (lit< tt) (type_small target) (lit< tt)
spelling_small (words.Jump condition target) h =
    number_small (jump_number condition) 0 (target % 4096) (target / 4096) (jump_small condition) (lit< tt)
    (omega arith) (omega arith)
spelling_small (words.Pass port block operand) h =
    let near = h.0.0 in let there = h.0.1 in
    operand_small 31 (block * 16 + port) operand (lit< tt) (omega arith) h.1
spelling_small (words.Call block) h = number_small 32 0 block 0 (lit< tt) (lit< tt) h (lit< tt)
spelling_small words.Close h = lit< tt
spelling_small (words.Open operator) h =
    number_small 34 0 (operator_number operator) 0 (lit< tt) (lit< tt) (let s = small operator in omega arith) (lit< tt)
spelling_small (words.Give operand slot) h = operand_small 35 slot operand (lit< tt) h.1 h.0
spelling_small (words.Invoke function) h = number_small 36 0 function 0 (lit< tt) (lit< tt) h (lit< tt)

-- the bits of a word are those of no other
pub spelled_once : (word other : Word) → HasWord word → HasWord other → spelling word ≡ spelling other → word ≡ other
spelled_once word other h k e = sym (again word h) ∙ ap meaning e ∙ again other k

-- bits that are not those of what they mean are those of no word, and so are those of what the format cannot hold
pub no_word : (bits : ℕ) → (spelling (meaning bits) == bits) ≡ false → (word : Word) → HasWord word
    → spelling word ≢ bits
no_word bits differ word h e =
    let same : spelling (meaning bits) ≡ bits = ap spelling (ap meaning (sym e) ∙ again word h) ∙ e in
    both_ways (spelling (meaning bits) == bits) differ (eq-eqb (spelling (meaning bits)) bits same)

pub no_held : (bits : ℕ) → (HasWord (meaning bits) → ⊥) → (word : Word) → HasWord word → spelling word ≢ bits
no_held bits differ word h e = differ (subst HasWord (sym (ap meaning (sym e) ∙ again word h)) h)
