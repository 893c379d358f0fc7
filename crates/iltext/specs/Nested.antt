-- Inside how many parentheses of deferred operators a front of a text ends (IEC 61131-3, 3.2.2), by the grammar of
-- texts and of lines alone.
use Rattle.std.specs.Prelude.{◌≡◌, ℕ, zero, suc, ◌+◌, true, List, [], ◌∷◌, ◌++◌, Some}
use Rattle.limits.specs.Limits.{most_nesting}
use Rattle.iltypes.specs.declared.operator.Operator.{Operator}
use Rattle.iltypes.specs.Operators.{may_defer}
use Rattle.iltokens.specs.declared.lexed.Delimiter.TheVariants as delimiters
use Rattle.iltokens.specs.declared.lexed.What.TheVariants as whats
use Rattle.iltext.specs.declared.roles.OperatorRole.TheVariants as roles
use Rattle.iltext.specs.declared.token.TokenKind.TheVariants as kinds
use Rattle.iltext.specs.declared.token.Token.{Token}
use Rattle.iltext.specs.Instructions.{content}
use Rattle.iltext.specs.Roles.{role_of}
use Rattle.iltext.specs.Texts.{text}

-- A parenthesis is open where the tokens end: it stands right after an operator that may be deferred, and all that
-- stands after it is a front of its content, in which so many more may be open.
pub record IsOpen (tokens : List Token) : Type 0 where
  pub before : List Token
  pub operator : Token
  pub parenthesis : Token
  pub after : List Token
  pub same : tokens ≡ before ++ operator ∷ parenthesis ∷ after
  pub applied : Operator
  pub applies : role_of operator.kind ≡ Some (roles.Apply applied)
  pub deferrable : may_defer applied ≡ true
  pub opens : parenthesis.kind ≡ kinds.Good (whats.Delimiter delimiters.Open)
  pub more : ℕ
  pub inside : (content more operator.from).part after

-- Inside how many parentheses a front of a text ends. Inside none: none is open in it. Inside one more: the tokens up
-- to the operator of the last open parenthesis are a front that ends inside so many, none is open after that
-- parenthesis, and in it as many more may be open as are left of 32.
abbrev pub IsInside : ℕ → List Token → Type 0
IsInside zero front = text.part front × ¬ IsOpen front
IsInside (suc depth) front =
    (last : IsOpen front) × (last.more + suc depth ≡ most_nesting)
    × IsInside depth (last.before ++ last.operator ∷ []) × ¬ IsOpen last.after

-- the token goes on after the front, as a front of a text
abbrev pub GoesOn : List Token → Token → Type 0
GoesOn front next = text.part (front ++ next ∷ [])
