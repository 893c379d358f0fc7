-- What operators do, by their words (IEC 61131-3, 3.2.2 and 2.5.1.5).
use Rattle.std.specs.Prelude.{ℕ, Bool, true, false, if◌then◌else◌, Option, Some, None}
use Rattle.std.specs.Option.{option_map, option_and_then}
use Rattle.iltokens.specs.Items.{is_in}
use Rattle.iltypes.specs.declared.condition.Condition.TheVariants as conditions
use Rattle.iltypes.specs.declared.function.Function.TheVariants as functions
use Rattle.iltypes.specs.declared.function.IntegerType.{IntegerType}
use Rattle.iltypes.specs.declared.function.IntegerType.TheVariants as types
use Rattle.iltypes.specs.declared.operator.Operator.TheVariants as operators
use Rattle.iltokens.specs.declared.keyword.Keyword.{Keyword}
use Rattle.iltokens.specs.declared.keyword.Keyword.TheVariants as words
use Rattle.iltokens.specs.declared.lexed.Delimiter.TheVariants as delimiters
use Rattle.iltokens.specs.declared.lexed.What.TheVariants as whats
use Rattle.iltext.specs.declared.token.TokenKind.{TokenKind}
use Rattle.iltext.specs.declared.token.TokenKind.TheVariants as kinds
use Rattle.iltext.specs.declared.token.Token.{Token}
use Rattle.iltext.specs.declared.roles.OperatorRole.{OperatorRole}
use Rattle.iltext.specs.declared.roles.OperatorRole.TheVariants as roles

-- the type that a conversion of integers gives (2.5.1.5.1)
abbrev pub converts_to : Keyword → Option IntegerType
converts_to words.SintToInt = Some types.Int
converts_to words.SintToDint = Some types.Dint
converts_to words.SintToUsint = Some types.Usint
converts_to words.SintToUint = Some types.Uint
converts_to words.SintToUdint = Some types.Udint
converts_to words.IntToSint = Some types.Sint
converts_to words.IntToDint = Some types.Dint
converts_to words.IntToUsint = Some types.Usint
converts_to words.IntToUint = Some types.Uint
converts_to words.IntToUdint = Some types.Udint
converts_to words.DintToSint = Some types.Sint
converts_to words.DintToInt = Some types.Int
converts_to words.DintToUsint = Some types.Usint
converts_to words.DintToUint = Some types.Uint
converts_to words.DintToUdint = Some types.Udint
converts_to words.UsintToSint = Some types.Sint
converts_to words.UsintToInt = Some types.Int
converts_to words.UsintToDint = Some types.Dint
converts_to words.UsintToUint = Some types.Uint
converts_to words.UsintToUdint = Some types.Udint
converts_to words.UintToSint = Some types.Sint
converts_to words.UintToInt = Some types.Int
converts_to words.UintToDint = Some types.Dint
converts_to words.UintToUsint = Some types.Usint
converts_to words.UintToUdint = Some types.Udint
converts_to words.UdintToSint = Some types.Sint
converts_to words.UdintToInt = Some types.Int
converts_to words.UdintToDint = Some types.Dint
converts_to words.UdintToUsint = Some types.Usint
converts_to words.UdintToUint = Some types.Uint
converts_to _ = None

-- what a word does as an operator
unfoldable pub role_of_word : Keyword → Option OperatorRole
-- loads and stores, with the modifier N
role_of_word words.Ld = Some (roles.Load false)
role_of_word words.Ldn = Some (roles.Load true)
role_of_word words.St = Some (roles.Store false)
role_of_word words.Stn = Some (roles.Store true)
role_of_word words.S = Some roles.Set
role_of_word words.R = Some roles.Reset
-- jumps and returns, with the modifiers C and CN
role_of_word words.Jmp = Some (roles.Jump conditions.Always)
role_of_word words.Jmpc = Some (roles.Jump conditions.IfTrue)
role_of_word words.Jmpcn = Some (roles.Jump conditions.IfFalse)
role_of_word words.Ret = Some (roles.Return conditions.Always)
role_of_word words.Retc = Some (roles.Return conditions.IfTrue)
role_of_word words.Retcn = Some (roles.Return conditions.IfFalse)
-- calls, with the modifiers C and CN
role_of_word words.Cal = Some (roles.Call conditions.Always)
role_of_word words.Calc = Some (roles.Call conditions.IfTrue)
role_of_word words.Calcn = Some (roles.Call conditions.IfFalse)
-- truth values
role_of_word words.And = Some (roles.Apply (operators.And false))
role_of_word words.Andn = Some (roles.Apply (operators.And true))
role_of_word words.Or = Some (roles.Apply (operators.Or false))
role_of_word words.Orn = Some (roles.Apply (operators.Or true))
role_of_word words.Xor = Some (roles.Apply (operators.Xor false))
role_of_word words.Xorn = Some (roles.Apply (operators.Xor true))
role_of_word words.Not = Some (roles.Transform functions.Not)
-- numbers
role_of_word words.Add = Some (roles.Apply operators.Add)
role_of_word words.Sub = Some (roles.Apply operators.Sub)
role_of_word words.Mul = Some (roles.Apply operators.Mul)
role_of_word words.Div = Some (roles.Apply operators.Div)
role_of_word words.Mod = Some (roles.Apply operators.Mod)
-- comparisons
role_of_word words.Gt = Some (roles.Apply operators.Gt)
role_of_word words.Ge = Some (roles.Apply operators.Ge)
role_of_word words.Eq = Some (roles.Apply operators.Eq)
role_of_word words.Ne = Some (roles.Apply operators.Ne)
role_of_word words.Le = Some (roles.Apply operators.Le)
role_of_word words.Lt = Some (roles.Apply operators.Lt)
-- functions
role_of_word words.Min = Some (roles.Apply operators.Min)
role_of_word words.Max = Some (roles.Apply operators.Max)
role_of_word words.Limit = Some roles.Limit
role_of_word words.Abs = Some (roles.Transform functions.Abs)
-- conversions, and no other word
role_of_word word = option_map (λ type. roles.Transform (functions.Convert type)) (converts_to word)

-- what a token does as an operator: `&` and `&N` are AND and ANDN
abbrev pub role_of : TokenKind → Option OperatorRole
role_of (kinds.Good (whats.Keyword word)) = role_of_word word
role_of (kinds.Good (whats.Delimiter delimiters.Ampersand)) = role_of_word words.And
role_of (kinds.Good (whats.Delimiter delimiters.AmpersandNot)) = role_of_word words.Andn
role_of _ = None

-- whether it may stand in parentheses: all that leaves a value, and nothing that writes, leads elsewhere or calls
abbrev pub may_nest : OperatorRole → Bool
may_nest (roles.Store negated) = false
may_nest roles.Set = false
may_nest roles.Reset = false
may_nest (roles.Jump condition) = false
may_nest (roles.Return condition) = false
may_nest (roles.Call condition) = false
may_nest _ = true

abbrev pub nesting : OperatorRole → Option OperatorRole
nesting role = if may_nest role then Some role else None

-- what a token does as an operator in parentheses
abbrev pub inner_role_of : TokenKind → Option OperatorRole
inner_role_of kind = option_and_then nesting (role_of kind)

-- whether a reserved word may stand in parentheses by itself: those operators, TRUE and FALSE. R, which may stand there
-- as the name of a port, is counted as the operator
abbrev pub is_inner : Keyword → Bool
is_inner words.True = true
is_inner words.False = true
is_inner word = is_in (option_and_then nesting (role_of_word word))

-- with its place
abbrev pub role_at : Token → Option (OperatorRole × ℕ)
role_at t = option_map (λ role. (role, t.from)) (role_of t.kind)

abbrev pub inner_role_at : Token → Option (OperatorRole × ℕ)
inner_role_at t = option_map (λ role. (role, t.from)) (inner_role_of t.kind)
