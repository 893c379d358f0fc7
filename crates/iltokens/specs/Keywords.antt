-- Reserved words, in any letter case (IEC 61131-3, 2.1.2 and 2.1.3; which there are is this project's profile).
use Rattle.std.specs.Prelude.{◌≡◌, ℕ, List, [], ◌∷◌, map, codes}
use Rattle.std.specs.Char.{to_ascii_lowercase}
use Rattle.iltokens.specs.declared.keyword.Keyword.{Keyword}
use Rattle.iltokens.specs.declared.keyword.Keyword.TheVariants as words

-- how each word is spelled
abbrev pub spelling_of : Keyword → List ℕ
-- operators with their modifiers (3.2.2)
spelling_of words.Ld = codes "LD"
spelling_of words.Ldn = codes "LDN"
spelling_of words.St = codes "ST"
spelling_of words.Stn = codes "STN"
spelling_of words.S = codes "S"
spelling_of words.R = codes "R"
spelling_of words.And = codes "AND"
spelling_of words.Andn = codes "ANDN"
spelling_of words.Or = codes "OR"
spelling_of words.Orn = codes "ORN"
spelling_of words.Xor = codes "XOR"
spelling_of words.Xorn = codes "XORN"
spelling_of words.Not = codes "NOT"
spelling_of words.Add = codes "ADD"
spelling_of words.Sub = codes "SUB"
spelling_of words.Mul = codes "MUL"
spelling_of words.Div = codes "DIV"
spelling_of words.Mod = codes "MOD"
spelling_of words.Gt = codes "GT"
spelling_of words.Ge = codes "GE"
spelling_of words.Eq = codes "EQ"
spelling_of words.Ne = codes "NE"
spelling_of words.Le = codes "LE"
spelling_of words.Lt = codes "LT"
spelling_of words.Jmp = codes "JMP"
spelling_of words.Jmpc = codes "JMPC"
spelling_of words.Jmpcn = codes "JMPCN"
spelling_of words.Cal = codes "CAL"
spelling_of words.Calc = codes "CALC"
spelling_of words.Calcn = codes "CALCN"
spelling_of words.Ret = codes "RET"
spelling_of words.Retc = codes "RETC"
spelling_of words.Retcn = codes "RETCN"
-- functions (2.5.1.5)
spelling_of words.Min = codes "MIN"
spelling_of words.Max = codes "MAX"
spelling_of words.Limit = codes "LIMIT"
spelling_of words.Abs = codes "ABS"
-- conversions of integers (2.5.1.5.1)
spelling_of words.SintToInt = codes "SINT_TO_INT"
spelling_of words.SintToDint = codes "SINT_TO_DINT"
spelling_of words.SintToUsint = codes "SINT_TO_USINT"
spelling_of words.SintToUint = codes "SINT_TO_UINT"
spelling_of words.SintToUdint = codes "SINT_TO_UDINT"
spelling_of words.IntToSint = codes "INT_TO_SINT"
spelling_of words.IntToDint = codes "INT_TO_DINT"
spelling_of words.IntToUsint = codes "INT_TO_USINT"
spelling_of words.IntToUint = codes "INT_TO_UINT"
spelling_of words.IntToUdint = codes "INT_TO_UDINT"
spelling_of words.DintToSint = codes "DINT_TO_SINT"
spelling_of words.DintToInt = codes "DINT_TO_INT"
spelling_of words.DintToUsint = codes "DINT_TO_USINT"
spelling_of words.DintToUint = codes "DINT_TO_UINT"
spelling_of words.DintToUdint = codes "DINT_TO_UDINT"
spelling_of words.UsintToSint = codes "USINT_TO_SINT"
spelling_of words.UsintToInt = codes "USINT_TO_INT"
spelling_of words.UsintToDint = codes "USINT_TO_DINT"
spelling_of words.UsintToUint = codes "USINT_TO_UINT"
spelling_of words.UsintToUdint = codes "USINT_TO_UDINT"
spelling_of words.UintToSint = codes "UINT_TO_SINT"
spelling_of words.UintToInt = codes "UINT_TO_INT"
spelling_of words.UintToDint = codes "UINT_TO_DINT"
spelling_of words.UintToUsint = codes "UINT_TO_USINT"
spelling_of words.UintToUdint = codes "UINT_TO_UDINT"
spelling_of words.UdintToSint = codes "UDINT_TO_SINT"
spelling_of words.UdintToInt = codes "UDINT_TO_INT"
spelling_of words.UdintToDint = codes "UDINT_TO_DINT"
spelling_of words.UdintToUsint = codes "UDINT_TO_USINT"
spelling_of words.UdintToUint = codes "UDINT_TO_UINT"
-- types (2.3.1)
spelling_of words.Bool = codes "BOOL"
spelling_of words.Time = codes "TIME"
spelling_of words.Sint = codes "SINT"
spelling_of words.Int = codes "INT"
spelling_of words.Dint = codes "DINT"
spelling_of words.Usint = codes "USINT"
spelling_of words.Uint = codes "UINT"
spelling_of words.Udint = codes "UDINT"
-- blocks (2.5.2.3, and request blocks of the profile)
spelling_of words.RTrig = codes "R_TRIG"
spelling_of words.Ctu = codes "CTU"
spelling_of words.Ton = codes "TON"
spelling_of words.GearLevel = codes "GEAR_LEVEL"
spelling_of words.GearDo = codes "GEAR_DO"
spelling_of words.GearSet = codes "GEAR_SET"
spelling_of words.GearPair = codes "GEAR_PAIR"
spelling_of words.GearAsk = codes "GEAR_ASK"
spelling_of words.GearRead = codes "GEAR_READ"
spelling_of words.DevDo = codes "DEV_DO"
spelling_of words.DevScheme = codes "DEV_SCHEME"
spelling_of words.DevAsk = codes "DEV_ASK"
-- words of constants, declarations and configurations
spelling_of words.True = codes "TRUE"
spelling_of words.False = codes "FALSE"
spelling_of words.Type = codes "TYPE"
spelling_of words.EndType = codes "END_TYPE"
spelling_of words.Function = codes "FUNCTION"
spelling_of words.EndFunction = codes "END_FUNCTION"
spelling_of words.Program = codes "PROGRAM"
spelling_of words.EndProgram = codes "END_PROGRAM"
spelling_of words.Var = codes "VAR"
spelling_of words.EndVar = codes "END_VAR"
spelling_of words.VarInput = codes "VAR_INPUT"
spelling_of words.VarExternal = codes "VAR_EXTERNAL"
spelling_of words.VarGlobal = codes "VAR_GLOBAL"
spelling_of words.Configuration = codes "CONFIGURATION"
spelling_of words.EndConfiguration = codes "END_CONFIGURATION"
spelling_of words.Resource = codes "RESOURCE"
spelling_of words.EndResource = codes "END_RESOURCE"
spelling_of words.On = codes "ON"
spelling_of words.At = codes "AT"
spelling_of words.Task = codes "TASK"
spelling_of words.Single = codes "SINGLE"
spelling_of words.Interval = codes "INTERVAL"
spelling_of words.Priority = codes "PRIORITY"
spelling_of words.With = codes "WITH"

-- all words, in that order
unfoldable pub keywords : List Keyword
keywords =
    words.Ld ∷ words.Ldn ∷ words.St ∷ words.Stn ∷ words.S ∷ words.R ∷ words.And ∷ words.Andn ∷ words.Or ∷ words.Orn ∷
    words.Xor ∷ words.Xorn ∷ words.Not ∷ words.Add ∷ words.Sub ∷ words.Mul ∷ words.Div ∷ words.Mod ∷ words.Gt ∷
    words.Ge ∷ words.Eq ∷ words.Ne ∷ words.Le ∷ words.Lt ∷ words.Jmp ∷ words.Jmpc ∷ words.Jmpcn ∷ words.Cal ∷
    words.Calc ∷ words.Calcn ∷ words.Ret ∷ words.Retc ∷ words.Retcn ∷
    words.Min ∷ words.Max ∷ words.Limit ∷ words.Abs ∷
    words.SintToInt ∷ words.SintToDint ∷ words.SintToUsint ∷ words.SintToUint ∷ words.SintToUdint ∷ words.IntToSint ∷
    words.IntToDint ∷ words.IntToUsint ∷ words.IntToUint ∷ words.IntToUdint ∷ words.DintToSint ∷ words.DintToInt ∷
    words.DintToUsint ∷ words.DintToUint ∷ words.DintToUdint ∷ words.UsintToSint ∷ words.UsintToInt ∷
    words.UsintToDint ∷ words.UsintToUint ∷ words.UsintToUdint ∷ words.UintToSint ∷ words.UintToInt ∷
    words.UintToDint ∷ words.UintToUsint ∷ words.UintToUdint ∷ words.UdintToSint ∷ words.UdintToInt ∷
    words.UdintToDint ∷ words.UdintToUsint ∷ words.UdintToUint ∷
    words.Bool ∷ words.Time ∷ words.Sint ∷ words.Int ∷ words.Dint ∷ words.Usint ∷ words.Uint ∷ words.Udint ∷
    words.RTrig ∷ words.Ctu ∷ words.Ton ∷ words.GearLevel ∷ words.GearDo ∷ words.GearSet ∷ words.GearPair ∷
    words.GearAsk ∷ words.GearRead ∷ words.DevDo ∷ words.DevScheme ∷ words.DevAsk ∷
    words.True ∷ words.False ∷ words.Type ∷ words.EndType ∷ words.Function ∷ words.EndFunction ∷ words.Program ∷
    words.EndProgram ∷ words.Var ∷ words.EndVar ∷ words.VarInput ∷ words.VarExternal ∷ words.VarGlobal ∷
    words.Configuration ∷ words.EndConfiguration ∷ words.Resource ∷ words.EndResource ∷ words.On ∷ words.At ∷
    words.Task ∷ words.Single ∷ words.Interval ∷ words.Priority ∷ words.With ∷
    []

-- the text is the word's spelling, in any letter case
unfoldable pub IsSpelled : List ℕ → Keyword → Type 0
IsSpelled text word = map to_ascii_lowercase text ≡ map to_ascii_lowercase (spelling_of word)
