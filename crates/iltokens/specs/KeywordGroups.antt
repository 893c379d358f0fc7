-- Groups of reserved words (IEC 61131-3, table 52, 2.5 and 2.3; the groups are this project's).
use Rattle.iltokens.specs.declared.keyword.Keyword.{Keyword}
use Rattle.iltokens.specs.declared.keyword.Keyword.TheVariants as words
use Rattle.iltokens.specs.declared.keyword_group.KeywordGroup.{KeywordGroup}
use Rattle.iltokens.specs.declared.keyword_group.KeywordGroup.TheVariants as groups

-- the group of each word
abbrev pub group_of : Keyword → KeywordGroup
-- operators with their modifiers (3.2.2)
group_of words.Ld = groups.Load
group_of words.Ldn = groups.Load
group_of words.St = groups.Store
group_of words.Stn = groups.Store
group_of words.S = groups.Store
group_of words.R = groups.Store
group_of words.And = groups.Logic
group_of words.Andn = groups.Logic
group_of words.Or = groups.Logic
group_of words.Orn = groups.Logic
group_of words.Xor = groups.Logic
group_of words.Xorn = groups.Logic
group_of words.Not = groups.Complement
group_of words.Add = groups.Arithmetic
group_of words.Sub = groups.Arithmetic
group_of words.Mul = groups.Arithmetic
group_of words.Div = groups.Arithmetic
group_of words.Mod = groups.Arithmetic
group_of words.Gt = groups.Comparison
group_of words.Ge = groups.Comparison
group_of words.Eq = groups.Comparison
group_of words.Ne = groups.Comparison
group_of words.Le = groups.Comparison
group_of words.Lt = groups.Comparison
group_of words.Jmp = groups.Jump
group_of words.Jmpc = groups.Jump
group_of words.Jmpcn = groups.Jump
group_of words.Cal = groups.Call
group_of words.Calc = groups.Call
group_of words.Calcn = groups.Call
group_of words.Ret = groups.Return
group_of words.Retc = groups.Return
group_of words.Retcn = groups.Return
-- functions (2.5.1.5)
group_of words.Min = groups.Extremum
group_of words.Max = groups.Extremum
group_of words.Limit = groups.Limitation
group_of words.Abs = groups.Magnitude
-- conversions of integers (2.5.1.5.1)
group_of words.SintToInt = groups.Conversion
group_of words.SintToDint = groups.Conversion
group_of words.SintToUsint = groups.Conversion
group_of words.SintToUint = groups.Conversion
group_of words.SintToUdint = groups.Conversion
group_of words.IntToSint = groups.Conversion
group_of words.IntToDint = groups.Conversion
group_of words.IntToUsint = groups.Conversion
group_of words.IntToUint = groups.Conversion
group_of words.IntToUdint = groups.Conversion
group_of words.DintToSint = groups.Conversion
group_of words.DintToInt = groups.Conversion
group_of words.DintToUsint = groups.Conversion
group_of words.DintToUint = groups.Conversion
group_of words.DintToUdint = groups.Conversion
group_of words.UsintToSint = groups.Conversion
group_of words.UsintToInt = groups.Conversion
group_of words.UsintToDint = groups.Conversion
group_of words.UsintToUint = groups.Conversion
group_of words.UsintToUdint = groups.Conversion
group_of words.UintToSint = groups.Conversion
group_of words.UintToInt = groups.Conversion
group_of words.UintToDint = groups.Conversion
group_of words.UintToUsint = groups.Conversion
group_of words.UintToUdint = groups.Conversion
group_of words.UdintToSint = groups.Conversion
group_of words.UdintToInt = groups.Conversion
group_of words.UdintToDint = groups.Conversion
group_of words.UdintToUsint = groups.Conversion
group_of words.UdintToUint = groups.Conversion
-- types (2.3.1)
group_of words.Bool = groups.ElementaryType
group_of words.Time = groups.ElementaryType
group_of words.Sint = groups.IntegerType
group_of words.Int = groups.IntegerType
group_of words.Dint = groups.IntegerType
group_of words.Usint = groups.IntegerType
group_of words.Uint = groups.IntegerType
group_of words.Udint = groups.IntegerType
-- blocks (2.5.2.3, and request blocks of the profile)
group_of words.RTrig = groups.StandardBlock
group_of words.Ctu = groups.StandardBlock
group_of words.Ton = groups.StandardBlock
group_of words.GearLevel = groups.RequestBlock
group_of words.GearDo = groups.RequestBlock
group_of words.GearSet = groups.RequestBlock
group_of words.GearPair = groups.RequestBlock
group_of words.GearAsk = groups.RequestBlock
group_of words.GearRead = groups.RequestBlock
group_of words.DevDo = groups.RequestBlock
group_of words.DevScheme = groups.RequestBlock
group_of words.DevAsk = groups.RequestBlock
-- words of constants, declarations and configurations
group_of words.True = groups.Truth
group_of words.False = groups.Truth
group_of words.Type = groups.Declaration
group_of words.EndType = groups.Declaration
group_of words.Function = groups.Declaration
group_of words.EndFunction = groups.Declaration
group_of words.Program = groups.Declaration
group_of words.EndProgram = groups.Declaration
group_of words.Var = groups.Declaration
group_of words.EndVar = groups.Declaration
group_of words.VarInput = groups.Declaration
group_of words.VarExternal = groups.Declaration
group_of words.VarGlobal = groups.Declaration
group_of words.Configuration = groups.Declaration
group_of words.EndConfiguration = groups.Declaration
group_of words.Resource = groups.Declaration
group_of words.EndResource = groups.Declaration
group_of words.On = groups.Declaration
group_of words.At = groups.Declaration
group_of words.Task = groups.Declaration
group_of words.Single = groups.Declaration
group_of words.Interval = groups.Declaration
group_of words.Priority = groups.Declaration
group_of words.With = groups.Declaration
