-- The numbers of faults (profile).
use Rattle.std.specs.Prelude.{ℕ}
use Rattle.iltokens.specs.declared.lexed.LexicalCause.{LexicalCause}
use Rattle.iltokens.specs.declared.lexed.LexicalCause.TheVariants.{NotAscii, BadToken, BadNumber, CommentOpen}

abbrev pub lexical_fault_number : LexicalCause → ℕ
lexical_fault_number NotAscii = 2
lexical_fault_number BadToken = 3
lexical_fault_number BadNumber = 5
lexical_fault_number CommentOpen = 8
