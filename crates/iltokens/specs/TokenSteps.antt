-- The next token of a text, as the private functions read it.
use Rattle.std.specs.Prelude.{ℕ, ◌-◌, List, length, drop, Result, Ok, Err}
use Rattle.iltokens.specs.declared.lexed.Lexed.{Lexed}
use Rattle.iltokens.specs.declared.lexed.Lexed.TheVariants as lexed
use Rattle.iltokens.specs.declared.lexed.LexicalCause.TheVariants.{CommentOpen}
use Rattle.iltokens.specs.BlankSteps.{blanks}
use Rattle.iltokens.specs.FrontSteps.{Front, end, taken, fault, front_at}

-- places are known by how much is left
abbrev pub lexed_front : ℕ → List ℕ → Front → Lexed
lexed_front total rest end = lexed.End
lexed_front total rest (taken what after) = lexed.Token what (total - length rest) (total - length after)
lexed_front total rest (fault cause) = lexed.Fault cause (total - length rest)

abbrev pub lexed_blanks : ℕ → Result (List ℕ) (List ℕ) → Lexed
lexed_blanks total (Ok rest) = lexed_front total rest (front_at rest)
lexed_blanks total (Err rest) = lexed.Fault CommentOpen (total - length rest)

-- what stands after the blanks and comments at a place
unfoldable pub token_at : List ℕ → ℕ → Lexed
token_at bytes at = lexed_blanks (length bytes) (blanks (drop at bytes))
