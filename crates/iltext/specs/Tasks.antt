-- Declarations of tasks and of program instances (IEC 61131-3, 2.7.2, with this project's profile), as items over
-- tokens.
use Rattle.std.specs.Prelude.{ℕ, ℤ, List, Option, Some, None}
use Rattle.iltokens.specs.Items.{Item, one, map, seq, lead, opt, many}
use Rattle.ilsource.specs.declared.configuration.InstanceDeclaration.{InstanceDeclaration}
use Rattle.ilsource.specs.declared.configuration.TaskDeclaration.{TaskDeclaration}
use Rattle.ilsource.specs.declared.name.Name.{Name}
use Rattle.iltokens.specs.declared.keyword.Keyword.TheVariants as words
use Rattle.iltokens.specs.declared.lexed.Delimiter.TheVariants as delimiters
use Rattle.iltokens.specs.declared.lexed.What.TheVariants as whats
use Rattle.iltext.specs.declared.token.TokenKind.{TokenKind}
use Rattle.iltext.specs.declared.token.TokenKind.TheVariants as kinds
use Rattle.iltext.specs.declared.token.Token.{Token}
use Rattle.iltext.specs.Terminals.{word, delimiter, name, number, spaced}

-- ---- tasks

abbrev pub duration_at : TokenKind → Option ℕ
duration_at (kinds.Good (whats.Time n)) = Some n
duration_at _ = None

-- a duration, in milliseconds
unfoldable pub duration : Item Token ℕ
duration = one (λ t. duration_at t.kind)

-- SINGLE ":=" name ","
unfoldable pub single : Item Token Name
single = map (λ x. x.1.1.0)
    (seq (spaced (word words.Single)) (seq (spaced (delimiter delimiters.Assign))
    (seq (spaced name) (spaced (delimiter delimiters.Comma)))))

-- INTERVAL ":=" duration ","
unfoldable pub interval : Item Token ℕ
interval = map (λ x. x.1.1.0)
    (seq (spaced (word words.Interval)) (seq (spaced (delimiter delimiters.Assign))
    (seq (spaced duration) (spaced (delimiter delimiters.Comma)))))

-- PRIORITY ":=" number
unfoldable pub priority : Item Token ℤ
priority = map (λ x. x.1.1)
    (seq (spaced (word words.Priority)) (seq (spaced (delimiter delimiters.Assign)) (spaced number)))

-- [single] [interval] priority
unfoldable pub inputs : Item Token (Option Name × (Option ℕ × ℤ))
inputs = lead (opt single) (lead (opt interval) priority)

-- TASK name "(" inputs ")" ";"
unfoldable pub task : Item Token TaskDeclaration
task =
    map (λ x. record { name = x.1.0; single = x.1.1.1.0.0; interval = x.1.1.1.0.1.0; priority = x.1.1.1.0.1.1 })
    (seq (spaced (word words.Task)) (seq (spaced name) (seq (spaced (delimiter delimiters.Open))
    (seq inputs (seq (spaced (delimiter delimiters.Close)) (spaced (delimiter delimiters.Semicolon)))))))

unfoldable pub tasks : Item Token (List TaskDeclaration)
tasks = many task

-- ---- program instances

-- WITH name
unfoldable pub with_task : Item Token Name
with_task = map (λ x. x.1) (seq (spaced (word words.With)) (spaced name))

-- PROGRAM name [with_task] ":" name ";"
unfoldable pub program_instance : Item Token InstanceDeclaration
program_instance = map (λ x. record { name = x.1.0; task = x.1.1.0; program = x.1.1.1.1.0 })
    (seq (spaced (word words.Program)) (seq (spaced name) (lead (opt with_task)
    (seq (spaced (delimiter delimiters.Colon)) (seq (spaced name) (spaced (delimiter delimiters.Semicolon)))))))

unfoldable pub program_instances : Item Token (List InstanceDeclaration)
program_instances = many program_instance
