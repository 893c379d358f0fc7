-- What the tables of words and of commands come to (profile).
use Rattle.std.specs.Prelude.{ℤ, List, [], ◌∷◌, Some, pos}
use Rattle.std.specs.Int.{int_max, int_min}
use Rattle.clap.specs.Words.{App, Rule, new_app, signed_between, with_rule, with_subcommand}
use Rattle.commandline.specs.CommandLine.{flag, listed_option, option, optional, repeated_option, wanted}
use Rattle.commandline.specs.CommandLine.{wanted_option}
use Rattle.commandline.specs.declared.tables.Subcommand.{Subcommand}
use Rattle.commandline.specs.declared.words.Word.{Word}
use Rattle.commandline.specs.declared.words.Word.TheVariants as words

-- the argument, of which each value is a whole number in this range and of at most 32 bits
abbrev pub with_numbers : ℤ → ℤ → Rule → Rule
with_numbers least most rule =
    record rule { parser = Some (signed_between (int_max (pos 0) least) (int_min (pos 4294967295) most)) }

abbrev pub rule_of_word : Word → Rule
rule_of_word (words.Wanted id help) = wanted id.now
rule_of_word (words.Optional id help) = optional id.now
rule_of_word (words.WantedNumber id least most help) = with_numbers least most (wanted id.now)
rule_of_word (words.OptionalNumber id least most help) = with_numbers least most (optional id.now)
rule_of_word (words.Valued id value help) = option id.now
rule_of_word (words.WantedValued id value help) = wanted_option id.now
rule_of_word (words.Repeated id value help) = repeated_option id.now
rule_of_word (words.Listed id value help) = listed_option id.now
rule_of_word (words.Number id value least most help) = with_numbers least most (option id.now)
rule_of_word (words.Flag id help) = flag id.now

-- the command with these words more
unfoldable pub with_words : App → List Word → App
with_words app [] = app
with_words app (word ∷ words) = with_words (with_rule app (rule_of_word word)) words

abbrev pub app_of_command : Subcommand → App
app_of_command command = with_words (new_app command.name.now) command.words.now

-- the line with these commands more
unfoldable pub with_commands : App → List Subcommand → App
with_commands line [] = line
with_commands line (command ∷ commands) =
    with_commands (with_subcommand line (app_of_command command).top) commands
