-- What stands in a function before its lines has no operator that may be deferred.
use Rattle.std.proofs.Common.{◌≡◌, ℕ, false, Some, refl}
use Rattle.iltokens.specs.declared.keyword.Keyword.TheVariants as words
use Rattle.iltokens.specs.declared.lexed.Delimiter.TheVariants as delimiters
use Rattle.iltokens.specs.declared.lexed.What.TheVariants as whats
use Rattle.iltext.specs.declared.token.TokenKind.{TokenKind}
use Rattle.iltext.specs.declared.token.TokenKind.TheVariants as kinds
use Rattle.iltext.specs.Roles.{role_of_word}
use Rattle.iltext.specs.Faults.{defers}
use Rattle.iltext.specs.Functions.{input, inputs, var_input, function_at, function_word, head, own_variables}
use Rattle.iltext.proofs.Tokens.{Holds, Holds-one, Holds-map, Holds-seq, Holds-lead, Holds-opt, Holds-many}
use Rattle.iltext.proofs.Free.{Free, Free-spaced}
use Rattle.iltext.proofs.Declared.{spaced_word, spaced_delimiter, spaced_name, Free-specification, Free-names}
use Rattle.iltext.proofs.Declared.{Free-vars}

Free-input : Holds Free input
unfolding input
Free-input =
    Holds-map Free _ (Holds-seq Free Free-names (Holds-seq Free (spaced_delimiter delimiters.Colon refl)
    (Holds-seq Free Free-specification (spaced_delimiter delimiters.Semicolon refl))))

pub Free-var_input : Holds Free var_input
unfolding var_input inputs role_of_word
Free-var_input =
    Holds-map Free _ (Holds-seq Free (spaced_word words.VarInput refl)
    (Holds-lead Free (Holds-many Free Free-input) (spaced_word words.EndVar refl)))

free_function : (k : TokenKind) (at x : ℕ) → function_at k at ≡ Some x → defers k ≡ false
unfolding role_of_word
free_function (kinds.Good (whats.Keyword words.Function)) at x e = refl
free_function _ at x e = absurd cc

Free-function_word : Holds Free function_word
unfolding function_word
Free-function_word = Holds-one Free _ (λ t x e. free_function t.kind t.from x e)

pub Free-head : Holds Free head
unfolding head
Free-head =
    Holds-map Free _ (Holds-seq Free (Free-spaced Free-function_word) (Holds-seq Free spaced_name
    (Holds-seq Free (spaced_delimiter delimiters.Colon refl) Free-specification)))

pub Free-own_variables : Holds Free own_variables
unfolding own_variables
Free-own_variables = Holds-map Free _ (Holds-opt Free Free-vars)
