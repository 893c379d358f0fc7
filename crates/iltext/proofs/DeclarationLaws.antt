-- The items of declarations are lawful.
use Rattle.std.proofs.Common.{◌≡◌, ◌||◌, ℕ, ℤ, true, false, List, Option, refl}
use Rattle.std.proofs.lemmas.Bool.{false≢true}
use Rattle.iltypes.specs.declared.function.IntegerType.{IntegerType}
use Rattle.iltypes.specs.declared.function.IntegerType.TheVariants as integers
use Rattle.ilblocks.specs.declared.kind.BlockKind.{BlockKind}
use Rattle.ilblocks.specs.declared.kind.BlockKind.TheVariants as blocks
use Rattle.iltokens.specs.Items.{lead, is_in}
use Rattle.iltokens.proofs.Laws.{Lawful, Lawful-map}
use Rattle.iltokens.proofs.Firm.{Firm, Firm-one, Firm-map, Firm-seq, Firm-seq_open, Firm-lead, Firm-alt, Firm-fewer}
use Rattle.iltokens.proofs.Firm.{Firm-select, from_opt, from_many}
use Rattle.ilsource.specs.declared.name.Name.{Name}
use Rattle.ilsource.specs.declared.declaration.Constant.{Constant}
use Rattle.ilsource.specs.declared.declaration.Specification.{Specification}
use Rattle.ilsource.specs.declared.declaration.Specification.TheVariants as specifications
use Rattle.ilsource.specs.declared.declaration.Declared.{Declared}
use Rattle.ilsource.specs.declared.declaration.TypeDeclaration.{TypeDeclaration}
use Rattle.ilsource.specs.Programs.{DeclaredNames}
use Rattle.iltokens.specs.declared.keyword.Keyword.{Keyword}
use Rattle.iltokens.specs.declared.keyword.Keyword.TheVariants as words
use Rattle.iltokens.specs.declared.lexed.Delimiter.TheVariants as delimiters
use Rattle.iltokens.specs.declared.lexed.What.TheVariants as whats
use Rattle.iltext.specs.declared.token.TokenKind.{TokenKind}
use Rattle.iltext.specs.declared.token.TokenKind.TheVariants as kinds
use Rattle.iltext.specs.declared.token.Token.{Token}
use Rattle.iltext.specs.Terminals.{word, delimiter, name, spaced}
use Rattle.iltext.proofs.Delimiters.{Anything, token_of, Firm-word, Firm-delimiter, apart_word, apart_delimiter}
use Rattle.iltext.proofs.Ends.{NoEnd, NoComma, NoOpen, Firm-name, Firm-number, Firm-constant, Firm-spaced}
use Rattle.iltext.proofs.Ends.{word_no_end, delimiter_no_end, name_no_end, number_no_end, constant_no_end}
use Rattle.iltext.specs.Declarations.{integer_word, integer, simple_word, simple, interval, range, specification}
use Rattle.iltext.specs.Declarations.{initial, typing, type_declaration, block_of_word, block, instances, declared}
use Rattle.iltext.specs.Declarations.{next_name, more_names, names_after, names, declaration, declarations, vars}
use Rattle.iltext.specs.Declarations.{external, externals, var_external, variables}

-- ---- what may not follow

abbrev NoAssign : Token → Type 0
NoAssign t = (delimiter delimiters.Assign).starts t ≡ false

abbrev pub NoName : Token → Type 0
NoName t = name.starts t ≡ false

-- ---- types

Firm-integer : Firm Token IntegerType integer Anything
unfolding integer
Firm-integer = Firm-one _ (token_of (kinds.Good (whats.Keyword words.Int)) 0 0) integers.Int refl

Firm-simple : Firm Token Specification simple Anything
unfolding simple
Firm-simple = Firm-one _ (token_of (kinds.Good (whats.Keyword words.Bool)) 0 0) specifications.Bool refl

Firm-interval : Firm Token (ℤ × ℤ) interval NoEnd
unfolding interval
Firm-interval = Firm-map _ (Firm-seq (Firm-spaced (Firm-delimiter delimiters.Open))
    (λ t e. number_no_end t.kind t.from t.to e)
    (Firm-seq (Firm-spaced Firm-number) (λ t e. delimiter_no_end delimiters.Range refl t e)
    (Firm-seq (Firm-spaced (Firm-delimiter delimiters.Range)) (λ t e. number_no_end t.kind t.from t.to e)
    (Firm-seq (Firm-spaced Firm-number) (λ t e. delimiter_no_end delimiters.Close refl t e)
    (Firm-spaced (Firm-delimiter delimiters.Close))))))

Firm-range : Firm Token Specification range (λ t. NoEnd t × NoOpen t)
unfolding range interval
Firm-range = Firm-map _ (Firm-fewer (λ t. NoEnd t × NoOpen t) (λ t e. (e.0, e))
    (Firm-seq_open (Firm-spaced Firm-integer) (λ t e. delimiter_no_end delimiters.Open refl t e)
    (from_opt Firm-interval)))

integer_apart : (w : Keyword) → is_in (integer_word w) ≡ true → is_in (simple_word w) ≡ false
integer_apart words.Bool e = absurd (false≢true e)
integer_apart words.Time e = absurd (false≢true e)
integer_apart _ e = refl

range_apart : (k : TokenKind) (f g : ℕ) → range.starts (token_of k f g) ≡ true
    → (spaced simple).starts (token_of k f g) ≡ false
unfolding range integer simple
range_apart (kinds.Good (whats.Keyword w)) f g e = integer_apart w e
range_apart _ f g e = absurd (false≢true e)

pub Firm-specification : Firm Token Specification specification (λ t. NoEnd t × NoOpen t)
unfolding specification
Firm-specification = Firm-fewer (λ t. NoEnd t × NoOpen t) (λ t e. (e.0, e))
    (Firm-alt (Firm-spaced Firm-simple) (λ t e. range_apart t.kind t.from t.to e) Firm-range)

pub specification_no_end : (k : TokenKind) (f g : ℕ) → specification.starts (token_of k f g) ≡ true
    → NoEnd (token_of k f g)
unfolding specification range integer simple delimiter
specification_no_end (kinds.Good (whats.Delimiter m)) f g e = absurd (false≢true e)
specification_no_end _ f g e = refl

Lawful-initial : Lawful Token (Option Constant) initial (λ t. NoEnd t × NoAssign t)
unfolding initial
Lawful-initial = from_opt (Firm-map _
    (Firm-seq (Firm-spaced (Firm-delimiter delimiters.Assign)) (λ t e. constant_no_end t.kind t.from t.to e)
    (Firm-spaced Firm-constant)))

semicolon_apart : (t : Token) → (delimiter delimiters.Semicolon).starts t ≡ true → NoEnd t × NoAssign t
unfolding delimiter
semicolon_apart t e = (
  delimiter_no_end delimiters.Semicolon refl t e,
  apart_delimiter delimiters.Semicolon (delimiter delimiters.Assign).starts (λ f g. refl) t.kind t.from t.to e,
)

begins_value : (k : TokenKind) (f g : ℕ)
    → (lead initial (spaced (delimiter delimiters.Semicolon))).starts (token_of k f g)
    ≡ true
    → NoEnd (token_of k f g) × NoOpen (token_of k f g)
unfolding initial delimiter
begins_value (kinds.Good (whats.Delimiter delimiters.LineEnd)) f g e = absurd (false≢true e)
begins_value (kinds.Good (whats.Delimiter delimiters.Open)) f g e = absurd (false≢true e)
begins_value _ f g e = (refl, refl)

pub Firm-typing : Firm Token (Specification × Option Constant) typing NoEnd
unfolding typing
Firm-typing = Firm-map _ (Firm-seq Firm-specification (λ t e. begins_value t.kind t.from t.to e)
    (Firm-lead Lawful-initial (λ t e. semicolon_apart t e) (Firm-spaced (Firm-delimiter delimiters.Semicolon))))

pub colon_apart : (t : Token) → (delimiter delimiters.Colon).starts t ≡ true → NoEnd t × NoComma t
unfolding delimiter
colon_apart t e = (
  delimiter_no_end delimiters.Colon refl t e,
  apart_delimiter delimiters.Colon (delimiter delimiters.Comma).starts (λ f g. refl) t.kind t.from t.to e,
)

pub Firm-type_declaration : Firm Token TypeDeclaration type_declaration NoEnd
unfolding type_declaration typing
Firm-type_declaration = Firm-map _ (Firm-seq (Firm-spaced Firm-name) (λ t e. (colon_apart t e).0)
    (Firm-seq (Firm-spaced (Firm-delimiter delimiters.Colon))
    (λ t e. specification_no_end t.kind t.from t.to e) Firm-typing))

-- ---- variables and block instances

pub Firm-next_name : Firm Token Name next_name NoEnd
unfolding next_name
Firm-next_name = Firm-map _ (Firm-seq (Firm-spaced (Firm-delimiter delimiters.Comma))
    (λ t e. name_no_end t.kind t.from t.to e)
    (Firm-spaced Firm-name))

Lawful-more_names : Lawful Token (List Name) more_names (λ t. NoEnd t × NoComma t)
unfolding more_names next_name
Lawful-more_names = from_many (λ t e. delimiter_no_end delimiters.Comma refl t e) Firm-next_name

pub Lawful-names_after : (first : Name) → Lawful Token (List Name) (names_after first) (λ t. NoEnd t × NoComma t)
unfolding names_after more_names next_name
Lawful-names_after first = Lawful-map _ _ _ _ _ _ Lawful-more_names

pub Firm-names : Firm Token (List Name) names (λ t. NoEnd t × NoComma t)
unfolding names names_after more_names next_name
Firm-names = Firm-fewer (λ t. NoEnd t × NoComma t) (λ t e. (e.0, e))
    (Firm-select (Firm-spaced Firm-name) (λ first t e. delimiter_no_end delimiters.Comma refl t e) Lawful-names_after)

Firm-block : Firm Token BlockKind block Anything
unfolding block
Firm-block = Firm-one _ (token_of (kinds.Good (whats.Keyword words.Ton)) 0 0) blocks.Ton refl

Firm-instances : Firm Token BlockKind instances NoEnd
unfolding instances
Firm-instances = Firm-map _ (Firm-seq (Firm-spaced Firm-block) (λ t e. delimiter_no_end delimiters.Semicolon refl t e)
    (Firm-spaced (Firm-delimiter delimiters.Semicolon)))

word_apart : (w : Keyword) → is_in (simple_word w) || is_in (integer_word w) ≡ true → is_in (block_of_word w) ≡ false
word_apart words.Bool e = refl
word_apart words.Time e = refl
word_apart words.Sint e = refl
word_apart words.Int e = refl
word_apart words.Dint e = refl
word_apart words.Usint e = refl
word_apart words.Uint e = refl
word_apart words.Udint e = refl
word_apart _ e = absurd (false≢true e)

typing_apart : (k : TokenKind) (f g : ℕ) → typing.starts (token_of k f g) ≡ true
    → instances.starts (token_of k f g) ≡ false
unfolding typing specification range integer simple instances block
typing_apart (kinds.Good (whats.Keyword w)) f g e = word_apart w e
typing_apart _ f g e = refl

Firm-declared : Firm Token Declared declared NoEnd
unfolding declared
Firm-declared = Firm-fewer NoEnd (λ t e. (e, e))
    (Firm-alt (Firm-map _ Firm-instances) (λ t e. typing_apart t.kind t.from t.to e) (Firm-map _ Firm-typing))

declared_no_end : (k : TokenKind) (f g : ℕ) → declared.starts (token_of k f g) ≡ true → NoEnd (token_of k f g)
unfolding declared instances block typing specification range integer simple delimiter
declared_no_end (kinds.Good (whats.Delimiter m)) f g e = absurd (false≢true e)
declared_no_end _ f g e = refl

pub Firm-declaration : Firm Token DeclaredNames declaration NoEnd
unfolding declaration
Firm-declaration = Firm-map _ (Firm-seq Firm-names (λ t e. colon_apart t e)
    (Firm-seq (Firm-spaced (Firm-delimiter delimiters.Colon))
    (λ t e. declared_no_end t.kind t.from t.to e) Firm-declared))

Lawful-declarations : Lawful Token (List DeclaredNames) declarations (λ t. NoEnd t × NoName t)
unfolding declarations declaration names
Lawful-declarations = from_many (λ t e. name_no_end t.kind t.from t.to e) Firm-declaration

-- the word that ends a block begins neither a line end nor a declaration
pub last_apart : (w : Keyword) (t : Token) → (word w).starts t ≡ true → NoEnd t × NoName t
unfolding name
last_apart w t e = (word_no_end w t e, apart_word w name.starts (λ f g. refl) t.kind t.from t.to e)

inside_no_end : (k : TokenKind) (f g : ℕ)
    → (lead declarations (spaced (word words.EndVar))).starts (token_of k f g) ≡ true
    → NoEnd (token_of k f g)
unfolding declarations declaration names name word delimiter
inside_no_end (kinds.Good (whats.Delimiter m)) f g e = absurd (false≢true e)
inside_no_end _ f g e = refl

pub Firm-vars : Firm Token (List DeclaredNames) vars NoEnd
unfolding vars
Firm-vars = Firm-map _ (Firm-seq (Firm-spaced (Firm-word words.Var)) (λ t e. inside_no_end t.kind t.from t.to e)
    (Firm-lead Lawful-declarations (λ t e. last_apart words.EndVar t e) (Firm-spaced (Firm-word words.EndVar))))

-- ---- externals

pub close_apart : (t : Token) → (delimiter delimiters.Semicolon).starts t ≡ true → NoEnd t × NoOpen t
unfolding delimiter
close_apart t e = (
  delimiter_no_end delimiters.Semicolon refl t e,
  apart_delimiter delimiters.Semicolon (delimiter delimiters.Open).starts (λ f g. refl) t.kind t.from t.to e,
)

pub Firm-external : Firm Token DeclaredNames external NoEnd
unfolding external
Firm-external = Firm-map _ (Firm-seq (Firm-spaced Firm-name) (λ t e. delimiter_no_end delimiters.Colon refl t e)
    (Firm-seq (Firm-spaced (Firm-delimiter delimiters.Colon)) (λ t e. specification_no_end t.kind t.from t.to e)
    (Firm-seq Firm-specification (λ t e. close_apart t e) (Firm-spaced (Firm-delimiter delimiters.Semicolon)))))

Lawful-externals : Lawful Token (List DeclaredNames) externals (λ t. NoEnd t × NoName t)
unfolding externals external
Lawful-externals = from_many (λ t e. name_no_end t.kind t.from t.to e) Firm-external

external_no_end : (k : TokenKind) (f g : ℕ)
    → (lead externals (spaced (word words.EndVar))).starts (token_of k f g) ≡ true
    → NoEnd (token_of k f g)
unfolding externals external name word delimiter
external_no_end (kinds.Good (whats.Delimiter m)) f g e = absurd (false≢true e)
external_no_end _ f g e = refl

Firm-var_external : Firm Token (List DeclaredNames) var_external NoEnd
unfolding var_external
Firm-var_external = Firm-map _ (Firm-seq (Firm-spaced (Firm-word words.VarExternal))
    (λ t e. external_no_end t.kind t.from t.to e)
    (Firm-lead Lawful-externals (λ t e. last_apart words.EndVar t e) (Firm-spaced (Firm-word words.EndVar))))

external_apart : (t : Token) → (word words.VarExternal).starts t ≡ true → (word words.Var).starts t ≡ false
unfolding word
external_apart t e = apart_word words.VarExternal (word words.Var).starts (λ f g. refl) t.kind t.from t.to e

pub Firm-variables : Firm Token (List DeclaredNames) variables NoEnd
unfolding variables vars var_external
Firm-variables = Firm-fewer NoEnd (λ t e. (e, e))
    (Firm-alt Firm-vars (λ t e. external_apart t e) Firm-var_external)
