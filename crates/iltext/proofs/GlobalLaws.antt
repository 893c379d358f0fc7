-- The items of global variables are lawful.
use Rattle.std.proofs.Common.{◌≡◌, ℕ, true, false, List, refl}
use Rattle.std.proofs.lemmas.Bool.{false≢true}
use Rattle.iltokens.specs.Items.{lead}
use Rattle.iltokens.proofs.Laws.{Lawful, Lawful-map}
use Rattle.iltokens.proofs.Firm.{Firm, Firm-one, Firm-map, Firm-seq, Firm-lead, Firm-alt, Firm-fewer, Firm-select}
use Rattle.iltokens.proofs.Firm.{from_many}
use Rattle.ilsource.specs.Configurations.{DeclaredGlobals}
use Rattle.ilsource.specs.declared.address.DirectAddress.{DirectAddress}
use Rattle.ilsource.specs.declared.name.Name.{Name}
use Rattle.iltokens.specs.declared.keyword.Keyword.TheVariants as words
use Rattle.iltokens.specs.declared.lexed.AddressKind.TheVariants as addresses
use Rattle.iltokens.specs.declared.lexed.Delimiter.TheVariants as delimiters
use Rattle.iltokens.specs.declared.lexed.What.TheVariants as whats
use Rattle.iltext.specs.declared.token.TokenKind.{TokenKind}
use Rattle.iltext.specs.declared.token.TokenKind.TheVariants as kinds
use Rattle.iltext.specs.declared.token.Token.{Token}
use Rattle.iltext.specs.Terminals.{word, delimiter, name, spaced}
use Rattle.iltext.proofs.Delimiters.{Anything, token_of, Firm-word, Firm-delimiter}
use Rattle.iltext.proofs.Ends.{NoEnd, Firm-name, Firm-spaced, word_no_end, delimiter_no_end, name_no_end}
use Rattle.iltext.specs.Declarations.{typing, next_name, more_names, names_after}
use Rattle.iltext.specs.Globals.{address, located, unlocated, global_named, global, globals, var_global, global_blocks}
use Rattle.iltext.proofs.DeclarationLaws.{NoName, specification_no_end, Firm-typing, colon_apart, Lawful-names_after}
use Rattle.iltext.proofs.DeclarationLaws.{last_apart}

Firm-address : Firm Token DirectAddress address Anything
unfolding address
Firm-address = Firm-one _ (token_of (kinds.Good (whats.Address addresses.OutputByte 0 0)) 0 0)
    (record { at = 0; kind = addresses.OutputByte; bus = 0; place = 0 }) refl

address_no_end : (k : TokenKind) (f g : ℕ) → address.starts (token_of k f g) ≡ true → NoEnd (token_of k f g)
unfolding address delimiter
address_no_end (kinds.Good (whats.Delimiter m)) f g e = absurd (false≢true e)
address_no_end _ f g e = refl

typing_no_end : (t : Token) → typing.starts t ≡ true → NoEnd t
unfolding typing
typing_no_end t e = specification_no_end t.kind t.from t.to e

module _ (first : Name) where
  Firm-located : Firm Token DeclaredGlobals (located first) NoEnd
  unfolding located
  Firm-located = Firm-map _ (Firm-seq (Firm-spaced (Firm-word words.At)) (λ t e. address_no_end t.kind t.from t.to e)
      (Firm-seq (Firm-spaced Firm-address) (λ t e. delimiter_no_end delimiters.Colon refl t e)
      (Firm-seq (Firm-spaced (Firm-delimiter delimiters.Colon)) (λ t e. typing_no_end t e) Firm-typing)))

  Firm-unlocated : Firm Token DeclaredGlobals (unlocated first) NoEnd
  unfolding unlocated
  Firm-unlocated = Firm-map _ (Firm-lead (Lawful-names_after first) (λ t e. colon_apart t e)
      (Firm-seq (Firm-spaced (Firm-delimiter delimiters.Colon)) (λ t e. typing_no_end t e) Firm-typing))

  unlocated_apart : (k : TokenKind) (f g : ℕ) → (unlocated first).starts (token_of k f g) ≡ true
      → (located first).starts (token_of k f g) ≡ false
  unfolding located unlocated names_after more_names next_name word delimiter
  unlocated_apart (kinds.Good (whats.Keyword w)) f g e = absurd (false≢true e)
  unlocated_apart _ f g e = refl

  Firm-global_named : Firm Token DeclaredGlobals (global_named first) NoEnd
  unfolding global_named
  Firm-global_named = Firm-fewer NoEnd (λ t e. (e, e))
      (Firm-alt Firm-located (λ t e. unlocated_apart t.kind t.from t.to e) Firm-unlocated)

  named_no_end : (k : TokenKind) (f g : ℕ) → (global_named first).starts (token_of k f g) ≡ true
      → NoEnd (token_of k f g)
  unfolding global_named located unlocated names_after more_names next_name word delimiter
  named_no_end (kinds.Good (whats.Delimiter delimiters.LineEnd)) f g e = absurd (false≢true e)
  named_no_end _ f g e = refl

pub Firm-global : Firm Token DeclaredGlobals global NoEnd
unfolding global
Firm-global = Firm-fewer NoEnd (λ t e. (e, e))
    (Firm-select (Firm-spaced Firm-name) (λ first t e. named_no_end first t.kind t.from t.to e)
    (λ first. (Firm-global_named first).lawful))

Lawful-globals : Lawful Token (List DeclaredGlobals) globals (λ t. NoEnd t × NoName t)
unfolding globals global
Lawful-globals = from_many (λ t e. name_no_end t.kind t.from t.to e) Firm-global

inside_no_end : (k : TokenKind) (f g : ℕ) → (lead globals (spaced (word words.EndVar))).starts (token_of k f g) ≡ true
    → NoEnd (token_of k f g)
unfolding globals global name word delimiter
inside_no_end (kinds.Good (whats.Delimiter m)) f g e = absurd (false≢true e)
inside_no_end _ f g e = refl

pub Firm-var_global : Firm Token (List DeclaredGlobals) var_global NoEnd
unfolding var_global
Firm-var_global = Firm-map _ (Firm-seq (Firm-spaced (Firm-word words.VarGlobal))
    (λ t e. inside_no_end t.kind t.from t.to e)
    (Firm-lead Lawful-globals (λ t e. last_apart words.EndVar t e) (Firm-spaced (Firm-word words.EndVar))))

abbrev pub NoGlobal : Token → Type 0
NoGlobal t = var_global.starts t ≡ false

pub Lawful-global_blocks : Lawful Token (List DeclaredGlobals) global_blocks (λ t. NoEnd t × NoGlobal t)
unfolding global_blocks var_global
Lawful-global_blocks = Lawful-map _ _ _ _ _ _ (from_many (λ t e. word_no_end words.VarGlobal t e) Firm-var_global)
