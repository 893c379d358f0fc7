-- Items with no operator that may be deferred: a count of 0 stays 0.
use Rattle.std.proofs.Common.{arith, ◌≡◌, ℕ, Bool, false, List, [], ◌∷◌, Some, refl, sym, ap, subst, inl}
use Rattle.std.proofs.Common.{◌∙◌}
use Rattle.std.specs.List.{AllByRecursion}
use Rattle.iltokens.specs.Items.{Item}
use Rattle.iltokens.specs.declared.keyword.Keyword.{Keyword}
use Rattle.iltokens.specs.declared.keyword.Keyword.TheVariants as words
use Rattle.iltokens.specs.declared.lexed.Delimiter.{Delimiter}
use Rattle.iltokens.specs.declared.lexed.Delimiter.TheVariants as delimiters
use Rattle.iltokens.specs.declared.lexed.What.TheVariants as whats
use Rattle.iltext.specs.declared.token.TokenKind.{TokenKind}
use Rattle.iltext.specs.declared.token.TokenKind.TheVariants as kinds
use Rattle.iltext.specs.declared.token.Token.{Token}
use Rattle.iltext.specs.Roles.{role_of_word}
use Rattle.iltext.specs.Terminals.{word, delimiter, name, number_at, number, constant_word, constant_at, constant}
use Rattle.iltext.specs.Terminals.{spaced}
use Rattle.iltext.specs.Operands.{spaced_dot_port, spaced_symbol, spaced_operand}
use Rattle.iltext.specs.Calls.{argument, next_argument, more_arguments, arguments, passed, call}
use Rattle.iltext.specs.Faults.{defers, open_after, open_after_all}
use Rattle.iltext.proofs.Counts.{ends}
use Rattle.iltext.proofs.Tame.{Nil, Level, Tame}
use Rattle.iltext.proofs.Tokens.{Holds, Holds-one, Holds-map, Holds-seq, Holds-select, Holds-alt, Holds-opt}
use Rattle.iltext.proofs.Tokens.{Holds-many}
use Rattle.iltext.proofs.Tokens.{Holds-weaker}
use Rattle.iltext.proofs.Inner.{Quiet, is_word, is_delimiter, Quiet-name, Quiet-port, Quiet-literal, Quiet-line_ends}
use Rattle.iltext.proofs.Operators.{After}

abbrev pub Free : Token → Type 0
Free t = defers t.kind ≡ false

-- ---- the count

nil_still : (k : TokenKind) → open_after false 0 k ≡ 0
nil_still (kinds.Good (whats.Delimiter delimiters.Close)) = refl
nil_still _ = refl

nil_level : (ts : List Token) → AllByRecursion Free ts → open_after_all false 0 ts ≡ 0
nil_level [] h = refl
nil_level (t ∷ ts) h =
    ap (λ (n : ℕ). open_after_all (defers t.kind) n ts) (nil_still t.kind)
    ∙ ap (λ (b : Bool). open_after_all b 0 ts) h.0
    ∙ nil_level ts h.1

ends_free : (ts : List Token) → AllByRecursion Free ts → ends false ts ≡ false
ends_free [] h = refl
ends_free (t ∷ ts) h = ap (λ (b : Bool). ends b ts) h.0 ∙ ends_free ts h.1

free_level : (ts : List Token) → AllByRecursion Free ts → Level Nil false ts
free_level ts h = record {
  count = λ m is. ap (λ (n : ℕ). open_after_all false n ts) is ∙ nil_level ts h ∙ sym is;
  inner = λ one. absurd (let no : ◌≡◌ {A = ℕ} 1 0 = one in omega arith);
}

pub Tame-free : (more : ℕ) {A : Type 0} {a : Item Token A} → Holds Free a → Tame Nil more a
Tame-free more x = record {
  whole = λ ts z w. (free_level ts (x.whole ts z w), ends_free ts (x.whole ts z w));
  part = λ ts h. inl (free_level ts (x.part ts h));
}

pub After-free : (more at : ℕ) {A : Type 0} {a : Item Token A} → Holds Free a → After Nil false more at a
After-free more at x = record {
  whole = λ ts z w. (free_level ts (x.whole ts z w), ends_free ts (x.whole ts z w));
  part = λ ts h. inl (free_level ts (x.part ts h));
}

-- ---- single tokens

pub free_quiet : {A : Type 0} {a : Item Token A} → Holds Quiet a → Holds Free a
free_quiet x = Holds-weaker Quiet Free (λ t q. q.plain) x

pub Free-word : (w : Keyword) → defers (kinds.Good (whats.Keyword w)) ≡ false → Holds Free (word w)
unfolding word
Free-word w h =
    Holds-one Free _ (λ t x e. subst (λ (k : TokenKind). defers k ≡ false) (sym (is_word w t.kind x e)) h)

pub Free-delimiter : (m : Delimiter) → defers (kinds.Good (whats.Delimiter m)) ≡ false → Holds Free (delimiter m)
unfolding delimiter
Free-delimiter m h =
    Holds-one Free _ (λ t x e. subst (λ (k : TokenKind). defers k ≡ false) (sym (is_delimiter m t.kind x e)) h)

pub Free-name : Holds Free name
Free-name = free_quiet Quiet-name

free_number : (k : TokenKind) (x : _) → number_at k ≡ Some x → defers k ≡ false
free_number (kinds.Good (whats.Number n)) x e = refl
free_number _ x e = absurd cc

pub Free-number : Holds Free number
unfolding number
Free-number = Holds-one Free _ (λ t x e. free_number t.kind x e)

free_constant_word : (w : Keyword) (x : _) → constant_word w ≡ Some x → defers (kinds.Good (whats.Keyword w)) ≡ false
unfolding role_of_word
free_constant_word words.True x e = refl
free_constant_word words.False x e = refl
free_constant_word _ x e = absurd cc

free_constant : (k : TokenKind) (x : _) → constant_at k ≡ Some x → defers k ≡ false
free_constant (kinds.Good (whats.Keyword w)) x e = free_constant_word w x e
free_constant (kinds.Good (whats.Number n)) x e = refl
free_constant (kinds.Good (whats.Time n)) x e = refl
free_constant _ x e = absurd cc

pub Free-constant : Holds Free constant
unfolding constant
Free-constant = Holds-one Free _ (λ t x e. free_constant t.kind x e)

pub Free-spaced : {A : Type 0} {a : Item Token A} → Holds Free a → Holds Free (spaced a)
Free-spaced x = Holds-map Free _ (Holds-seq Free x (free_quiet Quiet-line_ends))

-- ---- calls

Free-spaced_dot_port : Holds Free spaced_dot_port
unfolding spaced_dot_port
Free-spaced_dot_port =
    Holds-map Free _ (Holds-seq Free (Free-spaced (Free-delimiter delimiters.Dot refl))
    (Free-spaced (free_quiet Quiet-port)))

Free-spaced_symbol : Holds Free spaced_symbol
unfolding spaced_symbol
Free-spaced_symbol =
    Holds-map Free _ (Holds-seq Free (Free-spaced Free-name) (Holds-opt Free Free-spaced_dot_port))

Free-spaced_operand : Holds Free spaced_operand
unfolding spaced_operand
Free-spaced_operand =
    Holds-alt Free (Holds-map Free _ Free-spaced_symbol)
    (Holds-map Free _ (Free-spaced (free_quiet Quiet-literal)))

module _ (block : _) where
  Free-argument : Holds Free (argument block)
  unfolding argument
  Free-argument =
      Holds-map Free _ (Holds-seq Free (Free-spaced (free_quiet Quiet-port))
      (Holds-seq Free (Free-spaced (Free-delimiter delimiters.Assign refl)) Free-spaced_operand))

  Free-next_argument : Holds Free (next_argument block)
  unfolding next_argument
  Free-next_argument =
      Holds-map Free _ (Holds-seq Free (Free-spaced (Free-delimiter delimiters.Comma refl)) Free-argument)

  Free-more_arguments : Holds Free (more_arguments block)
  unfolding more_arguments
  Free-more_arguments = Holds-many Free Free-next_argument

  Free-arguments : Holds Free (arguments block)
  unfolding arguments
  Free-arguments = Holds-map Free _ (Holds-seq Free Free-argument Free-more_arguments)

  Free-passed : Holds Free (passed block)
  unfolding passed
  Free-passed =
      Holds-map Free _ (Holds-seq Free (Free-spaced (Free-delimiter delimiters.Open refl))
      (Holds-seq Free Free-arguments (Free-delimiter delimiters.Close refl)))

pub Free-call : Holds Free call
unfolding call
Free-call = Holds-select Free Free-name (λ block. Holds-map Free _ (Holds-opt Free (Free-passed block)))
