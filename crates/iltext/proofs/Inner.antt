-- Tokens that leave the count of open parentheses as it was: those of operands, names and line ends.
use Rattle.std.proofs.Common.{arith, ◌∙◌, ◌≡◌, ℕ, Bool, true, false, cond, Some, None, refl, sym, ap, subst, rules}
use Rattle.std.proofs.Common.{◌⊎◌, inl, inr}
use denote.Enum.Bare.{same_true}
use Rattle.iltokens.specs.Items.{Item}
use Rattle.iltokens.specs.declared.keyword.Keyword.{Keyword}
use Rattle.iltokens.specs.declared.keyword.Keyword.TheVariants as words
use Rattle.iltokens.specs.declared.lexed.Delimiter.{Delimiter}
use Rattle.iltokens.specs.declared.lexed.Delimiter.TheVariants as delimiters
use Rattle.iltokens.specs.declared.lexed.What.TheVariants as whats
use Rattle.iltokens.specs.contracts.keyword.Keyword.{the_type as all_words}
use Rattle.iltokens.specs.contracts.lexed.Delimiter.{the_type as all_delimiters}
use Rattle.iltext.specs.declared.token.TokenKind.{TokenKind}
use Rattle.iltext.specs.declared.token.TokenKind.TheVariants as kinds
use Rattle.iltext.specs.declared.token.Token.{Token}
use Rattle.iltext.specs.Roles.{role_of, role_of_word, is_inner}
use Rattle.iltext.specs.Terminals.{Seen, same_word, word_at, same_delimiter, delimiter_at, delimiter, name_at, name}
use Rattle.iltext.specs.Terminals.{line_ends, line_break, ended, closing_at}
use Rattle.iltext.specs.Operands.{port_at, port, dot_port, symbol, literal_word, literal_at, literal, operand}
use Rattle.iltext.specs.Invocations.{next_operand, more_operands, some_operands, handed}
use Rattle.iltext.specs.Instructions.{bounds, invoked, invocation, load_of, load, beginning}
use Rattle.iltext.specs.Faults.{defers, open_after}
use Rattle.iltext.proofs.Counts.{MayNest}
use Rattle.iltext.proofs.Tokens.{Holds, Holds-one, Holds-map, Holds-seq, Holds-select, Holds-alt, Holds-opt, Holds-many}

pub record Still (kind : TokenKind) : Type 0 where
  pub count : (before : Bool) (m : ℕ) → open_after before m kind ≡ m
  pub plain : defers kind ≡ false
  pub nests : MayNest kind

pub quiet_none : (k : TokenKind) → Still k → ¬ (k ≡ kinds.Good (whats.Delimiter delimiters.Open))
quiet_none k s e =
    let one : ◌≡◌ {A = ℕ} 1 0 = ap (open_after true 0) (sym e) ∙ s.count true 0 in
    omega arith

abbrev pub Quiet : Token → Type 0
Quiet t = Still t.kind

-- ---- which token it is

taken : (b : Bool) (x : Seen) → cond b (Some tt) None ≡ Some x → b ≡ true
taken true x e = refl
taken false x e = absurd cc

pub is_word : (w : Keyword) (k : TokenKind) (x : Seen) → word_at w k ≡ Some x → k ≡ kinds.Good (whats.Keyword w)
is_word w (kinds.Good (whats.Keyword v)) x e =
    ap (λ (u : Keyword). kinds.Good (whats.Keyword u))
    (same_true all_words (search rules) v w (taken (same_word v w) x e))
is_word w _ x e = absurd cc

pub is_delimiter : (m : Delimiter) (k : TokenKind) (x : Seen) → delimiter_at m k ≡ Some x
    → k ≡ kinds.Good (whats.Delimiter m)
is_delimiter m (kinds.Good (whats.Delimiter n)) x e =
    ap (λ (u : Delimiter). kinds.Good (whats.Delimiter u))
    (same_true all_delimiters (search rules) n m (taken (same_delimiter n m) x e))
is_delimiter m _ x e = absurd cc

pub is_close : (k : TokenKind) (at x : ℕ) → closing_at k at ≡ Some x → k ≡ kinds.Good (whats.Delimiter delimiters.Close)
is_close (kinds.Good (whats.Delimiter delimiters.Close)) at x e = refl
is_close _ at x e = absurd cc

-- ---- words

still_word : (w : Keyword) (before : Bool) (m : ℕ) → open_after before m (kinds.Good (whats.Keyword w)) ≡ m
still_word w true m = refl
still_word w false m = refl

quiet_word : (w : Keyword) → defers (kinds.Good (whats.Keyword w)) ≡ false → (is_inner w ≡ true) ⊎ (w ≡ words.R)
    → Still (kinds.Good (whats.Keyword w))
quiet_word w e h = record { count = still_word w; plain = e; nests = h }

-- ---- delimiters

still_end : (before : Bool) (m : ℕ) → open_after before m (kinds.Good (whats.Delimiter delimiters.LineEnd)) ≡ m
still_end true m = refl
still_end false m = refl

still_dot : (before : Bool) (m : ℕ) → open_after before m (kinds.Good (whats.Delimiter delimiters.Dot)) ≡ m
still_dot true m = refl
still_dot false m = refl

still_comma : (before : Bool) (m : ℕ) → open_after before m (kinds.Good (whats.Delimiter delimiters.Comma)) ≡ m
still_comma true m = refl
still_comma false m = refl

quiet_end : Still (kinds.Good (whats.Delimiter delimiters.LineEnd))
quiet_end = record { count = still_end; plain = refl; nests = tt }

quiet_dot : Still (kinds.Good (whats.Delimiter delimiters.Dot))
quiet_dot = record { count = still_dot; plain = refl; nests = tt }

quiet_comma : Still (kinds.Good (whats.Delimiter delimiters.Comma))
quiet_comma = record { count = still_comma; plain = refl; nests = tt }

pub Quiet-delimiter : (m : Delimiter) → Still (kinds.Good (whats.Delimiter m)) → Holds Quiet (delimiter m)
unfolding delimiter
Quiet-delimiter m h =
    Holds-one Quiet _ (λ t x e. subst Still (sym (is_delimiter m t.kind x e)) h)

Quiet-end : Holds Quiet (delimiter delimiters.LineEnd)
Quiet-end = Quiet-delimiter delimiters.LineEnd quiet_end

pub Quiet-line_ends : Holds Quiet line_ends
unfolding line_ends
Quiet-line_ends = Holds-map Quiet _ (Holds-many Quiet Quiet-end)

pub Quiet-line_break : Holds Quiet line_break
unfolding line_break
Quiet-line_break = Holds-map Quiet _ (Holds-seq Quiet Quiet-end Quiet-line_ends)

-- ---- names and operands

still_name : (before : Bool) (m : ℕ) → open_after before m (kinds.Good whats.Name) ≡ m
still_name true m = refl
still_name false m = refl

quiet_name : (k : TokenKind) (t : Token) (x : _) → name_at k t ≡ Some x → Still k
quiet_name (kinds.Good whats.Name) t x e = record { count = still_name; plain = refl; nests = tt }
quiet_name _ t x e = absurd cc

pub Quiet-name : Holds Quiet name
unfolding name
Quiet-name = Holds-one Quiet _ (λ t x e. quiet_name t.kind t x e)

quiet_port : (k : TokenKind) (t : Token) (x : _) → port_at k t ≡ Some x → Still k
unfolding role_of_word
quiet_port (kinds.Good whats.Name) t x e = record { count = still_name; plain = refl; nests = tt }
quiet_port (kinds.Good (whats.Keyword words.R)) t x e = quiet_word words.R refl (inr refl)
quiet_port _ t x e = absurd cc

pub Quiet-port : Holds Quiet port
unfolding port
Quiet-port = Holds-one Quiet _ (λ t x e. quiet_port t.kind t x e)

Quiet-dot_port : Holds Quiet dot_port
unfolding dot_port
Quiet-dot_port = Holds-map Quiet _ (Holds-seq Quiet (Quiet-delimiter delimiters.Dot quiet_dot) Quiet-port)

pub Quiet-symbol : Holds Quiet symbol
unfolding symbol
Quiet-symbol = Holds-map Quiet _ (Holds-seq Quiet Quiet-name (Holds-opt Quiet Quiet-dot_port))

quiet_literal_word : (w : Keyword) (x : _) → literal_word w ≡ Some x → Still (kinds.Good (whats.Keyword w))
unfolding role_of_word
quiet_literal_word words.True x e = quiet_word words.True refl (inl refl)
quiet_literal_word words.False x e = quiet_word words.False refl (inl refl)
quiet_literal_word _ x e = absurd cc

still_number : (n : _) (before : Bool) (m : ℕ) → open_after before m (kinds.Good (whats.Number n)) ≡ m
still_number n true m = refl
still_number n false m = refl

still_time : (n : _) (before : Bool) (m : ℕ) → open_after before m (kinds.Good (whats.Time n)) ≡ m
still_time n true m = refl
still_time n false m = refl

quiet_literal : (k : TokenKind) (x : _) → literal_at k ≡ Some x → Still k
quiet_literal (kinds.Good (whats.Keyword w)) x e = quiet_literal_word w x e
quiet_literal (kinds.Good (whats.Number n)) x e = record { count = still_number n; plain = refl; nests = tt }
quiet_literal (kinds.Good (whats.Time n)) x e = record { count = still_time n; plain = refl; nests = tt }
quiet_literal _ x e = absurd cc

pub Quiet-literal : Holds Quiet literal
unfolding literal
Quiet-literal = Holds-one Quiet _ (λ t x e. quiet_literal t.kind x e)

pub Quiet-operand : Holds Quiet operand
unfolding operand
Quiet-operand = Holds-alt Quiet (Holds-map Quiet _ Quiet-symbol) (Holds-map Quiet _ Quiet-literal)

pub Quiet-bounds : Holds Quiet bounds
unfolding bounds
Quiet-bounds =
    Holds-map Quiet _ (Holds-seq Quiet Quiet-operand
    (Holds-seq Quiet (Quiet-delimiter delimiters.Comma quiet_comma) Quiet-operand))

-- ---- calls of functions

Quiet-next_operand : Holds Quiet next_operand
unfolding next_operand
Quiet-next_operand = Holds-map Quiet _ (Holds-seq Quiet (Quiet-delimiter delimiters.Comma quiet_comma) Quiet-operand)

Quiet-some_operands : Holds Quiet some_operands
unfolding some_operands more_operands
Quiet-some_operands = Holds-map Quiet _ (Holds-seq Quiet Quiet-operand (Holds-many Quiet Quiet-next_operand))

pub Quiet-invoked : (n : _) → Holds Quiet (invoked n)
unfolding invoked handed
Quiet-invoked n = Holds-map Quiet _ (Holds-map Quiet _ (Holds-opt Quiet Quiet-some_operands))

pub Quiet-invocation : Holds Quiet invocation
unfolding invocation
Quiet-invocation = Holds-select Quiet Quiet-name Quiet-invoked

-- ---- what stands first in parentheses

quiet_load_word : (w : Keyword) (at : ℕ) (x : _) → load_of (role_of_word w) at ≡ Some x
    → Still (kinds.Good (whats.Keyword w))
unfolding role_of_word
quiet_load_word words.Ld at x e = quiet_word words.Ld refl (inl refl)
quiet_load_word words.Ldn at x e = quiet_word words.Ldn refl (inl refl)
quiet_load_word _ at x e = absurd cc

quiet_load : (k : TokenKind) (at : ℕ) (x : _) → load_of (role_of k) at ≡ Some x → Still k
unfolding role_of_word
quiet_load (kinds.Good (whats.Keyword w)) at x e = quiet_load_word w at x e
quiet_load (kinds.Good (whats.Delimiter delimiters.Ampersand)) at x e = absurd cc
quiet_load (kinds.Good (whats.Delimiter delimiters.AmpersandNot)) at x e = absurd cc
quiet_load _ at x e = absurd cc

Quiet-load : Holds Quiet load
unfolding load
Quiet-load =
    Holds-map Quiet _ (Holds-seq Quiet (Holds-one Quiet _ (λ t x e. quiet_load t.kind t.from x e)) Quiet-operand)

ended_quiet : {A : Type 0} {a : Item Token A} → Holds Quiet a → Holds Quiet (ended a)
ended_quiet x = Holds-map Quiet _ (Holds-seq Quiet x Quiet-line_break)

pub Quiet-beginning : (at : ℕ) → Holds Quiet (beginning at)
unfolding beginning
Quiet-beginning at =
    Holds-alt Quiet
    (Holds-map Quiet _ (Holds-seq Quiet Quiet-line_break (ended_quiet Quiet-load)))
    (ended_quiet (Holds-map Quiet _ Quiet-operand))
