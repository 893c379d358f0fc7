-- A front of a text leaves a count of 0 as it was, or ends inside parentheses, and so its depth is what is counted.
use Rattle.std.proofs.Common.{◌≡◌, ◌⊎◌, ℕ, zero, suc, ◌+◌, ◌≤◌, false, List, [], ◌∷◌, ◌++◌, refl, ap}
use Rattle.std.proofs.Common.{inl, inr, ◌∙◌, arith}
use Rattle.iltokens.specs.declared.keyword.Keyword.TheVariants as words
use Rattle.iltokens.specs.declared.lexed.Delimiter.TheVariants as delimiters
use Rattle.iltext.specs.declared.token.Token.{Token}
use Rattle.iltext.specs.Roles.{role_of_word, role_at}
use Rattle.iltext.specs.Instructions.{operands, applied, content, operation, instruction, after_label, after_name}
use Rattle.iltext.specs.Instructions.{named_line, line, lines}
use Rattle.iltext.specs.Faults.{open_after_all}
use Rattle.iltext.specs.Functions.{function}
use Rattle.iltext.specs.Texts.{blocks, program, derived_type, derived_types, types, function_unit, program_unit, unit}
use Rattle.iltext.specs.Texts.{units, text}
use Rattle.iltext.specs.Nested.{IsOpen, IsInside}
use Rattle.iltext.proofs.Counts.{opened_after}
use Rattle.iltext.proofs.Tame.{Any, Nil, Level, Opened, Tame, Tame-map, Tame-seq, Tame-lead, Tame-opt, Tame-alt}
use Rattle.iltext.proofs.Tame.{Tame-select, Tame-many}
use Rattle.iltext.proofs.Tokens.{Holds-map, Holds-seq, Holds-lead, Holds-many}
use Rattle.iltext.proofs.Inner.{Quiet-line_ends, Quiet-invoked, Quiet-invocation}
use Rattle.iltext.proofs.Operators.{Tame-quiet}
use Rattle.iltext.proofs.InstructionCounts.{Tame-head, Tame-ended, Tame-content, After-operands, applies, reads_outer}
use Rattle.iltext.proofs.Free.{Free, Free-delimiter, Free-name, Free-call, Tame-free, After-free, free_quiet}
use Rattle.iltext.proofs.Declared.{spaced_word, spaced_name, Free-type_declaration, Free-variables, Free-configuration}
use Rattle.iltext.proofs.FunctionTokens.{Free-head, Free-var_input, Free-own_variables}
use Rattle.iltext.proofs.Depths.{Deep, Depth, content_depth, counted_as, depth_more, is_open}

-- ---- lines

Tame-operation : Tame Nil 32 operation
unfolding operation
Tame-operation =
    Tame-head Nil 32 role_at (λ x. operands (applied 32) x.0 x.1) reads_outer
    (λ t x e. After-operands Nil 32 (applies 32) x.0 x.1 (inr (After-free 32 x.1 Free-call)))
    (λ t x e one. absurd (let no : ◌≡◌ {A = ℕ} 1 0 = one in omega arith))

Tame-instruction : Tame Nil 32 instruction
unfolding instruction
Tame-instruction = Tame-alt Nil 32 Tame-operation (Tame-quiet Nil 32 Quiet-invocation)

Tame-after_name : (n : _) → Tame Nil 32 (after_name n)
unfolding after_name after_label
Tame-after_name n =
    Tame-alt Nil 32
    (Tame-map Nil 32 _ (Tame-seq Nil 32 (Tame-free 32 (Free-delimiter delimiters.Colon refl))
    (Tame-opt Nil 32 Tame-instruction)))
    (Tame-quiet Nil 32 (Quiet-invoked n))

Tame-named_line : Tame Nil 32 named_line
unfolding named_line
Tame-named_line = Tame-select Nil 32 (Tame-free 32 Free-name) Tame-after_name

Tame-lines : Tame Nil 32 lines
unfolding lines line
Tame-lines = Tame-many Nil 32 (Tame-ended Nil 32 (Tame-alt Nil 32 Tame-named_line Tame-operation))

-- ---- texts

Tame-program : Tame Nil 32 program
unfolding program blocks role_of_word
Tame-program =
    Tame-map Nil 32 _ (Tame-seq Nil 32 (Tame-free 32 (spaced_word words.Program refl))
    (Tame-seq Nil 32 (Tame-free 32 spaced_name)
    (Tame-lead Nil 32 (Tame-free 32 (Holds-map Free _ (Holds-many Free Free-variables)))
    (Tame-lead Nil 32 Tame-lines (Tame-free 32 (spaced_word words.EndProgram refl))))))

Tame-function : Tame Nil 32 function
unfolding function role_of_word
Tame-function =
    Tame-map Nil 32 _ (Tame-seq Nil 32 (Tame-free 32 Free-head)
    (Tame-seq Nil 32 (Tame-free 32 Free-var_input)
    (Tame-lead Nil 32 (Tame-free 32 Free-own_variables)
    (Tame-lead Nil 32 Tame-lines (Tame-free 32 (spaced_word words.EndFunction refl))))))

Tame-types : Tame Nil 32 types
unfolding types derived_types derived_type role_of_word
Tame-types =
    Tame-free 32 (Holds-map Free _ (Holds-seq Free (spaced_word words.Type refl)
    (Holds-lead Free (Holds-many Free (Holds-map Free _ Free-type_declaration)) (spaced_word words.EndType refl))))

Tame-units : Tame Nil 32 units
unfolding units unit function_unit program_unit
Tame-units =
    Tame-map Nil 32 _ (Tame-many Nil 32 (Tame-alt Nil 32 Tame-types
    (Tame-alt Nil 32 (Tame-map Nil 32 _ Tame-function) (Tame-map Nil 32 _ Tame-program))))

pub Tame-text : Tame Nil 32 text
unfolding text
Tame-text =
    Tame-map Nil 32 _ (Tame-lead Nil 32 (Tame-free 32 (free_quiet Quiet-line_ends))
    (Tame-lead Nil 32 Tame-units (Tame-opt Nil 32 (Tame-free 32 Free-configuration))))

-- ---- the count is the depth

-- in a front with none open, the count is as it was
as_it_was : (M : ℕ → Type 0) (more : ℕ) (part : List Token → Type 0) (ts : List Token) (m : ℕ) → M m → ¬ IsOpen ts
    → Level M false ts ⊎ Opened M more part ts → open_after_all false m ts ≡ m
as_it_was M more part ts m is none (inl h) = h.count m is
as_it_was M more part ts m is none (inr o) = absurd (none (is_open M more part ts o))

pub count_is : (depth : ℕ) (front : List Token) → IsInside depth front → open_after_all false 0 front ≡ depth
count_is zero front h = as_it_was Nil 32 text.part front 0 refl h.1 (Tame-text.part front h.0)
count_is (suc depth) front h =
    let last = h.0 in
    let more : depth + 1 ≡ suc depth = omega arith in
    ap (open_after_all false 0) last.same
    ∙ opened_after false 0 last.before last.operator last.parenthesis last.after (counted_as front last) last.opens
    ∙ ap (λ (n : ℕ). open_after_all false (n + 1) last.after)
    (count_is depth (last.before ++ last.operator ∷ []) h.2)
    ∙ as_it_was Any last.more (content last.more last.operator.from).part last.after (depth + 1) tt h.3
    ((Tame-content last.more last.operator.from).part last.after last.inside)
    ∙ more

-- ---- each front has a depth

deep_inside : (depth : ℕ) (front : List Token) → Deep text.part 32 depth front → IsInside depth front
deep_inside zero front h = h
deep_inside (suc depth) front h =
    let last = h.0 in (last, h.1, deep_inside depth (last.before ++ last.operator ∷ []) h.2, h.3)

text_depth : (front : List Token) → text.part front → Depth text.part 32 front
text_depth front h =
    depth_more Nil refl text.part front h 31 (content_depth 31) (Tame-text.part front h)

pub has_depth : (front : List Token) → text.part front → (depth : ℕ) × (depth ≤ 32) × IsInside depth front
has_depth front h = let its = text_depth front h in (its.0, its.1, deep_inside its.0 front its.2)
