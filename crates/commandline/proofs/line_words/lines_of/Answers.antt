use Rattle.std.proofs.Common.{◌≡◌, ◌+◌, ◌++◌, ◌∷◌, [], ℕ, List, Bor, arith, length-append, map, refl}
use Rattle.std.proofs.Common.{subst, sym, take, false, true}
use Rattle.std.specs.List.{Any}
use Rattle.clap.specs.Words.{Text}
use Rattle.commandline.proofs.LineLists.{first_fault, one_more, room}
use Rattle.commandline.specs.LineWords.{AreLines, SharePath}
use Rattle.commandoptions.specs.declared.line_word.LineWord.{LineWord}
use Rattle.commandline.proofs.line_words.lines_of.Goals as goal

any_of_same : (Meets : LineWord → Type 0) (ones others : List LineWord) → others ≡ ones → Any Meets others
    → Any Meets ones
any_of_same Meets ones others same any = subst (λ (lines : List LineWord). Any Meets lines) same any

apart : ¬ (false ≡ true)
apart is = cc

-- what stands past the end
abbrev no_text : Bor Text
no_text = record { ref_ptr = (0, 0); now = [] }

abbrev OfBus : LineWord → LineWord → Type 0
OfBus line other = other.bus ≡ line.bus

abbrev SharesWith : LineWord → LineWord → Type 0
SharesWith line other = SharePath other line

pub returns-in_default : goal.returns-in_default
returns-in_default c =
    first_fault c.args.words.now c.loop-word.word-index no_text c.loop-word.lines.items _ c.loop-word-test.true
    c.loop-word.invariant refl c.in_default.ensures

pub returns-then-has_line : goal.returns-then-has_line
returns-then-has_line c =
    let line = c.in-Some.line in
    let again = any_of_same (OfBus line) c.loop-word.lines.items _ c.as_slice.ensures.value (c.if-has_line.ensures.0 refl) in
    first_fault c.args.words.now c.loop-word.word-index no_text c.loop-word.lines.items _ c.loop-word-test.true
    c.loop-word.invariant refl (line, c.in-Some.ensures, again)

pub returns-then-is_shared : goal.returns-then-is_shared
returns-then-is_shared c =
    let line = c.in-Some.line in
    let lines = c.loop-word.lines.items in
    let none : ¬ Any (OfBus line) lines =
    λ again. absurd (apart (c.if-has_line.ensures.1 (any_of_same (OfBus line) _ lines (sym c.as_slice.ensures.value) again))) in
    let shared = any_of_same (SharesWith line) lines _ c.as_slice-in-loop-word.ensures.value (c.if-is_shared.ensures.0 refl) in
    first_fault c.args.words.now c.loop-word.word-index no_text lines _ c.loop-word-test.true c.loop-word.invariant refl
    (line, c.in-Some.ensures, none, shared)

pub push-requires : goal.push-requires
push-requires c =
    let line = c.in-Some.line in
    let lines = c.loop-word.lines.items in
    let words = c.args.words.now in
    let i = c.loop-word.word-index in
    let none : ¬ Any (OfBus line) lines =
    λ again. absurd (apart (c.if-has_line.ensures.1 (any_of_same (OfBus line) _ lines (sym c.as_slice.ensures.value) again))) in
    let unshared : ¬ Any (SharesWith line) lines =
    λ shared. absurd (apart (c.if-is_shared.ensures.1
    (any_of_same (SharesWith line) _ lines (sym c.as_slice-in-loop-word.ensures.value) shared))) in
    let more = one_more words i no_text lines line c.loop-word-test.true c.loop-word.invariant c.in-Some.ensures none
    unshared in
    let few = room (map (λ word. word.now) (take (i + 1) words)) (lines ++ line ∷ []) more in
    (omega arith, omega (arith, few, length-append lines (line ∷ [])))

pub loop-word-preserved : goal.loop-word-preserved
loop-word-preserved c =
    let line = c.in-Some.line in
    let lines = c.loop-word.lines.items in
    let words = c.args.words.now in
    let i = c.loop-word.word-index in
    let none : ¬ Any (OfBus line) lines =
    λ again. absurd (apart (c.if-has_line.ensures.1 (any_of_same (OfBus line) _ lines (sym c.as_slice.ensures.value) again))) in
    let unshared : ¬ Any (SharesWith line) lines =
    λ shared. absurd (apart (c.if-is_shared.ensures.1
    (any_of_same (SharesWith line) _ lines (sym c.as_slice-in-loop-word.ensures.value) shared))) in
    let more = one_more words i no_text lines line c.loop-word-test.true c.loop-word.invariant c.in-Some.ensures none
    unshared in
    subst (λ (all : List LineWord). AreLines (map (λ word. word.now) (take (i + 1) words)) all) (sym c.push.ensures.items) more
