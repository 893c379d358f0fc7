use Rattle.std.proofs.Common.{◌≡◌, ◌<◌, ◌+◌, ◌++◌, ◌∷◌, [], List, Bor, length, map, refl, subst, sym, take}
use Rattle.std.proofs.lemmas.Bool.Decides.{Decides-eqb}
use Rattle.clap.specs.Words.{Text}
use Rattle.commandline.proofs.ExpectedLists.{few_said, no_pair, one_more, too_many}
use Rattle.commandline.specs.ExpectedWords.{AreExpected}
use Rattle.commandoptions.specs.declared.expected_word.ExpectedWord.{ExpectedWord}
use Rattle.commandline.proofs.expected_words.expected_of.Goals as goal

-- what stands past the end
abbrev no_text : Bor Text
no_text = record { ref_ptr = (0, 0); now = [] }

pub returns-in_default : goal.returns-in_default
returns-in_default c =
    no_pair c.args.words.now c.loop-word.word-index no_text c.loop-word.expected.items _ c.loop-word-test.true
    c.loop-word.invariant refl c.in_default.ensures

pub returns-then-is_full : goal.returns-then-is_full
returns-then-is_full c =
    let full : length c.loop-word.expected.items ≡ 16 = (Decides-eqb _ 16).0 (sym c.if-is_full.ensures.value) in
    too_many c.args.words.now c.loop-word.word-index no_text c.loop-word.expected.items _ c.in-Some.pair
    c.loop-word-test.true c.loop-word.invariant refl c.in-Some.ensures full

pub loop-word-preserved : goal.loop-word-preserved
loop-word-preserved c =
    let pair = c.in-Some.pair in
    let expected = c.loop-word.expected.items in
    let words = c.args.words.now in
    let i = c.loop-word.word-index in
    let room : length expected < 16 = few_said expected c.if-is_full.ensures.value c.if-is_full.ensures.fits in
    let more = one_more words i no_text expected pair c.loop-word-test.true c.loop-word.invariant c.in-Some.ensures room in
    subst (λ (all : List ExpectedWord). AreExpected (map (λ word. word.now) (take (i + 1) words)) all)
    (sym c.push.ensures.items) more
