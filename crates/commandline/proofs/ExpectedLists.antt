-- What words say is expected, one word after another, and the first word that is at fault.
use Rattle.std.proofs.Common.{◌≡◌, ◌∙◌, ◌<◌, ◌≤◌, ◌+◌, ◌++◌, ◌∷◌, ℕ, List, [], add-one, arith, ap, subst, sym, refl}
use Rattle.std.proofs.Common.{length, get_or, take, drop, map, false, true, suc}
use Rattle.std.specs.Prelude.{◌==◌}
use Rattle.std.specs.Borrow.{Bor}
use Rattle.std.specs.List.{AllZip}
use Rattle.std.proofs.Math.ListN.{length-append}
use Rattle.std.proofs.Math.Seq.{drop-cons}
use Rattle.std.proofs.lemmas.Bool.Decides.{Decides-eqb}
use Rattle.std.proofs.lemmas.List.{length-map, map-append, take-append-drop, take_more}
use Rattle.clap.specs.Words.{Text}
use Rattle.commandline.specs.ExpectedWords.{AreExpected, IsExpectedWord, IsFirstUnexpected, IsUnexpectedAfter}
use Rattle.commandline.specs.ExpectedWords.{unexpected_word}
use Rattle.commandline.specs.declared.expected_words.ExpectedFault.{ExpectedFault}
use Rattle.commandline.specs.declared.expected_words.ExpectedFault.TheVariants.{NoPair, TooMany}
use Rattle.commandoptions.specs.declared.expected_word.ExpectedWord.{ExpectedWord}

abbrev texts : List (Bor Text) → List Text
texts = map (λ word. word.now)

same_length : (words : List Text) (expected : List ExpectedWord) → AllZip IsExpectedWord words expected
    → length words ≡ length expected
same_length [] [] are = refl
same_length [] (one ∷ expected) are = absurd are
same_length (word ∷ words) [] are = absurd are
same_length (word ∷ words) (one ∷ expected) are = ap (λ (n : ℕ). suc n) (same_length words expected are.1)

-- ---- one word more

each_more : (words : List Text) (expected : List ExpectedWord) (word : Text) (one : ExpectedWord)
    → AllZip IsExpectedWord words expected → IsExpectedWord word one
    → AllZip IsExpectedWord (words ++ word ∷ []) (expected ++ one ∷ [])
each_more [] [] word one each is = (is, tt)
each_more [] (e ∷ expected) word one each is = absurd each
each_more (w ∷ words) [] word one each is = absurd each
each_more (w ∷ words) (e ∷ expected) word one each is = (each.0, each_more words expected word one each.1 is)

pub none_yet : AreExpected [] []
none_yet = record { each = tt; few = omega arith }

texts_more : (words : List (Bor Text)) (i : ℕ) (d : Bor Text) → i < length words
    → texts (take (i + 1) words) ≡ texts (take i words) ++ (get_or words i d).now ∷ []
texts_more words i d within =
    ap texts (take_more words i d within) ∙ map-append (λ word. word.now) (take i words) (get_or words i d ∷ [])

pub one_more : (words : List (Bor Text)) (i : ℕ) (d : Bor Text) (expected : List ExpectedWord) (one : ExpectedWord)
    → i < length words → AreExpected (texts (take i words)) expected → IsExpectedWord (get_or words i d).now one
    → length expected < 16 → AreExpected (texts (take (i + 1) words)) (expected ++ one ∷ [])
one_more words i d expected one within are is room =
    let before = texts (take i words) in
    let word = (get_or words i d).now in
    let many = same_length before expected are.each in
    let more : AreExpected (before ++ word ∷ []) (expected ++ one ∷ []) = record {
      each = each_more before expected word one are.each is;
      few = omega (arith, many, room, length-append before (word ∷ []));
    } in
    subst (λ (t : List Text). AreExpected t (expected ++ one ∷ [])) (sym (texts_more words i d within)) more

-- a list of at most 16 that is not full has room
pub few_said : (expected : List ExpectedWord) → false ≡ (length expected == 16) → length expected ≤ 16
    → length expected < 16
few_said expected not_full few =
    let apart : ¬ (length expected ≡ 16) =
    λ full. let bad = not_full ∙ (Decides-eqb (length expected) 16).1 full in absurd (cc) in
    omega (arith, few, apart)

-- ---- the first word at fault

first_unexpected : (words : List (Bor Text)) (i : ℕ) (d : Bor Text) (expected : List ExpectedWord)
    (fault : ExpectedFault) → i < length words → AreExpected (texts (take i words)) expected
    → unexpected_word fault ≡ (get_or words i d).now → IsUnexpectedAfter (texts (take i words)) fault
    → IsFirstUnexpected (texts words) fault
first_unexpected words i d expected fault within are is at_fault =
    let before = texts (take i words) in
    let after = texts (drop (i + 1) words) in
    let first : drop i words ≡ get_or words i d ∷ drop (i + 1) words = rw (add-one, drop-cons words i d) in
    let rest : texts (drop i words) ≡ unexpected_word fault ∷ after =
    ap texts first ∙ ap (λ (t : Text). t ∷ after) (sym is) in
    let place : texts words ≡ before ++ unexpected_word fault ∷ after =
    ap texts (sym (take-append-drop i words)) ∙ (map-append (λ word. word.now) (take i words) (drop i words)
    ∙ ap (λ (t : List Text). before ++ t) rest) in
    record {
      before = before;
      after = after;
      expected = expected;
      place = place;
      taken = are;
      is_fault = at_fault;
    }

pub no_pair : (words : List (Bor Text)) (i : ℕ) (d : Bor Text) (expected : List ExpectedWord) (word : Bor Text)
    → i < length words → AreExpected (texts (take i words)) expected → word.now ≡ (get_or words i d).now
    → ((one : ExpectedWord) → ¬ IsExpectedWord word.now one) → IsFirstUnexpected (texts words) (NoPair word)
no_pair words i d expected word within are is none =
    first_unexpected words i d expected (NoPair word) within are is none

pub too_many : (words : List (Bor Text)) (i : ℕ) (d : Bor Text) (expected : List ExpectedWord) (word : Bor Text)
    (one : ExpectedWord) → i < length words → AreExpected (texts (take i words)) expected
    → word.now ≡ (get_or words i d).now → IsExpectedWord word.now one → length expected ≡ 16
    → IsFirstUnexpected (texts words) (TooMany word)
too_many words i d expected word one within are is said full =
    first_unexpected words i d expected (TooMany word) within are is
    (one, said, same_length (texts (take i words)) expected are.each ∙ full)

-- ---- words of which one is at fault

not_each : (before : List Text) (word : Text) (after : List Text) (all : List ExpectedWord)
    → ((one : ExpectedWord) → ¬ IsExpectedWord word one) → ¬ AllZip IsExpectedWord (before ++ word ∷ after) all
not_each [] word after [] none are = absurd are
not_each [] word after (one ∷ all) none are = none one are.0
not_each (w ∷ before) word after [] none are = absurd are
not_each (w ∷ before) word after (one ∷ all) none are = not_each before word after all none are.1

none_of : (before after : List Text) (fault : ExpectedFault) (all : List ExpectedWord)
    → IsUnexpectedAfter before fault → ¬ AreExpected (before ++ unexpected_word fault ∷ after) all
none_of before after (NoPair word) all is are = not_each before word.now after all is are.each
none_of before after (TooMany word) all is are =
    absurd (omega (arith, are.few, is.2, length-append before (word.now ∷ after)))

pub not_expected : (words : List Text) (fault : ExpectedFault) → IsFirstUnexpected words fault
    → (expected : List ExpectedWord) → ¬ AreExpected words expected
not_expected words fault first expected are =
    none_of first.before first.after fault expected first.is_fault
    (subst (λ (all : List Text). AreExpected all expected) first.place are)
