-- The lines of words, one word after another, and the first word that is at fault.
use Rattle.std.proofs.Common.{◌≡◌, ◌≢◌, ◌∙◌, ◌<◌, ◌≤◌, ◌+◌, ◌++◌, ◌∷◌, ℕ, Bool, List, [], add-one}
use Rattle.std.proofs.Common.{arith, ap, subst, sym, refl, true, false, length, get_or, take, drop, map}
use Rattle.std.specs.Prelude.{◌||◌, nat_eq}
use Rattle.std.specs.Borrow.{Bor}
use Rattle.std.specs.List.{AllPairs, AllZip, Any, IsDistinct, list_any}
use Rattle.std.proofs.Math.Seq.{drop-cons}
use Rattle.std.proofs.lemmas.List.{get_or-map, get_or_default, length-map, map-append, take-append-drop, take_more}
use Rattle.std.proofs.lemmas.List.Quantifiers.{all_pairs_push}
use Rattle.std.proofs.lemmas.Map.Made.{IsDistinct-from_AllPairs}
use Rattle.std.proofs.lemmas.Map.Steps.{length-le_from_distinct_below}
use Rattle.std.proofs.lemmas.Bool.Decides.{Decides-eqb}
use Rattle.clap.specs.Words.{Text}
use Rattle.commandline.specs.LineWords.{AreLines, IsFaultAfter, IsFirstFault, IsLineWord, SharePath, word_of}
use Rattle.commandline.proofs.LineParts.{bus_spelled}
use Rattle.commandoptions.specs.declared.line_word.LineWord.{LineWord}
use Rattle.commandline.specs.declared.line_words.LineWordFault.{LineWordFault}

abbrev texts : List (Bor Text) → List Text
texts = map (λ word. word.now)

drop_more : (words : List (Bor Text)) (i : ℕ) (d : Bor Text) → i < length words
    → drop i words ≡ get_or words i d ∷ drop (i + 1) words
drop_more words i d within = rw (add-one, drop-cons words i d)

-- ---- one line more

each_more : (words : List Text) (lines : List LineWord) (word : Text) (line : LineWord) → AllZip IsLineWord words lines
    → IsLineWord word line → AllZip IsLineWord (words ++ word ∷ []) (lines ++ line ∷ [])
each_more [] [] word line each is = (is, tt)
each_more [] (l ∷ lines) word line each is = absurd each
each_more (w ∷ words) [] word line each is = absurd each
each_more (w ∷ words) (l ∷ lines) word line each is = (each.0, each_more words lines word line each.1 is)

-- lines of which no two meet, and behind them one that meets none of them
apart_more : (Meet : LineWord → LineWord → Type 0) (lines : List LineWord) (line : LineWord)
    → AllPairs (λ one other. ¬ Meet one other) lines → ¬ Any (λ other. Meet other line) lines
    → AllPairs (λ one other. ¬ Meet one other) (lines ++ line ∷ [])
apart_more Meet lines line apart none =
    all_pairs_push (λ one other. ¬ Meet one other) lines line apart
    (λ k d within meet. none (k, get_or lines k d, within, get_or_default lines k (get_or lines k d) d within, meet))

pub none_yet : AreLines [] []
none_yet =
    record {
      each = tt;
      apart = λ i j d before within. absurd (omega arith);
      unshared = λ i j d before within. absurd (omega arith);
    }

texts_more : (words : List (Bor Text)) (i : ℕ) (d : Bor Text) → i < length words
    → texts (take (i + 1) words) ≡ texts (take i words) ++ (get_or words i d).now ∷ []
texts_more words i d within =
    ap texts (take_more words i d within) ∙ map-append (λ word. word.now) (take i words) (get_or words i d ∷ [])

pub one_more : (words : List (Bor Text)) (i : ℕ) (d : Bor Text) (lines : List LineWord) (line : LineWord)
    → i < length words → AreLines (texts (take i words)) lines → IsLineWord (get_or words i d).now line
    → ¬ Any (λ other. other.bus ≡ line.bus) lines → ¬ Any (λ other. SharePath other line) lines
    → AreLines (texts (take (i + 1) words)) (lines ++ line ∷ [])
one_more words i d lines line within are is none unshared =
    let more : AreLines (texts (take i words) ++ (get_or words i d).now ∷ []) (lines ++ line ∷ []) = record {
      each = each_more (texts (take i words)) lines (get_or words i d).now line are.each is;
      apart = apart_more (λ one other. one.bus ≡ other.bus) lines line are.apart none;
      unshared = apart_more SharePath lines line are.unshared unshared;
    } in
    subst (λ (t : List Text). AreLines t (lines ++ line ∷ [])) (sym (texts_more words i d within)) more

-- ---- at most one line of each bus

one_of_both : (bus : ℕ) (line : LineWord) (buses : List ℕ) → line.bus < 64
    → (list_any (nat_eq bus) buses ≡ true → bus < 64) → (same : Bool) → nat_eq bus line.bus ≡ same
    → (same || list_any (nat_eq bus) buses) ≡ true → bus < 64
one_of_both bus line buses small rest true same is =
    let this : bus ≡ line.bus = (Decides-eqb bus line.bus).0 same in
    omega (arith, this, small)
one_of_both bus line buses small rest false same is = rest is

below : (words : List Text) (lines : List LineWord) → AllZip IsLineWord words lines → (bus : ℕ)
    → list_any (nat_eq bus) (map (λ line. line.bus) lines) ≡ true → bus < 64
below [] [] each bus is = absurd (cc)
below [] (line ∷ lines) each bus is = absurd each
below (word ∷ words) [] each bus is = absurd each
below (word ∷ words) (line ∷ lines) each bus is =
    one_of_both bus line (map (λ line. line.bus) lines) (bus_spelled each.0.digits line.bus each.0.bus).1
    (below words lines each.1 bus) (nat_eq bus line.bus) refl is

buses_apart : (lines : List LineWord) → AllPairs (λ one other. ¬ (one.bus ≡ other.bus)) lines
    → AllPairs (λ x y. x ≢ y) (map (λ line. line.bus) lines)
buses_apart [] apart i j d before within = absurd (omega arith)
buses_apart (line ∷ lines) apart i j d before within =
    let bus = λ (l : LineWord). l.bus in
    let all : length (map bus (line ∷ lines)) ≡ length (line ∷ lines) = length-map (line ∷ lines) bus in
    let one = get_or-map bus (line ∷ lines) i line d (omega (arith, all)) in
    let other = get_or-map bus (line ∷ lines) j line d (omega (arith, all)) in
    λ same. apart i j line before (omega (arith, all)) (sym one ∙ (same ∙ other))

pub room : (words : List Text) (lines : List LineWord) → AreLines words lines → length lines ≤ 64
room words lines are =
    let buses = map (λ (line : LineWord). line.bus) lines in
    let distinct : IsDistinct nat_eq buses = IsDistinct-from_AllPairs Decides-eqb buses (buses_apart lines are.apart) in
    let few = length-le_from_distinct_below buses 64 distinct (below words lines are.each) in
    let all : length buses ≡ length lines = length-map lines (λ (line : LineWord). line.bus) in
    omega (arith, few, all)

-- ---- the first word at fault

pub first_fault : (words : List (Bor Text)) (i : ℕ) (d : Bor Text) (lines : List LineWord) (fault : LineWordFault)
    → i < length words → AreLines (texts (take i words)) lines → word_of fault ≡ (get_or words i d).now
    → IsFaultAfter lines fault → IsFirstFault (texts words) fault
first_fault words i d lines fault within are is at_fault =
    let before = texts (take i words) in
    let after = texts (drop (i + 1) words) in
    let rest : texts (drop i words) ≡ word_of fault ∷ after =
    ap texts (drop_more words i d within) ∙ ap (λ (t : Text). t ∷ after) (sym is) in
    let place : texts words ≡ before ++ word_of fault ∷ after =
    ap texts (sym (take-append-drop i words)) ∙ (map-append (λ word. word.now) (take i words) (drop i words)
    ∙ ap (λ (t : List Text). before ++ t) rest) in
    record {
      before = before;
      after = after;
      lines = lines;
      place = place;
      taken = are;
      is_fault = at_fault;
    }
