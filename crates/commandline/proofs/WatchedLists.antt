-- The names that words have, one after another, and the seventeenth.
use Rattle.std.proofs.Common.{◌≡◌, ◌∙◌, ◌<◌, ◌≤◌, ◌+◌, ◌++◌, ◌∷◌, ℕ, List, [], add-one, arith, ap, sym, refl}
use Rattle.std.proofs.Common.{false, length, get_or, take, drop, map, suc}
use Rattle.std.specs.Prelude.{◌==◌}
use Rattle.std.specs.Borrow.{Bor}
use Rattle.std.proofs.Math.ListN.{length-append}
use Rattle.std.proofs.Math.Seq.{drop-cons}
use Rattle.std.proofs.lemmas.Bool.Decides.{Decides-eqb}
use Rattle.std.proofs.lemmas.List.{map-append, take-append-drop, take_more}
use Rattle.clap.specs.Words.{Text}
use Rattle.commandline.specs.WatchedNames.{AreWatched, IsSeventeenth}
use Rattle.commandline.specs.declared.watched_names.WatchedFault.{WatchedFault}

abbrev texts : List (Bor Text) → List Text
texts = map (λ word. word.now)

same_many : (names : List (Bor Text)) → length (texts names) ≡ length names
same_many [] = refl
same_many (name ∷ names) = ap (λ (n : ℕ). suc n) (same_many names)

-- ---- one name more

pub none_watched : AreWatched [] []
none_watched = record { same = refl; few = omega arith }

texts_more : (words : List (Bor Text)) (i : ℕ) (d : Bor Text) → i < length words
    → texts (take (i + 1) words) ≡ texts (take i words) ++ (get_or words i d).now ∷ []
texts_more words i d within =
    ap texts (take_more words i d within) ∙ map-append (λ word. word.now) (take i words) (get_or words i d ∷ [])

pub one_name_more : (words watched : List (Bor Text)) (i : ℕ) (d : Bor Text) → i < length words
    → AreWatched (texts (take i words)) watched → length watched < 16
    → AreWatched (texts (take (i + 1) words)) (watched ++ get_or words i d ∷ [])
one_name_more words watched i d within are room =
    let word = get_or words i d in
    let same : texts (watched ++ word ∷ []) ≡ texts (take (i + 1) words) =
    map-append (λ name. name.now) watched (word ∷ [])
    ∙ (ap (λ (t : List Text). t ++ word.now ∷ []) are.same ∙ sym (texts_more words i d within)) in
    record {
      same = same;
      few =
          omega (
            arith,
            room,
            same_many (watched ++ word ∷ []),
            ap (λ (t : List Text). length t) same,
            length-append watched (word ∷ []),
          );
    }

-- names that are at most 16 and no 16 have room
pub room_left : (watched : List (Bor Text)) → false ≡ (length watched == 16) → length watched ≤ 16
    → length watched < 16
room_left watched not_full few =
    let apart : ¬ (length watched ≡ 16) = λ full. let bad = not_full ∙ (Decides-eqb (length watched) 16).1 full in absurd (cc) in
    omega (arith, few, apart)

-- ---- the seventeenth

pub seventeenth : (words watched : List (Bor Text)) (i : ℕ) (d : Bor Text) → i < length words
    → AreWatched (texts (take i words)) watched → length watched ≡ 16
    → IsSeventeenth (texts words) (record { name = get_or words i d })
seventeenth words watched i d within are sixteen =
    let first : drop i words ≡ get_or words i d ∷ drop (i + 1) words = rw (add-one, drop-cons words i d) in
    record {
      before = texts (take i words);
      after = texts (drop (i + 1) words);
      place =
          ap texts (sym (take-append-drop i words)) ∙ (map-append (λ word. word.now) (take i words) (drop i words)
          ∙ ap (λ (t : List (Bor Text)). texts (take i words) ++ texts t) first);
      sixteen = ap (λ (t : List Text). length t) (sym are.same) ∙ (same_many watched ∙ sixteen);
    }

-- where there is a seventeenth word, there are more than 16
pub seventeen : (words : List Text) (fault : WatchedFault) → IsSeventeenth words fault → 16 < length words
seventeen words fault is =
    let whole = ap (λ (t : List Text). length t) is.place in
    omega (arith, whole, is.sixteen, length-append is.before (fault.name.now ∷ is.after))
