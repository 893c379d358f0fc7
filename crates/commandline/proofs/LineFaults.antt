-- Words of which one is at fault name no lines.
use Rattle.std.proofs.Common.{◌≡◌, ◌∙◌, ◌<◌, ◌++◌, ◌∷◌, ℕ, List, [], Some, None, Option, suc}
use Rattle.std.proofs.Common.{arith, ap, ap₂, subst, sym, refl, length, get_or, drop, map}
use Rattle.std.specs.Prelude.{◌⊎◌, option_map, unwrap_or}
use Rattle.std.specs.List.{AllPairs, AllZip, Any, Contains}
use Rattle.std.proofs.Math.ListN.{get_or-append, length-append}
use Rattle.std.proofs.Math.Seq.{get_or-append_seam}
use Rattle.std.proofs.lemmas.List.{get_or-map, get_or_default, length-map}
use Rattle.clap.specs.Words.{Text}
use Rattle.wordlines.specs.WordLines.{number_upto}
use Rattle.commandline.proofs.LineParts.{StandsNowhere, between, bus_spelled, no_sign_there, nowhere}
use Rattle.commandline.specs.LineWords.{AreLines, ArePaths, IsFaultAfter, IsFirstFault, IsLineWord, SharePath, comma}
use Rattle.commandline.specs.LineWords.{equals_sign, word_of}
use Rattle.commandoptions.specs.declared.line_word.LineWord.{LineWord}
use Rattle.commandline.specs.declared.line_words.LineWordFault.{LineWordFault}
use Rattle.commandline.specs.declared.line_words.LineWordFault.TheVariants.{Again, NoLine, Shared}

-- ---- a word names a line in one way

same_parts : (byte : ℕ) (front back other rest : Text) → StandsNowhere byte front → StandsNowhere byte other
    → front ++ byte ∷ back ≡ other ++ byte ∷ rest → (front ≡ other) × (back ≡ rest)
same_parts byte [] back [] rest none nor same = (refl, ap (λ (t : Text). drop 1 t) same)
same_parts byte [] back (o ∷ other) rest none nor same =
    absurd (nor 0 (omega arith) (sym (ap (λ (t : Text). get_or t 0 0) same)))
same_parts byte (f ∷ front) back [] rest none nor same =
    absurd (none 0 (omega arith) (ap (λ (t : Text). get_or t 0 0) same))
same_parts byte (f ∷ front) back (o ∷ other) rest none nor same =
    let first : f ≡ o = ap (λ (t : Text). get_or t 0 0) same in
    let more : front ++ byte ∷ back ≡ other ++ byte ∷ rest = ap (λ (t : Text). drop 1 t) same in
    let both = same_parts byte front back other rest (λ i within. none (suc i) (omega arith))
    (λ i within. nor (suc i) (omega arith)) more in
    (ap₂ (λ (x : ℕ) (xs : Text). x ∷ xs) first both.0, both.1)

same_paths : (text from : Text) (to : Option Text) (other : Text) (back : Option Text) → ArePaths text from to
    → ArePaths text other back → (from ≡ other) × (to ≡ back)
same_paths text from None other None are also = (sym are.spelled ∙ also.spelled, refl)
same_paths text from None other (Some back) are also =
    absurd (are.is_from.1 (subst (λ (t : Text). Contains t comma) (sym also.spelled ∙ are.spelled)
    (between comma other back)))
same_paths text from (Some to) other None are also =
    absurd (also.is_from.1 (subst (λ (t : Text). Contains t comma) (sym are.spelled ∙ also.spelled)
    (between comma from to)))
same_paths text from (Some to) other (Some back) are also =
    let both = same_parts comma from to other back (nowhere comma from are.is_from.1)
    (nowhere comma other also.is_from.1) (sym are.spelled ∙ also.spelled) in
    (both.0, ap (λ (t : Text). Some t) both.1)

-- what a word names: the bus, the path that is read, and the one that is written where that is another one
abbrev Named : Type 0
Named = ℕ × Text × Option Text

abbrev named : LineWord → Named
named line = (line.bus, line.from.now, option_map (λ path. path.now) line.to)

abbrev with_bus : Text → Option Text → ℕ → Named
with_bus from to bus = (bus, from, to)

abbrev with_paths : ℕ → Text → Option Text → Named
with_paths bus from to = (bus, from, to)

same_named : (word : Text) (one other : LineWord) → IsLineWord word one → IsLineWord word other
    → named one ≡ named other
same_named word one other is also =
    let parts = same_parts equals_sign is.digits is.paths also.digits also.paths
    (no_sign_there is.digits (bus_spelled is.digits one.bus is.bus).0)
    (no_sign_there also.digits (bus_spelled also.digits other.bus also.bus).0) (sym is.spelled ∙ also.spelled) in
    let two : Some one.bus ≡ Some other.bus =
    sym is.bus ∙ (ap (λ (t : Text). number_upto 63 t) parts.0 ∙ also.bus) in
    let bus : one.bus ≡ other.bus = ap (λ (b : Option ℕ). unwrap_or b one.bus) two in
    let to = option_map (λ path. path.now) other.to in
    let paths = same_paths is.paths one.from.now (option_map (λ path. path.now) one.to) other.from.now to is.are_paths
    (subst (λ (t : Text). ArePaths t other.from.now to) (sym parts.1) also.are_paths) in
    ap (with_bus one.from.now (option_map (λ path. path.now) one.to)) bus
    ∙ ap₂ (with_paths other.bus) paths.0 paths.1

all_named : (words : List Text) (ones others : List LineWord) → AllZip IsLineWord words ones
    → AllZip IsLineWord words others → map named ones ≡ map named others
all_named [] [] [] are also = refl
all_named [] [] (other ∷ others) are also = absurd also
all_named [] (one ∷ ones) others are also = absurd are
all_named (word ∷ words) [] others are also = absurd are
all_named (word ∷ words) (one ∷ ones) [] are also = absurd also
all_named (word ∷ words) (one ∷ ones) (other ∷ others) are also =
    ap₂ (λ (x : Named) (xs : List Named). x ∷ xs) (same_named word one other are.0 also.0)
    (all_named words ones others are.1 also.1)

-- ---- the line of a word in the middle

record HasAt (before : List Text) (word : Text) (all : List LineWord) : Type 0 where
  pub front : List LineWord
  pub line : LineWord
  pub back : List LineWord
  pub parts : all ≡ front ++ line ∷ back
  pub names : AllZip IsLineWord before front
  pub is : IsLineWord word line

has_at : (before : List Text) (word : Text) (after : List Text) (all : List LineWord)
    → AllZip IsLineWord (before ++ word ∷ after) all → HasAt before word all
has_at [] word after [] are = absurd are
has_at [] word after (line ∷ all) are =
    record { front = []; line = line; back = all; parts = refl; names = tt; is = are.0 }
has_at (w ∷ before) word after [] are = absurd are
has_at (w ∷ before) word after (line ∷ all) are =
    let rest = has_at before word after all are.1 in
    record {
      front = line ∷ rest.front;
      line = rest.line;
      back = rest.back;
      parts = ap (λ (lines : List LineWord). line ∷ lines) rest.parts;
      names = (are.0, rest.names);
      is = rest.is;
    }

-- ---- a line that meets one before it

meets : (Meet : Named → Named → Type 0) (front back known : List LineWord) (line same_line : LineWord)
    → map named front ≡ map named known → named line ≡ named same_line
    → Any (λ other. Meet (named other) (named same_line)) known
    → ¬ AllPairs (λ one other. ¬ Meet (named one) (named other)) (front ++ line ∷ back)
meets Meet front back known line same_line same is any apart =
    let name = λ (l : LineWord). named l in
    let k = any.0 in
    let d = named line in
    let all = length-map front name in
    let known_all = length-map known name in
    let lengths : length (map name front) ≡ length (map name known) = ap (λ (t : List Named). length t) same in
    let within : k < length front = omega (arith, any.2, all, known_all, lengths) in
    let there : get_or known k line ≡ any.1 = get_or_default known k line any.1 any.2 ∙ any.3 in
    let one : named (get_or front k line) ≡ named any.1 =
    sym (get_or-map name front k line d within) ∙ (ap (λ (names : List Named). get_or names k d) same
    ∙ (get_or-map name known k line d any.2 ∙ ap name there)) in
    let whole = front ++ line ∷ back in
    let first : get_or whole k line ≡ get_or front k line = get_or-append front (line ∷ back) line k within in
    let second : get_or whole (length front) line ≡ line = get_or-append_seam front line back line in
    let met : Meet (named any.1) (named (get_or whole (length front) line)) =
    subst (λ (n : Named). Meet (named any.1) n) (sym (ap name second ∙ is)) any.4 in
    apart k (length front) line within (omega (arith, length-append front (line ∷ back)))
    (subst (λ (n : Named). Meet n (named (get_or whole (length front) line))) (sym (ap name first ∙ one)) met)

abbrev OfOneBus : Named → Named → Type 0
OfOneBus one other = one.0 ≡ other.0

abbrev Has : Named → Text → Type 0
Has line path = (line.1 ≡ path) ⊎ (line.2 ≡ Some path)

abbrev OfOnePath : Named → Named → Type 0
OfOnePath one other = (path : Text) × Has one path × Has other path

-- ---- no lines

none_of : (before after : List Text) (known all : List LineWord) (fault : LineWordFault)
    → AreLines before known → IsFaultAfter known fault → ¬ AreLines (before ++ word_of fault ∷ after) all
none_of before after known all (NoLine word) taken is are =
    let at = has_at before word.now after all are.each in
    is at.line at.is
none_of before after known all (Again word) taken is are =
    let at = has_at before word.now after all are.each in
    meets OfOneBus at.front at.back known at.line is.0 (all_named before at.front known at.names taken.each)
    (same_named word.now at.line is.0 at.is is.1) is.2
    (subst (λ (lines : List LineWord). AllPairs (λ one other. ¬ (one.bus ≡ other.bus)) lines) at.parts are.apart)
none_of before after known all (Shared word) taken is are =
    let at = has_at before word.now after all are.each in
    meets OfOnePath at.front at.back known at.line is.0 (all_named before at.front known at.names taken.each)
    (same_named word.now at.line is.0 at.is is.1) is.3
    (subst (λ (lines : List LineWord). AllPairs (λ one other. ¬ SharePath one other) lines) at.parts are.unshared)

pub no_lines : (words : List Text) (fault : LineWordFault) → IsFirstFault words fault → (lines : List LineWord)
    → ¬ AreLines words lines
no_lines words fault first lines are =
    none_of first.before first.after first.lines lines fault first.taken first.is_fault
    (subst (λ (all : List Text). AreLines all lines) first.place are)
