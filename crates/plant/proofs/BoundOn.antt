-- Which sources are bound on a bus: what is done for these is done for all, where nothing is to be done for those of
-- other buses.
use Rattle.std.proofs.Common.{◌≡◌, ◌≢◌, ℕ, zero, suc, ◌+◌, ◌<◌, ◌≤◌, Bool, true, false, ◌&&◌, List, [], ◌∷◌}
use Rattle.std.proofs.Common.{length, drop, get_or, Option, Some, None, refl, sym, ap, ◌∙◌, subst, arith, below_more}
use Rattle.std.proofs.Common.{length-drop, ⊎_elim, leb, ne_eqb, ◌%◌, ◌^◌, ◌-◌}
use Rattle.std.proofs.lemmas.Bool.{eqb-false}
use Rattle.std.proofs.lemmas.Bool.Decides.{leb_tells}
use Rattle.std.proofs.lemmas.List.{drop_all, get_or-drop, drop-drop}
use Rattle.std.proofs.lemmas.Iterator.Adapters.{position_from-zero}
use Rattle.std.proofs.lemmas.List.Elements.{All-nil, All-cons}
use Rattle.std.specs.Prelude.{◌==◌, All, if◌then◌else◌, find, slice_index_or}
use Rattle.std.specs.List.{position, position_from}
use Rattle.wordlines.specs.declared.sources.BoundSource.{BoundSource}
use Rattle.plantevents.specs.declared.event.Event.{Event}
use Rattle.plantevents.specs.declared.event.Event.TheVariants.{Heard}
use Rattle.ilplan.specs.declared.global.Global.{Global as GlobalVariable}
use Rattle.plantevents.specs.Plants.{first_count}
use Rattle.plantevents.specs.Histories.{messages}
use Rattle.plant.specs.IndexSteps.{numbers_on}
use Rattle.plant.specs.InputSteps.{is_bound_at}
use Rattle.plant.specs.KeptSteps.{CountsFollow, IsCount, no_source, source_in}

flip : (a b : ℕ) → (a == b) ≡ false → (b == a) ≡ false
flip a b other = ne_eqb b a (λ e. eqb-false a b other (sym e))

-- ---- the numbers that are left

-- the first of the numbers: the sources before it are on other buses, and the numbers after it are those of the sources
-- after it
pub record IsNext (b k n : ℕ) (sources : List BoundSource) (rest : List ℕ) : Type 0 where
  pub skipped : ℕ
  pub is : n ≡ k + skipped
  pub within : skipped < length sources
  pub others : (i : ℕ) → i < skipped → ((source_in sources i).bus == b) ≡ false
  pub later : rest ≡ numbers_on b (n + 1) (drop (skipped + 1) sources)

other_below : (b : ℕ) (bound : BoundSource) (sources : List BoundSource) (n : ℕ) → (bound.bus == b) ≡ false
    → ((i : ℕ) → i < n → ((source_in sources i).bus == b) ≡ false)
    → (i : ℕ) → i < suc n → ((source_in (bound ∷ sources) i).bus == b) ≡ false
other_below b bound sources n other others zero lt = other
other_below b bound sources n other others (suc i) lt = others i (omega arith)

next_later : (b k n : ℕ) (bound : BoundSource) (sources : List BoundSource) (rest : List ℕ)
    → (bound.bus == b) ≡ false → IsNext b (k + 1) n sources rest → IsNext b k n (bound ∷ sources) rest
next_later b k n bound sources rest other next =
    let s = next.skipped in
    let one_more : suc (s + 1) ≡ suc s + 1 = omega arith in record {
      skipped = suc s;
      is = let e = next.is in omega arith;
      within = let lt = next.within in omega arith;
      others = λ i lt. other_below b bound sources s other next.others i lt;
      later = next.later ∙ ap (λ (m : ℕ). numbers_on b (n + 1) (drop m (bound ∷ sources))) one_more;
    }

next_by : (b k n : ℕ) (bound : BoundSource) (sources : List BoundSource) (rest : List ℕ) (here : Bool)
    → (bound.bus == b) ≡ here
    → ((numbers_on b (k + 1) sources ≡ n ∷ rest) → IsNext b (k + 1) n sources rest)
    → (if here then k ∷ numbers_on b (k + 1) sources else numbers_on b (k + 1) sources) ≡ n ∷ rest
    → IsNext b k n (bound ∷ sources) rest
next_by b k n bound sources rest true here more is =
    let first : k ≡ n = cc in let after : numbers_on b (k + 1) sources ≡ rest = cc in record {
      skipped = 0;
      is = omega arith;
      within = omega arith;
      others = λ i lt. absurd (omega arith);
      later = sym after ∙ ap (λ (m : ℕ). numbers_on b (m + 1) sources) first;
    }
next_by b k n bound sources rest false here more is = next_later b k n bound sources rest here (more is)

pub next_on : (b k n : ℕ) (sources : List BoundSource) (rest : List ℕ) → numbers_on b k sources ≡ n ∷ rest
    → IsNext b k n sources rest
next_on b k n [] rest is = absurd (cc)
next_on b k n (bound ∷ sources) rest is =
    next_by b k n bound sources rest (bound.bus == b) refl (next_on b (k + 1) n sources rest) is

-- where none is left, no source is on the bus
none_by : (b k : ℕ) (bound : BoundSource) (sources : List BoundSource) (here : Bool) → (bound.bus == b) ≡ here
    → (numbers_on b (k + 1) sources ≡ []
    → (i : ℕ) → i < length sources → ((source_in sources i).bus == b) ≡ false)
    → (if here then k ∷ numbers_on b (k + 1) sources else numbers_on b (k + 1) sources) ≡ []
    → (i : ℕ) → i < suc (length sources) → ((source_in (bound ∷ sources) i).bus == b) ≡ false
none_by b k bound sources true here more is i lt = absurd (cc)
none_by b k bound sources false here more is i lt =
    other_below b bound sources (length sources) here (more is) i lt

none_on : (b k : ℕ) (sources : List BoundSource) → numbers_on b k sources ≡ []
    → (i : ℕ) → i < length sources → ((source_in sources i).bus == b) ≡ false
none_on b k [] is i lt = absurd (omega arith)
none_on b k (bound ∷ sources) is i lt =
    none_by b k bound sources (bound.bus == b) refl (none_on b (k + 1) sources) is i lt

-- ---- counts

-- what is heard on a bus is no message of a source on another
other_messages : (bound : BoundSource) (b f : ℕ) (h : List Event) → (bound.bus == b) ≡ false
    → messages bound.bus bound.source (Heard b f ∷ h) ≡ messages bound.bus bound.source h
other_messages bound b f h other = rw (flip bound.bus b other) refl

other_counted : (globals : List GlobalVariable) (bound : BoundSource) (b f count : ℕ) (h : List Event) → (bound.bus == b) ≡ false
    → IsCount globals bound h count → IsCount globals bound (Heard b f ∷ h) count
other_counted globals bound b f count h other was =
    record {
      counted = was.counted ∙ ap (λ (n : ℕ). (first_count globals bound.bus bound.number + n) % 2 ^ 16)
          (sym (other_messages bound b f h other));
    }

-- the counts of the sources below a number are right, once a frame was heard, and those from it on are as they were
pub record AreCounted (sources : List BoundSource) (numbers : List ℕ) (b f j : ℕ) (first counts : List ℕ) : Type 0 where
  pub count : length counts ≡ length first
  pub reached : ℕ
  pub left : drop j numbers ≡ numbers_on b reached (drop reached sources)
  pub done : (globals : List GlobalVariable) (i : ℕ) (h : List Event) → i < reached → IsCount globals (source_in sources i) h (slice_index_or first i 0)
      → IsCount globals (source_in sources i) (Heard b f ∷ h) (slice_index_or counts i 0)
  pub rest : (i : ℕ) → reached ≤ i → slice_index_or counts i 0 ≡ slice_index_or first i 0

pub counted_start : (sources : List BoundSource) (numbers : List ℕ) (b f : ℕ) (counts : List ℕ)
    → numbers ≡ numbers_on b 0 sources → AreCounted sources numbers b f 0 counts counts
counted_start sources numbers b f counts is = record {
  count = refl;
  reached = 0;
  left = is;
  done = λ globals i h lt. absurd (omega arith);
  rest = λ i le. refl;
}

-- a source that the bus does not have, after those that are reached
between : (sources : List BoundSource) (b reached skipped i : ℕ)
    → ((m : ℕ) → m < skipped → ((source_in (drop reached sources) m).bus == b) ≡ false)
    → reached ≤ i → i < reached + skipped → ((source_in sources i).bus == b) ≡ false
between sources b reached skipped i others le lt =
    let m = i - reached in
    let here : reached + m ≡ i = omega arith in
    let same : source_in (drop reached sources) m ≡ source_in sources i =
    get_or-drop reached sources m no_source ∙ ap (source_in sources) here in
    subst (λ (s : BoundSource). (s.bus == b) ≡ false) same (others m (omega arith))

counted_below : (globals : List GlobalVariable) (sources : List BoundSource) (numbers : List ℕ) (b f j skipped i : ℕ) (first counts : List ℕ)
    (h : List Event) (was : AreCounted sources numbers b f j first counts)
    → ((m : ℕ) → m < skipped → ((source_in (drop was.reached sources) m).bus == b) ≡ false)
    → i < was.reached + skipped → IsCount globals (source_in sources i) h (slice_index_or first i 0)
    → IsCount globals (source_in sources i) (Heard b f ∷ h) (slice_index_or counts i 0)
counted_below globals sources numbers b f j skipped i first counts h was others lt before =
    ⊎_elim
    (λ (k : (leb was.reached i ≡ true) × (was.reached ≤ i)).
    other_counted globals (source_in sources i) b f (slice_index_or counts i 0) h
    (between sources b was.reached skipped i others k.1 lt)
    (subst (IsCount globals (source_in sources i) h) (sym (was.rest i k.1)) before))
    (λ (k : (leb was.reached i ≡ false) × (i < was.reached)). was.done globals i h k.1 before)
    (leb_tells was.reached i)

-- one number more
pub counted_turn : (sources : List BoundSource) (numbers : List ℕ) (b f j n : ℕ) (first counts after : List ℕ)
    → AreCounted sources numbers b f j first counts → drop j numbers ≡ n ∷ drop (j + 1) numbers
    → length after ≡ length counts
    → ((globals : List GlobalVariable) (h : List Event) → IsCount globals (source_in sources n) h (slice_index_or counts n 0)
    → IsCount globals (source_in sources n) (Heard b f ∷ h) (slice_index_or after n 0))
    → ((k : ℕ) → k ≢ n → slice_index_or after k 0 ≡ slice_index_or counts k 0)
    → AreCounted sources numbers b f (j + 1) first after
counted_turn sources numbers b f j n first counts after was at many here others =
    let next = next_on b was.reached n (drop was.reached sources) (drop (j + 1) numbers) (sym was.left ∙ at) in
    let reached : n ≡ was.reached + next.skipped = next.is in record {
      count = many ∙ was.count;
      reached = n + 1;
      left = next.later
          ∙ ap (numbers_on b (n + 1)) (drop-drop (next.skipped + 1) was.reached sources
          ∙ ap (λ (m : ℕ). drop m sources) (omega arith));
      done = λ globals i h lt before. below_more (λ i. IsCount globals (source_in sources i) h (slice_index_or first i 0)
          → IsCount globals (source_in sources i) (Heard b f ∷ h) (slice_index_or after i 0)) n
          (λ i below before.
          let other : i ≢ n = omega arith in
          subst (IsCount globals (source_in sources i) (Heard b f ∷ h)) (sym (others i other))
          (counted_below globals sources numbers b f j next.skipped i first counts h was next.others (omega arith)
          before))
          (λ before. here globals h
          (subst (IsCount globals (source_in sources n) h) (sym (was.rest n (omega arith))) before))
          i lt before;
      rest = λ i le. let other : i ≢ n = omega arith in others i other ∙ was.rest i (omega arith);
    }

pub counted_all : (globals : List GlobalVariable) (sources : List BoundSource) (numbers : List ℕ) (b f j : ℕ) (first counts : List ℕ) (h : List Event)
    → length numbers ≤ j → AreCounted sources numbers b f j first counts → CountsFollow globals sources h first
    → CountsFollow globals sources (Heard b f ∷ h) counts
counted_all globals sources numbers b f j first counts h past was before = (
  was.count ∙ before.0,
  λ i lt.
      let none = sym was.left ∙ drop_all j numbers past in
      let left = length-drop was.reached sources in
      counted_below globals sources numbers b f j (length (drop was.reached sources)) i first counts h was
      (none_on b was.reached (drop was.reached sources) none) (omega (arith, left)) (before.1 i lt),
)

-- ---- the source at a place of the bus

find_by : (here same : Bool) (k : ℕ) (rest : List ℕ) (after : Option ℕ) (test : ℕ → Bool) → test k ≡ same
    → find test rest ≡ after → find test (if here then k ∷ rest else rest) ≡ (if here && same then Some k else after)
find_by true same k rest after test is later =
    ap (λ (t : Bool). if t then Some k else find test rest) is
    ∙ ap (λ (o : Option ℕ). if same then Some k else o) later
find_by false same k rest after test is later = later

-- the source of this number has this number on its bus
abbrev pub has_number : List BoundSource → ℕ → ℕ → Bool
has_number sources number i = (source_in sources i).number == number

find_on : (b number k : ℕ) (sources all : List BoundSource) → drop k all ≡ sources
    → find (has_number all number) (numbers_on b k sources)
    ≡ position_from (is_bound_at b number) k sources
find_on b number k [] all at = refl
find_on b number k (bound ∷ sources) all at =
    let zero_more : k + 0 ≡ k = omega arith in
    let here : source_in all k ≡ bound =
    sym (ap (λ (l : List BoundSource). get_or l 0 no_source) (sym at)
    ∙ (get_or-drop k all 0 no_source ∙ ap (source_in all) zero_more)) in
    let after : drop (k + 1) all ≡ sources = sym (drop-drop 1 k all) ∙ ap (λ (l : List BoundSource). drop 1 l) at in
    find_by (bound.bus == b) (bound.number == number) k (numbers_on b (k + 1) sources)
    (position_from (is_bound_at b number) (k + 1) sources) (has_number all number)
    (ap (λ (s : BoundSource). s.number == number) here) (find_on b number (k + 1) sources all after)

found_on : (b number : ℕ) (sources : List BoundSource)
    → find (has_number sources number) (numbers_on b 0 sources)
    ≡ position (is_bound_at b number) sources
found_on b number sources =
    find_on b number 0 sources sources refl ∙ sym (position_from-zero (is_bound_at b number) sources)

below_by : (P : ℕ → Type 0) (k : ℕ) (rest : List ℕ) (here : Bool) → P k → All P rest
    → All P (if here then k ∷ rest else rest)
below_by P k rest true is more = All-cons P k rest is more
below_by P k rest false is more = more

below_from : (b k n : ℕ) (sources : List BoundSource) → k + length sources ≤ n
    → All (λ i. i < n) (numbers_on b k sources)
below_from b k n [] le = All-nil (λ i. i < n)
below_from b k n (bound ∷ sources) le =
    below_by (λ i. i < n) k (numbers_on b (k + 1) sources) (bound.bus == b) (omega arith)
    (below_from b (k + 1) n sources (omega arith))

-- each of the numbers is that of a source
pub bound_there : (b j n : ℕ) (sources : List BoundSource) (numbers : List ℕ) → numbers ≡ numbers_on b 0 sources
    → j < length numbers → n ≡ get_or numbers j n → n < length sources
bound_there b j n sources numbers is lt at =
    let below = below_from b 0 (length sources) sources (omega arith) in
    let here : get_or (numbers_on b 0 sources) j n < length sources =
    below j n (subst (λ (l : List ℕ). j < length l) is lt) in
    subst (λ (i : ℕ). i < length sources) (sym (at ∙ ap (λ (l : List ℕ). get_or l j n) is)) here

pub found_here : (b number j n : ℕ) (sources : List BoundSource) (numbers : List ℕ) → numbers ≡ numbers_on b 0 sources
    → find (has_number sources number) (drop j numbers) ≡ find (has_number sources number) numbers
    → drop j numbers ≡ n ∷ drop (j + 1) numbers → has_number sources number n ≡ true
    → Some n ≡ position (is_bound_at b number) sources
found_here b number j n sources numbers is was at passes =
    let test = has_number sources number in
    sym (ap (λ (t : Bool). if t then Some n else find test (drop (j + 1) numbers)) passes)
    ∙ (sym (ap (find test) at) ∙ (was ∙ (ap (find test) is ∙ found_on b number sources)))

pub found_later : (number j n : ℕ) (sources : List BoundSource) (numbers : List ℕ)
    → find (has_number sources number) (drop j numbers) ≡ find (has_number sources number) numbers
    → drop j numbers ≡ n ∷ drop (j + 1) numbers → has_number sources number n ≡ false
    → find (has_number sources number) (drop (j + 1) numbers) ≡ find (has_number sources number) numbers
found_later number j n sources numbers was at fails =
    let test = has_number sources number in
    sym (ap (λ (t : Bool). if t then Some n else find test (drop (j + 1) numbers)) fails)
    ∙ (sym (ap (find test) at) ∙ was)

pub found_nowhere : (b number j : ℕ) (sources : List BoundSource) (numbers : List ℕ) → numbers ≡ numbers_on b 0 sources
    → find (has_number sources number) (drop j numbers) ≡ find (has_number sources number) numbers
    → length numbers ≤ j → None ≡ position (is_bound_at b number) sources
found_nowhere b number j sources numbers is was past =
    let test = has_number sources number in
    sym (ap (find test) (drop_all j numbers past)) ∙ (was ∙ (ap (find test) is ∙ found_on b number sources))
