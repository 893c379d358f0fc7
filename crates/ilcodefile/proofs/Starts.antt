-- Starts one after another are those of a code.
use Rattle.std.proofs.Common.{◌≡◌, ℕ, zero, suc, ◌<◌, ◌≤◌, List, [], ◌∷◌, length, get_or, arith}
use Rattle.std.specs.Prelude.{All}
use Rattle.std.specs.List.Sorted.{IsNonDecreasing}
use Rattle.std.proofs.lemmas.List.Elements.{All-nil, All-cons}
use Rattle.ilcode.specs.declared.word.Word.{Word}
use Rattle.ilcode.specs.Listings.{AreStarts}
use Rattle.ilcodefile.specs.BodySteps.{BeginPrograms, Rise}

-- no start is below one before
above : (end before : ℕ) (starts : List ℕ) → Rise end before starts → (j d : ℕ) → j < length starts
    → before ≤ get_or starts j d
above end before [] rise j d below = absurd (omega arith)
above end before (start ∷ starts) rise zero d below = rise.0
above end before (start ∷ starts) rise (suc j) d below =
    let first = rise.0 in
    let later = above end start starts rise.2 j d (omega arith) in
    omega arith

ordered : (end before : ℕ) (starts : List ℕ) → Rise end before starts → IsNonDecreasing starts
ordered end before [] rise i j d le below = absurd (omega arith)
ordered end before (start ∷ starts) rise zero zero d le below = omega arith
ordered end before (start ∷ starts) rise zero (suc j) d le below = above end start starts rise.2 j d (omega arith)
ordered end before (start ∷ starts) rise (suc i) zero d le below = absurd (omega arith)
ordered end before (start ∷ starts) rise (suc i) (suc j) d le below =
    ordered end start starts rise.2 i j d (omega arith) (omega arith)

within : (end before : ℕ) (starts : List ℕ) → Rise end before starts → All (λ start. start ≤ end) starts
within end before [] rise = All-nil (λ start. start ≤ end)
within end before (start ∷ starts) rise =
    All-cons (λ start. start ≤ end) start starts rise.1 (within end start starts rise.2)

-- where a list of starts is good, so is it with a start of 0 before it
from_first : (end start : ℕ) (starts : List ℕ) → (start ≡ 0) × Rise end start starts → Rise end 0 (start ∷ starts)
from_first end start starts begin = let first = begin.0 in (omega arith, omega arith, begin.1)

pub starts_are : (end : ℕ) (starts : List ℕ) (words : List Word) → end ≤ length words
    → BeginPrograms end starts words → AreStarts starts words
starts_are end [] words far none =
    record {
      ordered = λ i j d le below. absurd (omega arith);
      within = All-nil (λ start. start ≤ length words);
      first = none;
    }
starts_are end (start ∷ starts) words far begin =
    let rise = from_first end start starts begin in
    record {
      ordered = ordered end 0 (start ∷ starts) rise;
      within =
          λ k d below.
          let inside = within end 0 (start ∷ starts) rise k d below in
          omega arith;
      first = begin.0;
    }

-- none begins behind the end
pub starts_within : (end : ℕ) (starts : List ℕ) (words : List Word) → BeginPrograms end starts words
    → All (λ start. start ≤ end) starts
starts_within end [] words begin = All-nil (λ start. start ≤ end)
starts_within end (start ∷ starts) words begin =
    within end 0 (start ∷ starts) (from_first end start starts begin)

-- and the starts of a code are such
rises : (end before : ℕ) (starts : List ℕ) → IsNonDecreasing (before ∷ starts) → All (λ start. start ≤ end) starts
    → Rise end before starts
rises end before [] sorted inside = tt
rises end before (start ∷ starts) sorted inside = (
  sorted 0 1 0 (omega arith) (omega arith),
  inside 0 start (omega arith),
  rises end start starts
      (λ i j d le below. sorted (suc i) (suc j) d (omega arith) (omega arith))
      (λ k d below. inside (suc k) d (omega arith)),
)

pub starts_begin : (end : ℕ) (starts : List ℕ) (words : List Word) → AreStarts starts words
    → All (λ start. start ≤ end) starts → BeginPrograms end starts words
starts_begin end [] words are inside = are.first
starts_begin end (start ∷ starts) words are inside =
    (are.first, rises end start starts are.ordered (λ k d below. inside (suc k) d (omega arith)))
