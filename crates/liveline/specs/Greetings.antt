-- A line whose interface greeted: what was said on it, and what it answered (profile).
use Rattle.std.specs.Prelude.{◌≡◌, ◌⊎◌, ℕ, Bool, true, false, List, ◌++◌, Option, All}
use Rattle.std.specs.Io.KnownBytes.{Appends, Consumes}
use Rattle.liveline.specs.Lines.{ended, fault_line, greeting, line_end, numbered_answer, numbered_greeting}

-- the two ends of a line: what the interface is still to say, and what was said to it, where reader and writer know
pub record Ends : Type 0 where
  pub unread : Option (List ℕ)
  pub written : Option (List ℕ)

abbrev pub ends : Option (List ℕ) → Option (List ℕ) → Ends
ends unread written = record { unread = unread; written = written }

-- a line whose interface greeted
pub record GreetedLine : Type 0 where
  pub unread : Option (List ℕ)
  pub written : Option (List ℕ)
  -- whether it was greeted in version 3: what comes is said unasked
  pub announces : Bool

-- its two ends
abbrev pub ends_of : GreetedLine → Ends
ends_of line = ends line.unread line.written

-- the line answers the greeting of this number in this version: it has both, or the interface does not know such a
-- greeting
abbrev pub IsAnswer : ℕ → ℕ → List ℕ → Type 0
IsAnswer version number line = (line ≡ numbered_answer version number) ⊎ (line ≡ fault_line)

-- how an interface answers that greeting that knows it, and one that does not
abbrev pub answer_line : Bool → ℕ → ℕ → List ℕ
answer_line true version number = numbered_answer version number
answer_line false version number = fault_line

-- Lines were read up to the first that answers that greeting, which is this one: what the interface was still to say
-- before is passed over.
pub record IsAnswered (version number : ℕ) (line : List ℕ) (old new : Option (List ℕ)) : Type 0 where
  pub passed : List (List ℕ)
  pub others : All (λ other. ¬ IsAnswer version number other) passed
  pub read : Consumes old new (ended passed ++ (line ++ line_end))

-- some bytes were read, which say nothing
abbrev pub IsReadAway : Option (List ℕ) → Option (List ℕ) → Type 0
IsReadAway old new = (rest : List ℕ) × Consumes old new rest

-- the greeting of this number in this version was said, and answered by this line
pub record IsAsked (version number : ℕ) (line : List ℕ) (old new : Ends) : Type 0 where
  pub request : Appends old.written new.written (numbered_greeting version number ++ line_end)
  pub answer : IsAnswered version number line old.unread new.unread

-- What came until it was silent was read away, the greeting of version 1 was said, and the one line that was read after
-- it is that greeting.
pub record IsGreetedPlainly (old new : Ends) : Type 0 where
  pub request : Appends old.written new.written (greeting ++ line_end)
  pub silent : Option (List ℕ)
  pub read_away : IsReadAway old.unread silent
  pub answer : Consumes silent new.unread (greeting ++ line_end)

-- the interface knows the greeting of this version
abbrev pub Knows : ℕ → ℕ → Ends → Ends → Type 0
Knows version number old new = IsAsked version number (numbered_answer version number) old new

-- the interface does not know it, and from then on this holds
pub record Refuses (version number : ℕ) (Then : Ends → Ends → Type 0) (old new : Ends) : Type 0 where
  pub refused : Ends
  pub refusal : IsAsked version number fault_line old refused
  pub after : Then refused new

-- the line was greeted by this number in version 2 or, where the interface does not know that, in version 1
abbrev pub IsGreetedAsBefore : ℕ → Ends → Ends → Type 0
IsGreetedAsBefore number old new = Knows 2 number old new ⊎ Refuses 2 number IsGreetedPlainly old new

-- The line was greeted by this number in version 3 or, where the interface does not know that, as before. It announces
-- in version 3 alone.
abbrev pub IsGreeted : ℕ → Ends → GreetedLine → Type 0
IsGreeted number old line =
    ((line.announces ≡ true) × Knows 3 number old (ends_of line))
    ⊎ ((line.announces ≡ false) × Refuses 3 number (IsGreetedAsBefore number) old (ends_of line))
