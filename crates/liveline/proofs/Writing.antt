-- Lines that are written part after part.
use Rattle.std.proofs.Common.{◌≡◌, ℕ, ◌-◌, List, [], ◌++◌, Option, length, take, drop, refl, sym, ap, ◌∙◌}
use Rattle.std.proofs.Common.{subst, append_assoc, append-nil}
use Rattle.std.proofs.lemmas.List.{take-append-drop, take_rest}
use Rattle.std.specs.Io.KnownBytes.{Appends, Keeps}
use Rattle.std.proofs.KnownBytes.{Appends-nil, Appends-trans, Appends-kept}
use Rattle.liveline.specs.Exchanges.{IsAtMost, IsWrittenBut}

pub nothing_written : (line : List ℕ) (a : Option (List ℕ)) → IsWrittenBut line line a a
nothing_written line a = record { front = []; parts = refl; written = Appends-nil a }

-- a failed write takes nothing
pub nothing_taken : (line : List ℕ) (a b : Option (List ℕ)) → Keeps a b → IsWrittenBut line line a b
nothing_taken line a b kept =
    record { front = []; parts = refl; written = Appends-kept a a b [] (Appends-nil a) kept }

-- a write took the first n bytes
pub front_taken : (line : List ℕ) (n : ℕ) (a b : Option (List ℕ)) → Appends a b (take n line)
    → IsWrittenBut line (take (length line - n) (drop n line)) a b
front_taken line n a b taken = record {
  front = take n line;
  parts = sym (take-append-drop n line) ∙ ap (λ (xs : List ℕ). take n line ++ xs) (sym (take_rest line n));
  written = taken;
}

-- then what was written of the rest was written of the line
pub more_written : (line rest after : List ℕ) (a b c : Option (List ℕ)) → IsWrittenBut line rest a b
    → IsWrittenBut rest after b c → IsWrittenBut line after a c
more_written line rest after a b c first more = record {
  front = first.front ++ more.front;
  parts = first.parts
      ∙ (ap (λ (xs : List ℕ). first.front ++ xs) more.parts ∙ sym (append_assoc first.front more.front after));
  written = Appends-trans a b c first.front more.front first.written more.written;
}

-- where no rest is left, the line was written whole
pub all_written : (line rest : List ℕ) (a b c : Option (List ℕ)) → IsWrittenBut line rest a b → Keeps b c → rest ≡ []
    → Appends a c line
all_written line rest a b c first kept none =
    let whole : line ≡ first.front = first.parts
    ∙ (ap (λ (xs : List ℕ). first.front ++ xs) none ∙ append-nil first.front) in
    subst (λ (xs : List ℕ). Appends a c xs) (sym whole) (Appends-kept a b c first.front first.written kept)

-- a line that was written but for a rest was written at most
pub at_most : (line rest : List ℕ) (a b c : Option (List ℕ)) → IsWrittenBut line rest a b → Keeps b c
    → IsAtMost line a c
at_most line rest a b c first kept = record {
  rest = rest;
  written = record {
    front = first.front;
    parts = first.parts;
    written = Appends-kept a b c first.front first.written kept;
  };
}

pub not_begun : (line : List ℕ) (a : Option (List ℕ)) → IsAtMost line a a
not_begun line a = record { rest = line; written = nothing_written line a }
