-- How many parentheses are open after a word, and when a rule holds whether or not a jump leads to the next place.
use Rattle.std.proofs.Common.{◌≡◌, ℕ, ◌<◌, ◌+◌, ◌-◌, List, [], ◌∷◌, length, Option, Some, None, Bool, IsTrue, ◌⊎◌}
use Rattle.std.proofs.Common.{inl, inr, ap, ◌∙◌, arith}
use Rattle.iltypes.specs.declared.operator.Operator.{Operator}
use Rattle.ilcode.specs.declared.word.Word.{Word}
use Rattle.ilcode.specs.declared.word.Word.TheVariants as words
use Rattle.ilcode.specs.declared.word.Target.TheVariants.{Slot, Port}
use Rattle.ilcode.specs.Listings.{Listing}
use Rattle.ilverify.specs.declared.cause.Cause.{Cause}
use Rattle.ilverify.specs.declared.cause.Cause.TheVariants as causes
use Rattle.ilverify.specs.declared.entry.Entry.{Entry}
use Rattle.ilverify.specs.declared.known.Known.{Known}
use Rattle.ilverify.specs.declared.nesting.KnownOpened.{KnownOpened}
use Rattle.ilverify.specs.Refusals.{IsClosedAt, HasToClose, StaysOpen, open_after, ArisesAtWord}
use Rattle.ilverify.specs.Rules.{Ways, Opens, Closes, IsEntryAfter, AreWaysOf, IsRule}

close_count : (entry after : Entry) (nesting : List KnownOpened) → Closes entry nesting after
    → length after.nesting ≡ length nesting - 1
close_count entry after [] h = absurd h
close_count entry after (innermost ∷ nesting) h = ap (λ (e : Entry). length e.nesting) h.is ∙ omega arith

open_count : (entry after : Entry) (operator : Operator) (result : Option Known) → Opens entry operator result after
    → length after.nesting ≡ length entry.nesting + 1
open_count entry after operator None h = absurd h
open_count entry after operator (Some saved) h = ap (λ (e : Entry). length e.nesting) h ∙ omega arith

pub after_count : (code : Listing) (place : ℕ) (entry : Entry) (word : Word) (after : Entry)
    → IsEntryAfter code place entry word after → length after.nesting ≡ open_after word (length entry.nesting)
after_count code place entry (words.Load negated operand) after h = ap (λ (e : Entry). length e.nesting) h.1.is
after_count code place entry (words.Apply operator operand) after h = ap (λ (e : Entry). length e.nesting) h.1.is
after_count code place entry (words.Transform function) after h = ap (λ (e : Entry). length e.nesting) h.is
after_count code place entry (words.Store negated (Slot slot)) after h = ap (λ (e : Entry). length e.nesting) h.1.is
after_count code place entry (words.Store negated (Port port block)) after h =
    ap (λ (e : Entry). length e.nesting) h.1.is
after_count code place entry (words.Set variable) after h = ap (λ (e : Entry). length e.nesting) h.2
after_count code place entry (words.Reset variable) after h = ap (λ (e : Entry). length e.nesting) h.2
after_count code place entry (words.Pass port block operand) after h = ap (λ (e : Entry). length e.nesting) h.2.is
after_count code place entry (words.Call block) after h = ap (λ (e : Entry). length e.nesting) h.2
after_count code place entry (words.Open operator) after h = open_count entry after operator entry.result h
after_count code place entry words.Close after h = close_count entry after entry.nesting h
after_count code place entry (words.Jump condition target) after h = absurd h
after_count code place entry (words.Give operand slot) after h = ap (λ (e : Entry). length e.nesting) h.2.is
after_count code place entry (words.Invoke function) after h = ap (λ (e : Entry). length e.nesting) h

-- ---- jumps that lead to the next place

-- a jump leads there too, or nothing is open there
abbrev pub IsMetOrClosed : Bool → Bool → Ways → Type 0
IsMetOrClosed met other ways =
    (after : Entry) → ways.next ≡ Some after → IsTrue other → IsTrue met ⊎ (after.nesting ≡ [])

closed_at : (code : Listing) (place : ℕ) (met other : Bool) (ways : Ways) (after : Entry) → IsMetOrClosed met other ways
    → ways.next ≡ Some after → 0 < length after.nesting → IsClosedAt code place other → IsClosedAt code place met
closed_at code place met other ways after f e o (inl s) = inl s
closed_at code place met other ways after f e o (inr (inl s)) = inr (inl s)
closed_at code place met other ways after f e o (inr (inr j)) =
    elim (f after e j) [
      | inl m ↦ inr (inr m)
      | inr n ↦ absurd (omega (arith, ap length n, o))
    ]

has_to_close : (code : Listing) (place : ℕ) (met other : Bool) (entry : Entry) (word : Word) (ways : Ways)
    → IsMetOrClosed met other ways → AreWaysOf code place entry word ways
    → 0 < open_after word (length entry.nesting) → HasToClose code place other word → HasToClose code place met word
has_to_close code place met other entry (words.Jump condition target) ways f h o c = tt
has_to_close code place met other entry word ways f h o c =
    let n = after_count code place entry word h.after h.leaves in
    closed_at code (place + 1) met other ways h.after f h.next (omega (arith, n, o)) c

stays_open : (code : Listing) (place : ℕ) (met other : Bool) (entry : Entry) (word : Word) (ways : Ways)
    → IsMetOrClosed met other ways → AreWaysOf code place entry word ways
    → StaysOpen code place other word (open_after word (length entry.nesting))
    → StaysOpen code place met word (open_after word (length entry.nesting))
stays_open code place met other entry word ways f h (inl s) =
    inl (s.0, has_to_close code place met other entry word ways f h s.0 s.1)
stays_open code place met other entry word ways f h (inr s) = inr s

-- the word has its rule there too
pub rule_met : (code : Listing) (place : ℕ) (met other : Bool) (entry : Entry) (word : Word) (ways : Ways)
    → IsMetOrClosed met other ways → IsRule code place met entry word ways → IsRule code place other entry word ways
rule_met code place met other entry word ways f r = record { lawful = λ cause a. lawful cause a; leaves = r.leaves }
  where
    lawful : (cause : Cause) → ¬ ArisesAtWord code place other entry word cause
    lawful causes.OpenNesting a =
        r.lawful causes.OpenNesting (stays_open code place met other entry word ways f r.leaves a)
    lawful cause a = r.lawful cause a
