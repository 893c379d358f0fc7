-- What is known after a word that leads to the next place alone, of what a verifier's step gives.
use Rattle.std.proofs.Common.{◌≡◌, ℕ, Bool, true, false, List, [], ◌∷◌, Option, Some, None, Result, Ok, Err, MatchResult}
use Rattle.std.proofs.Common.{IfOk, IfSome, IsTrue, refl, ap, sym, subst, ◌∙◌, slice_get, slice_set}
use Rattle.iltypes.specs.declared.value.IlType.{IlType}
use Rattle.ilcode.specs.Listings.{Listing}
use Rattle.ilcode.specs.declared.word.Word.{Word}
use Rattle.ilcode.specs.declared.word.Word.TheVariants as words
use Rattle.ilcode.specs.declared.word.WordOperand.TheVariants as operands
use Rattle.ilcode.specs.declared.word.Target.TheVariants as targets
use Rattle.ilverify.specs.declared.cause.Cause.{Cause}
use Rattle.ilverify.specs.declared.change.Changes.{Changes}
use Rattle.ilverify.specs.declared.entry.Entry.{Entry}
use Rattle.ilverify.specs.declared.known.Known.{Known}
use Rattle.ilverify.specs.Changes.{ways_of}
use Rattle.ilverify.specs.Rules.{Ways, AreOnward, AreWaysOf, IsEntryAfter, IsRule, IsStored}

onward_ways : (IsAfter : Entry → Type 0) (P : Entry → Type 0) (ways : Ways) → AreOnward IsAfter ways
    → ((after : Entry) → IsAfter after → P after) → IfSome ways.next P
onward_ways IsAfter P ways onward each =
    subst (λ (next : Option Entry). IfSome next P) (sym onward.next) (each onward.after onward.leaves)

-- of a word that leads to the next place alone P holds of what is known there
pub onward : (code : Listing) (place : ℕ) (met : Bool) (entry : Entry) (word : Word) (P : Entry → Type 0)
    (Least : Cause → Type 0) (given : Result Changes Cause)
    → MatchResult given (λ changes. IsRule code place met entry word (ways_of code entry changes)) Least
    → ((ways : Ways) → AreWaysOf code place entry word ways → AreOnward (IsEntryAfter code place entry word) ways)
    → ((after : Entry) → IsEntryAfter code place entry word after → P after)
    → IfOk given (λ changes. IfSome (ways_of code entry changes).next P)
onward code place met entry word P Least (Ok changes) rule leads each =
    let ways = ways_of code entry changes in
    onward_ways (IsEntryAfter code place entry word) P ways (leads ways rule.leaves) each
onward code place met entry word P Least (Err cause) least leads each = tt

-- another slot stays
pub next_slot_stays : (slots : List Known) (known : Known) → slice_get (slice_set slots 0 known) 1 ≡ slice_get slots 1
next_slot_stays [] known = refl
next_slot_stays (first ∷ []) known = refl
next_slot_stays (first ∷ second ∷ slots) known = refl

-- what is stored is what was the current result
pub stored_is : (result : Option Known) (type : Option IlType) (known stored : Known) → result ≡ Some known
    → IsStored false result type stored → known ≡ stored
stored_is None type known stored e is = absurd is
stored_is (Some found) None known stored e is = absurd is
stored_is (Some found) (Some type) known stored e is = let same = is.0 in cc
