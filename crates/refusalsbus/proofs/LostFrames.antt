-- What marks of lost frames spell of a transaction.
use Rattle.std.proofs.Common.{◌≡◌, ℕ, zero, ◌<◌, List, [], ◌∷◌, ◌++◌, length, refl, ap, arith, All, subst, sym}
use Rattle.buslink.specs.declared.marks.Mark.{Mark}
use Rattle.buslink.specs.declared.marks.Mark.TheVariants.{Lost}
use Rattle.buslink.specs.Attempts.{Attempt, IsAttempt, IsReport, all_marks, last_mark}
use Rattle.buslink.specs.Marks.{IsBroken}

last_is_lost : (before : List Mark) (final : Mark) → Lost ∷ [] ≡ (before ++ final ∷ []) ++ [] → final ≡ Lost
last_is_lost [] final e = cc
last_is_lost (mark ∷ []) final e = cc
last_is_lost (mark ∷ other ∷ more) final e = cc

two_marks : (before then : List Mark) (final end : Mark) (rest : List Mark)
    → Lost ∷ [] ≡ (before ++ final ∷ []) ++ ((then ++ end ∷ []) ++ rest) → ⊥
two_marks [] [] final end rest e = cc
two_marks [] (mark ∷ then) final end rest e = cc
two_marks (mark ∷ []) then final end rest e = cc
two_marks (mark ∷ other ∷ before) then final end rest e = cc

-- of one attempt a lost frame is the last
pub one_lost : (count : ℕ) (attempts : List Attempt) → IsReport 0 count attempts → Lost ∷ [] ≡ all_marks attempts
    → last_mark attempts ≡ Lost
one_lost count [] legal spelled = absurd legal
one_lost count (a ∷ []) legal spelled = last_is_lost a.before a.last spelled
one_lost count (a ∷ b ∷ more) legal spelled = absurd legal

-- while attempts are left, a lost frame alone spells no report
pub lost_is_retried : (count : ℕ) (attempts : List Attempt) → IsReport 2 count attempts
    → ¬ (Lost ∷ [] ≡ all_marks attempts)
lost_is_retried count [] legal spelled = legal
lost_is_retried count (a ∷ []) legal spelled = let none = legal.1 (last_is_lost a.before a.last spelled) in omega arith
lost_is_retried count (a ∷ b ∷ more) legal spelled =
    two_marks a.before b.before a.last b.last (all_marks more) spelled

broken_inside : (before : List Mark) (final : Mark) → All (λ mark. ¬ IsBroken mark) before
    → ¬ (Lost ∷ Lost ∷ Lost ∷ [] ≡ (before ++ final ∷ []) ++ [])
broken_inside [] final unbroken e = cc
broken_inside (mark ∷ before) final unbroken e =
    let first : mark ≡ Lost = cc in
    let kept = unbroken 0 mark (omega arith) in
    subst (λ (m : Mark). ¬ IsBroken m) first kept tt

-- three lost frames are not those of one attempt
pub lost_in_one_attempt : (count : ℕ) (attempts : List Attempt) → IsReport 0 count attempts
    → ¬ (Lost ∷ Lost ∷ Lost ∷ [] ≡ all_marks attempts)
lost_in_one_attempt count [] legal spelled = legal
lost_in_one_attempt count (a ∷ []) legal spelled = broken_inside a.before a.last legal.0.unbroken spelled
lost_in_one_attempt count (a ∷ b ∷ more) legal spelled = legal
