-- Of some faults at most one is the least, and so at most one is reported.
use Rattle.std.proofs.Common.{◌≡◌, ℕ, List, refl, sym, ap, ◌∙◌, inl, inr, arith}
use Rattle.std.specs.Prelude.{◌==◌, Option, Some, None, if◌then◌else◌}
use Rattle.ilsource.specs.Places.{line_at, col_at}
use Rattle.ildeclared.specs.Causes.{name_fault_number}
use Rattle.ildeclared.specs.Faults.{IsNotAfter, IsLeast, IsLeastOf}
use Rattle.ildeclared.specs.declared.fault.NameCause.{NameCause}
use Rattle.ildeclared.specs.declared.fault.NameCause.TheVariants.{Unknown, Twice, UnknownLabel, BackwardJump}
use Rattle.ildeclared.specs.declared.fault.NameCause.TheVariants.{BadAddress, InputRangeTooSmall, WrittenTwice}
use Rattle.ildeclared.specs.declared.fault.NameCause.TheVariants.{WritesInput, NoTask, TooMany, BadDeclaration}
use Rattle.ildeclared.specs.declared.fault.NameFault.{NameFault}
use Rattle.ildeclared.specs.declared.fault.NameFault.TheVariants.{Memory, At}
use Rattle.ildeclared.specs.declared.found.Found.{Found}
use Rattle.ilscope.specs.Reports.{ReportsLeast}

-- the cause of a number
abbrev cause_of : ℕ → NameCause
cause_of n =
    if n == 2 then Unknown else if n == 3 then Twice else if n == 4 then UnknownLabel
    else if n == 5 then BackwardJump else if n == 6 then BadAddress else if n == 7 then InputRangeTooSmall
    else if n == 8 then WrittenTwice else if n == 9 then WritesInput else if n == 10 then NoTask
    else if n == 11 then TooMany else BadDeclaration

cause_again : (c : NameCause) → cause_of (name_fault_number c) ≡ c
cause_again Unknown = refl
cause_again Twice = refl
cause_again UnknownLabel = refl
cause_again BackwardJump = refl
cause_again BadAddress = refl
cause_again InputRangeTooSmall = refl
cause_again WrittenTwice = refl
cause_again WritesInput = refl
cause_again NoTask = refl
cause_again TooMany = refl
cause_again BadDeclaration = refl

same_cause : (a b : NameCause) → name_fault_number a ≡ name_fault_number b → a ≡ b
same_cause a b e = sym (cause_again a) ∙ ap cause_of e ∙ cause_again b

-- each is not after the other
same_at : (p q : ℕ) (a b : NameCause) → IsNotAfter p a q b → IsNotAfter q b p a → (p ≡ q) × (a ≡ b)
same_at p q a b (inl lt) (inl gt) = absurd (omega (arith, lt, gt))
same_at p q a b (inl lt) (inr g) = absurd (omega (arith, lt, g.0))
same_at p q a b (inr h) (inl gt) = absurd (omega (arith, gt, h.0))
same_at p q a b (inr h) (inr g) = (h.0, same_cause a b (omega (arith, h.1, g.1)))

least_is_one : (F : ℕ → NameCause → Type 0) (p q : ℕ) (a b : NameCause) → IsLeast F p a → IsLeast F q b
    → (p ≡ q) × (a ≡ b)
least_is_one F p q a b h g = same_at p q a b (h.least q b g.is) (g.least p a h.is)

-- what is found is one at most
pub one_least : (F : ℕ → NameCause → Type 0) (a b : Option Found) → IsLeastOf F a → IsLeastOf F b → a ≡ b
one_least F None None h g = refl
one_least F None (Some b) h g = absurd (h b.at b.cause g.is)
one_least F (Some a) None h g = absurd (g a.at a.cause h.is)
one_least F (Some a) (Some b) h g =
    let same : (a.at ≡ b.at) × (a.cause ≡ b.cause) = least_is_one F a.at b.at a.cause b.cause h g in
    λ i. Some (record { at = same.0 i; cause = same.1 i })

pub one_report : (text : List ℕ) (F : ℕ → NameCause → Type 0) (a b : NameFault) → ReportsLeast text F a
    → ReportsLeast text F b → a ≡ b
one_report text F Memory b h g = absurd h
one_report text F (At line col cause) Memory h g = absurd g
one_report text F (At line col cause) (At row place its) h g =
    let same : (h.0 ≡ g.0) × (cause ≡ its) = least_is_one F h.0 g.0 cause its h.1 g.1 in
    let lines : line ≡ row = h.2 ∙ ap (line_at text) same.0 ∙ sym g.2 in
    let cols : col ≡ place = h.3 ∙ ap (col_at text) same.0 ∙ sym g.3 in
    let causes : cause ≡ its = same.1 in
    cc
