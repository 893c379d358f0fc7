use Rattle.std.proofs.Common.{ℕ, Some, true, inl, inr, refl, sym, arith, IsTrue}
use Rattle.std.specs.Prelude.{◌≡◌}
use Rattle.ildeclared.specs.Faults.{Beyond, IsLeast, IsNotAfter, OfCause}
use Rattle.ildeclared.specs.declared.fault.NameCause.{NameCause}
use Rattle.ildeclared.specs.declared.fault.NameCause.TheVariants.{BadDeclaration, Twice}
use Rattle.ildeclared.specs.declared.found.Found.{Found}
use Rattle.ilscope.proofs.OneFault.{one_least}
use Rattle.refusalslanguage.proofs.declared.greater_cause_there_is_next.Goals as goal

abbrev last : Found
last = record { at = 5; cause = Twice }

-- the fault that stands there comes after the last one
abbrev IsThere : ℕ → NameCause → Type 0
IsThere = Beyond (Some last) (OfCause BadDeclaration (λ place. IsTrue true × (place ≡ 5)))

no_other : (place : ℕ) (cause : NameCause) → IsThere place cause → IsNotAfter 5 BadDeclaration place cause
no_other place cause there = inr (sym there.0.1.1, rw there.0.0 (omega arith))

there : IsLeast IsThere 5 BadDeclaration
there = record {
  is = ((refl, (cc, refl)), inr (refl, omega arith));
  least = no_other;
}

pub returns : goal.returns
returns c =
    one_least IsThere c.found_where.result (Some (record { at = 5; cause = BadDeclaration })) c.found_where.ensures there
