use Rattle.std.proofs.Common.{inr}
use Rattle.ildeclared.specs.declared.fault.NameCause.TheVariants.{TooMany}
use Rattle.ilsyms.specs.Faults.{IsWellNamed}
use Rattle.refusalslanguage.proofs.Results.{if_ok}
use Rattle.refusalslanguage.proofs.names.function_too_deep_is_refused.Goals as goal

pub returns : goal.returns
returns c =
    if_ok (λ _. IsWellNamed c.args.source.now c.args.binding.now) (λ _. ⊥) c.resolve.result c.resolve.ensures.named
    (λ _ named. named c.args.place TooMany (inr (inr (inr (inr (inr (inr c.requires)))))))
