use Rattle.std.proofs.Common.{sym, subst}
use Rattle.ilsource.specs.declared.operand.Operand.{Operand}
use Rattle.ilsource.specs.declared.symbol.Symbol.{Symbol}
use Rattle.ildeclared.specs.Faults.{IsNextOf, OfCause}
use Rattle.ildeclared.specs.declared.fault.NameCause.TheVariants.{Unknown}
use Rattle.ilscope.specs.UseFaults.{IsUnknownOperand}
use Rattle.ilscope.proofs.unknown_uses.unknown_use.Goals as goal

pub returns : goal.returns
returns c p at =
    subst (λ (o : Operand Symbol). IsNextOf c.args.after
    (OfCause Unknown (λ place. IsUnknownOperand c.args.scope.now.tree p place c.args.used.purpose o))
    c.unknown_symbol.result)
    (sym c.in-Name.is) (c.unknown_symbol.ensures p at)
