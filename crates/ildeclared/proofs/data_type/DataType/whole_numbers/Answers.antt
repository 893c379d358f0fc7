use Rattle.std.proofs.Common.{◌∙◌, ap, ℤ, sym, refl, w64}
use Rattle.std.specs.Prelude.{Some}
use Rattle.iltypes.proofs.Fitting.{again}
use Rattle.ildeclared.proofs.Subranges.{numbers_of, numbers_given}
use Rattle.ildeclared.proofs.data_type.DataType.whole_numbers.Goals as goal

pub returns : goal.returns
returns c =
    numbers_given c.args.range c.args.first
    ∙ ap (λ (first : ℤ). Some (numbers_of c.args.range first))
    (sym (again w64 c.args.first c.args.first c.ranges.first refl))
