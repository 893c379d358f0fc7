use Rattle.std.proofs.Common.{Some, pos, is_some, ap, refl}
use Rattle.refusalslanguage.proofs.SmallNumbers.{no_product_leaves}
use Rattle.refusalslanguage.proofs.types.product_of_the_greatest_is_held.Goals as goal

pub returns-in_err-products : goal.returns-in_err-products
returns-in_err-products c =
    absurd (no_product_leaves _ _ refl refl refl refl (c.mul.ensures.none.0 (ap is_some c.in_err-products.was)))

pub returns : goal.returns
returns c =
    ap Some (c.contains.ensures.1 (c.in_ok-products.ensures.least.each (pos 15) (record {
      x = pos 3;
      y = pos 5;
      of_left = record { low = record { le = tt }; high = record { le = tt } };
      of_right = record { low = record { le = tt }; high = record { le = tt } };
      is = refl;
    })))
