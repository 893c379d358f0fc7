use Rattle.std.proofs.Common.{Some, negsuc, pos, is_some, ap, refl}
use Rattle.refusalslanguage.proofs.SmallNumbers.{no_quotient_leaves}
use Rattle.refusalslanguage.proofs.types.quotient_is_rounded_toward_0.Goals as goal

pub returns-in_err-quotients : goal.returns-in_err-quotients
returns-in_err-quotients c =
    absurd (no_quotient_leaves _ _ refl refl refl refl (c.div.ensures.none.0 (ap is_some c.in_err-quotients.was)))

pub returns : goal.returns
returns c =
    ap Some (c.contains.ensures.1 (c.in_ok-quotients.ensures.least.each (negsuc 2) (record {
      x = negsuc 6;
      y = pos 2;
      of_left = record { low = record { le = tt }; high = record { le = tt } };
      of_right = record { low = record { le = tt }; high = record { le = tt } };
      is = refl;
    })))
