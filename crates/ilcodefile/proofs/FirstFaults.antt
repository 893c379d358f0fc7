-- A file has no fault.
use Rattle.std.proofs.Common.{◌≡◌, ◌<◌, ◌≤◌, List, ℕ, length, refl, sym, ap, ◌∙◌, subst, arith, inl, inr}
use Rattle.ilcodefile.specs.Faults.{AreFew, IsFile, IsFirst, IsShaped, head_size, size, version_in}
use Rattle.ilcodefile.specs.declared.fault.FileCause.{FileCause}
use Rattle.ilcodefile.specs.declared.fault.FileCause.TheVariants.{Magic, Cut, Trailing, BadField, TooMany}
use Rattle.ilcodefile.proofs.Lengths.{counts_are, few_counts, file_long, has_buses, has_head}

pub shaped : (bytes : List ℕ) → IsFile bytes → IsShaped bytes
shaped bytes is =
    let code = is.0 in
    let h = is.1.0 in
    let counts = counts_are code h in
    subst IsShaped is.1.1
    (record {
      head = has_head code;
      buses = has_buses code h;
      few = subst AreFew (sym counts) (few_counts code h);
      long = file_long code h ∙ ap size (sym counts);
    })

pub no_fault : (bytes : List ℕ) (cause : FileCause) → IsFirst bytes cause → IsFile bytes → ⊥
no_fault bytes Magic bad is = bad (shaped bytes is).head.0
no_fault bytes Cut (inl bad) is =
    let long = (shaped bytes is).head.1 in let short = bad.1 in absurd (omega arith)
no_fault bytes Cut (inr bad) is =
    let long = (shaped bytes is).long in let short = bad.3 in absurd (omega arith)
no_fault bytes TooMany bad is = bad.2 (shaped bytes is).few
no_fault bytes Trailing bad is =
    let long = (shaped bytes is).long in let more = bad.3 in absurd (omega arith)
no_fault bytes BadField (inl bad) is = bad.1 (shaped bytes is).buses
no_fault bytes BadField (inr bad) is = bad.4 is

-- a field is bad where the length is right and there is no code
pub bad_field : (bytes : List ℕ) → IsShaped bytes → ¬ IsFile bytes → IsFirst bytes BadField
bad_field bytes shape none = inr (shape.head, shape.buses, shape.few, shape.long, none)

-- ---- there is one first fault at most

short : (bytes : List ℕ) → length bytes < head_size (version_in bytes) → head_size (version_in bytes) ≤ length bytes
    → ⊥
short bytes few many = omega arith

pub one_fault : (bytes : List ℕ) (a b : FileCause) → IsFirst bytes a → IsFirst bytes b → a ≡ b
one_fault bytes Magic Magic x y = refl
one_fault bytes Magic Cut x (inl y) = absurd (x y.0)
one_fault bytes Cut Magic (inl y) x = absurd (x y.0)
one_fault bytes Magic Cut x (inr y) = absurd (x y.0.0)
one_fault bytes Cut Magic (inr y) x = absurd (x y.0.0)
one_fault bytes Magic Trailing x y = absurd (x y.0.0)
one_fault bytes Trailing Magic y x = absurd (x y.0.0)
one_fault bytes Magic BadField x (inl y) = absurd (x y.0.0)
one_fault bytes BadField Magic (inl y) x = absurd (x y.0.0)
one_fault bytes Magic BadField x (inr y) = absurd (x y.0.0)
one_fault bytes BadField Magic (inr y) x = absurd (x y.0.0)
one_fault bytes Magic TooMany x y = absurd (x y.0.0)
one_fault bytes TooMany Magic y x = absurd (x y.0.0)
one_fault bytes Cut Cut x y = refl
one_fault bytes Cut Trailing (inl x) y = absurd (short bytes x.1 y.0.1)
one_fault bytes Trailing Cut y (inl x) = absurd (short bytes x.1 y.0.1)
one_fault bytes Cut Trailing (inr x) y = let less = x.3 in let more = y.3 in absurd (omega arith)
one_fault bytes Trailing Cut y (inr x) = let less = x.3 in let more = y.3 in absurd (omega arith)
one_fault bytes Cut BadField (inl x) (inl y) = absurd (short bytes x.1 y.0.1)
one_fault bytes BadField Cut (inl y) (inl x) = absurd (short bytes x.1 y.0.1)
one_fault bytes Cut BadField (inl x) (inr y) = absurd (short bytes x.1 y.0.1)
one_fault bytes BadField Cut (inr y) (inl x) = absurd (short bytes x.1 y.0.1)
one_fault bytes Cut BadField (inr x) (inl y) = absurd (y.1 x.1)
one_fault bytes BadField Cut (inl y) (inr x) = absurd (y.1 x.1)
one_fault bytes Cut BadField (inr x) (inr y) = let less = x.3 in let long = y.3 in absurd (omega arith)
one_fault bytes BadField Cut (inr y) (inr x) = let less = x.3 in let long = y.3 in absurd (omega arith)
one_fault bytes Cut TooMany (inl x) y = absurd (short bytes x.1 y.0.1)
one_fault bytes TooMany Cut y (inl x) = absurd (short bytes x.1 y.0.1)
one_fault bytes Cut TooMany (inr x) y = absurd (y.2 x.2)
one_fault bytes TooMany Cut y (inr x) = absurd (y.2 x.2)
one_fault bytes Trailing Trailing x y = refl
one_fault bytes Trailing BadField x (inl y) = absurd (y.1 x.1)
one_fault bytes BadField Trailing (inl y) x = absurd (y.1 x.1)
one_fault bytes Trailing BadField x (inr y) = let more = x.3 in let long = y.3 in absurd (omega arith)
one_fault bytes BadField Trailing (inr y) x = let more = x.3 in let long = y.3 in absurd (omega arith)
one_fault bytes Trailing TooMany x y = absurd (y.2 x.2)
one_fault bytes TooMany Trailing y x = absurd (y.2 x.2)
one_fault bytes BadField BadField x y = refl
one_fault bytes BadField TooMany (inl x) y = absurd (x.1 y.1)
one_fault bytes TooMany BadField y (inl x) = absurd (x.1 y.1)
one_fault bytes BadField TooMany (inr x) y = absurd (y.2 x.2)
one_fault bytes TooMany BadField y (inr x) = absurd (y.2 x.2)
one_fault bytes TooMany TooMany x y = refl
