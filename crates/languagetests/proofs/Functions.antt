-- A code without functions has its functions in order.
use Rattle.std.proofs.Common.{◌≡◌, ℕ, ◌≤◌, List, [], ◌∷◌, length, Some, ap, arith}
use Rattle.std.specs.Prelude.{All, slice_get}
use Rattle.ilcode.specs.declared.function.FunctionBody.{FunctionBody}
use Rattle.ilcode.specs.Listings.{Listing, AreFunctions, end_of}

none_there : (fs : List FunctionBody) (number : ℕ) (f : FunctionBody) → fs ≡ [] → slice_get fs number ≡ Some f → ⊥
none_there [] number f none e = absurd cc
none_there (g ∷ fs) number f none e = absurd cc

pub none : (code : Listing) → code.functions ≡ [] → All (λ start. start ≤ end_of code 0) code.starts
    → AreFunctions code
none code e starts =
    let long = ap (λ (fs : List FunctionBody). length fs) e in
    record {
      most = omega (arith, long);
      each = λ number f there. absurd (none_there code.functions number f e there);
      programs = starts;
    }
