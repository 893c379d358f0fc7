-- What is read of a reader's front.
use Rattle.std.proofs.Common.{◌≡◌, ℕ, List, [], ◌++◌, Option, Some, None, take, option_map}
use Rattle.std.specs.Prelude.{IfSome}

pub front_taken : (known : Option (List ℕ)) (most : ℕ) (before after : List ℕ) → before ≡ []
    → IfSome (option_map (take most) known) (λ front. after ≡ before ++ front)
    → IfSome known (λ all. after ≡ take most all)
front_taken None most before after empty read = tt
front_taken (Some all) most before after empty read = rw empty at read
