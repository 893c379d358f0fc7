-- What the parts of a name around its first dot say.
use Rattle.std.proofs.Common.{◌≡◌, ◌≢◌, ◌∙◌, ◌<◌, ◌↔◌, ℕ, List, Option, Some, None, arith, subst, sym, get_or, length}
use Rattle.std.specs.Prelude.{MatchOption}
use Rattle.std.specs.Borrow.{Bor}
use Rattle.std.specs.List.{Contains}
use Rattle.std.proofs.lemmas.List.{get_or_default}
use Rattle.std.proofs.lemmas.Str.Pattern.{IsSplitOnceResult, split_after, split_parts}
use Rattle.plantplay.specs.Names.{IsAlike}
use Rattle.plantplay.specs.Watched.{IsNameOf, dot}

nowhere : (text : List ℕ) → ¬ Contains text dot → (i : ℕ) → i < length text → get_or text i 0 ≢ dot
nowhere text none i within is = none (i, within, get_or_default text i dot 0 within ∙ is)

-- a name is one of an instance and a variable in one way
in_one_way : (name instance variable : List ℕ) (split : Option (Bor (List ℕ) × Bor (List ℕ)))
    → IsSplitOnceResult dot name split → (is : IsNameOf name instance variable)
    → MatchOption split ⊥ (λ x. (x.0.now ≡ is.before) × (x.1.now ≡ is.behind))
in_one_way name instance variable split parts is =
    split_after dot name is.before is.behind split parts (omega arith) is.spelled (nowhere is.before is.first)

pub no_dot : (name instance variable : List ℕ) → IsSplitOnceResult dot name None → ¬ IsNameOf name instance variable
no_dot name instance variable parts is = absurd (in_one_way name instance variable None parts is)

pub is_of_parts : (name instance variable : List ℕ) (x : Bor (List ℕ) × Bor (List ℕ))
    → IsSplitOnceResult dot name (Some x) → IsAlike instance x.0.now → IsAlike variable x.1.now
    → IsNameOf name instance variable
is_of_parts name instance variable x parts before behind =
    let split = split_parts dot name (Some x) parts (omega arith) in
    record {
      before = x.0.now;
      behind = x.1.now;
      spelled = split.0;
      first = λ there. split.1 there.0 there.1 (get_or_default x.0.now there.0 0 dot there.1 ∙ there.2);
      of_instance = before;
      of_variable = behind;
    }

pub parts_alike : (name instance variable : List ℕ) (x : Bor (List ℕ) × Bor (List ℕ))
    → IsSplitOnceResult dot name (Some x) → IsNameOf name instance variable
    → IsAlike instance x.0.now × IsAlike variable x.1.now
parts_alike name instance variable x parts is =
    let same = in_one_way name instance variable (Some x) parts is in (
      subst (λ (t : List ℕ). IsAlike instance t) (sym same.0) is.of_instance,
      subst (λ (t : List ℕ). IsAlike variable t) (sym same.1) is.of_variable,
    )
