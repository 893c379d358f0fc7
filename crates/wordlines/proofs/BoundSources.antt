-- Sources that are bound, each at a place of its own: which one is at a place, and what one more keeps.
use Rattle.std.proofs.Common.{◌≡◌, ℕ, ◌<◌, ◌↔◌, List, Option, Some, None, Bor, false, length, get_or}
use Rattle.std.proofs.Common.{refl, ap, sym, subst, ◌∙◌, arith}
use Rattle.std.specs.Prelude.{AllPairs, Contains, MatchOption, is_some}
use Rattle.std.proofs.lemmas.List.{get_or_default}
use Rattle.std.proofs.lemmas.List.Elements.{All-push, All-contains}
use Rattle.std.proofs.lemmas.List.Quantifiers.{all_pairs_push}
use Rattle.dalievent.specs.declared.messages.EventSource.{EventSource}
use Rattle.wordlines.specs.declared.sources.BoundSource.{BoundSource}
use Rattle.wordlines.specs.Bindings.{HasPlaceFor, with_source}
use Rattle.wordlines.proofs.Spelled.{alike_bound}
use Rattle.wordlines.specs.Wirings.{Wiring, IsAt, IsBoundAt, IsFree, IsInRange, IsOnBus, IsWithinLimits}

abbrev DifferInPlace : BoundSource → BoundSource → Type 0
DifferInPlace earlier later = ¬ IsAt later.bus later.number earlier

-- of two that are bound at one place, the first does not stand before the second
not_before : (xs : List BoundSource) → AllPairs DifferInPlace xs → (x y : BoundSource) (i j : ℕ) → j < length xs
    → get_or xs i x ≡ x → get_or xs j y ≡ y → x.bus ≡ y.bus → x.number ≡ y.number → ¬ (i < j)
not_before xs once x y i j within at_i at_j bus number less =
    let there : get_or xs j x ≡ y = get_or_default xs j x y within ∙ at_j in
    let differ = once i j x less within in
    let apart : DifferInPlace x y = subst (λ (a : BoundSource). DifferInPlace a y) at_i
    (subst (λ (b : BoundSource). DifferInPlace (get_or xs i x) b) there differ) in
    apart (bus, number)

same_bound : (xs : List BoundSource) → AllPairs DifferInPlace xs → (x y : BoundSource) → Contains xs x → Contains xs y
    → x.bus ≡ y.bus → x.number ≡ y.number → x ≡ y
same_bound xs once x y (i, in_i, at_i) (j, in_j, at_j) bus number =
    let later = not_before xs once x y i j in_j at_i at_j bus number in
    let earlier = not_before xs once y x j i in_i at_j at_i (sym bus) (sym number) in
    let same : i ≡ j = omega (arith, later, earlier) in
    sym at_i ∙ (get_or_default xs i x y in_i ∙ (ap (λ (k : ℕ). get_or xs k y) same ∙ at_j))

-- the source that was found at a place is the one that is bound there
pub found_bound : (wiring : Wiring) → IsWithinLimits wiring → (bus number : ℕ) (found : BoundSource)
    → Contains wiring.sources found → IsAt bus number found
    → (source : EventSource) → (Some found.source ≡ Some source) ↔ IsBoundAt wiring bus number source
found_bound wiring limits bus number found among at source = (
  λ e. let is : found.source ≡ source = cc in
      let it : BoundSource = record { bus = bus; number = number; source = source } in
      subst (Contains wiring.sources) (alike_bound found it at.0 at.1 is) among,
  λ b. let it : BoundSource = record { bus = bus; number = number; source = source } in
      let same : found ≡ it = same_bound wiring.sources limits.once found it among b at.0 at.1 in
      ap (λ (x : BoundSource). Some x.source) same,
)

-- where nothing was found none is bound
pub none_bound : (wiring : Wiring) (bus number : ℕ) → IsFree wiring bus number
    → (source : EventSource) → (None ≡ Some source) ↔ IsBoundAt wiring bus number source
none_bound wiring bus number free source = (
  λ e. cc,
  λ b. absurd (All-contains (λ (x : BoundSource). ¬ IsAt bus number x) wiring.sources
      (record { bus = bus; number = number; source = source }) free b (refl, refl)),
)

-- what was not found is free
pub free_of : (r : Option (Bor BoundSource)) (P : Type 0) (Q : Bor BoundSource → Type 0) → is_some r ≡ false
    → MatchOption r P Q → P
free_of None P Q none m = m
free_of (Some x) P Q none m = cc

-- one source more
pub one_more : (wiring : Wiring) (bound : BoundSource) → IsWithinLimits wiring → IsInRange bound
    → HasPlaceFor bound wiring → IsWithinLimits (with_source bound wiring)
one_more wiring bound limits range place =
    record {
      buses = limits.buses;
      sources = All-push (IsOnBus wiring.buses) wiring.sources bound limits.sources
          (record { bus = place.bus; ranges = range });
      once = all_pairs_push DifferInPlace wiring.sources bound limits.once place.free;
      tries = limits.tries;
      tried_once = limits.tried_once;
    }
