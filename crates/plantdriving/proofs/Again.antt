-- Turns of one kind, one after another, until one did nothing. They come to an end, since each adds to the history.
use Rattle.std.proofs.Common.{◌≡◌, ℕ, ◌+◌, ◌≤◌, Bool, true, false, length, true≢false}
use Rattle.std.proofs.Common.{refl, sym, ap, ◌∙◌, arith}
use Rattle.std.specs.Prelude.{Ok}
use Rattle.plant.specs.Shown.{Shown, kept}
use Rattle.plantdriving.specs.TurnSteps.{HasTurned, Tells}
use Rattle.plantdriving.proofs.Turned.{did_nothing, did_something}

pub turned_none : (p : Shown) → HasTurned p p 0 false
turned_none p = record { each = omega arith; some = λ is. absurd (true≢false (sym is)); none = λ _. refl }

-- one turn more, which did something
pub turned_more : (p q r : Shown) (turns : ℕ) (any did : Bool) (why : Type 0) → HasTurned p q turns any
    → Tells q r why (Ok did) → did ≡ true → HasTurned p r (turns + 1) true
turned_more p q r turns any did why turned tells was =
    let more = did_something why q r did tells was in let e = turned.each in
    record {
      each = omega (arith, e, more);
      some = λ _. omega (arith, e, more);
      none = λ is. absurd (true≢false is);
    }

-- the last turn, which did nothing, and why
pub turned_out : (p q r : Shown) (turns : ℕ) (any did : Bool) (last all : Type 0) → HasTurned p q turns any
    → Tells q r last (Ok did) → did ≡ false → (q.history ≡ p.history → last → all) → Tells p r all (Ok any)
turned_out p q r turns true did last all turned tells was why =
    let nothing = did_nothing last q r did tells was in let s = turned.some refl in let l = ap length nothing.0 in
    omega (arith, s, l)
turned_out p q r turns false did last all turned tells was why =
    let nothing = did_nothing last q r did tells was in let same = turned.none refl in
    (nothing.0 ∙ same, why same nothing.1)

-- no plant has so many events
pub turned_too_often : (p q : Shown) (turns limit : ℕ) (any : Bool) → HasTurned p q turns any → q.limit ≡ p.limit
    → length q.history + kept q ≤ q.limit → limit ≡ p.limit → limit + 1 ≤ turns → ⊥
turned_too_often p q turns limit any turned same within is many =
    let e = turned.each in absurd (omega (arith, e, same, within, is, many))
