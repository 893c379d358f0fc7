-- One line more is behind the bus of the next number.
use Rattle.std.proofs.Common.{◌≡◌, ℕ, ◌+◌, List, [], ◌∷◌, ◌++◌, length, length-append, sym, ◌∙◌, subst, zero-add, arith}
use Rattle.buslink.specs.BusLog.{BusLog}
use Rattle.buslink.proofs.Eaching.{each_push}
use Rattle.commandoptions.specs.declared.line_word.LineWord.{LineWord}
use Rattle.livehouse.specs.Sites.{AreNewBuses, AreReached, IsNewBus, IsReached}

pub one_line_more : {B : Type 0} → (bus_log : B → BusLog) (is_of : B → LineWord → ℕ → Type 0) (words : List LineWord)
    (patience n : ℕ) (xs : List B) (y : B) → AreNewBuses bus_log n xs × AreReached is_of words patience xs
    → IsNewBus n (bus_log y) → IsReached is_of words patience n y
    → AreNewBuses bus_log (n + 1) (xs ++ y ∷ []) × AreReached is_of words patience (xs ++ y ∷ [])
one_line_more {B = B} bus_log is_of words patience n xs y before new reached =
    let count : 0 + length xs ≡ n = zero-add (length xs) ∙ before.0.count in (
      record {
        count = let a = length-append xs (y ∷ []) in let c = before.0.count in omega (arith, a, c);
        each = each_push (λ (b : ℕ) (bus : B). IsNewBus b (bus_log bus)) 0 xs y before.0.each
            (subst (λ (k : ℕ). IsNewBus k (bus_log y)) (sym count) new);
      },
      each_push (λ (number : ℕ) (bus : B). IsReached is_of words patience number bus) 0 xs y before.1
          (subst (λ (k : ℕ). IsReached is_of words patience k y) (sym count) reached),
    )
