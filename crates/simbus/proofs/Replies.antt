-- The reply to several answers, one after another.
use Rattle.std.proofs.Common.{◌≡◌, ℕ, zero, suc, ◌≤◌, List, [], ◌∷◌, length, drop, refl, ◌∙◌, arith}
use Rattle.std.proofs.Math.Seq.{drop-nil}
use Rattle.std.specs.Prelude.{Option, Some, None}
use Rattle.std.specs.List.{filter_map, cons_option}
use Rattle.buslink.specs.declared.marks.Reply.{Reply}
use Rattle.buslink.specs.declared.marks.Reply.TheVariants.{Quiet, Damaged}
use Rattle.simbus.specs.Answers.{reply_of}
use Rattle.simbus.specs.Kept.{joined, replies_from}

-- the reply to answers one after another
abbrev after_answers : Reply → List ℕ → Reply
after_answers reply [] = reply
after_answers reply (byte ∷ more) = after_answers (joined reply (Some byte)) more

one_more : (reply : Reply) (answer : Option ℕ) (more : List ℕ)
    → after_answers (joined reply answer) more ≡ after_answers reply (cons_option answer more)
one_more reply None more = refl
one_more reply (Some byte) more = refl

from_answers : {X : Type 0} (answer : X → Option ℕ) (reply : Reply) (xs : List X)
    → replies_from answer reply xs ≡ after_answers reply (filter_map answer xs)
from_answers answer reply [] = refl
from_answers answer reply (x ∷ xs) =
    from_answers answer (joined reply (answer x)) xs ∙ one_more reply (answer x) (filter_map answer xs)

stays_damaged : (more : List ℕ) → after_answers Damaged more ≡ Damaged
stays_damaged [] = refl
stays_damaged (byte ∷ more) = stays_damaged more

after_answers_is : (bytes : List ℕ) → after_answers Quiet bytes ≡ reply_of bytes
after_answers_is [] = refl
after_answers_is (byte ∷ []) = refl
after_answers_is (byte ∷ other ∷ more) = stays_damaged more

pub replies_from_is : {X : Type 0} (answer : X → Option ℕ) (xs : List X)
    → replies_from answer Quiet xs ≡ reply_of (filter_map answer xs)
replies_from_is answer xs = from_answers answer Quiet xs ∙ after_answers_is (filter_map answer xs)

drop_past : {X : Type 0} (i : ℕ) (xs : List X) → length xs ≤ i → drop i xs ≡ []
drop_past i [] h = drop-nil i
drop_past zero (x ∷ xs) h = absurd (omega arith)
drop_past (suc i) (x ∷ xs) h = drop_past i xs (omega arith)

-- the reply once all were asked
pub replies_end : {X : Type 0} (answer : X → Option ℕ) (reply : Reply) (xs : List X) (i : ℕ) → length xs ≤ i →
    replies_from answer reply (drop i xs) ≡ replies_from answer Quiet xs → reply ≡ reply_of (filter_map answer xs)
replies_end answer reply xs i h e =
    let none : drop i xs ≡ [] = drop_past i xs h in
    (rw none at e) ∙ replies_from_is answer xs
