-- Marks are those of one attempt, and of one list of attempts, at most.
use Rattle.std.proofs.Common.{◌≡◌, ℕ, zero, suc, ◌+◌, ◌-◌, ◌<◌, List, [], ◌∷◌, ◌++◌, length, refl, sym, ◌∙◌, ap, arith}
use Rattle.std.specs.Prelude.{All}
use Rattle.buslink.specs.declared.marks.Mark.{Mark}
use Rattle.buslink.specs.declared.marks.Mark.TheVariants.{Lost}
use Rattle.buslink.specs.declared.marks.Sent.{Sent}
use Rattle.buslink.specs.declared.marks.Outcome.{Outcome}
use Rattle.gearcmd.specs.FrameLists.{FrameList}
use Rattle.buslink.specs.Marks.{IsBroken, outcome_of}
use Rattle.buslink.specs.Attempts.{Attempt, IsAttempt, IsReport, ReportParts, Spells, marks_of}
use Rattle.buslink.specs.Attempts.{all_marks, all_sent, last_mark}

-- a front of count frames with these marks before its last one
record Front (count : ℕ) (xs : List Mark) (x : Mark) : Type 0 where
  pub within : length xs < count
  pub unbroken : All (λ mark. ¬ IsBroken mark) xs
  pub cut : length xs + 1 < count → IsBroken x

shorter : (count : ℕ) (m : Mark) (xs : List Mark) (x : Mark) → Front (suc count) (m ∷ xs) x → Front count xs x
shorter count m xs x f = record {
  within = let h : suc (length xs) < suc count = f.within in omega arith;
  unbroken = λ k d lt. f.unbroken (suc k) d (omega arith);
  cut = λ h. f.cut (omega arith);
}

same_front : (count : ℕ) (xs ys : List Mark) (x y : Mark) (r s : List Mark) → Front count xs x → Front count ys y
    → (xs ++ x ∷ []) ++ r ≡ (ys ++ y ∷ []) ++ s → (xs ≡ ys) × (x ≡ y) × (r ≡ s)
same_front count [] [] x y r s f g e = (refl, cc, cc)
same_front count [] (m ∷ ys) x y r s f g e =
    let same : x ≡ m = cc in
    let in_front : suc (length ys) < count = g.within in
    let broken : IsBroken x = f.cut (omega arith) in
    absurd (g.unbroken 0 m (omega arith) (rw same at broken))
same_front count (m ∷ xs) [] x y r s f g e =
    let same : y ≡ m = cc in
    let in_front : suc (length xs) < count = f.within in
    let broken : IsBroken y = g.cut (omega arith) in
    absurd (f.unbroken 0 m (omega arith) (rw same at broken))
same_front zero (m ∷ xs) (n ∷ ys) x y r s f g e = absurd (let h : suc (length xs) < 0 = f.within in omega arith)
same_front (suc count) (m ∷ xs) (n ∷ ys) x y r s f g e =
    let tails : (xs ++ x ∷ []) ++ r ≡ (ys ++ y ∷ []) ++ s = cc in
    let rest : (xs ≡ ys) × (x ≡ y) × (r ≡ s) =
    same_front count xs ys x y r s (shorter count m xs x f) (shorter count n ys y g) tails in
    let tail : xs ≡ ys = rest.0 in
    (cc, rest.1, rest.2)

front_of : (count : ℕ) (a : Attempt) → IsAttempt count a → Front count a.before a.last
front_of count a h = record { within = h.within; unbroken = h.unbroken; cut = h.cut }

-- the marks at the front of a list are those of one attempt
pub same_attempt : (count : ℕ) (a b : Attempt) (r s : List Mark) → IsAttempt count a → IsAttempt count b
    → marks_of a ++ r ≡ marks_of b ++ s → (a ≡ b) × (r ≡ s)
same_attempt count a b r s f g e =
    let both : (a.before ≡ b.before) × (a.last ≡ b.last) × (r ≡ s) =
    same_front count a.before b.before a.last b.last r s (front_of count a f) (front_of count b g) e in (
      ap (λ (xs : List Mark). record a { before = xs }) both.0 ∙ ap (λ (mark : Mark). record b { last = mark }) both.1,
      both.2,
    )

none_more : (retries : ℕ) (a b : Attempt) → (a.last ≡ Lost → suc retries ≡ 0) → b.last ≡ Lost → ¬ (a ≡ b)
none_more retries a b settled lost e =
    let same : a.last ≡ Lost = cc in
    let none_left : suc retries ≡ 0 = settled same in
    omega arith

-- two readings of the same marks are equal
pub same_reading : (retries count : ℕ) (xs ys : List Attempt) → IsReport retries count xs → IsReport retries count ys
    → all_marks xs ≡ all_marks ys → xs ≡ ys
same_reading retries count [] ys f g e = absurd f
same_reading retries count (a ∷ xs) [] f g e = absurd g
same_reading retries count (a ∷ []) (b ∷ []) f g e =
    let same : a ≡ b = (same_attempt count a b [] [] f.0 g.0 e).0 in cc
same_reading zero count (a ∷ []) (b ∷ c ∷ ys) f g e = absurd g
same_reading (suc retries) count (a ∷ []) (b ∷ c ∷ ys) f g e =
    absurd (none_more retries a b f.1 g.1 (same_attempt count a b [] (all_marks (c ∷ ys)) f.0 g.0 e).0)
same_reading zero count (a ∷ b ∷ xs) ys f g e = absurd f
same_reading (suc retries) count (a ∷ b ∷ xs) (c ∷ []) f g e =
    absurd (none_more retries c a g.1 f.1 (sym (same_attempt count a c (all_marks (b ∷ xs)) [] f.0 g.0 e).0))
same_reading (suc retries) count (a ∷ b ∷ xs) (c ∷ d ∷ ys) f g e =
    let firsts : (a ≡ c) × (all_marks (b ∷ xs) ≡ all_marks (d ∷ ys)) =
    same_attempt count a c (all_marks (b ∷ xs)) (all_marks (d ∷ ys)) f.0 g.0 e in
    let first : a ≡ c = firsts.0 in
    let rest : b ∷ xs ≡ d ∷ ys = same_reading retries count (b ∷ xs) (d ∷ ys) f.2 g.2 firsts.1 in
    cc

-- marks spell one report of a transaction
pub same_report : (list : FrameList) (most : ℕ) (marks : List Mark) (a b : ReportParts) → Spells list most marks a
    → Spells list most marks b → a ≡ b
same_report list most marks a b s t =
    let same : s.attempts ≡ t.attempts =
    same_reading (most - 1) (length list.frames) s.attempts t.attempts s.legal t.legal (sym s.spelled ∙ t.spelled) in
    let sent : a.attempts ≡ b.attempts = s.sent ∙ ap (all_sent list) same ∙ sym t.sent in
    let outcome : a.outcome ≡ b.outcome = s.outcome ∙ ap (λ (xs : List Attempt). outcome_of (last_mark xs)) same
    ∙ sym t.outcome in
    ap (λ (l : FrameList). record a { transaction = l }) (s.transaction ∙ sym t.transaction)
    ∙ ap (λ (n : ℕ). record a { transaction = b.transaction; tries = n }) (s.tries ∙ sym t.tries)
    ∙ ap (λ (xs : List Sent). record a { transaction = b.transaction; tries = b.tries; attempts = xs }) sent
    ∙ ap (λ (o : Outcome). record b { outcome = o }) outcome
