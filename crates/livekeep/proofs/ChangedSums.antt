-- One changed byte changes the check sum: the first of its two sums differs from there on.
use Rattle.std.proofs.Common.{◌≡◌, ◌≢◌, ℕ, ◌+◌, ◌%◌, ◌<◌, List, [], ◌∷◌, ◌++◌, arith, lit<}
use Rattle.std.proofs.Common.{ap, sym, ◌∙◌, append_assoc}
use Rattle.std.proofs.lemmas.List.{append_cancel_right}
use Rattle.livekeep.specs.CheckSums.{sum_from, sum_of}
use Rattle.livekeep.specs.KeptFiles.{IsSummed, sum_line}

below : (n : ℕ) → n % 65521 < 65521
below n = omega arith

-- sums that differ go on differing
differ_on : (first other second more : ℕ) (bytes : List ℕ) → first < 65521 → other < 65521 → first ≢ other
    → sum_from first second bytes ≢ sum_from other more bytes
differ_on first other second more [] small smaller apart same = apart (omega (arith, same, small, smaller))
differ_on first other second more (byte ∷ bytes) small smaller apart same =
    differ_on ((first + byte) % 65521) ((other + byte) % 65521) ((second + (first + byte) % 65521) % 65521)
    ((more + (other + byte) % 65521) % 65521) bytes (below (first + byte)) (below (other + byte))
    (λ e. apart (omega (arith, e, small, smaller))) same

changed_from : (first second : ℕ) (front back : List ℕ) (byte other : ℕ) → first < 65521 → byte < 256 → other < 256
    → byte ≢ other → sum_from first second (front ++ byte ∷ back) ≢ sum_from first second (front ++ other ∷ back)
changed_from first second [] back byte other small b o apart same =
    differ_on ((first + byte) % 65521) ((first + other) % 65521) ((second + (first + byte) % 65521) % 65521)
    ((second + (first + other) % 65521) % 65521) back (below (first + byte)) (below (first + other))
    (λ e. apart (omega (arith, e, small, b, o))) same
changed_from first second (x ∷ front) back byte other small b o apart same =
    changed_from ((first + x) % 65521) ((second + (first + x) % 65521) % 65521) front back byte other
    (below (first + x)) b o apart same

pub changed : (front back : List ℕ) (byte other : ℕ) → byte < 256 → other < 256 → byte ≢ other
    → sum_of (front ++ byte ∷ back) ≢ sum_of (front ++ other ∷ back)
unfolding sum_of
changed front back byte other b o apart = changed_from 1 0 front back byte other (lit< tt) b o apart

-- the bytes before the line of their check sum are one list alone
body_of : (body bytes : List ℕ) (sum : ℕ) → bytes ≡ body ++ sum_line sum → (s : IsSummed bytes sum) → sum ≡ sum_of body
body_of body bytes sum are s =
    let one : s.body ≡ body = append_cancel_right s.body body (sum_line sum) (sym s.are ∙ are) in
    s.is ∙ ap sum_of one

-- where one byte before that line is another, the check sum is not theirs
pub unsealed : (front back : List ℕ) (byte other sum : ℕ) → byte < 256 → other < 256 → byte ≢ other
    → IsSummed (front ++ byte ∷ (back ++ sum_line sum)) sum
    → ¬ IsSummed (front ++ other ∷ (back ++ sum_line sum)) sum
unsealed front back byte other sum b o apart s t =
    let first = body_of (front ++ byte ∷ back) (front ++ byte ∷ (back ++ sum_line sum)) sum
    (sym (append_assoc front (byte ∷ back) (sum_line sum))) s in
    let second = body_of (front ++ other ∷ back) (front ++ other ∷ (back ++ sum_line sum)) sum
    (sym (append_assoc front (other ∷ back) (sum_line sum))) t in
    changed front back byte other b o apart (sym first ∙ second)

-- it has 32 bits
small_from : (first second : ℕ) (bytes : List ℕ) → first < 65521 → second < 65521
    → sum_from first second bytes < 4294967296
small_from first second [] f s = omega (arith, f, s)
small_from first second (byte ∷ bytes) f s =
    small_from ((first + byte) % 65521) ((second + (first + byte) % 65521) % 65521) bytes (below (first + byte))
    (below (second + (first + byte) % 65521))

pub sum_small : (bytes : List ℕ) → sum_of bytes < 4294967296
unfolding sum_of
sum_small bytes = small_from 1 0 bytes (lit< tt) (lit< tt)
