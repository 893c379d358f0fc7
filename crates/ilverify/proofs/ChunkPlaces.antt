-- In parts of 64: an element stands in the part of its number, a write there is a write in all, and what is cut into
-- parts is all.
use Rattle.std.proofs.Common.{◌≡◌, ℕ, ◌+◌, ◌-◌, ◌*◌, ◌<◌, ◌≤◌, List, [], ◌∷◌, ◌++◌, length, refl, sym, ap, ◌∙◌, arith}
use Rattle.std.proofs.Common.{length-append, append_assoc, drop, length-drop, zero, suc, Some}
use Rattle.std.specs.Prelude.{slice_get, slice_set, slice_range, ◌/◌, ◌%◌, Result, OnOk, OnErr, ⊤}
use Rattle.std.proofs.lemmas.Option.{slice_get_read}
use Rattle.std.proofs.lemmas.List.{append-nil, drop_all, length-take-le}
use Rattle.std.proofs.lemmas.List.Folds.{drop_split}
use Rattle.std.specs.List.{slice_index_or}
use Rattle.std.specs.declared.result.Result.TheVariants.{Ok, Err}
use Rattle.std.specs.List.{AllZip}
use Rattle.ilverify.specs.declared.known.Known.{Known}
use Rattle.ilverify.specs.ChunkSteps.{whole, IsChunk, AreChunks}
use Rattle.ilverify.proofs.RangeLists.{get_left, get_right, set_left, set_right, length_set}

-- the parts are as long, in turn
abbrev pub SameLengths : List (List Known) → List (List Known) → Type 0
SameLengths [] [] = ⊤
SameLengths [] (d ∷ ds) = ⊥
SameLengths (c ∷ cs) [] = ⊥
SameLengths (c ∷ cs) (d ∷ ds) = (length c ≡ length d) × SameLengths cs ds

-- the element at n stands at r in the part q
pub record PartPlace (cs : List (List Known)) (n q r : ℕ) : Type 0 where
  pub chunk : List Known
  pub is : slice_get cs q ≡ Some chunk
  pub inside : q < length cs
  pub within : r < length chunk
  pub same : slice_get (whole cs) n ≡ slice_get chunk r
  pub with_other : (x : Known) → slice_set (whole cs) n x ≡ whole (slice_set cs q (slice_set chunk r x))

head_long : (c : List Known) (cs : List (List Known)) (r : ℕ) → r < 64 → IsChunk c cs → r < length (c ++ whole cs)
    → r < length c
head_long c [] r l i w = omega (arith, length-append c [])
head_long c (d ∷ ds) r l i w = omega arith

head_full : (c : List Known) (cs : List (List Known)) (n : ℕ) → IsChunk c cs → 64 ≤ n → n < length (c ++ whole cs)
    → length c ≡ 64
head_full c [] n i l w = omega (arith, length-append c [])
head_full c (d ∷ ds) n i l w = i

pub place_at : (cs : List (List Known)) (n q r : ℕ) → n ≡ q * 64 + r → r < 64 → AreChunks cs → n < length (whole cs)
    → PartPlace cs n q r
place_at [] n q r e l a w = absurd (omega arith)
place_at (c ∷ cs) n zero r e l a w =
    let f : n ≡ r = omega arith in
    let h : r < length c = head_long c cs r l a.0 (omega arith) in
    record {
      chunk = c;
      is = refl;
      inside = omega arith;
      within = h;
      same = ap (slice_get (c ++ whole cs)) f ∙ get_left c (whole cs) r h;
      with_other = λ x. ap (λ m. slice_set (c ++ whole cs) m x) f ∙ set_left c (whole cs) r x h;
    }
place_at (c ∷ cs) n (suc q) r e l a w =
    let h : length c ≡ 64 = head_full c cs n a.0 (omega arith) w in
    let p = place_at cs (q * 64 + r) q r refl l a.1 (omega (arith, length-append c (whole cs))) in
    let f : n ≡ length c + (q * 64 + r) = omega arith in
    let i : q < length cs = p.inside in
    record {
      chunk = p.chunk;
      is = p.is;
      inside = omega arith;
      within = p.within;
      same = get_right c (whole cs) n (q * 64 + r) f ∙ p.same;
      with_other = λ x. set_right c (whole cs) n (q * 64 + r) x f ∙ ap (λ zs. c ++ zs) (p.with_other x);
    }

pub place_of : (cs : List (List Known)) (n : ℕ) → AreChunks cs → n < length (whole cs)
    → PartPlace cs n (n / 64) (n % 64)
place_of cs n a w = place_at cs n (n / 64) (n % 64) (omega arith) (omega arith) a w

pub alike_refl : (cs : List (List Known)) → SameLengths cs cs
alike_refl [] = tt
alike_refl (c ∷ cs) = (refl, alike_refl cs)

pub alike_set : (cs : List (List Known)) (q : ℕ) (c d : List Known) → slice_get cs q ≡ Some c → length d ≡ length c
    → SameLengths cs (slice_set cs q d)
alike_set [] q c d e l = tt
alike_set (x ∷ xs) zero c d e l = let f : x ≡ c = cc in (ap length f ∙ sym l, alike_refl xs)
alike_set (x ∷ xs) (suc q) c d e l = (refl, alike_set xs q c d e l)

pub alike_long : (cs ds : List (List Known)) → SameLengths cs ds → length cs ≡ length ds
alike_long [] [] s = refl
alike_long [] (d ∷ ds) s = absurd s
alike_long (c ∷ cs) [] s = absurd s
alike_long (c ∷ cs) (d ∷ ds) s = let e = alike_long cs ds s.1 in omega arith

pub alike_zip : (cs ds : List (List Known)) → SameLengths cs ds
    → AllZip (λ (c d : List Known). length c ≡ length d) cs ds
alike_zip [] [] s = tt
alike_zip [] (d ∷ ds) s = absurd s
alike_zip (c ∷ cs) [] s = absurd s
alike_zip (c ∷ cs) (d ∷ ds) s = (s.0, alike_zip cs ds s.1)

pub chunks_alike : (cs ds : List (List Known)) → SameLengths cs ds → AreChunks cs → AreChunks ds
chunks_alike [] [] s a = tt
chunks_alike [] (d ∷ ds) s a = absurd s
chunks_alike (c ∷ cs) [] s a = absurd s
chunks_alike (c ∷ []) (d ∷ []) s a = ((omega arith, omega arith), tt)
chunks_alike (c ∷ []) (d ∷ e ∷ ds) s a = absurd s.1
chunks_alike (c ∷ b ∷ cs) (d ∷ []) s a = absurd s.1
chunks_alike (c ∷ b ∷ cs) (d ∷ e ∷ ds) s a = (omega arith, chunks_alike (b ∷ cs) (e ∷ ds) s.1 a.1)

chunk_some : (c : List Known) (cs : List (List Known)) → IsChunk c cs → 0 < length c
chunk_some c [] i = i.0
chunk_some c (d ∷ ds) i = omega arith

pub alike_from_length : (cs ds : List (List Known)) → AreChunks cs → AreChunks ds
    → length (whole cs) ≡ length (whole ds) → SameLengths cs ds
alike_from_length [] [] a b e = tt
alike_from_length [] (d ∷ ds) a b e = let p = chunk_some d ds b.0 in absurd (omega (arith, length-append d (whole ds)))
alike_from_length (c ∷ cs) [] a b e = let p = chunk_some c cs a.0 in absurd (omega (arith, length-append c (whole cs)))
alike_from_length (c ∷ []) (d ∷ []) a b e = (omega (arith, length-append c [], length-append d []), tt)
alike_from_length (c ∷ []) (d ∷ f ∷ ds) a b e =
    let p = chunk_some f ds b.1.0 in
    absurd (omega (arith, length-append c [], length-append d (whole (f ∷ ds)), length-append f (whole ds)))
alike_from_length (c ∷ f ∷ cs) (d ∷ []) a b e =
    let p = chunk_some f cs a.1.0 in
    absurd (omega (arith, length-append d [], length-append c (whole (f ∷ cs)), length-append f (whole cs)))
alike_from_length (c ∷ f ∷ cs) (d ∷ g ∷ ds) a b e = (
  omega arith,
  alike_from_length (f ∷ cs) (g ∷ ds) a.1 b.1
      (omega (arith, length-append c (whole (f ∷ cs)), length-append d (whole (g ∷ ds)))),
)

-- what has been cut so far
abbrev pub AreFull : List (List Known) → Type 0
AreFull [] = ⊤
AreFull (c ∷ cs) = (length c ≡ 64) × AreFull cs

pub full_more : (cs : List (List Known)) (c : List Known) → AreFull cs → length c ≡ 64 → AreFull (cs ++ c ∷ [])
full_more [] c f l = (l, tt)
full_more (d ∷ ds) c f l = (f.0, full_more ds c f.1 l)

pub full_chunks : (cs : List (List Known)) → AreFull cs → AreChunks cs
full_chunks [] f = tt
full_chunks (c ∷ []) f = ((omega arith, omega arith), tt)
full_chunks (c ∷ d ∷ ds) f = (f.0, full_chunks (d ∷ ds) f.1)

pub full_last : (cs : List (List Known)) (c : List Known) → AreFull cs → 0 < length c → length c ≤ 64
    → AreChunks (cs ++ c ∷ [])
full_last [] c f p l = ((p, l), tt)
full_last (d ∷ []) c f p l = (f.0, ((p, l), tt))
full_last (d ∷ e ∷ ds) c f p l = (f.0, full_last (e ∷ ds) c f.1 p l)

pub whole_more : (cs : List (List Known)) (c : List Known) → whole (cs ++ c ∷ []) ≡ whole cs ++ c
whole_more [] c = append-nil c
whole_more (d ∷ ds) c = ap (λ ys. d ++ ys) (whole_more ds c) ∙ sym (append_assoc d (whole ds) c)

-- what is read in a part
pub place_read : (cs : List (List Known)) (n q r : ℕ) (p : PartPlace cs n q r) (x : List Known)
    → x ≡ slice_index_or cs q x
    → p.chunk ≡ x
place_read cs n q r p x e =
    let f : slice_get cs q ≡ Some x = slice_get_read cs (length cs) q x refl p.inside e in
    let g = p.is in
    cc

pub whole_alike : (cs ds : List (List Known)) → SameLengths cs ds → length (whole cs) ≡ length (whole ds)
whole_alike [] [] s = refl
whole_alike [] (d ∷ ds) s = absurd s
whole_alike (c ∷ cs) [] s = absurd s
whole_alike (c ∷ cs) (d ∷ ds) s =
    let e = whole_alike cs ds s.1 in
    let f = s.0 in
    omega (arith, length-append c (whole cs), length-append d (whole ds))

-- a write that may fail leaves the length
pub either_long : {V E : Type 0} (r : Result V E) (xs ys : List Known) (k : ℕ) (a : Known)
    → OnOk r (ys ≡ slice_set xs k a) → OnErr r (ys ≡ xs) → length ys ≡ length xs
either_long (Ok v) xs ys k a p q = ap length p ∙ length_set xs k a
either_long (Err v) xs ys k a p q = ap length q

pub part_long : (x xs : List Known) (n m : ℕ) → x ≡ slice_range xs n m → m ≡ n + 64 → m ≤ length xs → length x ≡ 64
part_long x xs n m e f l =
    ap length e ∙ (length-take-le (m - n) (drop n xs) (omega (arith, length-drop n xs)) ∙ (omega arith))

pub cut_more : (made : List (List Known)) (x xs : List Known) (n m : ℕ) → n ≤ m → x ≡ slice_range xs n m
    → whole made ++ drop n xs ≡ xs → whole (made ++ x ∷ []) ++ drop m xs ≡ xs
cut_more made x xs n m l e h =
    ap (λ ys. ys ++ drop m xs) (whole_more made x)
    ∙ (append_assoc (whole made) x (drop m xs) ∙
    (ap (λ z. whole made ++ (z ++ drop m xs)) e ∙ (ap (λ z. whole made ++ z) (sym (drop_split xs n m l)) ∙ h)))

pub cut_even : (made : List (List Known)) (xs : List Known) (n : ℕ) → length xs ≤ n → whole made ++ drop n xs ≡ xs
    → whole made ≡ xs
cut_even made xs n l h = sym (append-nil (whole made)) ∙ (ap (λ z. whole made ++ z) (sym (drop_all n xs l)) ∙ h)

pub rest_long : (x xs : List Known) (n : ℕ) → x ≡ slice_range xs n (length xs) → length x ≡ length xs - n
rest_long x xs n e = ap length e ∙ length-take-le (length xs - n) (drop n xs) (omega (arith, length-drop n xs))
