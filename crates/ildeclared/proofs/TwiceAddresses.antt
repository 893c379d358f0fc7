-- Addresses that are given again, where a list is read from front to back.
use Rattle.std.proofs.Common.{◌≡◌, ◌∙◌, ℕ, ◌+◌, ◌<◌, List, [], ◌∷◌, ◌++◌, length, take, get_or, Bool, true, false}
use Rattle.std.proofs.Common.{not, ap, refl}
use Rattle.std.proofs.Common.{subst, sym, arith, ◌⊎◌, inl, inr}
use Rattle.std.proofs.lemmas.Bool.Decides.{Decides-and, Decides-eqb, Decides-like}
use Rattle.std.proofs.lemmas.List.{get_or_default}
use Rattle.std.proofs.lemmas.List.Folds.{list_any-append}
use Rattle.std.specs.Bool.{Decides}
use Rattle.std.specs.List.{list_any}
use Rattle.std.specs.Prelude.{◌||◌, cond, IsTrue, Option}
use Rattle.iltokens.specs.declared.lexed.AddressKind.{AddressKind}
use Rattle.iltokens.specs.declared.lexed.AddressKind.TheVariants.{OutputByte, InputWord, InputBit}
use Rattle.ilsource.specs.declared.address.DirectAddress.{DirectAddress}
use Rattle.ildeclared.specs.AddressSteps.{key_of, letter_of, same_key}
use Rattle.ildeclared.specs.Faults.{IsAddressTwice, IsNextOf, OfCause, SameAddress, SomeOf}
use Rattle.ildeclared.specs.Order.{lesser_of_two}
use Rattle.ildeclared.specs.declared.fault.NameCause.TheVariants.{Twice}
use Rattle.ildeclared.specs.declared.found.Found.{Found}
use Rattle.ildeclared.proofs.FoundOrder.{or_else}
use Rattle.ildeclared.proofs.Least.{take_more}
use Rattle.ildeclared.proofs.TwiceLast.{twice_last}

-- ---- keys tell addresses apart

same_letter : (a b : AddressKind) → letter_of a ≡ letter_of b → a ≡ b
same_letter OutputByte OutputByte e = refl
same_letter InputWord InputWord e = refl
same_letter InputBit InputBit e = refl
same_letter a b e = absurd (omega (arith, e))

same_address : (a b : DirectAddress) → Decides (same_key (key_of a) (key_of b)) (SameAddress a b)
same_address a b =
    Decides-like _
    (λ e. record { kind = same_letter a.kind b.kind e.0.0; bus = e.0.1; place = e.1 })
    (λ s. ((ap letter_of s.kind, s.bus), s.place))
    (Decides-and _ _ (Decides-and _ _ (Decides-eqb (letter_of a.kind) (letter_of b.kind)) (Decides-eqb a.bus b.bus))
    (Decides-eqb a.place b.place))

-- ---- keys that were seen

abbrev pub seen_in : List DirectAddress → ℕ × ℕ × ℕ → Bool
seen_in xs key = list_any (λ a. same_key (key_of a) key) xs

either_way : (b c : Bool) → cond b true c ≡ (c || (b || false))
either_way true true = refl
either_way true false = refl
either_way false true = refl
either_way false false = refl

true_or : (b c : Bool) → (b || c) ≡ true → (b ≡ true) ⊎ (c ≡ true)
true_or true c e = inl refl
true_or false c e = inr e

or_true : (b c : Bool) → c ≡ true → (b || c) ≡ true
or_true true c e = refl
or_true false c e = e

seen_some : (xs : List DirectAddress) (x : DirectAddress) → seen_in xs (key_of x) ≡ true
    → SomeOf (λ a. SameAddress a x) xs
seen_some [] x e = absurd cc
seen_some (a ∷ xs) x e =
    or_else (λ t. inl ((same_address a x).0 t)) (λ r. inr (seen_some xs x r))
    (true_or (same_key (key_of a) (key_of x)) (seen_in xs (key_of x)) e)

some_seen : (xs : List DirectAddress) (x : DirectAddress) → SomeOf (λ a. SameAddress a x) xs
    → seen_in xs (key_of x) ≡ true
some_seen [] x s = absurd s
some_seen (a ∷ xs) x (inl s) = let t = (same_address a x).1 s in rw t refl
some_seen (a ∷ xs) x (inr s) = or_true (same_key (key_of a) (key_of x)) (seen_in xs (key_of x)) (some_seen xs x s)

module _ (xs : List DirectAddress) (i : ℕ) (d : DirectAddress) (below : i < length xs) where
  next : take (i + 1) xs ≡ take i xs ++ get_or xs i d ∷ []
  next = take_more xs i (get_or xs i d) below (get_or_default xs i d (get_or xs i d) below)

  -- with one more
  pub seen_more : (old new : ℕ × ℕ × ℕ → Bool) (key : ℕ × ℕ × ℕ) → key ≡ key_of (get_or xs i d)
      → ((q : ℕ × ℕ × ℕ) → new q ≡ cond (same_key key q) true (old q))
      → ((q : ℕ × ℕ × ℕ) → old q ≡ seen_in (take i xs) q)
      → (q : ℕ × ℕ × ℕ) → new q ≡ seen_in (take (i + 1) xs) q
  seen_more old new key is added h q =
      added q
      ∙ ap (λ (b : Bool). cond (same_key key q) true b) (h q)
      ∙ either_way (same_key key q) (seen_in (take i xs) q)
      ∙ ap (λ (k : ℕ × ℕ × ℕ). seen_in (take i xs) q || (same_key k q || false)) is
      ∙ sym (list_any-append (λ a. same_key (key_of a) q) (take i xs) (get_or xs i d ∷ []))
      ∙ ap (λ (ys : List DirectAddress). seen_in ys q) (sym next)

  pub twice_more : (after : Option Found) (is_new : Bool) (key : ℕ × ℕ × ℕ) (a b : Option Found) → key ≡ key_of
      (get_or xs i d)
      → is_new ≡ not (seen_in (take i xs) key)
      → IsNextOf after (OfCause Twice (IsAddressTwice (take i xs))) a
      → IsNextOf after (OfCause Twice (λ place. IsTrue (not is_new) × (place ≡ (get_or xs i d).at))) b
      → IsNextOf after (OfCause Twice (IsAddressTwice (take (i + 1) xs))) (lesser_of_two a b)
  twice_more after is_new key a b is new h k =
      subst (λ (ys : List DirectAddress). IsNextOf after (OfCause Twice (IsAddressTwice ys)) (lesser_of_two a b))
      (sym next)
      (twice_last after SameAddress (λ x. x.at) (take i xs) (get_or xs i d) (IsTrue (not is_new)) a b
      (λ t. seen_some (take i xs) (get_or xs i d) (known is_new (seen_in (take i xs) (key_of (get_or xs i d)))
      new_here t))
      (λ s. again is_new (seen_in (take i xs) (key_of (get_or xs i d))) new_here
      (some_seen (take i xs) (get_or xs i d) s)) h k)
    where
      new_here : is_new ≡ not (seen_in (take i xs) (key_of (get_or xs i d)))
      new_here = new ∙ ap (λ (q : ℕ × ℕ × ℕ). not (seen_in (take i xs) q)) is

      known : (n s : Bool) → n ≡ not s → IsTrue (not n) → s ≡ true
      known n true e t = refl
      known true false e t = absurd cc
      known false false e t = absurd cc

      again : (n s : Bool) → n ≡ not s → s ≡ true → IsTrue (not n)
      again false s e t = refl
      again true true e t = absurd cc
      again true false e t = absurd cc
