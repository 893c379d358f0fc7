-- Items of a grammar over tokens of any type: what an item spells, what is a front of it, and how it is read.
-- `whole` and `part` are the definitions, by cases on how an item is built; `read` is what a parser with one token of
-- look-ahead does, which the laws in proofs/ tie to them.
use Rattle.std.specs.Prelude.{◌≡◌, ◌⊎◌, ◌||◌, ℕ, zero, suc, Bool, true, false, if◌then◌else◌}
use Rattle.std.specs.Prelude.{List, [], ◌∷◌, ◌++◌, length, Option, Some, None, Result, Ok, Err}

-- an error, which holds the tokens that are left, ends the reading
infixl 10 ◌>>=◌
abbrev pub ◌>>=◌ : {A B E : Type 0} → Result A E → (A → Result B E) → Result B E
(Ok x) >>= f = f x
(Err e) >>= f = Err e

-- an item over tokens T whose values are A
pub record Item (T A : Type 0) : Type 1 where
  -- these tokens spell this value
  pub whole : List T → A → Type 0
  -- these tokens are a front of what the item derives
  pub part : List T → Type 0
  -- this token may begin it
  pub starts : T → Bool
  -- the value and the tokens after it, or the tokens from the first that does not go on
  pub read : List T → Result (A × List T) (List T)

-- ---- one token of a class

abbrev pub one_whole : {T A : Type 0} → (T → Option A) → List T → A → Type 0
one_whole class [] x = ⊥
one_whole class (t ∷ []) x = class t ≡ Some x
one_whole class (t ∷ u ∷ ts) x = ⊥

abbrev pub one_part : {T A : Type 0} → (T → Option A) → List T → Type 0
one_part class [] = Unit {0}
one_part {T} {A} class (t ∷ ts) = (x : A) × one_whole class (t ∷ ts) x

abbrev pub is_in : {A : Type 0} → Option A → Bool
is_in None = false
is_in (Some x) = true

abbrev pub one_read_at : {T A : Type 0} → Option A → T → List T → Result (A × List T) (List T)
one_read_at None t ts = Err (t ∷ ts)
one_read_at (Some x) t ts = Ok (x, ts)

abbrev pub one_read : {T A : Type 0} → (T → Option A) → List T → Result (A × List T) (List T)
one_read class [] = Err []
one_read class (t ∷ ts) = one_read_at (class t) t ts

abbrev pub one : {T A : Type 0} → (T → Option A) → Item T A
one class = record {
  whole = one_whole class;
  part = one_part class;
  starts = λ t. is_in (class t);
  read = one_read class;
}

-- ---- no token, and a value

abbrev pub empty_whole : {T A : Type 0} → A → List T → A → Type 0
empty_whole x ts y = (ts ≡ []) × (y ≡ x)

abbrev pub empty : {T A : Type 0} → A → Item T A
empty x = record { whole = empty_whole x; part = λ ts. ts ≡ []; starts = λ t. false; read = λ ts. Ok (x, ts) }

-- ---- an item, and its value by f

abbrev pub map_whole : {T A B : Type 0} → (A → B) → Item T A → List T → B → Type 0
map_whole {T} {A} f a ts y = (x : A) × a.whole ts x × (y ≡ f x)

abbrev pub map_read : {T A B : Type 0} → (A → B) → Item T A → List T → Result (B × List T) (List T)
map_read f a ts = a.read ts >>= λ p. Ok (f p.0, p.1)

abbrev pub map : {T A B : Type 0} → (A → B) → Item T A → Item T B
map f a = record { whole = map_whole f a; part = a.part; starts = a.starts; read = map_read f a }

-- ---- one item and then another

abbrev pub seq_whole : {T A B : Type 0} → Item T A → Item T B → List T → A × B → Type 0
seq_whole {T} a b ts x = (u v : List T) × (ts ≡ u ++ v) × a.whole u x.0 × b.whole v x.1

abbrev pub seq_part : {T A B : Type 0} → Item T A → Item T B → List T → Type 0
seq_part {T} {A} a b ts = a.part ts ⊎ ((u v : List T) × (x : A) × (ts ≡ u ++ v) × a.whole u x × b.part v)

abbrev pub seq_read : {T A B : Type 0} → Item T A → Item T B → List T → Result ((A × B) × List T) (List T)
seq_read a b ts = a.read ts >>= λ p. b.read p.1 >>= λ q. Ok ((p.0, q.0), q.1)

abbrev pub seq : {T A B : Type 0} → Item T A → Item T B → Item T (A × B)
seq a b = record { whole = seq_whole a b; part = seq_part a b; starts = a.starts; read = seq_read a b }

-- the same, where the first may be nothing
abbrev pub lead : {T A B : Type 0} → Item T A → Item T B → Item T (A × B)
lead a b = record {
  whole = seq_whole a b;
  part = seq_part a b;
  starts = λ t. a.starts t || b.starts t;
  read = seq_read a b;
}

-- ---- one item, of which the value says which one follows

abbrev pub select_whole : {T A B : Type 0} → Item T A → (A → Item T B) → List T → B → Type 0
select_whole {T} {A} a b ts y = (u v : List T) × (x : A) × (ts ≡ u ++ v) × a.whole u x × (b x).whole v y

abbrev pub select_part : {T A B : Type 0} → Item T A → (A → Item T B) → List T → Type 0
select_part {T} {A} a b ts = a.part ts ⊎ ((u v : List T) × (x : A) × (ts ≡ u ++ v) × a.whole u x × (b x).part v)

abbrev pub select_read : {T A B : Type 0} → Item T A → (A → Item T B) → List T → Result (B × List T) (List T)
select_read a b ts = a.read ts >>= λ p. (b p.0).read p.1

abbrev pub select : {T A B : Type 0} → Item T A → (A → Item T B) → Item T B
select a b = record {
  whole = select_whole a b;
  part = select_part a b;
  starts = a.starts;
  read = select_read a b;
}

-- ---- an item or nothing

abbrev pub begins : {T A : Type 0} → Item T A → List T → Bool
begins a [] = false
begins a (t ∷ ts) = a.starts t

abbrev pub opt_whole : {T A : Type 0} → Item T A → List T → Option A → Type 0
opt_whole a ts None = ts ≡ []
opt_whole a ts (Some x) = a.whole ts x

abbrev pub opt_read : {T A : Type 0} → Item T A → List T → Result (Option A × List T) (List T)
opt_read a ts = if begins a ts then (a.read ts >>= λ p. Ok (Some p.0, p.1)) else Ok (None, ts)

abbrev pub opt : {T A : Type 0} → Item T A → Item T (Option A)
opt a = record { whole = opt_whole a; part = a.part; starts = a.starts; read = opt_read a }

-- ---- one of two items

abbrev pub alt_whole : {T A : Type 0} → Item T A → Item T A → List T → A → Type 0
alt_whole a b ts x = a.whole ts x ⊎ b.whole ts x

abbrev pub alt_part : {T A : Type 0} → Item T A → Item T A → List T → Type 0
alt_part a b ts = a.part ts ⊎ b.part ts

abbrev pub alt_read : {T A : Type 0} → Item T A → Item T A → List T → Result (A × List T) (List T)
alt_read a b ts = if begins a ts then a.read ts else b.read ts

abbrev pub alt : {T A : Type 0} → Item T A → Item T A → Item T A
alt a b = record {
  whole = alt_whole a b;
  part = alt_part a b;
  starts = λ t. a.starts t || b.starts t;
  read = alt_read a b;
}

-- ---- an item any number of times

abbrev pub many_whole : {T A : Type 0} → Item T A → List T → List A → Type 0
many_whole a ts [] = ts ≡ []
many_whole {T} a ts (x ∷ xs) = (u v : List T) × (ts ≡ u ++ v) × a.whole u x × many_whole a v xs

abbrev pub many_part : {T A : Type 0} → Item T A → List T → Type 0
many_part {T} {A} a ts = (u v : List T) × (xs : List A) × (ts ≡ u ++ v) × many_whole a u xs × a.part v

-- at most n of them
unfoldable pub many_read : {T A : Type 0} → Item T A → ℕ → List T → Result (List A × List T) (List T)
many_read a zero ts = Ok ([], ts)
many_read a (suc n) ts =
    if begins a ts
    then (a.read ts >>= λ p. many_read a n p.1 >>= λ q. Ok (p.0 ∷ q.0, q.1))
    else Ok ([], ts)

abbrev pub many : {T A : Type 0} → Item T A → Item T (List A)
many a = record { whole = many_whole a; part = many_part a; starts = a.starts; read = λ ts. many_read a (length ts) ts }
