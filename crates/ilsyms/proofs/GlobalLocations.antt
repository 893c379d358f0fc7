-- A plan's global variables are located where those of the text are: on a bus and at a place that is there, where one
-- of the type may be, each at an address of its own.
use Rattle.std.proofs.Common.{◌≡◌, ℕ, suc, ◌+◌, ◌-◌, ◌<◌, ◌≤◌, ℤ, pos, ◌≤ℤ◌, List, [], ◌∷◌, Bool, true, false, refl}
use Rattle.std.proofs.Common.{sym, ap, ◌∙◌, subst, inl, inr, arith, length, get_or, map}
use Rattle.std.proofs.Math.ListN.{length-map}
use Rattle.std.proofs.lemmas.Bool.{lt-ltb, le-ltb, ltb-true, ltb-false}
use Rattle.std.proofs.lemmas.Int.{ints}
use Rattle.std.proofs.lemmas.List.{get_or-map}
use Rattle.std.proofs.lemmas.List.Elements.{All-map}
use Rattle.std.specs.Prelude.{Option, Some, None, IfSome, All, AllPairs, Any, option_map, nat_lt, if◌then◌else◌}
use Rattle.wordlines.specs.Wirings.{Wiring, IsAt, IsWithinLimits, IsOnBus}
use Rattle.wordlines.specs.declared.sources.BoundSource.{BoundSource}
use Rattle.iltypes.specs.declared.value.IlType.{IlType}
use Rattle.iltypes.specs.declared.value.IlType.TheVariants as types
use Rattle.iltokens.specs.declared.lexed.AddressKind.{AddressKind}
use Rattle.iltokens.specs.declared.lexed.AddressKind.TheVariants.{OutputByte, InputWord, InputBit}
use Rattle.ilsource.specs.SourceTrees.{Tree}
use Rattle.ilsource.specs.declared.address.DirectAddress.{DirectAddress}
use Rattle.ildeclared.specs.Faults.{greatest_at, IsBound, IsOtherArea, IsThere, LacksWord, SameAddress, SomeOf}
use Rattle.ildeclared.specs.declared.global.DeclaredGlobal.{DeclaredGlobal}
use Rattle.ilscope.specs.Configured.{globals_of}
use Rattle.ilscope.proofs.Sound.{AreAtOthers, globals_apart, globals_sound, IsSoundAt, IsSoundGlobal, not_below}
use Rattle.ilplan.specs.declared.global.Location.{Location}
use Rattle.ilplan.specs.declared.global.Location.TheVariants.{Level, GearAnswer, DeviceAnswer, Information, Count}
use Rattle.ilplan.specs.declared.global.Location.TheVariants.{Trigger}
use Rattle.ilplan.specs.Plans.{AreApart, AreLevels, HasUpTo, IsAddressIn, IsLocatedIn, Suits}
use Rattle.ilsyms.specs.Faults.{IsWellNamed}
use Rattle.ilsyms.specs.Resolved.{location, planned_global}

any_of : {X : Type 0} (P : X → Type 0) (xs : List X) → SomeOf P xs → Any P xs
any_of P [] s = elim s [ ]
any_of P (x ∷ xs) (inl p) = (0, x, omega arith, refl, p)
any_of P (x ∷ xs) (inr s) =
    let there = any_of P xs s in (suc there.0, there.1, omega (arith, there.2), there.3, there.4)

-- ---- the type

levels : (type : IlType) → ¬ IsOtherArea OutputByte type → AreLevels type
levels types.Bool h = absurd (h tt)
levels (types.Int range) h =
    (not_below range.lo (pos 0) (λ l. h (inl l)), not_below (pos 255) range.hi (λ l. h (inr l)))

wide : (place last : ℕ) (type : IlType) → ¬ IsOtherArea InputWord type → ¬ LacksWord place type
    → greatest_at place ≡ pos last → HasUpTo last type
wide place last types.Bool number has e = absurd (number refl)
wide place last (types.Int range) number has e =
    let low : range.lo ≤ℤ pos 0 = not_below (pos 0) range.lo (λ l. has (inl l)) in
    let high : pos last ≤ℤ range.hi =
    subst (λ (z : ℤ). z ≤ℤ range.hi) e (not_below range.hi (greatest_at place) (λ l. has (inr l)))
    in
    (record { low = low; high = omega (arith, ints) }, record { low = omega (arith, ints); high = high })

pub truth : (type : IlType) → ¬ IsOtherArea InputBit type → type ≡ types.Bool
truth types.Bool h = refl
truth (types.Int range) h = absurd (h (λ e. absurd cc))

-- ---- the address

module _ (wiring : Wiring) (bus place : ℕ) where
  source_at : (number : ℕ) → number ≡ place → IsBound wiring bus number → Any (IsAt bus place) wiring.sources
  source_at number e b = any_of (IsAt bus place) wiring.sources (subst (IsBound wiring bus) e b)

module _ (wiring : Wiring) (bus place : ℕ) (type : IlType) (there : bus < wiring.buses)
    (is : IsThere wiring InputWord bus place) (number : ¬ IsOtherArea InputWord type)
    (has : ¬ LacksWord place type) where
  abbrev IsRight : Location → Type 0
  IsRight l = IsAddressIn wiring l × Suits type l

  information : 128 ≤ place → place < 192 → IsRight (Information bus (place - 128))
  information low high =
      (by is, wide place 1023 type number has (rw (le-ltb place 128 low, lt-ltb place 192 high) refl))
    where
      by : IsThere wiring InputWord bus place → Any (IsAt bus (place - 128)) wiring.sources
      by (inl l) = absurd (omega arith)
      by (inr x) =
          elim x.3 [
            | inl e ↦ source_at wiring bus (place - 128) x.0 (omega arith) x.2
            | inr e ↦ (let below = x.1 in absurd (omega arith))
          ]

  count : 192 ≤ place → IsRight (Count bus (place - 192))
  count low =
      (by is, wide place 65535 type number has (rw (le-ltb place 128 (omega arith), le-ltb place 192 low) refl))
    where
      by : IsThere wiring InputWord bus place → Any (IsAt bus (place - 192)) wiring.sources
      by (inl l) = absurd (omega arith)
      by (inr x) =
          elim x.3 [
            | inl e ↦ (let below = x.1 in absurd (omega arith))
            | inr e ↦ source_at wiring bus (place - 192) x.0 (omega arith) x.2
          ]

  word : IsRight (location InputWord bus place)
  word = by (nat_lt place 64) (nat_lt place 128) (nat_lt place 192) refl refl refl
    where
      by : (a b c : Bool) → nat_lt place 64 ≡ a → nat_lt place 128 ≡ b → nat_lt place 192 ≡ c
          → IsRight
          (if a then GearAnswer bus place
          else if b then DeviceAnswer bus (place - 64)
          else if c then Information bus (place - 128) else Count bus (place - 192))
      by true b c e f g =
          let low = ltb-true place 64 e in
          ((there, omega arith), wide place 258 type number has (rw (lt-ltb place 128 (omega arith)) refl))
      by false true c e f g =
          let low = ltb-true place 128 f in
          ((there, omega arith), wide place 258 type number has (rw (lt-ltb place 128 low) refl))
      by false false true e f g = information (ltb-false place 128 f) (ltb-true place 192 g)
      by false false false e f g = count (ltb-false place 192 g)

located_one : (wiring : Wiring) (kind : AddressKind) (bus place : ℕ) (type : IlType) → bus < wiring.buses
    → IsThere wiring kind bus place → ¬ IsOtherArea kind type → ((kind ≡ InputWord) → ¬ LacksWord place type)
    → IsAddressIn wiring (location kind bus place) × Suits type (location kind bus place)
located_one wiring OutputByte bus place type there is area lacks = ((there, is), levels type area)
located_one wiring InputWord bus place type there is area lacks =
    word wiring bus place type there is area (lacks refl)
located_one wiring InputBit bus place type there is area lacks =
    (source_at wiring bus place place refl is, truth type area)

located_global : (wiring : Wiring) (g : DeclaredGlobal) → IsSoundGlobal wiring g → IsLocatedIn wiring (planned_global g)
located_global wiring g h = by g.address h.1
  where
    by : (o : Option DirectAddress) → IfSome o (IsSoundAt wiring g.value_type)
        → IfSome (option_map (λ a. location a.kind a.bus a.place) o)
        (λ l. IsAddressIn wiring l × Suits g.value_type l)
    by None s = tt
    by (Some a) s =
        located_one wiring a.kind a.bus a.place g.value_type s.0 s.1 s.2 (λ e l. s.3 (e, l))

-- ---- one address each

-- what address a location has
kind_of : Location → AddressKind
kind_of (Level bus address) = OutputByte
kind_of (Trigger bus source) = InputBit
kind_of _ = InputWord

bus_of : Location → ℕ
bus_of (Level bus address) = bus
bus_of (GearAnswer bus short) = bus
bus_of (DeviceAnswer bus short) = bus
bus_of (Information bus source) = bus
bus_of (Count bus source) = bus
bus_of (Trigger bus source) = bus

place_of : Location → ℕ
place_of (Level bus address) = address
place_of (GearAnswer bus short) = short
place_of (DeviceAnswer bus short) = 64 + short
place_of (Information bus source) = 128 + source
place_of (Count bus source) = 192 + source
place_of (Trigger bus source) = source

record IsOfPlace (kind : AddressKind) (bus place : ℕ) (l : Location) : Type 0 where
  kind_is : kind_of l ≡ kind
  bus_is : bus_of l ≡ bus
  place_is : place_of l ≡ place

of_place : (kind : AddressKind) (bus place : ℕ) → IsOfPlace kind bus place (location kind bus place)
unfolding kind_of bus_of place_of
of_place OutputByte bus place = record { kind_is = refl; bus_is = refl; place_is = refl }
of_place InputBit bus place = record { kind_is = refl; bus_is = refl; place_is = refl }
of_place InputWord bus place = by (nat_lt place 64) (nat_lt place 128) (nat_lt place 192) refl refl refl
  where
    by : (a b c : Bool) → nat_lt place 64 ≡ a → nat_lt place 128 ≡ b → nat_lt place 192 ≡ c
        → IsOfPlace InputWord bus place
        (if a then GearAnswer bus place
        else if b then DeviceAnswer bus (place - 64)
        else if c then Information bus (place - 128) else Count bus (place - 192))
    by true b c e f g = record { kind_is = refl; bus_is = refl; place_is = refl }
    by false true c e f g =
        let low = ltb-false place 64 e in record { kind_is = refl; bus_is = refl; place_is = omega arith }
    by false false true e f g =
        let low = ltb-false place 128 f in record { kind_is = refl; bus_is = refl; place_is = omega arith }
    by false false false e f g =
        let low = ltb-false place 192 g in record { kind_is = refl; bus_is = refl; place_is = omega arith }

-- two addresses with one location are one
same_address : (a b : DirectAddress) → location a.kind a.bus a.place ≡ location b.kind b.bus b.place → SameAddress a b
same_address a b e =
    let one = of_place a.kind a.bus a.place in
    let other = of_place b.kind b.bus b.place in
    record {
      kind = sym one.kind_is ∙ ap kind_of e ∙ other.kind_is;
      bus = sym one.bus_is ∙ ap bus_of e ∙ other.bus_is;
      place = sym one.place_is ∙ ap place_of e ∙ other.place_is;
    }

apart_one : (one other : DeclaredGlobal) → AreAtOthers one other → AreApart (planned_global one) (planned_global other)
apart_one one other h = by one.address other.address h
  where
    by : (o p : Option DirectAddress) → IfSome o (λ a. IfSome p (λ b. ¬ SameAddress a b))
        → IfSome (option_map (λ a. location a.kind a.bus a.place) o)
        (λ l. ¬ (option_map (λ b. location b.kind b.bus b.place) p ≡ Some l))
    by None p k = tt
    by (Some a) None k = λ e. absurd cc
    by (Some a) (Some b) k =
        λ e. let same : location a.kind a.bus a.place ≡ location b.kind b.bus b.place = cc in k (same_address a b same)

pairs_map : {X Y : Type 0} (R : Y → Y → Type 0) (f : X → Y) (xs : List X) → AllPairs (λ x y. R (f x) (f y)) xs
    → AllPairs R (map f xs)
pairs_map R f [] h = λ i j d below within. absurd (omega arith)
pairs_map R f (x ∷ xs) h =
    λ i j d below within.
    let many = length-map (x ∷ xs) f in
    let last : j < length (x ∷ xs) = omega (arith, many, within) in
    let first : i < length (x ∷ xs) = omega arith in
    rw (get_or-map f (x ∷ xs) i x d first, get_or-map f (x ∷ xs) j x d last) (h i j x below last)

-- ---- all of it

module _ (tree : Tree) (wiring : Wiring) (named : IsWellNamed tree wiring) where
  pub all_sound : All (IsSoundGlobal wiring) (globals_of tree)
  all_sound = globals_sound tree wiring (λ place cause f. named place cause (inl f))

  pub all_located : All (IsLocatedIn wiring) (map planned_global (globals_of tree))
  all_located =
      All-map (IsLocatedIn wiring) planned_global (globals_of tree)
      (λ k g below. located_global wiring (get_or (globals_of tree) k g) (all_sound k g below))

  pub all_apart : AllPairs AreApart (map planned_global (globals_of tree))
  all_apart =
      let others = globals_apart tree wiring (λ place cause f. named place cause (inl f)) in
      pairs_map AreApart planned_global (globals_of tree)
      (λ i j d below within.
      apart_one (get_or (globals_of tree) i d) (get_or (globals_of tree) j d) (others i j d below within))

-- ---- numbers of addresses are those of a byte

abbrev pub AreBytes : DirectAddress → Type 0
AreBytes a = (a.bus < 256) × (a.place < 256)

some_bound : (wiring : Wiring) (bus place : ℕ) (sources : List BoundSource) → All (IsOnBus wiring.buses) sources
    → SomeOf (IsAt bus place) sources → place < 64
some_bound wiring bus place [] h s = elim s [ ]
some_bound wiring bus place (source ∷ sources) h (inl at) =
    let first = h 0 source (omega arith) in omega (arith, first.ranges.number, at.1)
some_bound wiring bus place (source ∷ sources) h (inr s) =
    some_bound wiring bus place sources (λ k d below. h (suc k) d (omega arith)) s

fits_one : (wiring : Wiring) → IsWithinLimits wiring → (kind : AddressKind) (bus place : ℕ)
    → IsThere wiring kind bus place → place < 256
fits_one wiring limits OutputByte bus place is = omega arith
fits_one wiring limits InputWord bus place (inl l) = omega arith
fits_one wiring limits InputWord bus place (inr x) =
    let below = x.1 in elim x.3 [ inl e ↦ omega arith | inr e ↦ omega arith ]
fits_one wiring limits InputBit bus place is =
    let below = some_bound wiring bus place wiring.sources limits.sources is in omega arith

pub all_fit : (tree : Tree) (wiring : Wiring) → IsWithinLimits wiring → IsWellNamed tree wiring
    → All (λ g. IfSome g.address AreBytes) (globals_of tree)
all_fit tree wiring limits named k g below =
    let its = get_or (globals_of tree) k g in
    by its.value_type its.address (all_sound tree wiring named k g below).1
  where
    by : (type : IlType) (o : Option DirectAddress) → IfSome o (IsSoundAt wiring type) → IfSome o AreBytes
    by type None s = tt
    by type (Some a) s =
        let there = s.0 in
        let most = limits.buses.last in
        (omega arith, fits_one wiring limits a.kind a.bus a.place s.1)
