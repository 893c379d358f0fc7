-- What the words of a line spell is one thing, and its numbers are in their ranges.
use Rattle.std.proofs.Common.{◌≡◌, ℕ, ◌≤◌, ◌-◌, List, [], ◌∷◌, Bool, true, false, Option, Some, None, length}
use Rattle.std.proofs.Common.{refl, ap, sym, subst, ◌∙◌, arith}
use Rattle.std.specs.Prelude.{◌&&◌, codes, nat_le, nat_lt, if◌then◌else◌, MatchOption}
use Rattle.std.specs.Str.Parse.{digits_value}
use Rattle.std.proofs.lemmas.Bool.Decides.{nat_tests}
use Rattle.limits.specs.Limits.{most_buses, most_sources, most_tries}
use Rattle.wordlines.specs.WordLines.{number_upto, are_digits, AreAroundDot}
use Rattle.daliframe.specs.declared.schemes.EventScheme.{EventScheme}
use Rattle.daliframe.specs.declared.schemes.EventScheme.TheVariants.{Instance, Device, DeviceInstance}
use Rattle.daliframe.specs.declared.schemes.EventScheme.TheVariants.{DeviceGroup, InstanceGroup}
use Rattle.dalievent.specs.declared.messages.EventSource.{EventSource}
use Rattle.dalievent.specs.EventSchemes.{a_limit}
use Rattle.wordlines.specs.declared.sources.BoundSource.{BoundSource}
use Rattle.wordlines.specs.declared.tries.BusTries.{BusTries}
use Rattle.wordlines.specs.declared.binding_lines.BindingLine.{BindingLine}
use Rattle.wordlines.specs.declared.binding_lines.BindingLine.TheVariants.{Buses, Bound, Tries}
use Rattle.wordlines.specs.Bindings.{Says}
use Rattle.wordlines.specs.Spelling.{SpellsBuses, SpellsBound, SpellsPlace, SpellsSource, SpellsTries, scheme_word}
use Rattle.wordlines.specs.Wirings.{IsInRange}

same_number : (most : ℕ) (x y : List ℕ) (n m : ℕ) → x ≡ y → number_upto most x ≡ Some n → number_upto most y ≡ Some m
    → n ≡ m
same_number most x y n m same t u =
    let number = ap (number_upto most) same in
    let one : Some n ≡ Some m = sym t ∙ (number ∙ u) in
    cc

same_buses : (words : List (List ℕ)) (n m : ℕ) → SpellsBuses words n → SpellsBuses words m → n ≡ m
same_buses words n m t u =
    let two = t.are in
    let others = u.are in
    let digits : t.digits ≡ u.digits = cc in
    same_number most_buses t.digits u.digits n m digits t.spell u.spell

same_front : (word a b c d : List ℕ) → AreAroundDot word a b → AreAroundDot word c d → a ≡ c
same_front word a b c d h k = let one : a ∷ b ∷ [] ≡ c ∷ d ∷ [] = sym h ∙ k in cc

same_back : (word a b c d : List ℕ) → AreAroundDot word a b → AreAroundDot word c d → b ≡ d
same_back word a b c d h k = let one : a ∷ b ∷ [] ≡ c ∷ d ∷ [] = sym h ∙ k in cc

same_place : (word : List ℕ) (b n c m : ℕ) → SpellsPlace word b n → SpellsPlace word c m → (b ≡ c) × (n ≡ m)
same_place word b n c m t u = (
  same_number (most_buses - 1) t.front u.front b c (same_front word t.front t.back u.front u.back t.are u.are)
      t.spells_bus u.spells_bus,
  same_number (most_sources - 1) t.back u.back n m (same_back word t.front t.back u.front u.back t.are u.are)
      t.spells_number u.spells_number,
)

-- keywords differ in length
same_scheme : (s t : EventScheme) → length (scheme_word s) ≡ length (scheme_word t) → s ≡ t
same_scheme Instance Instance h = refl
same_scheme Device Device h = refl
same_scheme DeviceInstance DeviceInstance h = refl
same_scheme DeviceGroup DeviceGroup h = refl
same_scheme InstanceGroup InstanceGroup h = refl
same_scheme _ _ h = absurd (omega (arith, h))

-- sources of equal parts are equal
alike_source : (s t : EventSource) → s.scheme ≡ t.scheme → s.a ≡ t.a → s.b ≡ t.b → s ≡ t
alike_source s t scheme a b =
    let first : s ≡ record t { a = s.a; b = s.b } =
    ap (λ (e : EventScheme). let it : EventSource = record { scheme = e; a = s.a; b = s.b } in it) scheme in
    let second : record t { a = s.a; b = s.b } ≡ record t { b = s.b } =
    ap (λ (n : ℕ). let it : EventSource = record { scheme = t.scheme; a = n; b = s.b } in it) a in
    first ∙ (second ∙ ap (λ (n : ℕ). let it : EventSource = record { scheme = t.scheme; a = t.a; b = n } in it) b)

same_source : (words : List (List ℕ)) (s t : EventSource) → SpellsSource words s → SpellsSource words t → s ≡ t
same_source words s t h k =
    let one : scheme_word s.scheme ∷ h.first ∷ h.second ∷ [] ≡ scheme_word t.scheme ∷ k.first ∷ k.second ∷ [] =
    sym h.are ∙ k.are in
    let keyword : scheme_word s.scheme ≡ scheme_word t.scheme = cc in
    let first : h.first ≡ k.first = cc in
    let second : h.second ≡ k.second = cc in
    let scheme : s.scheme ≡ t.scheme = same_scheme s.scheme t.scheme (ap length keyword) in
    let other : number_upto (a_limit s.scheme - 1) k.first ≡ Some t.a =
    subst (λ (e : EventScheme). number_upto (a_limit e - 1) k.first ≡ Some t.a) (sym scheme) k.spells_a in
    let a : s.a ≡ t.a = same_number (a_limit s.scheme - 1) h.first k.first s.a t.a first h.spells_a other in
    let b : s.b ≡ t.b = same_number 31 h.second k.second s.b t.b second h.spells_b k.spells_b in
    alike_source s t scheme a b

pub alike_bound : (s t : BoundSource) → s.bus ≡ t.bus → s.number ≡ t.number → s.source ≡ t.source → s ≡ t
alike_bound s t bus number source =
    let first : s ≡ record t { number = s.number; source = s.source } =
    ap (λ (n : ℕ). let it : BoundSource = record { bus = n; number = s.number; source = s.source } in it) bus in
    let second : record t { number = s.number; source = s.source } ≡ record t { source = s.source } =
    ap (λ (n : ℕ). let it : BoundSource = record { bus = t.bus; number = n; source = s.source } in it) number in
    let third : record t { source = s.source } ≡ t =
    ap (λ (e : EventSource). let it : BoundSource = record { bus = t.bus; number = t.number; source = e }
    in it) source in
    first ∙ (second ∙ third)

-- the place and the source of a line that binds
pub bound_parts : (word : List ℕ) (rest : List (List ℕ)) (bound : BoundSource)
    → SpellsBound (codes "source" ∷ word ∷ rest) bound
    → SpellsPlace word bound.bus bound.number × SpellsSource rest bound.source
bound_parts word rest bound h =
    let are = h.are in
    let word_is : h.place ≡ word = cc in
    let rest_is : h.rest ≡ rest = cc in (
      subst (λ (w : List ℕ). SpellsPlace w bound.bus bound.number) word_is h.at,
      subst (λ (ws : List (List ℕ)). SpellsSource ws bound.source) rest_is h.is,
    )

-- where the words after the place, or the place, spell nothing, the line binds none
pub bad_bound : (words rest : List (List ℕ)) (word : List ℕ) (r : Option BoundSource) → r ≡ None
    → words ≡ word ∷ rest
    → ((bound : BoundSource) → SpellsPlace word bound.bus bound.number → ¬ SpellsSource rest bound.source)
    → MatchOption r ((bound : BoundSource) → ¬ SpellsBound (codes "source" ∷ words) bound)
    (SpellsBound (codes "source" ∷ words))
bad_bound words rest word r none are bad =
    rw (none, are) (λ bound h. let parts = bound_parts word rest bound h in bad bound parts.0 parts.1)

same_bound : (words : List (List ℕ)) (s t : BoundSource) → SpellsBound words s → SpellsBound words t → s ≡ t
same_bound words s t h k =
    let other = subst (λ (ws : List (List ℕ)). SpellsBound ws t) h.are k in
    let parts = bound_parts h.place h.rest t other in
    let place = same_place h.place s.bus s.number t.bus t.number h.at parts.0 in
    let source = same_source h.rest s.source t.source h.is parts.1 in
    alike_bound s t place.0 place.1 source

buses_or_bound : (words : List (List ℕ)) (n : ℕ) (bound : BoundSource) → SpellsBuses words n → SpellsBound words bound
    → ⊥
buses_or_bound words n bound t h =
    let one : codes "buses" ∷ t.digits ∷ [] ≡ codes "source" ∷ h.place ∷ h.rest = sym t.are ∙ h.are in
    let keyword : codes "buses" ≡ codes "source" = cc in
    absurd (omega (arith, ap length keyword))

-- attempts of equal parts are equal
alike_tries : (s t : BusTries) → s.bus ≡ t.bus → s.tries ≡ t.tries → s ≡ t
alike_tries s t bus tries =
    let first : s ≡ record t { tries = s.tries } =
    ap (λ (n : ℕ). let it : BusTries = record { bus = n; tries = s.tries } in it) bus in
    first ∙ ap (λ (n : ℕ). let it : BusTries = record { bus = t.bus; tries = n } in it) tries

same_tries : (words : List (List ℕ)) (s t : BusTries) → SpellsTries words s → SpellsTries words t → s ≡ t
same_tries words s t h k =
    let one : codes "tries" ∷ h.front ∷ h.back ∷ [] ≡ codes "tries" ∷ k.front ∷ k.back ∷ [] = sym h.are ∙ k.are in
    let front : h.front ≡ k.front = cc in
    let back : h.back ≡ k.back = cc in
    let bus = same_number (most_buses - 1) h.front k.front s.bus t.bus front h.spells_bus k.spells_bus in
    let tries = same_number most_tries h.back k.back s.tries t.tries back h.spells_tries k.spells_tries in
    alike_tries s t bus tries

buses_or_tries : (words : List (List ℕ)) (n : ℕ) (said : BusTries) → SpellsBuses words n → SpellsTries words said → ⊥
buses_or_tries words n said t h =
    let one : codes "buses" ∷ t.digits ∷ [] ≡ codes "tries" ∷ h.front ∷ h.back ∷ [] = sym t.are ∙ h.are in
    absurd (omega (arith, ap length one))

bound_or_tries : (words : List (List ℕ)) (bound : BoundSource) (said : BusTries) → SpellsBound words bound
    → SpellsTries words said → ⊥
bound_or_tries words bound said t h =
    let one : codes "source" ∷ t.place ∷ t.rest ≡ codes "tries" ∷ h.front ∷ h.back ∷ [] = sym t.are ∙ h.are in
    let keyword : codes "source" ≡ codes "tries" = cc in
    absurd (omega (arith, ap length keyword))

-- a line says one thing
pub says_one : (words : List (List ℕ)) (l m : BindingLine) → Says words l → Says words m → l ≡ m
says_one words (Buses n) (Buses m) s t = ap Buses (same_buses words n m s t)
says_one words (Buses n) (Bound m) s t = absurd (buses_or_bound words n m s t)
says_one words (Buses n) (Tries m) s t = absurd (buses_or_tries words n m s t)
says_one words (Bound n) (Buses m) s t = absurd (buses_or_bound words m n t s)
says_one words (Bound n) (Bound m) s t = ap Bound (same_bound words n m s t)
says_one words (Bound n) (Tries m) s t = absurd (bound_or_tries words n m s t)
says_one words (Tries n) (Buses m) s t = absurd (buses_or_tries words m n t s)
says_one words (Tries n) (Bound m) s t = absurd (bound_or_tries words m n t s)
says_one words (Tries n) (Tries m) s t = ap Tries (same_tries words n m s t)

-- ---- ranges

chosen : (t u : Bool) (value n : ℕ) → (if t && u then Some value else None) ≡ Some n → (u ≡ true) × (value ≡ n)
chosen true true value n h = (refl, cc)
chosen true false value n h = cc
chosen false u value n h = cc

upto : (most : ℕ) (digits : List ℕ) (n : ℕ) → number_upto most digits ≡ Some n → n ≤ most
upto most digits n h =
    let all = chosen (nat_lt 0 (length digits) && are_digits 10 digits) (nat_le (digits_value 10 digits) most)
    (digits_value 10 digits) n h in
    let low = all.0 in
    let is = all.1 in
    grind (arith, nat_tests)

some_limit : (scheme : EventScheme) → 1 ≤ a_limit scheme
some_limit Instance = omega arith
some_limit Device = omega arith
some_limit DeviceInstance = omega arith
some_limit DeviceGroup = omega arith
some_limit InstanceGroup = omega arith

-- what a line binds is in its ranges
pub spelled_range : (words : List (List ℕ)) (bound : BoundSource) → SpellsBound words bound → IsInRange bound
spelled_range words bound h =
    record {
      number = omega (arith, upto (most_sources - 1) h.at.back bound.number h.at.spells_number);
      parts = record {
        a = omega (
          arith,
          upto (a_limit bound.source.scheme - 1) h.is.first bound.source.a h.is.spells_a,
          some_limit bound.source.scheme,
        );
        b = omega (arith, upto 31 h.is.second bound.source.b h.is.spells_b);
      };
    }
