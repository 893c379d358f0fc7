-- What the tokens of a text are read as is what the text spells, or its first fault.
use Rattle.std.proofs.Common.{◌≡◌, ℕ, suc, ◌-◌, ◌≤◌, List, [], ◌∷◌, ◌++◌, length, take, Result, Ok, Err, IfOk, All}
use Rattle.std.proofs.Common.{Option, inl, inr, sym, ap, subst, ◌∙◌, arith}
use Rattle.std.proofs.lemmas.List.{length-append, take_at}
use Rattle.std.proofs.Math.Decide.{dec_le}
use Rattle.std.proofs.Math.Nat.{lt_of_not-le}
use Rattle.std.specs.Prelude.{◌<◌, ◌↔◌, Bool, false, IsTrue, IfErr}
use Rattle.iltokens.specs.Stops.{StopsBefore, whole_read}
use Rattle.iltokens.proofs.Exact.{whole_found, whole_only, whole_fault, stopped_split, one_fault, no_fault}
use Rattle.limits.specs.Limits.{most_bytes}
use Rattle.ilsource.specs.Configurations.{Configured}
use Rattle.ilsource.specs.declared.source.Element.{Element}
use Rattle.ilsource.specs.SourceTrees.{Tree}
use Rattle.iltext.specs.declared.token.Token.{Token}
use Rattle.iltext.specs.declared.fault.TextFault.{TextFault}
use Rattle.iltext.specs.declared.fault.TextFault.TheVariants as faults
use Rattle.iltext.specs.Cutting.{Cuts}
use Rattle.iltext.specs.Faults.{Reports, place_at}
use Rattle.iltext.specs.Texts.{text}
use Rattle.iltext.specs.Parsing.{IsText, IsReadAs, IsFault, IsFirstFault, IsTextFault}
use Rattle.iltext.specs.ParsingSteps.{IsParsed}
use Rattle.iltext.proofs.Cut.{one_cut}
use Rattle.iltext.proofs.Laws.{Lawful-text}

-- a text that is not too long is short
pub short_of : (is_long : Bool) (most count : ℕ) → IsTrue is_long ↔ (most < count) → is_long ≡ false → count ≤ most
short_of is_long most count known isnt =
    elim (dec_le count most) [
      | yes short ↦ short
      | no long ↦ let so = known.1 (lt_of_not-le long) in absurd cc
    ]

-- what the tokens of a source program spell
abbrev Parts : Type 0
Parts = List Element × Option Configured

abbrev parts_of : Tree → Parts
parts_of tree = (tree.elements, tree.configuration)

pub is_found : (bytes : List ℕ) (ts : List Token) (r : Result Tree TextFault) → length bytes ≤ most_bytes
    → Cuts bytes 0 ts → IsParsed bytes ts r
    → IfOk r (λ tree. IsText bytes tree)
is_found bytes ts (Ok tree) short cut p =
    record {
      short = short;
      same = p.0;
      tokens = ts;
      cut = cut;
      whole = whole_found _ _ _ _ Lawful-text ts (parts_of tree)
          p.1;
    }
is_found bytes ts (Err e) short cut p = tt

reads : (bytes : List ℕ) (ts : List Token) (tree : Tree) → Cuts bytes 0 ts → IsText bytes tree
    → whole_read text ts ≡ Ok (parts_of tree)
reads bytes ts tree cut t =
    let same : t.tokens ≡ ts = one_cut bytes 0 (omega arith) t.tokens ts t.cut cut in
    whole_only _ _ _ _ Lawful-text ts (parts_of tree)
    (subst (λ (z : List Token). text.whole z (parts_of tree)) same t.whole)

abbrev done : Parts → Result Parts (List Token)
done parts = Ok parts

abbrev made : List ℕ → List Element → Option Configured → Tree
made t p c = record { text = t; elements = p; configuration = c }

same_tree : (a b : Tree) → a.text ≡ b.text → parts_of a ≡ parts_of b → a ≡ b
same_tree a b t p =
    let elements : a.elements ≡ b.elements = ap (λ (z : Parts). z.0) p in
    let configuration : a.configuration ≡ b.configuration = ap (λ (z : Parts). z.1) p in
    let e : made a.text a.elements a.configuration ≡ made b.text b.elements b.configuration = cc in
    e

same_parts : (p q : Parts) → done p ≡ done q → p ≡ q
same_parts p q e = cc

pub is_only : (bytes : List ℕ) (ts : List Token) (r : Result Tree TextFault) → Cuts bytes 0 ts → IsParsed bytes ts r
    → (tree : Tree)
    → IsText bytes tree → IsReadAs tree r
is_only bytes ts (Ok source) cut p tree t =
    same_tree source tree (p.0 ∙ sym t.same)
    (same_parts (parts_of source) (parts_of tree) (sym p.1 ∙ reads bytes ts tree cut t))
is_only bytes ts (Err faults.Memory) cut p tree t = tt
is_only bytes ts (Err (faults.At line col cause)) cut p tree t = let bad = sym p.1 ∙ reads bytes ts tree cut t in cc

-- the tokens before what is left
front_is : (front rest : List Token) → take (length (front ++ rest) - length rest) (front ++ rest) ≡ front
front_is front rest =
    take_at front rest (length (front ++ rest) - length rest) (omega (arith, length-append front rest))

before_is : (ts front rest : List Token) → ts ≡ front ++ rest → take (length ts - length rest) ts ≡ front
before_is ts front rest e = rw e (front_is front rest)

pub is_fault : (bytes : List ℕ) (ts : List Token) (r : Result Tree TextFault) → length bytes ≤ most_bytes
    → Cuts bytes 0 ts → IsParsed bytes ts r → IfErr r (λ fault. IsFault bytes fault)
is_fault bytes ts (Ok source) short cut p = tt
is_fault bytes ts (Err faults.Memory) short cut p = tt
is_fault bytes ts (Err (faults.At line col cause)) short cut p =
    let f = whole_fault _ _ _ _ Lawful-text ts p.0 p.1 in
    let before = before_is ts f.0 p.0 (stopped_split _ _ _ _ Lawful-text ts f.0 p.0 f.1) in
    inr (record {
      short = short;
      tokens = ts;
      cut = cut;
      before = f.0;
      rest = p.0;
      stops = f.1;
      reports = subst (λ (z : List Token). Reports bytes z p.0 (faults.At line col cause)) before p.2;
    })

pub is_one : (bytes : List ℕ) (a b : Tree) → IsText bytes a → IsText bytes b → a ≡ b
is_one bytes a b s t =
    let one = reads bytes t.tokens a t.cut s in
    let two = reads bytes t.tokens b t.cut t in
    same_tree a b (s.same ∙ sym t.same) (same_parts (parts_of a) (parts_of b) (sym one ∙ two))

first_one : (bytes : List ℕ) (a b : TextFault) → IsFirstFault bytes a → IsFirstFault bytes b → a ≡ b
first_one bytes a b f g =
    let same : f.tokens ≡ g.tokens = one_cut bytes 0 (omega arith) f.tokens g.tokens f.cut g.cut in
    let stops = subst (λ (z : List Token). StopsBefore text z f.before f.rest) same f.stops in
    let rests : f.rest ≡ g.rest =
    one_fault _ _ _ _ Lawful-text g.tokens f.rest g.rest (f.before, stops) (g.before, g.stops) in
    let before : (r before : List Token) → StopsBefore text g.tokens before r
    → take (length g.tokens - length r) g.tokens ≡ before =
    λ r front h. before_is g.tokens front r (stopped_split _ _ _ _ Lawful-text g.tokens front r h) in
    let befores : f.before ≡ g.before =
    sym (before f.rest f.before stops)
    ∙ (ap (λ (r : List Token). take (length g.tokens - length r) g.tokens) rests ∙ before g.rest g.before g.stops) in
    let reports : Reports bytes g.before g.rest a =
    subst (λ (z : List Token). Reports bytes z g.rest a) befores
    (subst (λ (z : List Token). Reports bytes f.before z a) rests f.reports) in
    reports ∙ sym g.reports

pub is_one_fault : (bytes : List ℕ) (a b : TextFault) → IsTextFault bytes a → IsTextFault bytes b → a ≡ b
is_one_fault bytes a b (inl f) (inl g) = f.1 ∙ sym g.1
is_one_fault bytes a b (inl f) (inr g) = absurd (omega (arith, f.0, g.short))
is_one_fault bytes a b (inr f) (inl g) = absurd (omega (arith, g.0, f.short))
is_one_fault bytes a b (inr f) (inr g) = first_one bytes a b f g

pub is_no_fault : (bytes : List ℕ) (tree : Tree) (fault : TextFault) → IsText bytes tree → IsTextFault bytes fault → ⊥
is_no_fault bytes tree fault t (inl f) = omega (arith, f.0, t.short)
is_no_fault bytes tree fault t (inr f) =
    let same : t.tokens ≡ f.tokens = one_cut bytes 0 (omega arith) t.tokens f.tokens t.cut f.cut in
    no_fault _ _ _ _ Lawful-text f.tokens f.rest (parts_of tree) (f.before, f.stops)
    (subst (λ (z : List Token). text.whole z (parts_of tree)) same t.whole)

abbrev Within : ℕ → Token → Type 0
Within len t = t.from ≤ len

last_within : (len : ℕ) (front : List Token) (t : Token) (v : List Token) → All (Within len) (front ++ t ∷ v)
    → t.from ≤ len
last_within len [] t v h = h 0 t (omega arith)
last_within len (u ∷ front) t v h = last_within len front t v (λ k d lt. h (suc k) d (omega arith))

-- what is left is no longer than all of it
pub rest_shorter : (ts rest : List Token) → whole_read text ts ≡ Err rest → length rest ≤ length ts
rest_shorter ts rest e =
    let f = whole_fault _ _ _ _ Lawful-text ts rest e in
    let parts = ap length (stopped_split _ _ _ _ Lawful-text ts f.0 rest f.1) in
    omega (arith, parts, length-append f.0 rest)

-- a fault is reported within the text
pub in_place : (bytes : List ℕ) (ts rest : List Token) → All (Within (length bytes)) ts → whole_read text ts ≡ Err rest
    → place_at bytes rest ≤ length bytes
in_place bytes ts [] h e = omega arith
in_place bytes ts (t ∷ v) h e =
    let f = whole_fault _ _ _ _ Lawful-text ts (t ∷ v) e in
    last_within (length bytes) f.0 t v (subst (λ (z : List Token). All (Within (length bytes)) z) f.1.0 h)
