-- Who knows more before a word knows more on each way from it, and no value goes a way where none goes by the wider.
use Rattle.std.proofs.Common.{◌≡◌, ℕ, zero, suc, ℤ, Bool, List, [], ◌∷◌, Option, Some, None, refl, sym, subst, true}
use Rattle.std.proofs.Common.{false}
use Rattle.std.specs.Prelude.{slice_get, slice_set}
use Rattle.std.specs.List.{AllZip}
use Rattle.iltypes.specs.declared.range.Range.{Range}
use Rattle.iltypes.specs.Arithmetic.{IsLeast}
use Rattle.iltypes.specs.Ranges.{IsWithin}
use Rattle.iltypes.specs.declared.operator.Operator.{Operator}
use Rattle.iltypes.specs.declared.condition.Condition.{Condition}
use Rattle.iltypes.specs.declared.condition.Condition.TheVariants.{Always, IfTrue, IfFalse}
use Rattle.ilcode.specs.declared.word.Word.TheVariants as words
use Rattle.ilcode.specs.declared.word.Word.{Word}
use Rattle.ilverify.specs.declared.entry.Entry.{Entry}
use Rattle.ilverify.specs.declared.known.Known.{Known}
use Rattle.ilverify.specs.declared.known.Known.TheVariants as knowns
use Rattle.ilverify.specs.declared.mark.ResultMark.{ResultMark}
use Rattle.ilverify.specs.declared.mark.ResultMark.TheVariants.{Copy, Test}
use Rattle.ilverify.specs.Entries.{IsInto}
use Rattle.ilverify.specs.Knowns.{IsKnownWithin}
use Rattle.ilverify.specs.Marks.{IsMarkInto}
use Rattle.ilverify.specs.Comparisons.{IsPassing}
use Rattle.ilverify.specs.Rules.{IsTested, IsRefined, Ways, AreJumped, AreOnward}
use Rattle.ilverify.specs.Order.{IsWayInto, KeepsEntryOrder}
use Rattle.ilverify.proofs.Knowns.{holds_wider}
use Rattle.ilverify.proofs.OrderWords.{IsBothWithin, slot_within, set_within, into_of, after_into}

-- ---- the numbers that pass, whatever the comparison

passing_wider : (comparison : Operator) (outcome : Bool) (limit : ℤ) (r s : Range) (z : ℤ) → IsWithin r s
    → IsPassing comparison outcome limit r z → IsPassing comparison outcome limit s z
passing_wider comparison outcome limit r s z w p = record { of_range = holds_wider r s z w p.of_range; is = p.is }

-- of a range, and of a wider one
kept_wider : (comparison : Operator) (outcome : Bool) (limit : ℤ) (r s kept other : Range) → IsWithin r s
    → IsLeast (IsPassing comparison outcome limit r) kept → IsLeast (IsPassing comparison outcome limit s) other
    → IsWithin kept other
kept_wider comparison outcome limit r s kept other w h k = record {
  low = (k.each kept.lo (passing_wider comparison outcome limit r s kept.lo w h.low)).low;
  high = (k.each kept.hi (passing_wider comparison outcome limit r s kept.hi w h.high)).high;
}

-- of a range, against a wider one of which all is kept
kept_within : (comparison : Operator) (outcome : Bool) (limit : ℤ) (r kept : Range) (wider : Known)
    → IsLeast (IsPassing comparison outcome limit r) kept → IsKnownWithin (knowns.Int r) wider
    → IsKnownWithin (knowns.Int kept) wider
kept_within comparison outcome limit r kept knowns.Bool h w = absurd w
kept_within comparison outcome limit r kept (knowns.Int s) h w = record {
  low = (holds_wider r s kept.lo w h.low.of_range).low;
  high = (holds_wider r s kept.hi w h.high.of_range).high;
}

-- ---- one slot

-- less is said of one slot alone
set_less : (slots wider : List Known) (slot : ℕ) (known kept : Known) → AllZip IsKnownWithin slots wider
    → slice_get slots slot ≡ Some known → ((other : Known) → IsKnownWithin known other → IsKnownWithin kept other)
    → AllZip IsKnownWithin (slice_set slots slot kept) wider
set_less [] [] slot known kept h e f = tt
set_less [] (y ∷ ys) slot known kept h e f = absurd h
set_less (x ∷ xs) [] slot known kept h e f = absurd h
set_less (x ∷ xs) (y ∷ ys) zero known kept h e f =
    let k : x ≡ known = cc in (f y (subst (λ (u : Known). IsKnownWithin u y) k h.0), h.1)
set_less (x ∷ xs) (y ∷ ys) (suc slot) known kept h e f = (h.0, set_less xs ys slot known kept h.1 e f)

-- ---- ways

pub same_way : (entry wider : Entry) (way other : Option Entry) → IsInto entry wider → way ≡ Some entry
    → other ≡ Some wider → IsWayInto way other
same_way entry wider way other i h k =
    subst (λ (o : Option Entry). IsWayInto o other) (sym h) (subst (IsWayInto (Some entry)) (sym k) i)

-- a test, against none
tested_within : (entry wider : Entry) (slot : ℕ) (comparison : Operator) (outcome : Bool) (limit : ℤ)
    (known : Option Known) (way : Option Entry) → IsInto entry wider → slice_get entry.slots slot ≡ known
    → IsTested entry slot comparison outcome limit known way → IsWayInto way (Some wider)
tested_within entry wider slot comparison outcome limit known None i e h = tt
tested_within entry wider slot comparison outcome limit None (Some way) i e h =
    same_way entry wider (Some way) (Some wider) i h refl
tested_within entry wider slot comparison outcome limit (Some knowns.Bool) (Some way) i e h =
    same_way entry wider (Some way) (Some wider) i h refl
tested_within entry wider slot comparison outcome limit (Some (knowns.Int r)) (Some way) i e h =
    into_of _ wider way wider h.is refl (record {
      slots = set_less entry.slots wider.slots slot (knowns.Int r) (knowns.Int h.kept) i.slots e
          (λ other w. kept_within comparison outcome limit r h.kept other h.least w);
      result = i.result;
      mark = i.mark;
      nesting = i.nesting;
    })

-- the same test
tested_wider : (entry wider : Entry) (slot : ℕ) (comparison : Operator) (outcome : Bool) (limit : ℤ)
    (known other : Option Known) (way wider_way : Option Entry) → IsInto entry wider → IsBothWithin known other
    → IsTested entry slot comparison outcome limit known way
    → IsTested wider slot comparison outcome limit other wider_way → IsWayInto way wider_way
tested_wider entry wider slot comparison outcome limit known other None wider_way i w h k = tt
tested_wider entry wider slot comparison outcome limit None None (Some way) wider_way i w h k =
    same_way entry wider (Some way) wider_way i h k
tested_wider entry wider slot comparison outcome limit None (Some y) (Some way) wider_way i w h k = absurd w
tested_wider entry wider slot comparison outcome limit (Some x) None (Some way) wider_way i w h k = absurd w
tested_wider entry wider slot comparison outcome limit (Some knowns.Bool) (Some knowns.Bool) (Some way) wider_way
    i w h k = same_way entry wider (Some way) wider_way i h k
tested_wider entry wider slot comparison outcome limit (Some knowns.Bool) (Some (knowns.Int s)) (Some way) wider_way
    i w h k = absurd w
tested_wider entry wider slot comparison outcome limit (Some (knowns.Int r)) (Some knowns.Bool) (Some way) wider_way
    i w h k = absurd w
tested_wider entry wider slot comparison outcome limit (Some (knowns.Int r)) (Some (knowns.Int s)) (Some way) None
    i w h k = k h.kept.lo (passing_wider comparison outcome limit r s h.kept.lo w h.least.low)
tested_wider entry wider slot comparison outcome limit (Some (knowns.Int r)) (Some (knowns.Int s)) (Some way)
    (Some wider_way) i w h k =
    into_of _ _ way wider_way h.is k.is (record {
      slots = set_within entry.slots wider.slots slot (knowns.Int h.kept) (knowns.Int k.kept) i.slots
          (kept_wider comparison outcome limit r s h.kept k.kept w h.least k.least);
      result = i.result;
      mark = i.mark;
      nesting = i.nesting;
    })

same_mark : (entry wider : Entry) (outcome : Bool) (mark : ResultMark) (way other : Option Entry) → IsInto entry wider
    → IsRefined entry outcome (Some mark) way → IsRefined wider outcome (Some mark) other → IsWayInto way other
same_mark entry wider outcome (Copy slot) way other i h k = same_way entry wider way other i h k
same_mark entry wider outcome (Test slot comparison limit) way other i h k =
    tested_wider entry wider slot comparison outcome limit (slice_get entry.slots slot) (slice_get wider.slots slot)
    way other i (slot_within entry.slots wider.slots slot i.slots) h k

no_mark : (entry wider : Entry) (outcome : Bool) (mark : Option ResultMark) (way : Option Entry) → IsInto entry wider
    → IsRefined entry outcome mark way → IsWayInto way (Some wider)
no_mark entry wider outcome None way i h = same_way entry wider way (Some wider) i h refl
no_mark entry wider outcome (Some (Copy slot)) way i h = same_way entry wider way (Some wider) i h refl
no_mark entry wider outcome (Some (Test slot comparison limit)) way i h =
    tested_within entry wider slot comparison outcome limit (slice_get entry.slots slot) way i refl h

-- refined by a mark, against the same mark or none
pub refined_into : (entry wider : Entry) (outcome : Bool) (mark wider_mark : Option ResultMark)
    (way other : Option Entry)
    → IsInto entry wider → IsMarkInto mark wider_mark → IsRefined entry outcome mark way
    → IsRefined wider outcome wider_mark other → IsWayInto way other
refined_into entry wider outcome mark None way other i m h k =
    subst (IsWayInto way) (sym k) (no_mark entry wider outcome mark way i h)
refined_into entry wider outcome None (Some wider_mark) way other i m h k = absurd m
refined_into entry wider outcome (Some mark) (Some wider_mark) way other i m h k =
    same_mark entry wider outcome mark way other i h
    (subst (λ (x : ResultMark). IsRefined wider outcome (Some x) other) (sym m) k)

-- ---- words

-- no value goes the way
gone : (way other : Option Entry) → way ≡ None → IsWayInto way other
gone way other e = subst (λ (o : Option Entry). IsWayInto o other) (sym e) tt

abbrev AreWaysInto : Ways → Ways → Type 0
AreWaysInto ways wider = IsWayInto ways.next wider.next × IsWayInto ways.target wider.target

onward_into : (IsOne IsOther : Entry → Type 0) (ways wider_ways : Ways)
    → ((one other : Entry) → IsOne one → IsOther other → IsInto one other) → AreOnward IsOne ways
    → AreOnward IsOther wider_ways → AreWaysInto ways wider_ways
onward_into IsOne IsOther ways wider_ways each h k = (
  same_way h.after k.after ways.next wider_ways.next (each h.after k.after h.leaves k.leaves) h.next k.next,
  gone ways.target wider_ways.target h.target,
)

jumped_into : (condition : Condition) (entry wider : Entry) (ways wider_ways : Ways) → IsInto entry wider
    → AreJumped condition entry ways → AreJumped condition wider wider_ways → AreWaysInto ways wider_ways
jumped_into Always entry wider ways wider_ways i h k =
    (gone ways.next wider_ways.next h.1, same_way entry wider ways.target wider_ways.target i h.0 k.0)
jumped_into IfTrue entry wider ways wider_ways i h k = (
  refined_into entry wider false entry.mark wider.mark ways.next wider_ways.next i i.mark h.1 k.1,
  refined_into entry wider true entry.mark wider.mark ways.target wider_ways.target i i.mark h.0 k.0,
)
jumped_into IfFalse entry wider ways wider_ways i h k = (
  refined_into entry wider true entry.mark wider.mark ways.next wider_ways.next i i.mark h.1 k.1,
  refined_into entry wider false entry.mark wider.mark ways.target wider_ways.target i i.mark h.0 k.0,
)

pub keeps_order : (word : Word) → KeepsEntryOrder word
keeps_order (words.Jump condition target) code place entry wider ways wider_ways i h k =
    jumped_into condition entry wider ways wider_ways i h k
keeps_order word code place entry wider ways wider_ways i h k =
    onward_into _ _ ways wider_ways (λ one other. after_into word code place entry wider one other i) h k
