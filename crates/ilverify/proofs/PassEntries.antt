-- Entries that hold one another.
use Rattle.std.proofs.Common.{◌≡◌, Bool, true, false, cond, List, [], ◌∷◌, Option, Some, None, refl, sym, ap, ◌∙◌}
use Rattle.std.proofs.Common.{subst, arith}
use Rattle.std.proofs.lemmas.Int.{ints}
use Rattle.iltypes.proofs.Equality.{same_limits}
use Rattle.ilverify.proofs.OrderMarks.{mark_self}
use Rattle.ilverify.proofs.Knowns.{known_self}
use Rattle.std.specs.Prelude.{IsTrue}
use Rattle.std.specs.List.{AllZip}
use Rattle.iltypes.specs.declared.range.Range.{Range}
use Rattle.iltypes.specs.Ranges.{IsWithin}
use Rattle.ilverify.specs.declared.known.Known.{Known}
use Rattle.ilverify.specs.declared.known.Known.TheVariants as knowns
use Rattle.ilverify.specs.Knowns.{IsKnownWithin}
use Rattle.ilverify.specs.declared.entry.Entry.{Entry}
use Rattle.ilverify.specs.declared.nesting.KnownOpened.{KnownOpened}
use Rattle.ilverify.specs.declared.mark.ResultMark.{ResultMark}
use Rattle.ilverify.specs.Entries.{IsResultInto, IsOpenedInto, IsInto}
use Rattle.ilverify.specs.Marks.{IsMarkInto}
use Rattle.ilverify.specs.Certificates.{are_closed}

-- ---- lists, place by place

zip_self : {A : Type 0} (R : A → A → Type 0) → ((x : A) → R x x) → (xs : List A) → AllZip R xs xs
zip_self R each [] = tt
zip_self R each (x ∷ xs) = (each x, zip_self R each xs)

zip_trans : {A : Type 0} (R : A → A → Type 0) → ((x y z : A) → R x y → R y z → R x z) → (xs ys zs : List A)
    → AllZip R xs ys → AllZip R ys zs → AllZip R xs zs
zip_trans R each [] [] [] h g = tt
zip_trans R each [] [] (z ∷ zs) h g = absurd g
zip_trans R each [] (y ∷ ys) zs h g = absurd h
zip_trans R each (x ∷ xs) [] zs h g = absurd h
zip_trans R each (x ∷ xs) (y ∷ ys) [] h g = absurd g
zip_trans R each (x ∷ xs) (y ∷ ys) (z ∷ zs) h g = (each x y z h.0 g.0, zip_trans R each xs ys zs h.1 g.1)

zip_same : {A : Type 0} (R : A → A → Type 0) → ((x y : A) → R x y → R y x → x ≡ y) → (xs ys : List A)
    → AllZip R xs ys → AllZip R ys xs → xs ≡ ys
zip_same R each [] [] h g = refl
zip_same R each [] (y ∷ ys) h g = absurd h
zip_same R each (x ∷ xs) [] h g = absurd h
zip_same R each (x ∷ xs) (y ∷ ys) h g = let p = each x y h.0 g.0 in let q = zip_same R each xs ys h.1 g.1 in cc

-- ---- an entry holds itself

result_self : (result : Option Known) → IsResultInto result result
result_self None = tt
result_self (Some known) = known_self known

opened_self : (opened : KnownOpened) → IsOpenedInto opened opened
opened_self opened = record { operator = refl; saved = known_self opened.saved }

pub into_self : (entry : Entry) → IsInto entry entry
into_self entry = record {
  slots = zip_self IsKnownWithin known_self entry.slots;
  result = result_self entry.result;
  mark = mark_self entry.mark;
  nesting = zip_self IsOpenedInto opened_self entry.nesting;
}

-- ---- what holds an entry that holds another holds that

known_trans : (a b c : Known) → IsKnownWithin a b → IsKnownWithin b c → IsKnownWithin a c
known_trans knowns.Bool knowns.Bool knowns.Bool h g = tt
known_trans knowns.Bool knowns.Bool (knowns.Int t) h g = absurd g
known_trans knowns.Bool (knowns.Int s) c h g = absurd h
known_trans (knowns.Int r) knowns.Bool c h g = absurd h
known_trans (knowns.Int r) (knowns.Int s) knowns.Bool h g = absurd g
known_trans (knowns.Int r) (knowns.Int s) (knowns.Int t) h g =
    record { low = omega (arith, ints); high = omega (arith, ints) }

result_trans : (a b c : Option Known) → IsResultInto a b → IsResultInto b c → IsResultInto a c
result_trans a b None h g = tt
result_trans a None (Some z) h g = absurd g
result_trans None (Some y) (Some z) h g = absurd h
result_trans (Some x) (Some y) (Some z) h g = known_trans x y z h g

mark_trans : (a b c : Option ResultMark) → IsMarkInto a b → IsMarkInto b c → IsMarkInto a c
mark_trans a b None h g = tt
mark_trans a None (Some z) h g = absurd g
mark_trans None (Some y) (Some z) h g = absurd h
mark_trans (Some x) (Some y) (Some z) h g = h ∙ g

opened_trans : (a b c : KnownOpened) → IsOpenedInto a b → IsOpenedInto b c → IsOpenedInto a c
opened_trans a b c h g =
    record { operator = h.operator ∙ g.operator; saved = known_trans a.saved b.saved c.saved h.saved g.saved }

pub into_trans : (a b c : Entry) → IsInto a b → IsInto b c → IsInto a c
into_trans a b c h g = record {
  slots = zip_trans IsKnownWithin known_trans a.slots b.slots c.slots h.slots g.slots;
  result = result_trans a.result b.result c.result h.result g.result;
  mark = mark_trans a.mark b.mark c.mark h.mark g.mark;
  nesting = zip_trans IsOpenedInto opened_trans a.nesting b.nesting c.nesting h.nesting g.nesting;
}

-- ---- entries that hold each other are equal

within_same : (r s : Range) → IsWithin r s → IsWithin s r → r ≡ s
within_same r s h g = same_limits r s (omega (arith, ints), omega (arith, ints))

same_known : (a b : Known) → IsKnownWithin a b → IsKnownWithin b a → a ≡ b
same_known knowns.Bool knowns.Bool h g = refl
same_known knowns.Bool (knowns.Int s) h g = absurd h
same_known (knowns.Int r) knowns.Bool h g = absurd h
same_known (knowns.Int r) (knowns.Int s) h g = ap knowns.Int (within_same r s h g)

same_result : (a b : Option Known) → IsResultInto a b → IsResultInto b a → a ≡ b
same_result None None h g = refl
same_result None (Some y) h g = absurd h
same_result (Some x) None h g = absurd g
same_result (Some x) (Some y) h g = ap Some (same_known x y h g)

same_mark : (a b : Option ResultMark) → IsMarkInto a b → IsMarkInto b a → a ≡ b
same_mark None None h g = refl
same_mark None (Some y) h g = absurd h
same_mark (Some x) None h g = absurd g
same_mark (Some x) (Some y) h g = ap Some h

same_opened : (a b : KnownOpened) → IsOpenedInto a b → IsOpenedInto b a → a ≡ b
same_opened a b h g =
    ap (λ o. record a { operator = o }) h.operator
    ∙ ap (λ s. record b { saved = s }) (same_known a.saved b.saved h.saved g.saved)

pub same_entry : (a b : Entry) → IsInto a b → IsInto b a → a ≡ b
same_entry a b h g =
    ap (λ s. record a { slots = s }) (zip_same IsKnownWithin same_known a.slots b.slots h.slots g.slots)
    ∙ ap (λ r. record a { slots = b.slots; result = r }) (same_result a.result b.result h.result g.result)
    ∙ ap (λ m. record b { mark = m; nesting = a.nesting }) (same_mark a.mark b.mark h.mark g.mark)
    ∙ ap (λ n. record b { nesting = n }) (zip_same IsOpenedInto same_opened a.nesting b.nesting h.nesting g.nesting)

-- ---- a start, where no current result and no mark stay

abbrev pub HasNoResult : Entry → Type 0
HasNoResult entry = (entry.result ≡ None) × (entry.mark ≡ None)

abbrev pub forgotten : Bool → Entry → Entry
forgotten start entry = cond start (record entry { result = None; mark = None }) entry

-- what comes to a place is within what is known there
pub into_forgotten : (start : Bool) (entry : Entry) → IsInto entry (forgotten start entry)
into_forgotten true entry =
    let h = into_self entry in record { slots = h.slots; result = tt; mark = tt; nesting = h.nesting }
into_forgotten false entry = into_self entry

-- it is within each entry that holds it, where at a start that entry has no result
pub forgotten_into : (start : Bool) (entry wider : Entry) → (IsTrue start → HasNoResult wider) → IsInto entry wider
    → IsInto (forgotten start entry) wider
forgotten_into true entry wider n h = record {
  slots = h.slots;
  result = subst (IsResultInto None) (sym (n refl).0) tt;
  mark = subst (IsMarkInto None) (sym (n refl).1) tt;
  nesting = h.nesting;
}
forgotten_into false entry wider n h = h

pub forgotten_none : (start : Bool) (entry : Entry) → IsTrue start → HasNoResult (forgotten start entry)
forgotten_none true entry h = (refl, refl)
forgotten_none false entry h = absurd (cc)

result_none : (result wider : Option Known) → result ≡ None → IsResultInto result wider → wider ≡ None
result_none result None e h = refl
result_none None (Some y) e h = absurd h
result_none (Some x) (Some y) e h = absurd (cc)

mark_none : (mark wider : Option ResultMark) → mark ≡ None → IsMarkInto mark wider → wider ≡ None
mark_none mark None e h = refl
mark_none None (Some y) e h = absurd h
mark_none (Some x) (Some y) e h = absurd (cc)

-- an entry that holds one without a result has none
pub none_wider : (entry wider : Entry) → IsInto entry wider → HasNoResult entry → HasNoResult wider
none_wider entry wider i h =
    (result_none entry.result wider.result h.0 i.result, mark_none entry.mark wider.mark h.1 i.mark)

-- ---- parentheses that are open

closed_zip : (nesting wider : List KnownOpened) → AllZip IsOpenedInto nesting wider
    → are_closed nesting ≡ are_closed wider
closed_zip [] [] h = refl
closed_zip [] (y ∷ ys) h = absurd h
closed_zip (x ∷ xs) [] h = absurd h
closed_zip (x ∷ xs) (y ∷ ys) h = refl

-- as much is open by the wider
pub closed_wider : (entry wider : Entry) → IsInto entry wider → are_closed entry.nesting ≡ are_closed wider.nesting
closed_wider entry wider i = closed_zip entry.nesting wider.nesting i.nesting

pub closed_is : (nesting : List KnownOpened) → IsTrue (are_closed nesting) → nesting ≡ []
closed_is [] h = refl
closed_is (x ∷ xs) h = absurd (cc)
