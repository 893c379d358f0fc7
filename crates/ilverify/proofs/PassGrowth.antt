-- Certificates that grow along the words: each reached word that has a rule takes in, at the places where it leads,
-- what is known on the way there.
use Rattle.std.proofs.Common.{◌≡◌, ℕ, ◌<◌, ◌≤◌, inl, inr, length, Option, Some, None}
use Rattle.std.proofs.Common.{refl, sym, ◌∙◌, subst, arith, length-set}
use Rattle.std.specs.Prelude.{IsTrue, slice_get, slice_set, ⊤}
use Rattle.std.proofs.lemmas.Bool.{cases_eq}
use Rattle.std.proofs.lemmas.Option.{slice_get_within}
use Rattle.ilcode.specs.Listings.{Listing}
use Rattle.ilcode.specs.Steps.{is_start}
use Rattle.ilverify.specs.declared.entry.Entry.{Entry}
use Rattle.ilverify.specs.Entries.{IsInto, IsMeeting}
use Rattle.ilverify.specs.Certificates.{Certificate, Leads, IsConsistentBelow}
use Rattle.ilverify.specs.Certificates.{Covers}
use Rattle.ilverify.proofs.Lists.{set_there, same_set, other_set}
use Rattle.ilverify.proofs.PassEntries.{into_self, into_trans, HasNoResult}
use Rattle.ilverify.proofs.PassEntries.{none_wider}

-- ---- certificates

pub below : (code : Listing) (certificate : Certificate) (m n : ℕ) → m ≤ n → IsConsistentBelow code certificate n
    → IsConsistentBelow code certificate m
below code certificate m n le k = record {
  long = k.long;
  begins = k.begins;
  starts = k.starts;
  each = λ place entry word lt ws es. k.each place entry word (omega arith) ws es;
}

pub leads_on : (certificate : Certificate) (to : ℕ) (entry wider : Entry) → IsInto entry wider
    → Leads certificate to wider → Leads certificate to entry
leads_on certificate to entry wider i l =
    record { wider = l.wider; is = l.is; into = into_trans entry wider l.wider i l.into }

pub covers_self : (certificate : Certificate) → Covers certificate certificate
covers_self certificate place entry e = record { wider = entry; is = e; into = into_self entry }

pub covers_trans : (a b c : Certificate) → Covers a b → Covers b c → Covers a c
covers_trans a b c p q place entry e =
    let l = p place entry e in leads_on c place entry l.wider l.into (q place l.wider l.is)

pub leads_wider : (a b : Certificate) (to : ℕ) (entry : Entry) → Covers a b → Leads a to entry → Leads b to entry
leads_wider a b to entry c l = leads_on b to entry l.wider l.into (c to l.wider l.is)

-- ---- an entry that takes in a way

-- the certificate reaches the place with what is known on the way there, if any value goes there and there is a word
abbrev pub LeadsIf : Certificate → ℕ → Option Entry → Type 0
LeadsIf certificate to None = ⊤
LeadsIf certificate to (Some way) = to < length certificate → Leads certificate to way

-- the entry at a place takes in what is known on a way there, and no more; entries elsewhere stay
pub record Takes (old : Certificate) (to : ℕ) (way : Option Entry) (new : Certificate) : Type 0 where
  pub long : length new ≡ length old
  pub kept : Covers old new
  pub leads : LeadsIf new to way
  pub elsewhere : (place : ℕ) → (place ≡ to → ⊥) → slice_get new place ≡ slice_get old place
  pub least : (other : Certificate) → length other ≡ length old → Covers old other → LeadsIf other to way
      → Covers new other

-- no value goes that way, or there is no word at the place
pub takes_none : (certificate : Certificate) (to : ℕ) → Takes certificate to None certificate
takes_none certificate to = record {
  long = refl;
  kept = covers_self certificate;
  leads = tt;
  elsewhere = λ place n. refl;
  least = λ other long covers leads. covers;
}

pub takes_out : (certificate : Certificate) (to : ℕ) (way : Option Entry) → length certificate ≤ to
    → Takes certificate to way certificate
takes_out certificate to None out = takes_none certificate to
takes_out certificate to (Some way) out = record {
  long = refl;
  kept = covers_self certificate;
  leads = λ lt. absurd (omega (arith, lt, out));
  elsewhere = λ place n. refl;
  least = λ other long covers leads. covers;
}

-- what stands at the place that was written
written_is : (certificate : Certificate) (to place : ℕ) (entry known : Entry) → place ≡ to
    → slice_get (slice_set certificate to (Some entry)) place ≡ Some (Some known) → entry ≡ known
written_is certificate to place entry known q e =
    let new = slice_set certificate to (Some entry) in
    let f = same_set certificate to (Some entry) (Some known)
    (subst (λ (p : ℕ). slice_get new p ≡ Some (Some known)) q e) in
    cc

-- the entry holds the way and what stood there, and nothing that holds both says more
pub takes_in : (certificate : Certificate) (to : ℕ) (way entry : Entry) → to < length certificate → IsInto way entry
    → ((old : Entry) → slice_get certificate to ≡ Some (Some old) → IsInto old entry)
    → ((wider : Entry) → IsInto way wider
    → ((old : Entry) → slice_get certificate to ≡ Some (Some old) → IsInto old wider) → IsInto entry wider)
    → Takes certificate to (Some way) (slice_set certificate to (Some entry))
takes_in certificate to way entry lt into kept least =
    let new = slice_set certificate to (Some entry) in
    let there = set_there certificate to (Some entry) lt in
    record {
      long = length-set certificate to (Some entry);
      kept = λ place old e.
          elim (cases_eq place to) [
            | inl q ↦ record {
              wider = entry;
              is = subst (λ (p : ℕ). slice_get new p ≡ Some (Some entry)) (sym q) there;
              into = kept old (subst (λ (p : ℕ). slice_get certificate p ≡ Some (Some old)) q e);
            }
            | inr n ↦ record {
              wider = old;
              is = other_set certificate to place (Some entry) n ∙ e;
              into = into_self old;
            }
          ];
      leads = λ _. record { wider = entry; is = there; into = into };
      elsewhere = λ place n. other_set certificate to place (Some entry) n;
      least = λ other long covers leads place known e.
          elim (cases_eq place to) [
            | inl q ↦
                let l = leads (omega (arith, lt, long)) in
                let all : (old : Entry) → slice_get certificate to ≡ Some (Some old) → IsInto old l.wider = (λ old f.
                let m = covers to old f in
                let same : m.wider ≡ l.wider = let x = m.is in let y = l.is in cc in
                subst (IsInto old) same m.into) in
                let here : Leads other to entry =
                record { wider = l.wider; is = l.is; into = least l.wider l.into all } in
                subst (Leads other place) (written_is certificate to place entry known q e)
                (subst (λ (p : ℕ). Leads other p entry) (sym q) here)
            | inr n ↦ covers place known (sym (other_set certificate to place (Some entry) n) ∙ e)
          ];
    }

-- the first way that leads to a place
pub takes_first : (certificate : Certificate) (to : ℕ) (way : Entry) → slice_get certificate to ≡ Some None
    → Takes certificate to (Some way) (slice_set certificate to (Some way))
takes_first certificate to way e =
    takes_in certificate to way way (slice_get_within certificate to None e) (into_self way)
    (λ old f. absurd (cc)) (λ wider i all. i)

-- a way that meets those before
pub takes_meeting : (certificate : Certificate) (to : ℕ) (way before meeting : Entry)
    → slice_get certificate to ≡ Some (Some before) → IsMeeting before way meeting
    → Takes certificate to (Some way) (slice_set certificate to (Some meeting))
takes_meeting certificate to way before meeting e m =
    takes_in certificate to way meeting (slice_get_within certificate to (Some before) e) m.from_other
    (λ old f. let q : before ≡ old = cc in subst (λ (x : Entry). IsInto x meeting) q m.from_one)
    (λ wider i all. m.least wider (all before e) i)

-- ---- starts

-- the entries of starts have no current result and no mark
abbrev pub AreStarts : Listing → Certificate → Type 0
AreStarts code certificate =
    (place : ℕ) (entry : Entry) → IsTrue (is_start code place) → slice_get certificate place ≡ Some (Some entry)
    → HasNoResult entry

starts_there : (code : Listing) (old new : Certificate) (to : ℕ) (way : Option Entry) → Takes old to way new
    → AreStarts code old → ((entry : Entry) → way ≡ Some entry → IsTrue (is_start code to) → HasNoResult entry)
    → (entry : Entry) → IsTrue (is_start code to) → slice_get new to ≡ Some (Some entry) → HasNoResult entry
starts_there code old new to None takes h w entry t e =
    let back = takes.least old refl (covers_self old) tt to entry e in
    let again = takes.kept to back.wider back.is in
    let same : again.wider ≡ entry = let x = again.is in cc in
    subst HasNoResult same (none_wider back.wider again.wider again.into (h to back.wider t back.is))
starts_there code old new to (Some way) takes h w entry t e =
    let l = takes.leads (slice_get_within new to (Some entry) e) in
    let same : l.wider ≡ entry = let x = l.is in cc in
    subst HasNoResult same (none_wider way l.wider l.into (w way refl t))

pub starts_kept : (code : Listing) (old new : Certificate) (to : ℕ) (way : Option Entry) → Takes old to way new
    → AreStarts code old → ((entry : Entry) → way ≡ Some entry → IsTrue (is_start code to) → HasNoResult entry)
    → AreStarts code new
starts_kept code old new to way takes h w place entry t e =
    elim (cases_eq place to) [
      | inl q ↦ starts_there code old new to way takes h w entry (subst (λ (p : ℕ). IsTrue (is_start code p)) q t)
          (subst (λ (p : ℕ). slice_get new p ≡ Some (Some entry)) q e)
      | inr n ↦ h place entry t (sym (takes.elsewhere place n) ∙ e)
    ]
