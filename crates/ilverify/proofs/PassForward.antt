-- The certificate that says most, from word to word: over a word that is not reached, over one that has its rule, and
-- at one that is refused.
use Rattle.std.proofs.Common.{◌≡◌, ℕ, ◌+◌, ◌<◌, ◌≤◌, ◌⊎◌, inl, inr, length, Bool, true, false, Option, Some}
use Rattle.std.proofs.Common.{None, refl, sym, ap, ◌∙◌, subst, arith, cond}
use Rattle.std.specs.Prelude.{IsTrue, slice_get, nat_lt}
use Rattle.std.specs.Option.{option_map}
use Rattle.std.proofs.lemmas.Bool.{cases_eq, cases_lt}
use Rattle.std.proofs.lemmas.Bool.Decides.{nat_tests}
use Rattle.std.proofs.lemmas.Option.{slice_get_within}
use Rattle.ilcode.specs.declared.word.Word.{Word}
use Rattle.ilcode.specs.declared.word.Word.TheVariants as words
use Rattle.ilcode.specs.Listings.{Listing, IsLawful, start_of, end_of, body_at}
use Rattle.ilcode.specs.Steps.{is_start, is_target}
use Rattle.ilcode.proofs.Bodies.{target_ahead}
use Rattle.ilverify.specs.declared.cause.Cause.{Cause}
use Rattle.ilverify.specs.declared.cause.Cause.TheVariants as causes
use Rattle.ilverify.specs.declared.entry.Entry.{Entry}
use Rattle.ilverify.specs.Causes.{IsLeastCause}
use Rattle.ilverify.specs.Entries.{IsInto, opening, arriving}
use Rattle.ilverify.specs.Refusals.{IsClosedAt, HasToClose, StaysOpen, open_after, ArisesAtWord}
use Rattle.ilverify.specs.Rules.{Ways, IsWay, AreWaysOf, IsRule}
use Rattle.ilverify.specs.Order.{IsWayInto}
use Rattle.ilverify.proofs.WordParentheses.{IsMetOrClosed, rule_met}
use Rattle.ilverify.proofs.OrderRefusals.{keeps_refusals}
use Rattle.ilverify.proofs.OrderWays.{keeps_order}
use Rattle.ilverify.specs.Certificates.{Certificate, Leads, are_closed, is_closed, is_met, IsFine, IsConsistentBelow}
use Rattle.ilverify.specs.Certificates.{IsCertified, Covers, IsClosest, IsRangeRefusal}
use Rattle.ilverify.specs.PassSteps.{target_of, coming}
use Rattle.ilverify.proofs.BodyEnds.{end_within, place_within, end_closed}
use Rattle.ilverify.proofs.PassGrowth.{below, leads_on, leads_wider, covers_trans, LeadsIf, Takes, AreStarts}
use Rattle.ilverify.proofs.PassGrowth.{starts_kept}
use Rattle.ilverify.proofs.PassEntries.{HasNoResult, into_trans, into_forgotten, forgotten_into, forgotten_none}
use Rattle.ilverify.proofs.PassEntries.{closed_wider, closed_is}

-- ---- where a word leads

way_is : (word : Word) (place : ℕ) (ways : Ways) (to : ℕ) (after : Entry) → IsWay word place ways to after
    → (to ≡ target_of place word) × (ways.target ≡ Some after) ⊎ (to ≡ place + 1) × (ways.next ≡ Some after)
way_is (words.Jump condition target) place ways to after h = h
way_is word place ways to after h = inr h

next_way : (word : Word) (place : ℕ) (ways : Ways) (after : Entry) → ways.next ≡ Some after
    → IsWay word place ways (place + 1) after
next_way (words.Jump condition target) place ways after e = inr (refl, e)
next_way word place ways after e = (refl, e)

target_way : (code : Listing) (entry : Entry) (word : Word) (place : ℕ) (ways : Ways) (after : Entry)
    → AreWaysOf code place entry word ways → ways.target ≡ Some after
    → IsWay word place ways (target_of place word) after
target_way code entry (words.Jump condition target) place ways after h e = inl (refl, e)
target_way code entry word place ways after h e = let n = h.target in let k : ⊥ = cc in absurd k

true_of : (b : Bool) → ¬ ¬ IsTrue b → IsTrue b
true_of true h = refl
true_of false h = absurd (h (λ k. let z : ⊥ = cc in z))

-- a jump that has a rule leads forward
pub target_forward : (code : Listing) (place : ℕ) (met : Bool) (entry : Entry) (word : Word) (ways : Ways)
    → IsRule code place met entry word ways → place < target_of place word
target_forward code place met entry (words.Jump condition target) ways rule =
    target_ahead code place target (true_of (is_target code place target) (rule.lawful causes.BadJump))
target_forward code place met entry word ways rule = omega arith

-- ---- a word that is not reached

pub skipped : (code : Listing) (a : Certificate) (n : ℕ) → IsClosest code a n
    → ((entry : Entry) → ¬ (slice_get a n ≡ Some (Some entry))) → IsClosest code a (n + 1)
skipped code a n h none = record {
  consistent = record {
    long = h.consistent.long;
    begins = h.consistent.begins;
    starts = h.consistent.starts;
    each = λ place entry word lt ws es.
        elim (cases_eq place n) [
          | inl q ↦ absurd (none entry (subst (λ (p : ℕ). slice_get a p ≡ Some (Some entry)) q es))
          | inr d ↦ h.consistent.each place entry word (omega arith) ws es
        ];
  };
  covers = λ other o. h.covers other (below code other n (n + 1) (omega arith) o);
}

-- ---- a word that has its rule

-- where a way comes to a place of the body, and where to the body's end
pub coming_in : (code : Listing) (end to : ℕ) (way : Option Entry) → to < end
    → coming code end to way ≡ option_map (arriving code to) way
coming_in code end to way lt =
    let test : nat_lt to end ≡ true = grind (arith, nat_tests) in
    ap (λ (b : Bool). cond b (option_map (arriving code to) way) None) test

pub coming_out : (code : Listing) (end to : ℕ) (way : Option Entry) → end ≤ to → coming code end to way ≡ None
coming_out code end to way ge =
    let test : nat_lt to end ≡ false = grind (arith, nat_tests) in
    ap (λ (b : Bool). cond b (option_map (arriving code to) way) None) test

arriving_none : (code : Listing) (to : ℕ) (way : Option Entry) (entry : Entry)
    → option_map (arriving code to) way ≡ Some entry → IsTrue (is_start code to) → HasNoResult entry
arriving_none code to None entry e t = let k : ⊥ = cc in absurd k
arriving_none code to (Some x) entry e t =
    let q : arriving code to x ≡ entry = cc in subst HasNoResult q (forgotten_none (is_start code to) x t)

coming_none : (code : Listing) (end to : ℕ) (way : Option Entry) (entry : Entry)
    → coming code end to way ≡ Some entry → IsTrue (is_start code to) → HasNoResult entry
coming_none code end to way entry e t =
    elim (cases_lt to end) [
      | inl lt ↦ arriving_none code to way entry (sym (coming_in code end to way lt) ∙ e) t
      | inr ge ↦ let gone = coming_out code end to way (omega (arith, ge)) in let k : ⊥ = cc in absurd k
    ]

-- the certificate holds what is known on a way that has arrived
leads_arriving : (code : Listing) (certificate : Certificate) (to : ℕ) (way : Option Entry) (after : Entry)
    → way ≡ Some after → LeadsIf certificate to (option_map (arriving code to) way) → to < length certificate
    → Leads certificate to after
leads_arriving code certificate to None after e l lt = let k : ⊥ = cc in absurd k
leads_arriving code certificate to (Some x) after e l lt =
    let q : x ≡ after = cc in
    subst (Leads certificate to) q
    (leads_on certificate to x (arriving code to x) (into_forgotten (is_start code to) x) (l lt))

leads_way : (code : Listing) (certificate : Certificate) (end to : ℕ) (way : Option Entry) (after : Entry)
    → way ≡ Some after → LeadsIf certificate to (coming code end to way) → to < end → to < length certificate
    → Leads certificate to after
leads_way code certificate end to way after e l within lt =
    leads_arriving code certificate to way after e
    (subst (LeadsIf certificate to) (coming_in code end to way within) l) lt

leads_grow : (a b : Certificate) (to : ℕ) (way : Option Entry) → length b ≡ length a → Covers a b → LeadsIf a to way
    → LeadsIf b to way
leads_grow a b to None e c l = tt
leads_grow a b to (Some way) e c l = λ lt. leads_wider a b to way c (l (omega (arith, lt, e)))

-- a word below stays fine
fine_grow : (code : Listing) (a c : Certificate) (place : ℕ) (entry : Entry) (word : Word)
    → slice_get c (place + 1) ≡ slice_get a (place + 1) → Covers a c → IsFine code a place entry word
    → IsFine code c place entry word
fine_grow code a c place entry word e cov f = record {
  ways = f.ways;
  rule = subst (λ (m : Bool). IsRule code place m entry word f.ways) (sym (ap is_closed e)) f.rule;
  leads = λ to after way lt. leads_wider a c to after cov (f.leads to after way lt);
}

-- an entry with nothing open
record IsClosedEntry (x : Option (Option Entry)) : Type 0 where
  entry : Entry
  is : x ≡ Some (Some entry)
  closed : IsTrue (are_closed entry.nesting)

closed_entry : (x : Option (Option Entry)) → IsTrue (is_closed x) → IsClosedEntry x
closed_entry None h = let k : ⊥ = cc in absurd k
closed_entry (Some None) h = let k : ⊥ = cc in absurd k
closed_entry (Some (Some entry)) h = record { entry = entry; is = refl; closed = h }

-- where a word leads to an entry with nothing open, it leaves nothing open
met_or_closed : (code : Listing) (c : Certificate) (end n : ℕ) (met : Bool) (ways : Ways) → n + 1 < end
    → LeadsIf c (n + 1) (coming code end (n + 1) ways.next) → IsMetOrClosed met (is_met c (n + 1)) ways
met_or_closed code c end n met ways within l after e j =
    let there = closed_entry (slice_get c (n + 1)) j in
    let lt = slice_get_within c (n + 1) (Some there.entry) there.is in
    let here = leads_way code c end (n + 1) ways.next after e l within lt in
    let same : here.wider ≡ there.entry = let x = here.is in let y = there.is in cc in
    let closed : are_closed after.nesting ≡ are_closed there.entry.nesting =
    closed_wider after there.entry (subst (IsInto after) same here.into) in
    inr (closed_is after.nesting (subst IsTrue (sym closed) there.closed))

-- at the end of a body nothing may be open, whatever leads there
closes_there : (code : Listing) (n : ℕ) (met : Bool) (word : Word) → IsClosedAt code (n + 1) met
    → HasToClose code n met word
closes_there code n met (words.Jump condition target) h = tt
closes_there code n met word h = h

open_anyway : (code : Listing) (n count : ℕ) (met other : Bool) (word : Word) → IsClosedAt code (n + 1) met
    → StaysOpen code n other word count → StaysOpen code n met word count
open_anyway code n count met other word h (inl s) = inl (s.0, closes_there code n met word h)
open_anyway code n count met other word h (inr s) = inr s

rule_closed : (code : Listing) (n : ℕ) (met other : Bool) (entry : Entry) (word : Word) (ways : Ways)
    → IsClosedAt code (n + 1) met → IsRule code n met entry word ways → IsRule code n other entry word ways
rule_closed code n met other entry word ways h r = record { lawful = λ cause a. lawful cause a; leaves = r.leaves }
  where
    lawful : (cause : Cause) → ¬ ArisesAtWord code n other entry word cause
    lawful causes.OpenNesting a =
        r.lawful causes.OpenNesting (open_anyway code n (open_after word (length entry.nesting)) met other word h a)
    lawful cause a = r.lawful cause a

-- the rule that the word has holds by the certificate that has taken in the word's ways
rule_here : (code : Listing) (c : Certificate) (n : ℕ) (met : Bool) (entry : Entry) (word : Word) (ways : Ways)
    → IsLawful code → n < length code.instructions → IsRule code n met entry word ways
    → LeadsIf c (n + 1) (coming code (end_of code (body_at code n)) (n + 1) ways.next)
    → IsRule code n (is_met c (n + 1)) entry word ways
rule_here code c n met entry word ways lawful lt rule next =
    let end = end_of code (body_at code n) in
    elim (cases_lt (n + 1) end) [
      | inl within ↦
          rule_met code n met (is_met c (n + 1)) entry word ways
          (met_or_closed code c end n met ways within next) rule
      | inr ge ↦
          let inside = place_within code n lt in
          let last : n + 1 ≡ end = omega (arith, inside, ge) in
          rule_closed code n met (is_met c (n + 1)) entry word ways
          (end_closed code (body_at code n) (n + 1) met last) rule
    ]

-- what the word leaves at its place is fine
fine_here : (code : Listing) (c : Certificate) (n : ℕ) (met : Bool) (entry : Entry) (word : Word) (ways : Ways)
    → IsLawful code → n < length code.instructions → length c ≡ length code.instructions
    → IsRule code n met entry word ways
    → LeadsIf c (target_of n word) (coming code (end_of code (body_at code n)) (target_of n word) ways.target)
    → LeadsIf c (n + 1) (coming code (end_of code (body_at code n)) (n + 1) ways.next)
    → IsFine code c n entry word
fine_here code c n met entry word ways lawful inside long rule target next =
    let end = end_of code (body_at code n) in
    record {
      ways = ways;
      rule = rule_here code c n met entry word ways lawful inside rule next;
      leads = λ to after way lt.
          let within : to < length c = let e = end_within code (body_at code n) lawful in omega (arith, lt, long, e) in
          elim (way_is word n ways to after way) [
            | inl t ↦
                subst (λ (p : ℕ). Leads c p after) (sym t.0)
                (leads_way code c end (target_of n word) ways.target after t.1 target
                (subst (λ (p : ℕ). p < end) t.0 lt) (subst (λ (p : ℕ). p < length c) t.0 within))
            | inr t ↦
                subst (λ (p : ℕ). Leads c p after) (sym t.0)
                (leads_way code c end (n + 1) ways.next after t.1 next
                (subst (λ (p : ℕ). p < end) t.0 lt) (subst (λ (p : ℕ). p < length c) t.0 within))
          ];
    }

-- the word, whatever the names of word and entry
fine_at : (code : Listing) (certificate : Certificate) (n place : ℕ) (entry known : Entry)
    (word instruction : Word) → place ≡ n → slice_get code.instructions n ≡ Some word
    → slice_get code.instructions place ≡ Some instruction → entry ≡ known
    → IsFine code certificate n entry word → IsFine code certificate place known instruction
fine_at code certificate n place entry known word instruction q w ws b fine =
    let ws' = subst (λ (p : ℕ). slice_get code.instructions p ≡ Some instruction) q ws in
    let a : word ≡ instruction = cc in
    subst (λ (p : ℕ). IsFine code certificate p known instruction) (sym q)
    (subst (λ (y : Entry). IsFine code certificate n y instruction) b
    (subst (IsFine code certificate n entry) a fine))

-- another certificate leads where its wider ways lead, so it holds what arrives there
arrives_there : (code : Listing) (other : Certificate) (to : ℕ) (way wider : Option Entry) → AreStarts code other
    → IsWayInto way wider → ((after : Entry) → wider ≡ Some after → to < length other → Leads other to after)
    → LeadsIf other to (option_map (arriving code to) way)
arrives_there code other to None wider starts w f = tt
arrives_there code other to (Some x) None starts w f = absurd w
arrives_there code other to (Some x) (Some y) starts w f = λ lt.
    let l = f y refl lt in
    record {
      wider = l.wider;
      is = l.is;
      into = forgotten_into (is_start code to) x l.wider (λ t. starts to l.wider t l.is)
          (into_trans x y l.wider w l.into);
    }

comes_there : (code : Listing) (other : Certificate) (end to : ℕ) (way wider : Option Entry) → AreStarts code other
    → IsWayInto way wider → ((after : Entry) → wider ≡ Some after → to < end → Leads other to after)
    → LeadsIf other to (coming code end to way)
comes_there code other end to way wider starts w f =
    elim (cases_lt to end) [
      | inl lt ↦
          subst (LeadsIf other to) (sym (coming_in code end to way lt))
          (arrives_there code other to way wider starts w (λ after e inside. f after e lt))
      | inr ge ↦ subst (LeadsIf other to) (sym (coming_out code end to way (omega (arith, ge)))) tt
    ]

-- the entries up to the word stay
same_below : (a b c : Certificate) (n target : ℕ) (way next : Option Entry) → n < target → Takes a target way b
    → Takes b (n + 1) next c → (place : ℕ) → place ≤ n → slice_get c place ≡ slice_get a place
same_below a b c n target way next ahead t u place le =
    u.elsewhere place (λ q. omega (arith, q, le)) ∙ t.elsewhere place (λ q. omega (arith, ahead, q, le))

passed_consistent : (code : Listing) (a b c : Certificate) (n : ℕ) (entry : Entry) (word : Word) (ways : Ways)
    → IsLawful code → IsConsistentBelow code a n → slice_get code.instructions n ≡ Some word
    → slice_get a n ≡ Some (Some entry) → IsRule code n (is_met a (n + 1)) entry word ways
    → Takes a (target_of n word) (coming code (end_of code (body_at code n)) (target_of n word) ways.target) b
    → Takes b (n + 1) (coming code (end_of code (body_at code n)) (n + 1) ways.next) c
    → IsConsistentBelow code c (n + 1)
passed_consistent code a b c n entry word ways lawful k w e rule t u =
    let long : length c ≡ length a = u.long ∙ t.long in
    let covers : Covers a c = covers_trans a b c t.kept u.kept in
    let ahead = target_forward code n (is_met a (n + 1)) entry word ways rule in
    let same = same_below a b c n (target_of n word) _ _ ahead t u in
    let end = end_of code (body_at code n) in
    let target = coming code end (target_of n word) ways.target in
    let next = coming code end (n + 1) ways.next in
    let inside = slice_get_within code.instructions n word w in
    let here : IsFine code c n entry word = fine_here code c n (is_met a (n + 1)) entry word ways lawful inside
    (long ∙ k.long) rule (leads_grow b c (target_of n word) target u.long u.kept t.leads) u.leads in
    record {
      long = long ∙ k.long;
      begins = λ body lt. leads_wider a c (start_of code body) (opening code) covers (k.begins body lt);
      starts = starts_kept code b c (n + 1) next u
          (starts_kept code a b (target_of n word) target t k.starts
          (coming_none code end (target_of n word) ways.target)) (coming_none code end (n + 1) ways.next);
      each = λ place known instruction lt ws es.
          let old = sym (same place (omega arith)) ∙ es in
          elim (cases_eq place n) [
            | inl q ↦
                let es' = subst (λ (p : ℕ). slice_get a p ≡ Some (Some known)) q old in
                let x : entry ≡ known = cc in
                fine_at code c n place entry known word instruction q w ws x here
            | inr d ↦
                fine_grow code a c place known instruction (same (place + 1) (omega arith)) covers
                (k.each place known instruction (omega arith) ws old)
          ];
    }

-- each certificate that is consistent at the word too holds what its ways bring
passed_covers : (code : Listing) (a b c other : Certificate) (n : ℕ) (entry : Entry) (word : Word) (ways : Ways)
    → IsClosest code a n → slice_get code.instructions n ≡ Some word → slice_get a n ≡ Some (Some entry)
    → IsRule code n (is_met a (n + 1)) entry word ways
    → Takes a (target_of n word) (coming code (end_of code (body_at code n)) (target_of n word) ways.target) b
    → Takes b (n + 1) (coming code (end_of code (body_at code n)) (n + 1) ways.next) c
    → IsConsistentBelow code other (n + 1) → Covers c other
passed_covers code a b c other n entry word ways h w e rule t u o =
    let covers = h.covers other (below code other n (n + 1) (omega arith) o) in
    let at = covers n entry e in
    let fine = o.each n at.wider word (omega arith) w at.is in
    let m = keeps_order word code n entry at.wider ways fine.ways at.into rule.leaves fine.rule.leaves in
    let long_a : length other ≡ length a = o.long ∙ sym h.consistent.long in
    let long_b : length other ≡ length b = long_a ∙ sym t.long in
    let end = end_of code (body_at code n) in
    let target = comes_there code other end (target_of n word) ways.target fine.ways.target o.starts m.1
    (λ after way lt. fine.leads (target_of n word) after
    (target_way code at.wider word n fine.ways after fine.rule.leaves way) lt) in
    let next = comes_there code other end (n + 1) ways.next fine.ways.next o.starts m.0
    (λ after way lt. fine.leads (n + 1) after (next_way word n fine.ways after way) lt) in
    u.least other long_b (t.least other long_a covers target) next

-- the certificate takes in what the word's ways bring, to a jump's target first
pub passed : (code : Listing) (a b c : Certificate) (n : ℕ) (entry : Entry) (word : Word) (ways : Ways)
    → IsLawful code → IsClosest code a n → slice_get code.instructions n ≡ Some word
    → slice_get a n ≡ Some (Some entry) → IsRule code n (is_met a (n + 1)) entry word ways
    → Takes a (target_of n word) (coming code (end_of code (body_at code n)) (target_of n word) ways.target) b
    → Takes b (n + 1) (coming code (end_of code (body_at code n)) (n + 1) ways.next) c
    → IsClosest code c (n + 1)
passed code a b c n entry word ways lawful h w e rule t u = record {
  consistent = passed_consistent code a b c n entry word ways lawful h.consistent w e rule t u;
  covers = λ other o. passed_covers code a b c other n entry word ways h w e rule t u o;
}

-- ---- a word that is refused

met_by : (a other : Certificate) (place : ℕ) → Covers a other → (x : Option (Option Entry))
    → slice_get a place ≡ x → IsTrue (is_closed x) → IsTrue (is_met other place)
met_by a other place covers None e h = let k : ⊥ = cc in absurd k
met_by a other place covers (Some None) e h = let k : ⊥ = cc in absurd k
met_by a other place covers (Some (Some entry)) e h =
    let l = covers place entry e in
    subst (λ (x : Option (Option Entry)). IsTrue (is_closed x)) (sym l.is)
    (subst IsTrue (closed_wider entry l.wider l.into) h)

-- a place that is reached with nothing open is reached so by each certificate that holds this one
met_wider : (a other : Certificate) (place : ℕ) → Covers a other → IsTrue (is_met a place)
    → IsTrue (is_met other place)
met_wider a other place covers h = met_by a other place covers (slice_get a place) refl h

pub refused : (code : Listing) (a : Certificate) (n line : ℕ) (cause : Cause) (entry : Entry) (word : Word)
    → IsClosest code a n → slice_get code.instructions n ≡ Some word → slice_get a n ≡ Some (Some entry)
    → slice_get code.lines n ≡ Some line
    → IsLeastCause (ArisesAtWord code n (is_met a (n + 1)) entry word) cause
    → IsRangeRefusal code (record { word = n; line = line; cause = cause })
refused code a n line cause entry word h w e li least =
    let lt : n < length code.instructions = slice_get_within code.instructions n word w in
    let none : (other : Certificate) → IsConsistentBelow code other (n + 1) → ⊥ = (λ other o.
    let covers = h.covers other (below code other n (n + 1) (omega arith) o) in
    let at = covers n entry e in
    let fine = o.each n at.wider word (omega arith) w at.is in
    keeps_refusals word code n (is_met a (n + 1)) (is_met other (n + 1)) entry at.wider fine.ways cause at.into
    (met_wider a other (n + 1) covers) least.arises fine.rule) in
    record {
      certificate = a;
      closest = h;
      entry = entry;
      reached = e;
      word = word;
      is = w;
      cause = least;
      line = li;
      none_further = none;
      uncertified = λ k. none k.certificate
          (below code k.certificate (n + 1) (length code.instructions) (omega (arith, lt)) k.consistent);
    }

-- ---- the verdict

pub certified : (code : Listing) (a : Certificate) → IsClosest code a (length code.instructions) → IsCertified code
certified code a h = record { certificate = a; consistent = h.consistent }
