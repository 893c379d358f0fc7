-- Before the first word: the entries where bodies begin are those of a certificate that says most.
use Rattle.std.proofs.Common.{◌≡◌, ℕ, ◌+◌, ◌<◌, ◌≤◌, inl, inr, length, Option, Some, None, refl, sym, ap, ◌∙◌, subst}
use Rattle.std.proofs.Common.{arith, length-set}
use Rattle.std.specs.Prelude.{slice_get, slice_set, replicate}
use Rattle.std.proofs.lemmas.Bool.{cases_eq, cases_lt}
use Rattle.std.proofs.lemmas.List.{length-replicate}
use Rattle.ilcode.specs.Listings.{Listing, IsLawful, start_of, end_of}
use Rattle.ilverify.specs.declared.entry.Entry.{Entry}
use Rattle.ilverify.specs.Entries.{IsInto, opening}
use Rattle.ilverify.specs.Certificates.{Certificate, Leads}
use Rattle.ilverify.specs.PassSteps.{CanMeetAt, IsMeetingAt, Meets, HaveBegun, AreTyped, IsFound}
use Rattle.ilverify.proofs.BodyEnds.{end_within, no_body}
use Rattle.ilverify.proofs.Lists.{get_replicate, set_there, other_set}
use Rattle.ilverify.proofs.PassEntries.{HasNoResult, into_self, same_entry}
use Rattle.ilverify.proofs.PassPending.{bounded_meet, cases_set, from_way, least_at}

-- no body has begun
pub none_begun : (code : Listing) → HaveBegun code 0 (replicate (length code.instructions) None)
none_begun code =
    let n = length code.instructions in
    record {
      long = length-replicate n None;
      leads = λ body lt within. absurd (omega (arith, lt));
      each = λ place entry e. let f = get_replicate n place None (Some entry) e in absurd (cc);
    }

-- what is known where a body begins meets what is known where another does
can_begin : (code : Listing) (at : Option (Option Entry))
    → ((old : Entry) → at ≡ Some (Some old) → old ≡ opening code) → CanMeetAt at (opening code)
can_begin code None h = tt
can_begin code (Some None) h = tt
can_begin code (Some (Some old)) h =
    bounded_meet code old (opening code) (subst (λ (x : Entry). IsInto x (opening code)) (sym (h old refl))
    (into_self (opening code))) (into_self (opening code))

pub begun_meets : (code : Listing) (bodies place : ℕ) (pending : Certificate) → HaveBegun code bodies pending
    → CanMeetAt (slice_get pending place) (opening code)
begun_meets code bodies place pending h =
    can_begin code (slice_get pending place) (λ old e. (h.each place old e).known)

-- the entry there is that which is known at first
begun_entry : (code : Listing) (at : Option (Option Entry)) (entry : Entry)
    → ((old : Entry) → at ≡ Some (Some old) → old ≡ opening code) → IsMeetingAt at (opening code) entry
    → entry ≡ opening code
begun_entry code at entry h m =
    same_entry entry (opening code)
    (least_at at (opening code) entry (opening code) m (into_self (opening code))
    (λ old e. subst (λ (x : Entry). IsInto x (opening code)) (sym (h old e)) (into_self (opening code))))
    (from_way at (opening code) entry m)

-- one body more
pub begun_more : (code : Listing) (body : ℕ) (pending new : Certificate) → IsLawful code → HaveBegun code body pending
    → start_of code body < end_of code body → Meets pending (start_of code body) (opening code) new
    → HaveBegun code (body + 1) new
begun_more code body pending new lawful h lt m =
    let start = start_of code body in
    let known = begun_entry code (slice_get pending start) m.entry (λ old e. (h.each start old e).known) m.meeting in
    let is : new ≡ slice_set pending start (Some (opening code)) =
    m.is ∙ ap (λ (x : Entry). slice_set pending start (Some x)) known in
    let get : (place : ℕ) → slice_get new place ≡ slice_get (slice_set pending start (Some (opening code))) place =
    (λ place. ap (λ (l : Certificate). slice_get l place) is) in
    let inside = end_within code body lawful in
    let there : slice_get new start ≡ Some (Some (opening code)) =
    get start ∙ set_there pending start (Some (opening code)) (omega (arith, lt, inside, h.long)) in
    record {
      long = ap length is ∙ length-set pending start (Some (opening code)) ∙ h.long;
      leads = λ other less within.
          elim (cases_eq (start_of code other) start) [
            | inl q ↦ ap (slice_get new) q ∙ there
            | inr d ↦
                let before : other < body = elim (cases_eq other body) [
                  | inl q ↦ absurd (d (ap (start_of code) q))
                  | inr k ↦ omega (arith, less, k)
                ] in
                get (start_of code other) ∙ other_set pending start (start_of code other) (Some (opening code)) d
                ∙ h.leads other before within
          ];
      each = λ place entry e.
          elim (cases_set pending start place (Some (opening code)) (Some entry) (sym (get place) ∙ e)) [
            | inl q ↦ record {
              body = body;
              is = sym q.0;
              word = lt;
              known = let same = q.1 in let k : opening code ≡ entry = cc in sym k;
            }
            | inr d ↦ h.each place entry d.1
          ];
    }

-- a body without a word begins nothing
pub begun_same : (code : Listing) (body : ℕ) (pending : Certificate) → HaveBegun code body pending
    → end_of code body ≤ start_of code body → HaveBegun code (body + 1) pending
begun_same code body pending h ge = record {
  long = h.long;
  leads = λ other less within.
      elim (cases_eq other body) [
        | inl q ↦
            absurd (omega (arith, ge, subst (λ (b : ℕ). start_of code b < end_of code b) q within))
        | inr d ↦ h.leads other (omega (arith, less, d)) within
      ];
  each = h.each;
}

-- all bodies have begun
pub found_first : (code : Listing) (pending : Certificate) → HaveBegun code (length code.functions + 1) pending
    → IsFound code 0 pending
found_first code pending h =
    let known : (place : ℕ) (entry : Entry) → slice_get pending place ≡ Some (Some entry) → opening code ≡ entry =
    (λ place entry e. sym (h.each place entry e).known) in
    record {
      certificate = pending;
      closest = record {
        consistent = record {
          long = h.long;
          begins = λ body lt.
              elim (cases_lt body (length code.functions + 1)) [
                | inl less ↦ record {
                  wider = opening code;
                  is = h.leads body less lt;
                  into = into_self (opening code);
                }
                | inr ge ↦ absurd (no_body code body (omega (arith, ge)) lt)
              ];
          starts = λ place entry s e. subst HasNoResult (known place entry e) (refl, refl);
          each = λ place entry word lt ws es. absurd (omega (arith, lt));
        };
        covers = λ other o place entry e.
            let f = h.each place entry e in
            subst (λ (p : ℕ). Leads other p entry) f.is
            (subst (Leads other (start_of code f.body)) (known place entry e) (o.begins f.body f.word));
      };
      long = h.long;
      same = λ later le. refl;
      typed = λ entry e.
          subst (λ (x : Entry). AreTyped code x.slots) (known 0 entry e) (into_self (opening code)).slots;
      bounded = λ later entry lt e.
          subst (λ (x : Entry). IsInto x (opening code)) (known later entry e) (into_self (opening code));
    }
