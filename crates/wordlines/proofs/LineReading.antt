-- Files that are read line by line, whatever their rules: the lines lead to one state at most, the first bad line is
-- one, and where the lines lead on there is none; and what reading one line more adds to what was read.
use Rattle.std.proofs.Common.{◌≡◌, ℕ, zero, suc, ◌+◌, List, [], ◌∷◌, ◌++◌, length, refl, ap, sym, subst, ◌∙◌, inl, inr}
use Rattle.std.proofs.Common.{arith, append_assoc, length-append}
use Rattle.std.specs.Str.Lines.{lines}
use Rattle.wordlines.specs.WordLines.{words, IsSkipped}
use Rattle.wordlines.specs.LineRules.{LineRules, Leads, AllLead, IsFirstBad}
use Rattle.wordlines.specs.LineFiles.{LeadTo, AreBadAt}

-- words say one entry at most
abbrev pub SayOne : {Entry State : Type 0} → LineRules Entry State → Type 0
SayOne {Entry} {State} rules = (said : List (List ℕ)) (e f : Entry) → rules.Says said e → rules.Says said f → e ≡ f

module _ {Entry State : Type 0} (rules : LineRules Entry State) where
  -- one more line
  lead-push : (state : State) (before : List (List ℕ)) (line : List ℕ) (here next : State)
      → AllLead rules state before here
      → Leads rules here line next → AllLead rules state (before ++ line ∷ []) next
  lead-push state [] line here next all leads = (next, subst (λ (s : State). Leads rules s line next) all leads, refl)
  lead-push state (first ∷ before) line here next all leads =
      (all.0, all.1, lead-push all.0 before line here next all.2 leads)

  -- the place of the first bad line, counted from 0
  abbrev BadFrom : State → List (List ℕ) → ℕ → Type 0
  BadFrom state [] k = ⊥
  BadFrom state (line ∷ more) zero = (next : State) → ¬ Leads rules state line next
  BadFrom state (line ∷ more) (suc k) = (next : State) × Leads rules state line next × BadFrom next more k

  bad_from : (state : State) (before : List (List ℕ)) (line : List ℕ) (after : List (List ℕ)) (here : State)
      → AllLead rules state before here
      → ((next : State) → ¬ Leads rules here line next) → BadFrom state (before ++ line ∷ after) (length before)
  bad_from state [] line after here all bad = subst (λ (s : State). (next : State) → ¬ Leads rules s line next) all bad
  bad_from state (first ∷ before) line after here all bad =
      (all.0, all.1, bad_from all.0 before line after here all.2 bad)

  first_bad_from : (start : State) (all : List (List ℕ)) (number : ℕ) → (f : IsFirstBad rules start all number)
      → BadFrom start all (length f.before)
  first_bad_from start all number f =
      subst (λ (ls : List (List ℕ)). BadFrom start ls (length f.before)) (sym f.is)
      (bad_from start f.before f.line f.after f.state f.good f.bad)

  module _ (one : SayOne rules) where
    -- a line leads to one state
    leads_one : (state : State) (line : List ℕ) (a b : State) → Leads rules state line a → Leads rules state line b
        → a ≡ b
    leads_one state line a b (inl s) (inl t) = s.1 ∙ sym t.1
    leads_one state line a b (inl s) (inr t) = absurd (t.1.read s.0)
    leads_one state line a b (inr s) (inl t) = absurd (s.1.read t.0)
    leads_one state line a b (inr s) (inr t) =
        s.2 ∙ (ap (λ (e : Entry). rules.after state e) (one (words line) s.0 t.0 s.1.says t.1.says) ∙ sym t.2)

    pub all_lead_one : (state : State) (all : List (List ℕ)) (a b : State) → AllLead rules state all a
        → AllLead rules state all b → a ≡ b
    all_lead_one state [] a b h k = h ∙ sym k
    all_lead_one state (line ∷ more) a b h k =
        let next = leads_one state line h.0 k.0 h.1 k.1 in
        all_lead_one k.0 more a b (subst (λ (s : State). AllLead rules s more a) next h.2) k.2

    bad_one : (state : State) (all : List (List ℕ)) (j k : ℕ) → BadFrom state all j → BadFrom state all k → j ≡ k
    bad_one state [] j k h m = absurd h
    bad_one state (line ∷ more) zero zero h m = refl
    bad_one state (line ∷ more) zero (suc k) h m = absurd (h m.0 m.1)
    bad_one state (line ∷ more) (suc j) zero h m = absurd (m h.0 h.1)
    bad_one state (line ∷ more) (suc j) (suc k) h m =
        let next = leads_one state line h.0 m.0 h.1 m.1 in
        ap suc (bad_one m.0 more j k (subst (λ (s : State). BadFrom s more j) next h.2) m.2)

    bad_not_led : (state : State) (all : List (List ℕ)) (k : ℕ) (last : State) → BadFrom state all k
        → ¬ AllLead rules state all last
    bad_not_led state [] k last h t = h
    bad_not_led state (line ∷ more) zero last h t = h t.0 t.1
    bad_not_led state (line ∷ more) (suc k) last h t =
        let next = leads_one state line h.0 t.0 h.1 t.1 in
        bad_not_led t.0 more k last (subst (λ (s : State). BadFrom s more k) next h.2) t.2

    -- the lines of a file lead to one state
    pub led_one : (start : State) (bytes : List ℕ) (a b : State) → LeadTo rules start bytes a
        → LeadTo rules start bytes b → a ≡ b
    led_one start bytes a b f g = all_lead_one start (lines bytes) a b f.lead g.lead

    -- the first bad line is one
    pub bad_line_one : (start : State) (bytes : List ℕ) (j k : ℕ) → AreBadAt rules start bytes j
        → AreBadAt rules start bytes k → j ≡ k
    bad_line_one start bytes j k f g =
        let places = bad_one start (lines bytes) (length f.bad.before) (length g.bad.before)
        (first_bad_from start (lines bytes) j f.bad) (first_bad_from start (lines bytes) k g.bad) in
        omega (arith, places, f.bad.counted, g.bad.counted)

    -- where the lines lead on, none is bad
    pub led_not_bad : (start : State) (bytes : List ℕ) (number : ℕ) (last : State) → AreBadAt rules start bytes number
        → ¬ LeadTo rules start bytes last
    led_not_bad start bytes number last f t =
        bad_not_led start (lines bytes) (length f.bad.before) last (first_bad_from start (lines bytes) number f.bad)
        t.lead

  -- the lines before those of the rest led to this state, and the next line has this number
  pub record IsRead (start : State) (bytes rest : List ℕ) (state : State) (number : ℕ) : Type 0 where
    pub before : List (List ℕ)
    pub is : lines bytes ≡ before ++ lines rest
    pub good : AllLead rules start before state
    pub counted : number ≡ length before + 1

  -- one line more, which leads on
  pub led_read : (start : State) (bytes rest after : List ℕ) (state next now : State) (number : ℕ) (line : List ℕ)
      → IsRead start bytes rest state number → lines rest ≡ line ∷ lines after → Leads rules state line next
      → now ≡ next → IsRead start bytes after now (number + 1)
  led_read start bytes rest after state next now number line r first leads so =
      record {
        before = r.before ++ line ∷ [];
        is = r.is ∙ (ap (λ (ls : List (List ℕ)). r.before ++ ls) first
            ∙ sym (append_assoc r.before (line ∷ []) (lines after)));
        good = lead-push start r.before line state now r.good
            (subst (λ (s : State). Leads rules state line s) (sym so) leads);
        counted = omega (arith, length-append r.before (line ∷ []), r.counted);
      }

  -- one that is skipped
  pub skipped_read : (start : State) (bytes rest after : List ℕ) (state next : State) (number : ℕ) (line : List ℕ)
      → IsRead start bytes rest state number → lines rest ≡ line ∷ lines after → IsSkipped line → next ≡ state
      → IsRead start bytes after next (number + 1)
  skipped_read start bytes rest after state next number line r first skipped same =
      led_read start bytes rest after state next next number line r first (inl (skipped, same)) refl
