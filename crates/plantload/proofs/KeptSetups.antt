-- A text that begins with kept values: its setup is its own, but for what the variables of its plan begin with.
use Rattle.std.proofs.Common.{◌≡◌, ℕ, List, Result, Ok, Err, sym, ap, ◌∙◌, subst}
use Rattle.wordlines.specs.Wirings.{Wiring}
use Rattle.iltypes.specs.declared.value.Value.{Value}
use Rattle.ilblocks.specs.Stores.{Lasting}
use Rattle.ilplan.specs.Plans.{Planned}
use Rattle.ilplan.specs.Beginnings.{plan_with}
use Rattle.ilcompile.specs.Loaded.{AreCodes, Loaded, loaded_of}
use Rattle.ilcompile.proofs.Beginnings.{codes_begun, codes_before}
use Rattle.livekeep.specs.KeptFiles.{KeptEntry}
use Rattle.livekeep.specs.KeptPlans.{begun_plan, global_firsts, left_out_of, task_firsts}
use Rattle.plantload.specs.KeptLoading.{AreLeftOut, IsKeptLoaded, IsKeptSetup}
use Rattle.plantload.specs.Loading.{AreMeant, IsPlanOfText, IsSetup}
use Rattle.plantload.specs.declared.fault.LoadFault.{LoadFault}
use Rattle.plantload.proofs.MeantCodes.{codes_meant}
use Rattle.plantload.proofs.OneAnswer.{no_fault, same_fault, same_plan, same_setup}

module _ (wiring : Wiring) (bytes : List ℕ) (kept : List KeptEntry) where
  pub are_left_out : (plan : Planned) (left : List KeptEntry) → IsPlanOfText wiring bytes plan
      → left ≡ left_out_of kept plan → AreLeftOut wiring bytes kept left
  are_left_out plan left own is other also =
      is ∙ ap (left_out_of kept) (same_plan wiring bytes plan other own also)

  -- of the setup of a text
  pub kept_setup : (own : Loaded) (globals : List Value) (begins : List Lasting) (setup : Loaded)
      → IsSetup wiring bytes own → globals ≡ global_firsts own.plan kept → begins ≡ task_firsts own.plan kept
      → setup ≡ loaded_of (plan_with own.plan globals begins) own.codes → IsKeptSetup wiring bytes kept setup
  kept_setup own globals begins setup is firsts in_tasks made =
      let begun : setup.plan ≡ begun_plan kept own.plan =
      ap (λ (s : Loaded). s.plan) made
      ∙ (ap (λ (vs : List Value). plan_with own.plan vs begins) firsts
      ∙ ap (λ (ls : List Lasting). plan_with own.plan (global_firsts own.plan kept) ls) in_tasks) in
      record {
        own = own.plan;
        plan = is.plan;
        begins = begun;
        codes = subst (λ (s : Loaded). AreCodes s.plan s.codes) (sym made)
            (codes_begun own.plan globals begins own.codes is.codes);
      }

  -- the setup of the text itself
  own_setup : (setup : Loaded) (is : IsKeptSetup wiring bytes kept setup)
      → IsSetup wiring bytes (loaded_of is.own setup.codes)
  own_setup setup is =
      record {
        plan = is.plan;
        codes = codes_before is.own (global_firsts is.own kept) (task_firsts is.own kept) setup.codes
            (subst (λ (p : Planned). AreCodes p setup.codes) is.begins is.codes);
      }

  pub kept_codes_meant : (setup : Loaded) (is : IsKeptSetup wiring bytes kept setup)
      → AreMeant is.plan.tree wiring.buses setup.codes
  unfolding own_setup
  kept_codes_meant setup is = codes_meant wiring bytes (loaded_of is.own setup.codes) (own_setup setup is)

  same_kept : (a b : Loaded) → IsKeptSetup wiring bytes kept a → IsKeptSetup wiring bytes kept b → a ≡ b
  same_kept a b h g =
      let own = same_setup wiring bytes (loaded_of h.own a.codes) (loaded_of g.own b.codes) (own_setup a h)
      (own_setup b g) in
      let plan : a.plan ≡ b.plan =
      h.begins ∙ (ap (λ (s : Loaded). begun_plan kept s.plan) own ∙ sym g.begins) in
      let codes : a.codes ≡ b.codes = ap (λ (s : Loaded). s.codes) own in
      λ i. record { plan = plan i; codes = codes i }

  pub one_kept_answer : (a b : Result Loaded LoadFault) → IsKeptLoaded wiring bytes kept a
      → IsKeptLoaded wiring bytes kept b → a ≡ b
  one_kept_answer (Ok a) (Ok b) h g = ap Ok (same_kept a b h g)
  one_kept_answer (Ok a) (Err b) h g = absurd (no_fault wiring bytes (loaded_of h.own a.codes) b (own_setup a h) g)
  one_kept_answer (Err a) (Ok b) h g = absurd (no_fault wiring bytes (loaded_of g.own b.codes) a (own_setup b g) h)
  one_kept_answer (Err a) (Err b) h g = ap Err (same_fault wiring bytes a b h g)
