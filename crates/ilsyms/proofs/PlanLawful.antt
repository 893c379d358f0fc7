-- The plan of a source program that has no fault is lawful: its global variables are located where they may be, and its
-- tasks name what is there.
use Rattle.std.proofs.Common.{◌≡◌, ℕ, zero, suc, List, [], ◌∷◌, map, refl, sym, ap, ◌∙◌, subst, inl, inr, arith}
use Rattle.std.proofs.Common.{◌⊎◌, ◌≤◌, length}
use Rattle.std.proofs.Math.ListN.{length-map}
use Rattle.std.proofs.lemmas.Option.{slice_get-map}
use Rattle.std.specs.Prelude.{Option, Some, None, IfSome, IsSomeAnd, All, bytes_eq, slice_get, option_and_then}
use Rattle.std.specs.Prelude.{option_map, unwrap_or}
use Rattle.std.specs.List.{AllByRecursion}
use Rattle.std.specs.Option.{option_map_or}
use Rattle.limits.specs.Limits.{most_bytes}
use Rattle.wordlines.specs.Wirings.{Wiring, IsWithinLimits}
use Rattle.iltypes.specs.Values.{AreOf}
use Rattle.iltokens.specs.declared.lexed.AddressKind.{AddressKind}
use Rattle.iltokens.specs.declared.lexed.AddressKind.TheVariants.{OutputByte, InputWord, InputBit}
use Rattle.ilsource.specs.Configurations.{Configured}
use Rattle.ilsource.specs.Names.{folded}
use Rattle.ilsource.specs.SourceTrees.{Tree}
use Rattle.ilsource.specs.declared.address.DirectAddress.{DirectAddress}
use Rattle.ilsource.specs.declared.configuration.TaskDeclaration.{TaskDeclaration}
use Rattle.ilsource.specs.declared.name.Name.{Name}
use Rattle.ildeclared.specs.Faults.{IsOtherArea}
use Rattle.ildeclared.specs.declared.fault.NameCause.TheVariants.{Unknown, BadAddress}
use Rattle.ildeclared.specs.declared.global.DeclaredGlobal.{DeclaredGlobal}
use Rattle.ilscope.specs.Configured.{global_named, global_number, globals_of, task_declarations}
use Rattle.ilscope.specs.Declarations.{declared_functions}
use Rattle.ilscope.specs.Faults.{IsNoTriggerOf, IsTrigger, IsUnknownName, IsUnknownTriggerOf}
use Rattle.ilscope.proofs.Sound.{IsSoundAt, IsSoundGlobal}
use Rattle.ilscope.proofs.Typed.{declared_typed_globals, IsTypedGlobal}
use Rattle.ilblocks.proofs.Stores.{at_first_are}
use Rattle.ilplan.specs.declared.activation.Activation.TheVariants.{Cyclic, Event}
use Rattle.ilplan.specs.Plans.{AreFunctions, HasTrigger, IsLawful, IsTaskOf, IsTrigger as IsPlannedTrigger}
use Rattle.ilplan.specs.Plans.{HasStates, KeepsLimits, kinds_of}
use Rattle.ilscope.proofs.Lists.{at_some}
use Rattle.ilsyms.specs.Faults.{IsWellNamed}
use Rattle.ilsyms.specs.Resolved.{location, plan_of_tree, planned_function, planned_functions, planned_global}
use Rattle.ilsyms.specs.Resolved.{planned_task}
use Rattle.ilsyms.specs.Tasks.{SourceTask, activation_of, tasks_of}
use Rattle.ilsyms.proofs.Lists.{first_there}
use Rattle.ilsyms.proofs.PlanFunctions.{few_functions, shallow_calls}
use Rattle.ilsyms.proofs.PlanLimits.{few_tasks}
use Rattle.ilsyms.proofs.GlobalLocations.{all_apart, all_located, all_sound, truth}
use Rattle.ilsyms.proofs.SlotOrder.{all_declared}
use Rattle.ilsyms.proofs.TaskCases.{IsDeclaredTask, IsMainTask, task_is}

-- ---- what starts a task

-- an address of a trigger, since it is no other
is_bit : (kind : AddressKind) → ¬ (¬ (kind ≡ InputBit)) → kind ≡ InputBit
is_bit OutputByte h = absurd (h (λ e. absurd cc))
is_bit InputWord h = absurd (h (λ e. absurd cc))
is_bit InputBit h = refl

trigger_located : (wiring : Wiring) (g : DeclaredGlobal) → IsSoundGlobal wiring g → ¬ (¬ IsTrigger g)
    → IsPlannedTrigger (planned_global g)
trigger_located wiring g sound is = by g.address is sound.1
  where
    by : (o : Option DirectAddress) → ¬ (¬ IsSomeAnd o (λ a. a.kind ≡ InputBit))
        → IfSome o (IsSoundAt wiring g.value_type)
        → IsPlannedTrigger (planned_global (record g { address = o }))
    by None h s = absurd (h (λ x. x))
    by (Some a) h s =
        let kind = is_bit a.kind h in
        record {
          bus = a.bus;
          source = a.place;
          located = ap (λ k. Some (location k a.bus a.place)) kind;
          truth = truth g.value_type (subst (λ k. ¬ IsOtherArea k g.value_type) kind s.2);
        }

module _ (tree : Tree) (wiring : Wiring) (named : IsWellNamed tree wiring) where
  -- an element of the global variables has what all have
  sound_at : (n : ℕ) (g : DeclaredGlobal) → slice_get (globals_of tree) n ≡ Some g → IsSoundGlobal wiring g
  sound_at n g e = at (globals_of tree) n g (all_sound tree wiring named) e
    where
      at : (gs : List DeclaredGlobal) (n : ℕ) (g : DeclaredGlobal) → All (IsSoundGlobal wiring) gs
          → slice_get gs n ≡ Some g → IsSoundGlobal wiring g
      at [] n g all e = absurd cc
      at (x ∷ gs) zero g all e =
          let same : x ≡ g = cc in subst (IsSoundGlobal wiring) same (all 0 x (omega arith))
      at (x ∷ gs) (suc n) g all e = at gs n g (λ k d below. all (suc k) d (omega arith)) e

  trigger_there : (d : TaskDeclaration) → ((place : ℕ) → ¬ IsUnknownTriggerOf (global_number tree) place d)
      → ((place : ℕ) → ¬ IsNoTriggerOf (global_named tree) place d)
      → HasTrigger (map planned_global (globals_of tree)) (activation_of tree d)
  trigger_there d known right = by d.single known right
    where
      numbered : (name : Name) (o : Option ℕ) → global_number tree name ≡ o
          → ((place : ℕ) → ¬ ((global_number tree name ≡ None) × (place ≡ name.from)))
          → ((place : ℕ) → ¬ (IsSomeAnd (global_named tree name) (λ g. ¬ IsTrigger g) × (place ≡ name.from)))
          → HasTrigger (map planned_global (globals_of tree)) (Event (unwrap_or o 0))
      numbered name None e known right = absurd (known name.from (e, refl))
      numbered name (Some n) e known right =
          let key = folded tree.text name in
          let there = first_there (λ g. bytes_eq key (folded tree.text g.name)) (globals_of tree) n e in
          let is : option_and_then (slice_get (globals_of tree)) (global_number tree name) ≡ Some there.0 =
          ap (option_and_then (slice_get (globals_of tree))) e ∙ there.1
          in
          let trigger : ¬ (¬ IsTrigger there.0) =
          λ k. right name.from
          (subst (λ (o : Option DeclaredGlobal). IsSomeAnd o (λ g. ¬ IsTrigger g)) (sym is) k, refl)
          in (
            planned_global there.0,
            slice_get-map planned_global (globals_of tree) n ∙ ap (option_map planned_global) there.1,
            trigger_located wiring there.0 (sound_at n there.0 there.1) trigger,
          )

      by : (single : Option Name) → ((place : ℕ) → ¬ IsSomeAnd single (IsUnknownName (global_number tree) place))
          → ((place : ℕ)
          → ¬ IsSomeAnd single
          (λ name. IsSomeAnd (global_named tree name) (λ g. ¬ IsTrigger g) × (place ≡ name.from)))
          → HasTrigger (map planned_global (globals_of tree))
          (option_map_or (λ trigger. Event (unwrap_or (global_number tree trigger) 0)) single
          (Cyclic (unwrap_or d.interval 0)))
      by None known right = tt
      by (Some name) known right = numbered name (global_number tree name) refl known right

  has_trigger : (number : ℕ) (t : SourceTask) → slice_get (tasks_of tree) number ≡ Some t
      → HasTrigger (map planned_global (globals_of tree)) t.activation
  has_trigger number t at = by (task_is tree number t at)
    where
      by : IsDeclaredTask tree number t ⊎ IsMainTask tree number t
          → HasTrigger (map planned_global (globals_of tree)) t.activation
      by (inl d) =
          let tasks : slice_get (task_declarations tree) number ≡ Some d.declared =
          ap (λ o. slice_get (option_map_or (λ (x : Configured). x.tasks) o []) number) d.configured ∙ d.there
          in
          subst (λ (s : SourceTask). HasTrigger (map planned_global (globals_of tree)) s.activation) (sym d.is)
          (trigger_there d.declared
          (λ place u. named place Unknown
          (inl (inr (inr (inl (at_some _ (task_declarations tree) number d.declared tasks u))))))
          (λ place u. named place BadAddress
          (inl (inr (at_some _ (task_declarations tree) number d.declared tasks u)))))
      by (inr m) =
          subst (λ (s : SourceTask). HasTrigger (map planned_global (globals_of tree)) s.activation) (sym m.is) tt

  -- ---- all tasks

  one_task : (number : ℕ) (t : SourceTask) → slice_get (tasks_of tree) number ≡ Some t
      → IsTaskOf (map planned_global (globals_of tree)) (planned_task tree t)
  one_task number t at = (has_trigger number t at, all_declared tree t.instances)

  each_task : (ts : List SourceTask)
      → ((n : ℕ) (t : SourceTask) → slice_get ts n ≡ Some t
      → IsTaskOf (map planned_global (globals_of tree)) (planned_task tree t))
      → AllByRecursion (IsTaskOf (map planned_global (globals_of tree))) (map (planned_task tree) ts)
  each_task [] h = tt
  each_task (t ∷ ts) h = (h 0 t refl, each_task ts (λ n s e. h (suc n) s e))

-- each block instance is as it is before its first call
states_at_first : (tree : Tree) (buses : ℕ) (ts : List SourceTask)
    → AllByRecursion (HasStates buses) (map (planned_task tree) ts)
states_at_first tree buses [] = tt
states_at_first tree buses (t ∷ ts) =
    (at_first_are buses (kinds_of (planned_task tree t)), states_at_first tree buses ts)

initials_typed : (gs : List DeclaredGlobal) → All IsTypedGlobal gs
    → AreOf (map (λ g. g.initial) (map planned_global gs)) (map (λ g. g.value_type) (map planned_global gs))
initials_typed [] h = tt
initials_typed (g ∷ gs) h = (h 0 g (omega arith), initials_typed gs (λ k d below. h (suc k) d (omega arith)))

-- the plan of a text without fault is lawful, where its tasks keep their limits and its functions are lawful
pub lawful : (tree : Tree) (wiring : Wiring) → length tree.text ≤ most_bytes → IsWithinLimits wiring
    → IsWellNamed tree wiring
    → AllByRecursion (KeepsLimits (planned_functions tree)) (map (planned_task tree) (tasks_of tree))
    → AreFunctions [] (planned_functions tree) → IsLawful (plan_of_tree tree wiring)
lawful tree wiring short limits named keep functions =
    record {
      text = short;
      wiring = limits;
      most_tasks = omega (arith, few_tasks tree wiring named, length-map (tasks_of tree) (planned_task tree));
      located = all_located tree wiring named;
      apart = all_apart tree wiring named;
      initials = initials_typed (globals_of tree) (declared_typed_globals tree);
      most_functions =
          let few = few_functions tree wiring named in
          omega (arith, few, length-map (declared_functions tree) (planned_function tree));
      functions = functions;
      depths = shallow_calls tree wiring named;
      limits = keep;
      tasks = each_task tree wiring named (tasks_of tree) (one_task tree wiring named);
      states = states_at_first tree wiring.buses (tasks_of tree);
    }
