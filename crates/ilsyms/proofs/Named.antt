-- What the lines of an instance of a well-named text name is in the tables of what has the instance.
use Rattle.std.proofs.Common.{◌≡◌, ℕ, zero, suc, ◌+◌, ◌<◌, List, [], ◌∷◌, ◌++◌, map, take, drop, length, Bool, true}
use Rattle.std.proofs.Common.{false, refl, sym, ap, ◌∙◌, subst, arith, inl, inr}
use Rattle.std.specs.Prelude.{Option, Some, None, IsSomeAnd, slice_get, option_map, option_and_then, unwrap_or}
use Rattle.std.specs.Prelude.{flat_map, filter_map, bytes_eq, ◌==◌}
use Rattle.std.specs.List.{AllByRecursion, enumerate_from, list_any}
use Rattle.std.specs.Option.{option_map_or}
use Rattle.std.proofs.lemmas.Bool.{eq-eqb, or_left, or_right}
use Rattle.std.proofs.lemmas.List.Folds.{list_any-append}
use Rattle.std.proofs.lemmas.Option.{slice_get-map}
use Rattle.ilblocks.specs.declared.kind.BlockKind.{BlockKind}
use Rattle.ilblocks.specs.Ports.{most_ports, port_named, ports_of}
use Rattle.ilsource.specs.Names.{SameName, folded, text_of}
use Rattle.ilsource.specs.SourceTrees.{Tree}
use Rattle.ilsource.specs.declared.name.Name.{Name}
use Rattle.ildeclared.specs.Faults.{SomeOf}
use Rattle.ildeclared.specs.declared.block.DeclaredBlock.{DeclaredBlock}
use Rattle.ildeclared.specs.declared.external.DeclaredExternal.{DeclaredExternal}
use Rattle.ildeclared.specs.declared.global.DeclaredGlobal.{DeclaredGlobal}
use Rattle.ildeclared.specs.declared.variable.DeclaredVariable.{DeclaredVariable}
use Rattle.ilscope.specs.Configured.{global_number, globals_of}
use Rattle.ilscope.specs.Declarations.{DeclaredProgram}
use Rattle.ilscope.specs.Faults.{IsUnknownName}
use Rattle.ilscope.specs.Tables.{first_at}
use Rattle.ilplan.specs.Plans.{HasPort, Nameable}
use Rattle.ilplan.specs.declared.instance.FunctionBlock.{FunctionBlock}
use Rattle.ilplan.specs.declared.slot.Slot.{Slot}
use Rattle.ilsyms.proofs.Lists.{first_below}
use Rattle.ilscope.specs.UseFaults.{IsNoBlock, IsNoVariable}
use Rattle.ilscope.specs.SameNames.{same_name}
use Rattle.ilscope.proofs.SameNames.{alike, same_as}
use Rattle.ilsyms.specs.Meaning.{block_in_store, is_block_under, is_global, is_own, place_in_store}
use Rattle.ilsyms.specs.Meaning.{port_of_block}
use Rattle.ilsyms.specs.PlanningSteps.{AreApart}
use Rattle.ilsyms.specs.Tasks.{NamedProgram}
use Rattle.ilsyms.specs.Variables.{blocks_in, blocks_of, function_block, global_slots, is_among, is_named}
use Rattle.ilsyms.specs.Variables.{named_slot, own_slot, own_slots, slots_in, slots_of}
use Rattle.ilsyms.proofs.LabelRenaming.{any_found}
use Rattle.ilsyms.proofs.Lists.{either}
use Rattle.ilsyms.proofs.NumberingInstances.{block_of, blocks_in as declared_blocks, other_blocks, own_block, own_is}
use Rattle.ilsyms.proofs.NumberingPlaces.{found_among}
use Rattle.ilsyms.proofs.NumberingPorts.{first_port}
use Rattle.ilsyms.proofs.PlanningInstances.{parted_at}
use Rattle.ilsyms.proofs.TaskNames.{others_around}

-- ---- lists

module _ {X : Type 0} (P : X → Type 0) where
  pub both : (xs ys : List X) → AllByRecursion P xs → AllByRecursion P ys → AllByRecursion P (xs ++ ys)
  both [] ys h k = k
  both (x ∷ xs) ys h k = (h.0, both xs ys h.1 k)

  pub front : (xs ys : List X) → AllByRecursion P (xs ++ ys) → AllByRecursion P xs
  front [] ys h = tt
  front (x ∷ xs) ys h = (h.0, front xs ys h.1)

  pub back : (xs ys : List X) → AllByRecursion P (xs ++ ys) → AllByRecursion P ys
  back [] ys h = h
  back (x ∷ xs) ys h = back xs ys h.1

-- one of a list passes
any_of : {X : Type 0} (test : X → Bool) (xs : List X) (n : ℕ) (x : X) → slice_get xs n ≡ Some x → test x ≡ true
    → list_any test xs ≡ true
any_of test [] n x e h = absurd cc
any_of test (y ∷ xs) zero x e h =
    let same : y ≡ x = cc in let here : test y ≡ true = ap test same ∙ h in or_left (test y) (list_any test xs) here
any_of test (y ∷ xs) (suc n) x e h = or_right (test y) (list_any test xs) (any_of test xs n x e h)

any_flat : {A B : Type 0} (f : A → List B) (test : B → Bool) (xs : List A) (n : ℕ) (x : A) → slice_get xs n ≡ Some x
    → list_any test (f x) ≡ true → list_any test (flat_map f xs) ≡ true
any_flat f test [] n x e h = absurd cc
any_flat f test (y ∷ xs) zero x e h =
    let same : y ≡ x = cc in
    list_any-append test (f y) (flat_map f xs)
    ∙ or_left (list_any test (f y)) (list_any test (flat_map f xs)) (ap (λ z. list_any test (f z)) same ∙ h)
any_flat f test (y ∷ xs) (suc n) x e h =
    list_any-append test (f y) (flat_map f xs)
    ∙ or_right (list_any test (f y)) (list_any test (flat_map f xs)) (any_flat f test xs n x e h)

any_map : {X Y : Type 0} (g : X → Y) (test : Y → Bool) (own : X → Bool) → ((x : X) → test (g x) ≡ own x)
    → (xs : List X) → list_any own xs ≡ true → list_any test (map g xs) ≡ true
any_map g test own same [] e = absurd cc
any_map g test own same (x ∷ xs) e =
    either (own x)
    (λ t. or_left (test (g x)) (list_any test (map g xs)) (same x ∙ t))
    (λ f. or_right (test (g x)) (list_any test (map g xs)) (any_map g test own same xs (rw f at e)))

-- where none passes there is none
pub none_of : {X : Type 0} (P : X → Type 0) (test : X → Bool) → ((x : X) → P x → test x ≡ true) → (xs : List X)
    → list_any test xs ≡ false → ¬ SomeOf P xs
none_of P test pass [] e s = s
none_of P test pass (x ∷ xs) e (inl p) = let t = pass x p in let g : true ≡ false = rw t at e in cc
none_of P test pass (x ∷ xs) e (inr s) =
    either (test x)
    (λ t. let g : true ≡ false = rw t at e in cc)
    (λ f. none_of P test pass xs (rw f at e) s)

-- ---- one of some instances

module _ (tree : Tree) (is : List NamedProgram) where
  abbrev slots : List Slot
  slots = slots_of tree is

  abbrev blocks : List FunctionBlock
  blocks = blocks_of is

  -- a global variable that is named has a slot
  rows_there : (gs : List DeclaredGlobal) (from m k : ℕ) → from + m ≡ k → m < length gs → is_named tree is k ≡ true
      → list_any (λ s. is_global (Some k) s.variable) (filter_map (named_slot tree is) (enumerate_from from gs)) ≡ true
  rows_there [] from m k e below h = absurd (omega arith)
  rows_there (g ∷ gs) from zero k e below h =
      let same : k ≡ from = omega arith in
      let here : is_named tree is from ≡ true = ap (is_named tree is) (sym same) ∙ h in
      let equal = eq-eqb k from same in
      rw here (or_left _ _ equal)
  rows_there (g ∷ gs) from (suc m) k e below h =
      let rest = rows_there gs (from + 1) m k (omega arith) (omega arith) h in
      either (is_named tree is from) (λ t. rw t (or_right _ _ rest)) (λ f. rw f rest)

  module _ (n : ℕ) (i : NamedProgram) (there : slice_get is n ≡ Some i) where
    abbrev p : DeclaredProgram
    p = i.program

    abbrev has_variable : Name → Bool
    has_variable name = list_any (λ v. same_name tree.text name v.name) p.variables

    own_there : (name : Name) → has_variable name ≡ true → place_in_store tree slots i name < length slots
    own_there name e =
        let test : Slot → Bool = λ (s : Slot). is_own tree.text i.name name s.variable in
        let mine = any_map (own_slot i.name) test (λ v. same_name tree.text name v.name)
        (own_is tree.text i.name name) p.variables e in
        let all = any_flat slots_in test is n i there mine in
        let any : list_any test slots ≡ true =
        list_any-append test (global_slots tree is) (own_slots is)
        ∙ or_right (list_any test (global_slots tree is)) (list_any test (own_slots is)) all
        in
        rw e (any_found test slots any)

    global_there : (name : Name) (k : ℕ) → has_variable name ≡ false → global_number tree name ≡ Some k
        → is_among tree k p.externals ≡ true → place_in_store tree slots i name < length slots
    global_there name k none found among =
        let test : Slot → Bool = λ (s : Slot). is_global (Some k) s.variable in
        let named = any_of (λ (j : NamedProgram). is_among tree k j.program.externals) is n i there among in
        let below = first_below _ (globals_of tree) k found in
        let mine = rows_there (globals_of tree) 0 k k (omega arith) below named in
        let any : list_any test slots ≡ true =
        list_any-append test (global_slots tree is) (own_slots is)
        ∙ or_left (list_any test (global_slots tree is)) (list_any test (own_slots is)) mine
        in
        rw (none, found) (any_found test slots any)

    -- a name of an external is that of the global variable of the external's name
    external_there : (es : List DeclaredExternal) (name : Name) → has_variable name ≡ false
        → ((place : ℕ) → ¬ SomeOf (λ e. IsUnknownName (global_number tree) place e.name) es)
        → list_any (λ e. same_name tree.text name e.name) es ≡ true
        → ((k : ℕ) → is_among tree k es ≡ true → is_among tree k p.externals ≡ true)
        → place_in_store tree slots i name < length slots
    external_there [] name none known e more = absurd cc
    external_there (x ∷ es) name none known e more =
        either (same_name tree.text name x.name)
        (λ t. here t (global_number tree x.name) refl)
        (λ f. external_there es name none (λ place s. known place (inr s)) (rw f at e)
        (λ k h. more k (or_right _ _ h)))
      where
        here : same_name tree.text name x.name ≡ true → (o : Option ℕ) → global_number tree x.name ≡ o
            → place_in_store tree slots i name < length slots
        here t None found = absurd (known x.name.from (inl (found, refl)))
        here t (Some k) found =
            let same = alike tree.text name x.name t in
            let its : global_number tree name ≡ Some k =
            ap (λ key. first_at (λ (g : DeclaredGlobal). bytes_eq key (folded tree.text g.name)) (globals_of tree)) same
            ∙ found
            in
            let equal = eq-eqb k k refl in
            let first : option_map_or (λ its. its == k) (global_number tree x.name) false ≡ true = rw found equal in
            global_there name k none its (more k (or_left _ _ first))

    pub variable_there : (name : Name)
        → ((place : ℕ) → ¬ SomeOf (λ e. IsUnknownName (global_number tree) place e.name) p.externals)
        → ¬ IsNoVariable tree.text p name → place_in_store tree slots i name < length slots
    variable_there name known is_there =
        either (has_variable name) (own_there name)
        (λ none. either (list_any (λ e. same_name tree.text name e.name) p.externals)
        (λ t. external_there p.externals name none known t (λ k h. h))
        (λ f. absurd (is_there (
          none_of (λ (v : DeclaredVariable). SameName tree.text name v.name) (λ v. same_name tree.text name v.name)
              (λ v e. same_as tree.text name v.name e) p.variables none,
          none_of (λ (x : DeclaredExternal). SameName tree.text name x.name) (λ x. same_name tree.text name x.name)
              (λ x e. same_as tree.text name x.name e) p.externals f,
        ))))

    pub block_there : (name : Name) → ¬ IsNoBlock tree.text p name
        → block_in_store tree.text blocks i.name name < length blocks
    block_there name is_there =
        either (list_any (λ b. same_name tree.text name b.name) p.blocks)
        (λ t.
        let test = is_block_under tree.text i.name name in
        let mine = any_map (function_block i.name) test (λ b. same_name tree.text name b.name)
        (own_block tree.text i.name name) p.blocks t in
        any_found test blocks (any_flat blocks_in test is n i there mine))
        (λ f. absurd (is_there (none_of (λ (b : DeclaredBlock). SameName tree.text name b.name)
        (λ b. same_name tree.text name b.name) (λ b e. same_as tree.text name b.name e) p.blocks f)))

    -- the block instance of a name, where it has one, is the program's first of that name
    abbrev pub declared_block : Name → Option DeclaredBlock
    declared_block name =
        option_and_then (slice_get p.blocks) (first_at (λ b. same_name tree.text name b.name) p.blocks)

    pub block_found : AreApart tree.text is → (name : Name)
        → slice_get blocks (block_in_store tree.text blocks i.name name)
        ≡ option_map (function_block i.name) (declared_block name)
    block_found apart name =
        let whole : take n is ++ i ∷ drop (n + 1) is ≡ is = parted_at is n i there in
        let others = others_around tree.text (take n is) (drop (n + 1) is) i
        (subst (AreApart tree.text) (sym whole) apart) in
        subst
        (λ (js : List NamedProgram). slice_get (blocks_of js) (block_in_store tree.text (blocks_of js) i.name name)
        ≡ option_map (function_block i.name) (declared_block name))
        whole
        (found_among declared_blocks block_of (is_block_under tree.text i.name name) i
        (λ b. same_name tree.text name b.name) (own_block tree.text i.name name) (take n is) (drop (n + 1) is)
        (other_blocks tree.text i.name name (take n is) others.0)
        (other_blocks tree.text i.name name (drop (n + 1) is) others.1))

    module _ (names : Nameable) (are : names.kinds ≡ map (λ b. b.kind) blocks) (number : ℕ) (port : Name) where
      abbrev PortThere : Type 0
      PortThere =
          HasPort names number (option_map_or (port_of_block tree.text port) (slice_get blocks number) most_ports)

      pub port_there : (o : Option DeclaredBlock) → slice_get blocks number ≡ option_map (function_block i.name) o
          → ¬ (option_and_then {U = BlockKind × ℕ}
          (λ (b : DeclaredBlock).
          option_map {U = BlockKind × ℕ} (λ (k : ℕ). (b.kind, k)) (port_named b.kind (text_of tree.text port))) o
          ≡ None)
          → PortThere
      port_there None e known = absurd (known refl)
      port_there (Some d) e known = by (port_named d.kind (text_of tree.text port)) refl known
        where
          by : (q : Option ℕ) → port_named d.kind (text_of tree.text port) ≡ q
              → ¬ (option_map {U = BlockKind × ℕ} (λ (k : ℕ). (d.kind, k)) q ≡ None) → PortThere
          by None found known = absurd (known refl)
          by (Some k) found known =
              let below = first_port (ports_of d.kind) (text_of tree.text port) k found in
              let kind : slice_get names.kinds number ≡ Some d.kind =
              ap (λ (ks : List BlockKind). slice_get ks number) are
              ∙ slice_get-map (λ (b : FunctionBlock). b.kind) blocks number
              ∙ ap (option_map (λ (b : FunctionBlock). b.kind)) e
              in
              let its : option_map_or (port_of_block tree.text port) (slice_get blocks number) most_ports ≡ k =
              ap (λ x. option_map_or (port_of_block tree.text port) x most_ports) e
              ∙ ap (λ x. unwrap_or x most_ports) found
              in
              subst (λ (x : Option BlockKind). IsSomeAnd x (λ its_kind.
              option_map_or (port_of_block tree.text port) (slice_get blocks number) most_ports
              < length (ports_of its_kind))) (sym kind)
              (subst (λ m. m < length (ports_of d.kind)) (sym its) below)
