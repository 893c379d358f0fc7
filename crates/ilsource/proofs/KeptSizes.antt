-- Renamed lines have their words at the same places, the same parentheses, and the same uses under their new names.
use Rattle.std.proofs.Common.{◌≡◌, refl, sym, ap, ◌∙◌, ℕ, ◌+◌, List, [], ◌∷◌, ◌++◌, replicate, map, flat_map}
use Rattle.std.proofs.Common.{Option, Some, None}
use Rattle.std.specs.Option.{option_map, option_map_or}
use Rattle.std.proofs.Math.ListN.{length-map}
use Rattle.std.proofs.lemmas.List.{map-append}
use Rattle.std.proofs.lemmas.Simd.{map-map}
use Rattle.ilsource.specs.declared.arguments.Argument.{Argument}
use Rattle.iltypes.specs.declared.condition.Condition.TheVariants.{Always, IfTrue, IfFalse}
use Rattle.ilsource.specs.declared.instruction.Instruction.{Instruction}
use Rattle.ilsource.specs.declared.instruction.Instruction.TheVariants as instructions
use Rattle.ilsource.specs.declared.nested.Action.{Action}
use Rattle.ilsource.specs.declared.nested.Action.TheVariants as actions
use Rattle.ilsource.specs.declared.operand.Operand.{Operand}
use Rattle.ilsource.specs.declared.operand.Operand.TheVariants.{Name}
use Rattle.ilsource.specs.Trees.{Tree, Load, Reload, Apply, Transform, Deferred, Call}
use Rattle.ilsource.specs.Trees.{piece, give_pieces, call_pieces, pieces_of, depth}
use Rattle.ilsource.specs.Words.{place_of, places_of, MayDefer, IsShallow}
use Rattle.ilsource.specs.Uses.{read_at, uses_of_action, uses_of_piece, uses_of_argument, uses_of}
use Rattle.ilsource.specs.Renaming.{NewNames, rename_action, rename_piece, rename_tree}
use Rattle.ilsource.specs.Renaming.{rename_argument, rename_use, rename}

one_more_same : {A B : Type 0} (f : A → B) (xs : List A) (ys : List B) (x : A) → ys ≡ map f xs
    → ys ++ f x ∷ [] ≡ map f (xs ++ x ∷ [])
one_more_same f xs ys x e = ap (λ l. l ++ f x ∷ []) e ∙ sym (map-append f xs (x ∷ []))

group_same : {A B : Type 0} (f : A → B) (xs us : List A) (ys vs : List B) (x z : A) → ys ≡ map f xs → vs ≡ map f us
    → ys ++ (f x ∷ (vs ++ f z ∷ [])) ≡ map f (xs ++ (x ∷ (us ++ z ∷ [])))
group_same f xs us ys vs x z e g =
    ap (λ l. l ++ (f x ∷ (vs ++ f z ∷ []))) e
    ∙ ap (λ l. map f xs ++ (f x ∷ l)) (one_more_same f us vs z g)
    ∙ sym (map-append f xs (x ∷ (us ++ z ∷ [])))

-- what the parts make, renamed, is what the renamed parts make
flat_same : {A B U V : Type 0} (f : A → List U) (f' : B → List V) (r : A → B) (g : U → V)
    → ((x : A) → f' (r x) ≡ map g (f x)) → (xs : List A) → flat_map f' (map r xs) ≡ map g (flat_map f xs)
flat_same f f' r g e [] = refl
flat_same f f' r g e (x ∷ xs) =
    ap (λ l. l ++ flat_map f' (map r xs)) (e x)
    ∙ ap (λ l. map g (f x) ++ l) (flat_same f f' r g e xs)
    ∙ sym (map-append g (f x) (flat_map f xs))

module _ {N M : Type 0} (new : NewNames N M) where
  gives_same : (at : ℕ) (f : N) (number : ℕ) (os : List (Operand N))
      → give_pieces at (new.name f) number (map new.operand os)
      ≡ map (rename_piece new) (give_pieces at f number os)
  gives_same at f number [] = refl
  gives_same at f number (o ∷ os) =
      ap (λ ps. piece at (actions.Give (new.name f) number (new.operand o)) ∷ ps) (gives_same at f (number + 1) os)

  call_same : (at : ℕ) (f : N) (os : List (Operand N))
      → call_pieces at (new.name f) (map new.operand os) ≡ map (rename_piece new) (call_pieces at f os)
  call_same at f os =
      ap (λ ps. piece at (actions.Hand (new.name f)) ∷ ps)
      (one_more_same (rename_piece new) (give_pieces at f 1 os) _ (piece at (actions.Invoke f)) (gives_same at f 1 os))

  pub pieces_same : (t : Tree N) → pieces_of (rename_tree new t) ≡ map (rename_piece new) (pieces_of t)
  pieces_same (Load at negated o) = refl
  pieces_same (Reload t at negated o) =
      one_more_same (rename_piece new) (pieces_of t) _ (piece at (actions.Load negated o)) (pieces_same t)
  pieces_same (Apply t at operator o) =
      one_more_same (rename_piece new) (pieces_of t) _ (piece at (actions.Apply operator o)) (pieces_same t)
  pieces_same (Transform t at function) =
      one_more_same (rename_piece new) (pieces_of t) _ (piece at (actions.Transform function)) (pieces_same t)
  pieces_same (Deferred t at operator u close) =
      group_same (rename_piece new) (pieces_of t) (pieces_of u) _ _ (piece at (actions.Open operator))
      (piece close actions.Close) (pieces_same t) (pieces_same u)
  pieces_same (Call t at f os) =
      ap (λ ps. ps ++ call_pieces at (new.name f) (map new.operand os)) (pieces_same t)
      ∙ ap (λ ps. map (rename_piece new) (pieces_of t) ++ ps) (call_same at f os)
      ∙ sym (map-append (rename_piece new) (pieces_of t) (call_pieces at f os))

  depth_same : (t : Tree N) → depth (rename_tree new t) ≡ depth t
  depth_same (Load at negated o) = refl
  depth_same (Reload t at negated o) = depth_same t
  depth_same (Apply t at operator o) = depth_same t
  depth_same (Transform t at function) = depth_same t
  depth_same (Deferred t at operator u close) = let e = depth_same t in let g = depth_same u in rw (e, g) refl
  depth_same (Call t at f os) = depth_same t

  still_may_defer : (t : Tree N) → MayDefer t → MayDefer (rename_tree new t)
  still_may_defer (Load at negated o) h = tt
  still_may_defer (Reload t at negated o) h = still_may_defer t h
  still_may_defer (Apply t at operator o) h = still_may_defer t h
  still_may_defer (Transform t at function) h = still_may_defer t h
  still_may_defer (Deferred t at operator u close) h = (still_may_defer t h.0, h.1, still_may_defer u h.2)
  still_may_defer (Call t at f os) h = still_may_defer t h

  places_same : (t : Tree N) → map place_of (pieces_of (rename_tree new t)) ≡ map place_of (pieces_of t)
  places_same t = ap (map place_of) (pieces_same t) ∙ map-map place_of (rename_piece new) (pieces_of t)

  module _ (h : (n : N) → new.operand (Name n) ≡ Name (new.name n)) where
    action_uses : (at : ℕ) (action : Action N)
        → uses_of_action at (rename_action new action) ≡ map (rename_use new) (uses_of_action at action)
    action_uses at (actions.Load negated o) = refl
    action_uses at (actions.Apply operator o) = refl
    action_uses at (actions.Transform function) = refl
    action_uses at (actions.Open operator) = refl
    action_uses at actions.Close = refl
    action_uses at (actions.Hand f) = let e = h f in rw e refl
    action_uses at (actions.Give f number o) = refl
    action_uses at (actions.Invoke f) = refl

    tree_uses : (t : Tree N)
        → flat_map uses_of_piece (pieces_of (rename_tree new t))
        ≡ map (rename_use new) (flat_map uses_of_piece (pieces_of t))
    tree_uses t =
        ap (flat_map uses_of_piece) (pieces_same t)
        ∙ flat_same uses_of_piece uses_of_piece (rename_piece new) (rename_use new)
        (λ p. action_uses p.at p.action) (pieces_of t)

    argument_uses : (at : ℕ) (xs : List (Argument N))
        → flat_map (uses_of_argument at) (map (rename_argument new) xs)
        ≡ map (rename_use new) (flat_map (uses_of_argument at) xs)
    argument_uses at xs =
        flat_same (uses_of_argument at) (uses_of_argument at) (rename_argument new) (rename_use new)
        (λ x. let e = h x.port in rw e refl) xs

  reads_same : (at : ℕ) (os : List (Operand N))
      → map (read_at at) (map new.operand os) ≡ map (rename_use new) (map (read_at at) os)
  reads_same at [] = refl
  reads_same at (o ∷ os) = ap (λ us. read_at at (new.operand o) ∷ us) (reads_same at os)

module _ {N M L K : Type 0} (new : NewNames N M) (label : L → K) where
  pub places_kept : (at : ℕ) (i : Option (Instruction N L))
      → option_map_or (places_of at) (option_map (rename new label) i) [] ≡ option_map_or (places_of at) i []
  places_kept at (Some (instructions.Deferred operator t close)) =
      ap (λ l. at ∷ (l ++ close ∷ [])) (places_same new t)
  places_kept at (Some (instructions.Call Always n xs)) =
      ap (λ k. replicate (k + 1) at) (length-map xs (rename_argument new))
  places_kept at (Some (instructions.Call IfTrue n xs)) =
      ap (λ k. replicate (k + 2) at) (length-map xs (rename_argument new))
  places_kept at (Some (instructions.Call IfFalse n xs)) =
      ap (λ k. replicate (k + 2) at) (length-map xs (rename_argument new))
  places_kept at (Some (instructions.Invoke f os)) = ap (λ k. replicate (k + 2) at) (length-map os new.operand)
  places_kept at _ = refl

  pub still_shallow : (i : Option (Instruction N L)) → IsShallow i → IsShallow (option_map (rename new label) i)
  still_shallow (Some (instructions.Deferred operator t close)) k =
      let e = depth_same new t in (k.0, still_may_defer new t k.1, rw e k.2)
  still_shallow _ k = tt

  pub uses_kept : ((n : N) → new.operand (Name n) ≡ Name (new.name n)) → (at : ℕ) (i : Option (Instruction N L))
      → option_map_or (uses_of at) (option_map (rename new label) i) []
      ≡ map (rename_use new) (option_map_or (uses_of at) i [])
  uses_kept h at None = refl
  uses_kept h at (Some (instructions.Load negated o)) = refl
  uses_kept h at (Some (instructions.Apply operator o)) = refl
  uses_kept h at (Some (instructions.Deferred operator t close)) = tree_uses new h t
  uses_kept h at (Some (instructions.Transform function)) = refl
  uses_kept h at (Some (instructions.Limit low high)) = refl
  uses_kept h at (Some (instructions.Store negated n)) = let e = h n in rw e refl
  uses_kept h at (Some (instructions.Set n)) = let e = h n in rw e refl
  uses_kept h at (Some (instructions.Reset n)) = let e = h n in rw e refl
  uses_kept h at (Some (instructions.Jump condition l)) = refl
  uses_kept h at (Some (instructions.Return condition)) = refl
  uses_kept h at (Some (instructions.Call condition n xs)) =
      let e = h n in let g = argument_uses new h at xs in rw (e, g) refl
  uses_kept h at (Some (instructions.Invoke f os)) = let e = h f in let g = reads_same new at os in rw (e, g) refl
