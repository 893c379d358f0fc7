-- Uses at the same places with the same constants make too many constants at the same place.
use Rattle.std.proofs.Common.{◌≡◌, ℕ, List, [], ◌∷◌, ◌++◌, length, map, refl, sym, ap, ◌∙◌}
use Rattle.std.specs.Prelude.{Option}
use Rattle.std.specs.List.{cons_option}
use Rattle.iltypes.specs.declared.value.Value.{Value}
use Rattle.ilsource.specs.declared.uses.Use.{Use}
use Rattle.ilplan.specs.Constants.{constant_in, constants_used, each_once}
use Rattle.ilsyms.specs.Faults.{MakesTooManyConstants}

-- what is counted of a use: its place, and its constant
abbrev pub counted_of : {N : Type 0} → Use N → ℕ × Option Value
counted_of u = (u.at, constant_in u.operand)

abbrev pub all_counted : {N : Type 0} → List (Use N) → List (ℕ × Option Value)
all_counted us = map counted_of us

-- uses with the same constants have the same different ones
pub constants_alike : {N M : Type 0} (us : List (Use N)) (vs : List (Use M)) → all_counted us ≡ all_counted vs
    → constants_used us ≡ constants_used vs
constants_alike [] [] e = refl
constants_alike [] (v ∷ vs) e = absurd cc
constants_alike (u ∷ us) [] e = absurd cc
constants_alike (u ∷ us) (v ∷ vs) e =
    let here : counted_of u ≡ counted_of v = cc in
    let rest : all_counted us ≡ all_counted vs = cc in
    (λ i. cons_option ((here i).1) (constants_alike us vs rest i))

-- the part of uses that is counted as a part of others
record Parted {N : Type 0} (M : Type 0) (us : List (Use M)) (before : List (Use N)) (last : Use N) : Type 0 where
  pub front : List (Use M)
  pub one : Use M
  pub back : List (Use M)
  pub is : us ≡ front ++ one ∷ back
  pub same_front : all_counted front ≡ all_counted before
  pub same : counted_of one ≡ counted_of last

parted : {N M : Type 0} (us : List (Use M)) (before : List (Use N)) (last : Use N) (after : List (Use N))
    → all_counted us ≡ all_counted (before ++ last ∷ after) → Parted M us before last
parted [] [] last after e = absurd cc
parted [] (b ∷ before) last after e = absurd cc
parted (u ∷ us) [] last after e =
    let here : counted_of u ≡ counted_of last = cc in
    record {
      front = [];
      one = u;
      back = us;
      is = refl;
      same_front = refl;
      same = here;
    }
parted (u ∷ us) (b ∷ before) last after e =
    let here : counted_of u ≡ counted_of b = cc in
    let rest : all_counted us ≡ all_counted (before ++ last ∷ after) = cc in
    let p = parted us before last after rest in
    record {
      front = u ∷ p.front;
      one = p.one;
      back = p.back;
      is = ap (λ vs. u ∷ vs) p.is;
      same_front = (λ i. here i ∷ p.same_front i);
      same = p.same;
    }

-- with one use more
one_more : {N M : Type 0} (us : List (Use N)) (vs : List (Use M)) (u : Use N) (v : Use M)
    → all_counted us ≡ all_counted vs → counted_of u ≡ counted_of v
    → all_counted (us ++ u ∷ []) ≡ all_counted (vs ++ v ∷ [])
one_more [] [] u v e h = (λ i. h i ∷ [])
one_more [] (y ∷ vs) u v e h = absurd cc
one_more (x ∷ us) [] u v e h = absurd cc
one_more (x ∷ us) (y ∷ vs) u v e h =
    let here : counted_of x ≡ counted_of y = cc in
    let rest : all_counted us ≡ all_counted vs = cc in
    (λ i. here i ∷ one_more us vs u v rest h i)

pub too_many_alike : {N M : Type 0} (us : List (Use N)) (vs : List (Use M)) (place : ℕ)
    → all_counted us ≡ all_counted vs → MakesTooManyConstants us place → MakesTooManyConstants vs place
too_many_alike us vs place e m =
    let p = parted vs m.before m.last m.after (sym e ∙ ap all_counted m.is) in
    record {
      before = p.front;
      last = p.one;
      after = p.back;
      is = p.is;
      full = ap (λ (cs : List Value). length (each_once cs)) (constants_alike p.front m.before p.same_front) ∙ m.full;
      more =
          ap (λ (cs : List Value). length (each_once cs))
          (constants_alike (p.front ++ p.one ∷ []) (m.before ++ m.last ∷ [])
          (one_more p.front m.before p.one m.last p.same_front p.same))
          ∙ m.more;
      stands = m.stands ∙ sym (ap (λ (c : ℕ × Option Value). c.0) p.same);
    }
