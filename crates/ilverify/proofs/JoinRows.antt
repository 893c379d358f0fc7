-- What is known of values in a row where two ways meet, and three lists of which a relation holds place by place.
use Rattle.std.proofs.Common.{◌≡◌, ℕ, ◌+◌, ◌-◌, List, [], ◌∷◌, ◌++◌, length, refl, sym, ◌∙◌, subst, arith}
use Rattle.std.proofs.Common.{length-append, suc, Some, inl, inr}
use Rattle.std.specs.Prelude.{slice_get}
use Rattle.std.proofs.lemmas.Bool.{cases_lt}
use Rattle.std.proofs.lemmas.Option.{slice_get_within}
use Rattle.std.specs.List.{AllZip}
use Rattle.ilverify.specs.Joins.{Each, IsJoin, IsHeld, AreJoins}
use Rattle.ilverify.specs.declared.known.Known.{Known}
use Rattle.ilverify.specs.JoinSteps.{AreWithin}
use Rattle.ilverify.specs.Knowns.{IsKnownWithin}
use Rattle.ilverify.proofs.RangeLists.{get_left, get_right}
use Rattle.ilverify.proofs.JoinValues.{held_in, one_in, other_in, least_in, join_one, join_other}

-- ---- three lists

-- what has been made so far
pub record EachUpTo {A : Type 0} (P : A → A → A → Type 0) (n : ℕ) (ps bs cs : List A) : Type 0 where
  pub long : length cs ≡ n
  pub each : (k : ℕ) (a b c : A) → slice_get ps k ≡ Some a → slice_get bs k ≡ Some b → slice_get cs k ≡ Some c → P a b c

pub each_none : {A : Type 0} (P : A → A → A → Type 0) (ps bs : List A) → EachUpTo P 0 ps bs []
each_none P ps bs =
    record { long = refl; each = λ k a b c p q r. absurd (let l = slice_get_within [] k c r in omega arith) }

pub each_more : {A : Type 0} (P : A → A → A → Type 0) (n : ℕ) (ps bs cs : List A) (x y z : A) → EachUpTo P n ps bs cs
    → slice_get ps n ≡ Some x → slice_get bs n ≡ Some y → P x y z → EachUpTo P (n + 1) ps bs (cs ++ z ∷ [])
each_more P n ps bs cs x y z j ax by p = record {
  long = omega (arith, length-append cs (z ∷ []), j.long);
  each = λ k a b c ak bk ck.
      elim (cases_lt k n) [
        | inl l ↦ j.each k a b c ak bk (sym (get_left cs (z ∷ []) k (omega (arith, j.long))) ∙ ck)
        | inr g ↦
            let w = slice_get_within (cs ++ z ∷ []) k c ck in
            let e : k ≡ n = omega (arith, length-append cs (z ∷ []), j.long, w) in
            let zk : slice_get (cs ++ z ∷ []) k ≡ Some z = get_right cs (z ∷ []) k 0 (omega (arith, j.long)) in
            let ak' : slice_get ps n ≡ Some a = subst (λ m. slice_get ps m ≡ Some a) e ak in
            let bk' : slice_get bs n ≡ Some b = subst (λ m. slice_get bs m ≡ Some b) e bk in
            let xa : x ≡ a = cc in
            let yb : y ≡ b = cc in
            let zc : z ≡ c = cc in
            subst (λ c'. P a b c') zc (subst (λ b'. P a b' z) yb (subst (λ a'. P a' y z) xa p))
      ];
}

pub each_all : {A : Type 0} (P : A → A → A → Type 0) (n : ℕ) (ps bs cs : List A) → EachUpTo P n ps bs cs
    → n ≡ length ps → length ps ≡ length bs → Each P ps bs cs
each_all P n ps bs cs j e f =
    record { first = sym e ∙ sym j.long; second = sym f ∙ (sym e ∙ sym j.long); each = j.each }

pub each_tail : {A : Type 0} (P : A → A → A → Type 0) (a b c : A) (ps bs cs : List A)
    → Each P (a ∷ ps) (b ∷ bs) (c ∷ cs) → Each P ps bs cs
each_tail P a b c ps bs cs e =
    let f = e.first in
    let g = e.second in
    record { first = omega arith; second = omega arith; each = λ k x y z p q r. e.each (suc k) x y z p q r }

pub each_append : {A : Type 0} (P : A → A → A → Type 0) (ps bs cs us vs ws : List A) → Each P ps bs cs → Each P us vs ws
    → Each P (ps ++ us) (bs ++ vs) (cs ++ ws)
each_append P ps bs cs us vs ws e f =
    let a = e.first in let b = e.second in let c = f.first in let d = f.second in
    record {
      first = omega (arith, length-append ps us, length-append cs ws);
      second = omega (arith, length-append bs vs, length-append cs ws);
      each = λ k x y z p q r.
          elim (cases_lt k (length cs)) [
            | inl l ↦ e.each k x y z (sym (get_left ps us k (omega arith)) ∙ p)
                (sym (get_left bs vs k (omega arith)) ∙ q) (sym (get_left cs ws k l) ∙ r)
            | inr g ↦
                let m = k - length cs in
                f.each m x y z (sym (get_right ps us k m (omega arith)) ∙ p)
                (sym (get_right bs vs k m (omega arith)) ∙ q) (sym (get_right cs ws k m (omega arith)) ∙ r)
          ];
    }

pub each_nil : {A : Type 0} (P : A → A → A → Type 0) → Each P [] [] []
each_nil P =
    record {
      first = refl;
      second = refl;
      each = λ k a b c p q r. absurd
          (let l = slice_get_within [] k c r in omega arith);
    }

-- ---- values in a row

-- where the others are within these, these are the joins
pub joins_ones : (ps bs : List Known) → AreWithin bs ps → AreJoins ps bs ps
joins_ones ps bs w =
    record {
      first = refl;
      second = w.long;
      each = λ k a b c p q r.
          let e : a ≡ c = cc in
          subst (IsJoin a b) e (join_one a b (w.each k b a q p));
    }

-- where these are within the others, the others are the joins
pub joins_others : (ps bs : List Known) → AreWithin ps bs → AreJoins ps bs bs
joins_others ps bs w =
    record {
      first = w.long;
      second = refl;
      each = λ k a b c p q r.
          let e : b ≡ c = cc in
          subst (IsJoin a b) e (join_other a b (w.each k a b p q));
    }

pub ones_in : (ps bs cs : List Known) → AreJoins ps bs cs → AllZip IsKnownWithin ps cs
ones_in [] bs [] j = tt
ones_in [] bs (c ∷ cs) j = let f = j.first in absurd (omega arith)
ones_in (a ∷ ps) bs [] j = let f = j.first in absurd (omega arith)
ones_in (a ∷ ps) [] (c ∷ cs) j = let f = j.second in absurd (omega arith)
ones_in (a ∷ ps) (b ∷ bs) (c ∷ cs) j =
    (one_in a b c (j.each 0 a b c refl refl refl), ones_in ps bs cs (each_tail IsJoin a b c ps bs cs j))

pub others_in : (ps bs cs : List Known) → AreJoins ps bs cs → AllZip IsKnownWithin bs cs
others_in ps [] [] j = tt
others_in ps [] (c ∷ cs) j = let f = j.second in absurd (omega arith)
others_in ps (b ∷ bs) [] j = let f = j.second in absurd (omega arith)
others_in [] (b ∷ bs) (c ∷ cs) j = let f = j.first in absurd (omega arith)
others_in (a ∷ ps) (b ∷ bs) (c ∷ cs) j =
    (other_in a b c (j.each 0 a b c refl refl refl), others_in ps bs cs (each_tail IsJoin a b c ps bs cs j))

pub all_in : (ps bs cs ws : List Known) → AreJoins ps bs cs → AllZip IsKnownWithin ps ws → AllZip IsKnownWithin bs ws
    → AllZip IsKnownWithin cs ws
all_in [] bs [] ws j v u = v
all_in [] bs (c ∷ cs) ws j v u = let f = j.first in absurd (omega arith)
all_in (a ∷ ps) bs [] ws j v u = let f = j.first in absurd (omega arith)
all_in (a ∷ ps) [] (c ∷ cs) ws j v u = let f = j.second in absurd (omega arith)
all_in (a ∷ ps) (b ∷ bs) (c ∷ cs) [] j v u = absurd v
all_in (a ∷ ps) (b ∷ bs) (c ∷ cs) (w ∷ ws) j v u = (
  least_in a b c w (j.each 0 a b c refl refl refl) v.0 u.0,
  all_in ps bs cs ws (each_tail IsJoin a b c ps bs cs j) v.1 u.1,
)

pub all_held : (ps bs ws : List Known) → AllZip IsKnownWithin ps ws → AllZip IsKnownWithin bs ws → AllZip IsHeld ps bs
all_held [] [] ws v u = tt
all_held [] (b ∷ bs) [] v u = absurd u
all_held [] (b ∷ bs) (w ∷ ws) v u = absurd v
all_held (a ∷ ps) bs [] v u = absurd v
all_held (a ∷ ps) [] (w ∷ ws) v u = absurd u
all_held (a ∷ ps) (b ∷ bs) (w ∷ ws) v u = (held_in a b w v.0 u.0, all_held ps bs ws v.1 u.1)
