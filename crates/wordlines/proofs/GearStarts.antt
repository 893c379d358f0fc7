-- Words that say how gear begins: one `group g` or `scene n l` after another.
use Rattle.std.proofs.Common.{◌≡◌, ◌∙◌, ℕ, Bool, true, false, cond, List, [], ◌∷◌, Option, Some, None, refl, ap}
use Rattle.std.specs.Prelude.{codes, bytes_eq, option_map, slice_set}
use Rattle.wordlines.specs.WordLines.{after_word, number_in, number_upto}
use Rattle.wordlines.specs.Saying.{groups_from, scenes_from}

-- a word was taken, or it was not the first
taken : (test : Bool) (words rest : List (List ℕ)) → cond test (Some words) None ≡ Some rest
    → (test ≡ true) × (words ≡ rest)
taken true words rest is = (refl, cc)
taken false words rest is = absurd cc

not_taken : (test : Bool) (words : List (List ℕ)) → cond test (Some words) None ≡ None → test ≡ false
not_taken true words is = absurd cc
not_taken false words is = refl

one_pair : (a b : ℕ × List (List ℕ)) → Some a ≡ Some b → a ≡ b
one_pair a b is = cc

-- a number was spelled, or there was none
spelled : (found : Option ℕ) (words rest : List (List ℕ)) (number : ℕ)
    → option_map {U = ℕ × List (List ℕ)} (λ n. (n, words)) found ≡ Some (number, rest)
    → (found ≡ Some number) × (words ≡ rest)
spelled None words rest number is = absurd cc
spelled (Some n) words rest number is =
    let same = one_pair (n, words) (number, rest) is in
    (ap (λ (p : ℕ × List (List ℕ)). Some p.0) same, ap (λ (p : ℕ × List (List ℕ)). p.1) same)

not_spelled : (found : Option ℕ) (words : List (List ℕ))
    → option_map {U = ℕ × List (List ℕ)} (λ n. (n, words)) found ≡ None → found ≡ None
not_spelled None words is = refl
not_spelled (Some n) words is = absurd cc

-- no number is spelled where no word is left
no_number : (most : ℕ) (words : List (List ℕ)) (number : ℕ) (rest : List (List ℕ)) → [] ≡ words
    → number_in most words ≡ Some (number, rest) → ⊥
no_number most words number rest none is = let same = ap (number_in most) none in cc

-- one group more
pub group_more : (groups : List Bool) (words rest after : List (List ℕ)) (group : ℕ)
    → after_word (codes "group") words ≡ Some rest → number_in 15 rest ≡ Some (group, after)
    → groups_from groups words ≡ groups_from (slice_set groups group true) after
group_more groups [] rest after group word number = absurd cc
group_more groups (first ∷ []) rest after group word number =
    absurd (no_number 15 rest group after (taken (bytes_eq first (codes "group")) [] rest word).1 number)
group_more groups (first ∷ digits ∷ more) rest after group word number =
    let is = taken (bytes_eq first (codes "group")) (digits ∷ more) rest word in
    let its = spelled (number_upto 15 digits) more after group (ap (number_in 15) is.1 ∙ number) in
    rw (is.0, its.0, its.1) refl

-- a group without a number of its own
pub group_none : (groups : List Bool) (words rest : List (List ℕ)) → after_word (codes "group") words ≡ Some rest
    → number_in 15 rest ≡ None → groups_from groups words ≡ None
group_none groups [] rest word number = absurd cc
group_none groups (first ∷ []) rest word number =
    rw (taken (bytes_eq first (codes "group")) [] rest word).0 refl
group_none groups (first ∷ digits ∷ more) rest word number =
    let is = taken (bytes_eq first (codes "group")) (digits ∷ more) rest word in
    let its = not_spelled (number_upto 15 digits) more (ap (number_in 15) is.1 ∙ number) in
    rw (is.0, its) refl

-- no group more
pub groups_all : (groups : List Bool) (words : List (List ℕ)) → after_word (codes "group") words ≡ None
    → groups_from groups words ≡ Some (groups, words)
groups_all groups [] word = refl
groups_all groups (first ∷ []) word = rw (not_taken (bytes_eq first (codes "group")) [] word) refl
groups_all groups (first ∷ digits ∷ more) word =
    rw (not_taken (bytes_eq first (codes "group")) (digits ∷ more) word) refl

-- one scene more
pub scene_more : (scenes : List ℕ) (words rest middle after : List (List ℕ)) (scene level : ℕ)
    → after_word (codes "scene") words ≡ Some rest → number_in 15 rest ≡ Some (scene, middle)
    → number_in 255 middle ≡ Some (level, after)
    → scenes_from scenes words ≡ scenes_from (slice_set scenes scene level) after
scene_more scenes [] rest middle after scene level word number value = absurd cc
scene_more scenes (first ∷ []) rest middle after scene level word number value =
    absurd (no_number 15 rest scene middle (taken (bytes_eq first (codes "scene")) [] rest word).1 number)
scene_more scenes (first ∷ digits ∷ []) rest middle after scene level word number value =
    let is = taken (bytes_eq first (codes "scene")) (digits ∷ []) rest word in
    let its = spelled (number_upto 15 digits) [] middle scene (ap (number_in 15) is.1 ∙ number) in
    absurd (no_number 255 middle level after its.1 value)
scene_more scenes (first ∷ digits ∷ second ∷ more) rest middle after scene level word number value =
    let is = taken (bytes_eq first (codes "scene")) (digits ∷ second ∷ more) rest word in
    let its = spelled (number_upto 15 digits) (second ∷ more) middle scene (ap (number_in 15) is.1 ∙ number) in
    let has = spelled (number_upto 255 second) more after level (ap (number_in 255) its.1 ∙ value) in
    rw (is.0, its.0, has.0, has.1) refl

-- a scene without a number of its own
pub scene_none : (scenes : List ℕ) (words rest : List (List ℕ)) → after_word (codes "scene") words ≡ Some rest
    → number_in 15 rest ≡ None → scenes_from scenes words ≡ None
scene_none scenes [] rest word number = absurd cc
scene_none scenes (first ∷ []) rest word number =
    rw (taken (bytes_eq first (codes "scene")) [] rest word).0 refl
scene_none scenes (first ∷ digits ∷ []) rest word number =
    rw (taken (bytes_eq first (codes "scene")) (digits ∷ []) rest word).0 refl
scene_none scenes (first ∷ digits ∷ second ∷ more) rest word number =
    let is = taken (bytes_eq first (codes "scene")) (digits ∷ second ∷ more) rest word in
    let its = not_spelled (number_upto 15 digits) (second ∷ more) (ap (number_in 15) is.1 ∙ number) in
    rw (is.0, its) refl

-- a scene without a level
pub scene_level_none : (scenes : List ℕ) (words rest middle : List (List ℕ)) (scene : ℕ)
    → after_word (codes "scene") words ≡ Some rest → number_in 15 rest ≡ Some (scene, middle)
    → number_in 255 middle ≡ None → scenes_from scenes words ≡ None
scene_level_none scenes [] rest middle scene word number value = absurd cc
scene_level_none scenes (first ∷ []) rest middle scene word number value =
    rw (taken (bytes_eq first (codes "scene")) [] rest word).0 refl
scene_level_none scenes (first ∷ digits ∷ []) rest middle scene word number value =
    rw (taken (bytes_eq first (codes "scene")) (digits ∷ []) rest word).0 refl
scene_level_none scenes (first ∷ digits ∷ second ∷ more) rest middle scene word number value =
    let is = taken (bytes_eq first (codes "scene")) (digits ∷ second ∷ more) rest word in
    let its = spelled (number_upto 15 digits) (second ∷ more) middle scene (ap (number_in 15) is.1 ∙ number) in
    let none = not_spelled (number_upto 255 second) more (ap (number_in 255) its.1 ∙ value) in
    rw (is.0, its.0, none) refl

-- no scene more
pub scenes_all : (scenes : List ℕ) (words : List (List ℕ)) → after_word (codes "scene") words ≡ None
    → scenes_from scenes words ≡ Some (scenes, words)
scenes_all scenes [] word = refl
scenes_all scenes (first ∷ []) word = rw (not_taken (bytes_eq first (codes "scene")) [] word) refl
scenes_all scenes (first ∷ digits ∷ []) word = rw (not_taken (bytes_eq first (codes "scene")) (digits ∷ []) word) refl
scenes_all scenes (first ∷ digits ∷ second ∷ more) word =
    rw (not_taken (bytes_eq first (codes "scene")) (digits ∷ second ∷ more) word) refl
