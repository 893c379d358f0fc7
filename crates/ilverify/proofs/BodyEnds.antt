-- Where bodies begin and end.
use Rattle.std.proofs.Common.{◌≡◌, ℕ, zero, suc, ◌<◌, ◌≤◌, ◌⊎◌, inl, inr, List, [], ◌∷◌, length, Bool, true}
use Rattle.std.proofs.Common.{false, Option, Some, None, refl, sym, ap, ◌∙◌, subst, arith}
use Rattle.std.specs.Prelude.{IsTrue, slice_get, ◌==◌, ◌||◌}
use Rattle.std.specs.List.{list_any}
use Rattle.std.proofs.lemmas.Bool.Decides.{nat_tests}
use Rattle.ilcode.specs.declared.function.FunctionBody.{FunctionBody}
use Rattle.ilcode.specs.Listings.{Listing, IsLawful, start_or, start_of, end_of, body_at}
use Rattle.ilcode.specs.Steps.{is_start}
use Rattle.ilcode.proofs.Bodies.{end_past, there, within, any_start}
use Rattle.ilverify.specs.Refusals.{IsClosedAt}

-- a body ends within the code
pub end_within : (code : Listing) (body : ℕ) → IsLawful code → end_of code body ≤ length code.instructions
end_within code body lawful = within code lawful body

-- a word stands before the end of its body
pub place_within : (code : Listing) (place : ℕ) → place < length code.instructions
    → place < end_of code (body_at code place)
place_within code place lt = (there code place lt).to

-- past the functions there is no body with a word
pub no_body : (code : Listing) (body : ℕ) → length code.functions < body → ¬ (start_of code body < end_of code body)
no_body code zero lt h = omega (arith, lt)
no_body code (suc n) lt h =
    let a = end_past code n (omega (arith, lt)) in
    let b = end_past code (suc n) (omega (arith, lt)) in
    omega (arith, a, b, h)

-- ---- at the end of a body nothing is open: there a function begins, or the code ends

either_true : (a b : Bool) → IsTrue b → IsTrue (a || b)
either_true true b h = refl
either_true false b h = h

begins_there : (fs : List FunctionBody) (number : ℕ) (f : FunctionBody) → slice_get fs number ≡ Some f
    → IsTrue (list_any (λ (g : FunctionBody). g.start == f.start) fs)
begins_there [] number f e = absurd (cc)
begins_there (g ∷ fs) zero f e =
    let q : g ≡ f = cc in
    let s = ap (λ (x : FunctionBody). x.start) q in
    let same : (g.start == f.start) ≡ true = grind (arith, nat_tests) in
    ap (λ (b : Bool). b || list_any (λ (h : FunctionBody). h.start == f.start) fs) same
begins_there (g ∷ fs) (suc n) f e =
    either_true (g.start == f.start) (list_any (λ (h : FunctionBody). h.start == f.start) fs)
    (begins_there fs n f e)

end_by : (code : Listing) (body : ℕ) (o : Option FunctionBody) → slice_get code.functions body ≡ o
    → IsTrue (is_start code (start_or o (length code.instructions)))
    ⊎ (start_or o (length code.instructions) ≡ length code.instructions)
end_by code body None e = inr refl
end_by code body (Some f) e =
    inl (any_start code (λ start. start == f.start)
    ∙ either_true (list_any (λ start. start == f.start) code.starts)
    (list_any (λ (g : FunctionBody). g.start == f.start) code.functions) (begins_there code.functions body f e))

pub end_is : (code : Listing) (body : ℕ)
    → IsTrue (is_start code (end_of code body)) ⊎ (end_of code body ≡ length code.instructions)
end_is code body = end_by code body (slice_get code.functions body) refl

closed_by : (code : Listing) (end place : ℕ) (met : Bool) → place ≡ end
    → IsTrue (is_start code end) ⊎ (end ≡ length code.instructions) → IsClosedAt code place met
closed_by code end place met e (inl s) = inl (subst (λ (p : ℕ). IsTrue (is_start code p)) (sym e) s)
closed_by code end place met e (inr s) = inr (inl (e ∙ s))

pub end_closed : (code : Listing) (body place : ℕ) (met : Bool) → place ≡ end_of code body
    → IsClosedAt code place met
end_closed code body place met e = closed_by code (end_of code body) place met e (end_is code body)
