-- Results of which only good ones are spoken of.
use Rattle.std.proofs.Common.{Result, Ok, Err, IfOk}

-- what holds of each value of a result
pub if_ok : {X E : Type 0} (P Q : X → Type 0) (given : Result X E) → IfOk given P → ((x : X) → P x → Q x)
    → IfOk given Q
if_ok P Q (Ok x) holds each = each x holds
if_ok P Q (Err e) holds each = tt
