-- What an answer that is Ok says of the definition's, and what is handed on that is Err.
use Rattle.std.proofs.Common.{◌≡◌, Result, Ok, Err, ap}
use Rattle.std.specs.Prelude.{IsErr, IsErrAnd}
use Rattle.leg.specs.Answering.{Answers}

pub answered : {X F S : Type 0} (wanting : F) (before : S) (step : Result X F × S) (x : X) (now : S) →
    Answers wanting before step (Ok x) now → (Ok x ≡ step.0) × (now ≡ step.1)
answered wanting before (Ok y, after) x now h = (ap (λ z. Ok z) h.0, h.1)
answered wanting before (Err fault, after) x now h = let never = h.0 in absurd cc

pub err_is : {X F : Type 0} (result : Result X F) (fault : F) →
    IsErr result → IsErrAnd result (λ e. e ≡ fault) → result ≡ Err fault
err_is (Ok x) fault e is = absurd is
err_is (Err f) fault e is = ap (λ z. Err z) is
