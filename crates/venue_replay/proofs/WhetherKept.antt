-- What holds after a call by whether it was refused.
use Rattle.std.proofs.Common.{◌≡◌, true, false, Ok, Err}
use Rattle.std.specs.Prelude.{OnOk, OnErr, Result}
use Rattle.std.specs.Result.{is_err}

pub lost : {T E P : Type 0} (r : Result T E) → is_err r ≡ true → OnErr r P → P
lost (Ok x) is holds = absurd cc
lost (Err e) is holds = holds

pub not_lost : {T E P : Type 0} (r : Result T E) → is_err r ≡ false → OnOk r P → P
not_lost (Ok x) is holds = holds
not_lost (Err e) is holds = absurd cc
