-- Lemmas: what is known where steps met no fault.
use Rattle.std.proofs.Common.{◌≡◌, ℕ, Bool, true, false, List, Option, Some, None, Result, Ok, Err, refl}
use Rattle.std.specs.Option.{ok_or}
use Rattle.fix_text.specs.Then.{◌>>=◌, unless}
use Rattle.fix_text.specs.Tagged.{Tagged}
use Rattle.dialect.specs.declared.fault.DialectFault.{DialectFault}
use Rattle.dialect.specs.declared.fault.DialectFault.TheVariants.{Bad}
use Rattle.dialect.specs.Fields.{required, required_as, ReadsAs}

-- the value of a step that met no fault
pub bind_ok : {A B : Type 0} (r : Result A DialectFault) (f : A → Result B DialectFault) (y : B) → (r >>= f) ≡ Ok y
    → (x : A) × (r ≡ Ok x) × (f x ≡ Ok y)
bind_ok (Ok x) f y e = (x, refl, e)
bind_ok (Err d) f y e = absurd cc

pub step : {A B P : Type 0} (f : A → Result B DialectFault) (r : Result A DialectFault) (y : B) → (r >>= f) ≡ Ok y
    → ((x : A) → r ≡ Ok x → f x ≡ Ok y → P) → P
step f r y e then = let b = bind_ok r f y e in then b.0 b.1 b.2

-- one result
abbrev pub done : {A : Type 0} → A → Result A DialectFault
done x = Ok x

pub same_ok : {A : Type 0} (x y : A) → done x ≡ done y → x ≡ y
same_ok x y e = cc

pub unless_ok : (b : Bool) (fault : DialectFault) (u : Unit {0}) → unless b fault ≡ Ok u → b ≡ true
unless_ok true fault u e = refl
unless_ok false fault u e = cc

pub was_some : {A : Type 0} (o : Option A) (fault : DialectFault) (x : A) → ok_or o fault ≡ Ok x → o ≡ Some x
was_some None fault x e = cc
was_some (Some y) fault x e = cc

-- a field that was there, and read as this
pub required_as-Ok : {A : Type 0} (reads : List ℕ → Option A) (fields : List Tagged) (tag : ℕ) (x : A)
    → required_as reads fields tag ≡ Ok x → ReadsAs reads fields tag x
required_as-Ok reads fields tag x e =
    let b = bind_ok (required fields tag) (λ text. ok_or (reads text) (Bad tag)) x e in
    record { text = b.0; there = was_some _ _ _ b.1; reads_as = was_some _ _ _ b.2 }
