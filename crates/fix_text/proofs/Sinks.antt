-- What is pushed to a sink behind what it took before.
use Rattle.std.proofs.Common.{◌≡◌, List, ◌++◌}
use Rattle.std.specs.Prelude.{Result, Ok, Err, IsErrAnd}
use Rattle.std.specs.declared.alloc.AllocError.{AllocError}
use Rattle.fix_text.specs.Tagged.{Tagged}
use Rattle.fix_text.specs.Sink.{TakingOf, Grows, Pushes}

-- fields that are taken one after another stand one behind the other
abbrev pub TakesMore : {S : Type 0} → TakingOf S → Type 0
TakesMore {S = S} Takes = (a b c : S) (xs ys : List Tagged) → Takes a b xs → Takes b c ys → Takes a c (xs ++ ys)

pub grows_on : {S : Type 0} (Takes : TakingOf S) (more : TakesMore Takes) (a b c : S) (xs : List Tagged) → Takes a b xs
    → Grows Takes b c → Grows Takes a c
grows_on Takes more a b c xs first then = (xs ++ then.0, more a b c xs then.0 first then.1)

pub pushes_on : {S : Type 0} (Takes : TakingOf S) (more : TakesMore Takes) (a b c : S) (xs ys : List Tagged)
    (r : Result (Unit {0}) AllocError) → Takes a b xs → Pushes Takes ys b c r → Pushes Takes (xs ++ ys) a c r
pushes_on Takes more a b c xs ys (Ok done) first then = more a b c xs ys first then
pushes_on Takes more a b c xs ys (Err fault) first then = grows_on Takes more a b c xs first then

-- a call that is refused pushes no more than what it took before
pub pushes_none : {S : Type 0} (Takes : TakingOf S) (a c : S) (fields : List Tagged) (Why : AllocError → Type 0)
    (r : Result (Unit {0}) AllocError) → IsErrAnd r Why → Grows Takes a c → Pushes Takes fields a c r
pushes_none Takes a c fields Why (Ok done) failed grown = absurd failed
pushes_none Takes a c fields Why (Err fault) failed grown = grown
