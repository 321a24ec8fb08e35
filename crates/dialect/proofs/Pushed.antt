-- Fields that are pushed are such as a dialect may write.
use Rattle.std.proofs.Common.{List}
use Rattle.std.specs.Prelude.{Result, Ok, Err}
use Rattle.std.specs.declared.alloc.AllocError.{AllocError}
use Rattle.fix_text.specs.Tagged.{Tagged}
use Rattle.fix_text.specs.Sink.{TakingOf, Pushes}
use Rattle.dialect.specs.Dialect.{PushesSuch}

pub pushes_such : {S : Type 0} (Takes : TakingOf S) (Holds : List Tagged → Type 0) (fields : List Tagged) (old new : S)
    (result : Result (Unit {0}) AllocError) → Holds fields → Pushes Takes fields old new result
    → PushesSuch Takes Holds old new result
pushes_such Takes Holds fields old new (Ok done) holds pushed = (fields, holds, pushed)
pushes_such Takes Holds fields old new (Err fault) holds pushed = pushed
