-- What nothing is read by, where no frame was written.
use Rattle.std.proofs.Common.{Err}
use Rattle.dialect.specs.declared.fault.DialectFault.TheVariants.{NotMarked}
use Rattle.dialect.specs.Wording.{Decoding}

pub no_readers : Decoding
no_readers = record { order = λ fields. Err NotMarked; report = λ fields. Err NotMarked }
