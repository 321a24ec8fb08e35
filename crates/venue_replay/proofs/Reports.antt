-- The reports among own numbers, in the words of the exchange and of the world.
use Rattle.std.proofs.Common.{◌≡◌, List, [], ◌∷◌, refl, ap}
use Rattle.dialect.specs.declared.report.Report.{Report}
use Rattle.exchange_core.specs.declared.sent_record.SentRecord.{SentRecord}
use Rattle.exchange_core.specs.declared.sent_record.SentRecord.TheVariants.{Admin, Reported, Refused}
use Rattle.exchange_core.specs.Kept.{reports_of}
use Rattle.schedule.specs.World.{reports_in}

pub reports_same : (own : List SentRecord) → reports_of own ≡ reports_in own
reports_same [] = refl
reports_same (Admin ∷ own) = reports_same own
reports_same (Refused number ∷ own) = reports_same own
reports_same (Reported report view ∷ own) = ap (λ (reports : List Report). report ∷ reports) (reports_same own)
