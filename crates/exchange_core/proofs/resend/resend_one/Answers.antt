use Rattle.std.proofs.Common.{true, All, sym, subst}
use Rattle.dialect.specs.Writable.{IsWritable}
use Rattle.dialect.specs.declared.content.Content.TheVariants.{Session}
use Rattle.fix_tags.specs.declared.session_body.SessionBody.TheVariants.{Reject}
use Rattle.exchange_core.specs.SentRecord.{closing_fill, execution_report, again}
use Rattle.exchange_core.specs.Resending.{resent_one}
use Rattle.exchange_core.proofs.Writing.{writable_last}
use Rattle.exchange_core.proofs.resend.resend_one.Goals as goal

pub write-requires : goal.write-requires
write-requires g c =
    subst IsWritable (sym c.report_to_peer-outgoing.ensures)
    (writable_last (closing_fill c.args.config.now c.args.run c.args.number)
    (execution_report c.args.config.now c.args.number true c.in-Reported.report c.in-Reported.view)
    (subst (λ entry. All IsWritable (resent_one c.args.config.now c.args.run c.args.number entry)) c.in-Reported.is
    c.requires))

pub write-requires-in-Refused : goal.write-requires-in-Refused
write-requires-in-Refused g c =
    subst IsWritable (sym c.to_peer-outgoing.ensures)
    (writable_last (closing_fill c.args.config.now c.args.run c.args.number)
    (again c.args.config.now c.args.number (Session (Reject c.in-Refused.refused)))
    (subst (λ entry. All IsWritable (resent_one c.args.config.now c.args.run c.args.number entry)) c.in-Refused.is
    c.requires))
