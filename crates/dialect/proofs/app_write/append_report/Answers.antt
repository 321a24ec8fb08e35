use Rattle.std.proofs.Common.{codes, arith}
use Rattle.std.specs.Prelude.{vec_len, vec_capacity}
use Rattle.dialect.proofs.ReportIds.{shorter_ids}
use Rattle.dialect.proofs.StraightFrame.{straight_body, straight_is_some, straight_appended, straight_wanted}
use Rattle.dialect.proofs.app_write.append_report.Goals as goal

pub append_body-requires : goal.append_body-requires
append_body-requires g c =
    let pushed = c.in_ok-push_report.ensures.pushed in
    let fits = (g.met.D.Dialect.is_wording c.args.dialect.now).report_fits c.args.report.now c.args.view.now pushed.0 pushed.1 in
    let header = rw (c.new-body.ensures, c.stamp_bytes-time.ensures) at c.in_ok-push_app_header.ensures.pushed in
    let m = c.args.message.now in
    let stamp = c.args.stamp.now in
    straight_is_some m stamp (codes "8") pushed.0 _
    (straight_body m stamp (codes "8") pushed.0 _ _ c.requires.addressed (omega arith) fits header pushed.2)

pub returns-clause-ok : goal.returns-clause-ok
returns-clause-ok g c =
    let pushed = c.in_ok-push_report.ensures.pushed in
    let fits = (g.met.D.Dialect.is_wording c.args.dialect.now).report_fits c.args.report.now c.args.view.now pushed.0 pushed.1 in
    let header = rw (c.new-body.ensures, c.stamp_bytes-time.ensures) at c.in_ok-push_app_header.ensures.pushed in
    let m = c.args.message.now in
    let stamp = c.args.stamp.now in
    let body = straight_body m stamp (codes "8") pushed.0 _ _ c.requires.addressed (omega arith) fits header pushed.2 in
    straight_appended ((g.D.Dialect.wording c.args.dialect.now).encoding.IsReport c.args.report.now c.args.view.now) m stamp (codes "8") pushed.0 _ c.args.out.now.items
    c.append_body.new.out.items c.append_body.result body pushed.1 c.append_body.ensures.ok

pub returns-clause-full : goal.returns-clause-full
returns-clause-full g c =
    let pushed = c.in_ok-push_report.ensures.pushed in
    let fits = (g.met.D.Dialect.is_wording c.args.dialect.now).report_fits c.args.report.now c.args.view.now pushed.0 pushed.1 in
    let header = rw (c.new-body.ensures, c.stamp_bytes-time.ensures) at c.in_ok-push_app_header.ensures.pushed in
    let m = c.args.message.now in
    let stamp = c.args.stamp.now in
    let body = straight_body m stamp (codes "8") pushed.0 _ _ c.requires.addressed (omega arith) fits header pushed.2 in
    straight_wanted ((g.D.Dialect.wording c.args.dialect.now).encoding.IsReport c.args.report.now c.args.view.now) m stamp (codes "8") pushed.0 _
    (vec_len c.args.out.now) (vec_capacity c.args.out.now) c.append_body.result body pushed.1 c.append_body.ensures.full

pub returns-in_err-push_report-clause-full : goal.returns-in_err-push_report-clause-full
returns-in_err-push_report-clause-full g c =
    let ids = shorter_ids c.args.report.now c.args.view.now c.in_err-push_report.ensures.known in
    absurd (omega (arith, c.in_err-push_report.ensures.full ids))
