use Rattle.std.proofs.Common.{◌≡◌, List, rules, inl, refl, sym, ap, subst, ◌∙◌}
use Rattle.std.specs.Prelude.{Result, Ok, Err, IsOk, IsOkUnless}
use Rattle.std.specs.List.{All}
use Rattle.exec_collector.specs.Booked.{IsKept}
use Rattle.exec_collector.specs.Seats.{Seat, parts_of}
use Rattle.exec_collector.specs.Unbooked.{WereUnbooked}
use Rattle.release_lock.specs.Queues.{AreInOrder, Took}
use Rattle.session_worker.specs.Audit.{AuditedDay, Audits, day_of}
use Rattle.session_worker.specs.Ends.{queues_of, seats_of}
use Rattle.session_worker.specs.declared.audit_fault.AuditFault.{AuditFault}
use Rattle.session_worker.specs.declared.day_report.DayReport.{DayReport}
use Rattle.session_worker.proofs.auditing.audit_opened.Goals as goal

ok_unless : (answer : Result DayReport AuditFault) (fault : AuditFault) → IsOk answer → IsOkUnless answer fault
ok_unless (Ok report) fault ok = tt
ok_unless (Err other) fault ok = absurd cc

pub returns-in-Ok-clause-audits : goal.returns-in-Ok-clause-audits
returns-in-Ok-clause-audits g c =
    let queues : c.in-Ok.queues.items ≡ queues_of c.args.ends.items = search rules in
    let seats : c.in-Ok.seats.items ≡ seats_of c.args.ends.items = search rules in
    let desk = c.args.locked in
    let book = c.args.counted.now.book in
    let unbooked = c.args.counted.now.unbooked in
    let callers = c.args.callers.items in
    let answer = c.audit_of.result in
    let day : AuditedDay callers (queues_of c.args.ends.items) (seats_of c.args.ends.items) answer = record {
      desk = desk;
      book = book;
      desk_replays = c.audit_of.ensures.replays.0;
      book_replays = c.audit_of.ensures.replays.1;
      kept = subst (λ (s : List Seat). All (IsKept book) s) seats c.audit_of.ensures.kept;
      unbooked = unbooked;
      list = c.audit_of.ensures.unbooked.0;
      left = subst (λ (s : List Seat). All (WereUnbooked unbooked) s) seats c.audit_of.ensures.unbooked.1;
      sweeps = c.audit_of.ensures.sweeps;
      placed = c.audit_of.ensures.placed;
      all_placed = c.audit_of.ensures.all_placed;
      audits = subst (λ (q : List Took). Audits (day_of desk book callers q (seats_of c.args.ends.items)) answer) queues
          (subst (λ (s : List Seat). Audits (day_of desk book callers c.in-Ok.queues.items s) answer) seats
          c.audit_of.ensures.audits);
    } in
    inl (day, refl, refl, refl)

pub returns-in-Ok-clause-whole : goal.returns-in-Ok-clause-whole
returns-in-Ok-clause-whole g c =
    let queues : c.in-Ok.queues.items ≡ queues_of c.args.ends.items = search rules in
    let seats : c.in-Ok.seats.items ≡ seats_of c.args.ends.items = search rules in
    λ order shares some callers. ok_unless c.audit_of.result _
    (c.audit_of.ensures.whole (subst AreInOrder (sym queues) order) (ap parts_of seats ∙ shares) some callers)
