use Rattle.std.proofs.Common.{◌+◌, ℕ, rules, ap, take}
use Rattle.std.proofs.lemmas.List.{take_all}
use Rattle.session_core.specs.Session.{new_session}
use Rattle.journal_log.specs.Logged.{AddsLine}
use Rattle.journal_log.proofs.Printed.{Waits, none_waits, one_waits, printed_all, prints_log, refused, stops_at}
use Rattle.journal_log.proofs.printing.print_lines.Goals as goal
use Rattle.journal_log.proofs.printing.print_lines.Goals.{then-len-gt-MOST_WAITING+in_ok-print, else-len-gt-MOST_WAITING}

pub loop-line-init : goal.loop-line-init
loop-line-init g c = (
  search rules,
  none_waits (g.D.Dialect.wording c.args.dialect.now) (new_session c.args.config) c.new-session.result c.args.head.now
      c.extend_from_slice.new.self.items (g.W.Write.contents c.args.out.now) c.new-session.ensures (search rules),
)

pub loop-line-preserved : goal.loop-line-preserved
loop-line-preserved g c =
    let w = g.D.Dialect.wording c.args.dialect.now in
    let s = new_session c.args.config in
    let out = g.W.Write.contents c.args.out.now in
    let adds : AddsLine w c.loop-line.session c.line-item.result.items c.loop-line.log.items c.log_line.new.log.items
    c.log_line.new.self = rw (← c.as_slice.ensures.value) c.in-Ok.ensures in
    let waits = one_waits w s c.loop-line.session c.log_line.new.self c.args.head.now c.args.lines.now c.line-item.result
    c.loop-line.line-index c.loop-line.log.items c.log_line.new.log.items out (g.W.Write.contents c.loop-line.out)
    c.loop-line-test.true c.line-item.is c.loop-line.invariant.1 adds in
    elim c.if-len-gt-MOST_WAITING.branch [
      | then-len-gt-MOST_WAITING+in_ok-print b ↦ (
        ap (λ (n : ℕ). n + 1) c.loop-line.invariant.0,
        rw (b.out-is, b.log-is)
            (printed_all w s c.log_line.new.self c.args.head.now c.log_line.new.log.items b.clear.new.self.items
            (take (c.loop-line.line-index + 1) c.args.lines.now) out (g.W.Write.contents c.loop-line.out)
            (g.W.Write.contents b.print-then-len-gt-MOST_WAITING.new.out) waits
            (rw (← b.deref-then-len-gt-MOST_WAITING.ensures.value) b.in_ok-print.ensures.ok) (search rules)),
      )
      | else-len-gt-MOST_WAITING b ↦ (
        ap (λ (n : ℕ). n + 1) c.loop-line.invariant.0,
        rw (b.out-is, b.log-is) waits,
      )
    ]

pub returns-in_default : goal.returns-in_default
returns-in_default g c =
    let w = g.D.Dialect.wording c.args.dialect.now in
    let s = new_session c.args.config in
    let out = g.W.Write.contents c.args.out.now in
    let no = refused c.as_slice.result.now c.loop-line.log.items c.log_line.new.log.items c.in-Err.why
    c.in_default.not-OutOfMemory c.in-Err.ensures in
    stops_at w s c.loop-line.session c.args.head.now c.loop-line.log.items c.args.lines.now c.line-item.result
    c.loop-line.line-index (c.loop-line.number + 1) c.in-Err.why out (g.W.Write.contents c.loop-line.out)
    (g.W.Write.contents c.print.new.out) c.loop-line-test.true c.line-item.is
    (ap (λ (n : ℕ). n + 1) c.loop-line.invariant.0) (rw (← c.as_slice.ensures.value) no.0) c.loop-line.invariant.1
    (rw (← no.1, ← c.deref.ensures.value) c.in_ok-print-in_default.ensures.ok)

pub returns : goal.returns
returns g c =
    let w = g.D.Dialect.wording c.args.dialect.now in
    let s = new_session c.args.config in
    let out = g.W.Write.contents c.args.out.now in
    let waits : Waits w s c.args.head.now c.args.lines.now c.loop-line.log.items c.loop-line.session out
    (g.W.Write.contents c.loop-line.out) =
    rw (← take_all c.loop-line.line-index c.args.lines.now c.loop-line-test.false) c.loop-line.invariant.1 in
    prints_log w s c.loop-line.session c.args.head.now c.loop-line.log.items c.args.lines.now out
    (g.W.Write.contents c.loop-line.out) (g.W.Write.contents c.print-2.new.out) waits
    (rw (← c.deref-2.ensures.value) c.in_ok-print-2.ensures.ok)
