use Rattle.std.proofs.Common.{sym, arith}
use Rattle.resend.specs.Log.Entry.{Admin}
use Rattle.resend.specs.Kept.{entries, kept_legs}
use Rattle.resend.proofs.Kept.{length-entries, push-ok, push-spent, entries-admin, rising-later, last_ordinal-admin}
use Rattle.resend.proofs.out_log.OutLog.push_admin.Goals as goal

pub returns-then-number-self : goal.returns-then-number-self
returns-then-number-self c =
    let log = c.self.inside in
    rw (← c.self.view_is) (sym (push-spent log.max_number Admin (entries log.last (kept_legs log.ids.items log.window.items log.runs.items)) log.last (length-entries log.last (kept_legs log.ids.items log.window.items log.runs.items)) c.if-number-self.true))

pub invariant_of-self : goal.invariant_of-self
invariant_of-self c = let log = c.self.inside in (
  record {
    fits = omega arith;
    rising = rising-later 0 0 _ _ _ (omega arith) c.self.invariant.0.rising;
    ordinal_is = last_ordinal-admin log.last (kept_legs log.ids.items log.window.items log.runs.items) log.last_ordinal c.self.invariant.0.rising c.self.invariant.0.ordinal_is;
    in_doubt = c.self.invariant.0.in_doubt;
  },
  c.self.invariant.1,
)

pub returns : goal.returns
returns c =
    let log = c.self.inside in
    rw (← c.self.view_is, entries-admin log.last (kept_legs log.ids.items log.window.items log.runs.items) c.self.invariant.0.rising)
    (sym (push-ok log.max_number Admin (entries log.last (kept_legs log.ids.items log.window.items log.runs.items)) log.last (length-entries log.last (kept_legs log.ids.items log.window.items log.runs.items)) c.if-number-self.false))
