use Rattle.std.proofs.Common.{List, ◌+◌, refl, sym, ap, ◌∙◌, arith}
use Rattle.leg.specs.declared.leg_state.LegState.TheVariants.{Doubt}
use Rattle.resend.specs.declared.numbered_id.NumberedId.{NumberedId}
use Rattle.resend.specs.Kept.{entries, kept_legs}
use Rattle.resend.proofs.Kept.{length-entries, answers-ok, answers-spent, answers-wanting, last_ordinal-entries, last_ordinal-leg, rising-push, entries-leg, doubts-push}
use Rattle.resend.specs.Runs.{joined}
use Rattle.resend.proofs.SettledRuns.{singles_doubt}
use Rattle.resend.proofs.RunsKept.{on_ok, room_pushed}
use Rattle.resend.proofs.Standing.{pushed_said}
use Rattle.resend.proofs.out_log.OutLog.push_leg.Goals as goal

pub returns-then-number-self : goal.returns-then-number-self
returns-then-number-self c =
    let log = c.self.inside in
    rw (← c.self.view_is) (answers-spent log.max_number _ (entries log.last (kept_legs log.ids.items log.window.items log.runs.items)) log.last (length-entries log.last (kept_legs log.ids.items log.window.items log.runs.items)) c.if-number-self.true)

pub returns-then-is_err : goal.returns-then-is_err
returns-then-is_err c =
    let log = c.self.inside in
    rw (← c.self.view_is)
    (answers-wanting log.max_number _ (entries log.last (kept_legs log.ids.items log.window.items log.runs.items)) log.last (length-entries log.last (kept_legs log.ids.items log.window.items log.runs.items)) _ c.if-number-self.false
    (ap (λ (ids : List NumberedId). entries log.last (kept_legs ids log.window.items log.runs.items)) c.reserve.ensures.items))

pub returns-then-is_err-2 : goal.returns-then-is_err-2
returns-then-is_err-2 c =
    let log = c.self.inside in
    rw (← c.self.view_is)
    (answers-wanting log.max_number _ (entries log.last (kept_legs log.ids.items log.window.items log.runs.items)) log.last (length-entries log.last (kept_legs log.ids.items log.window.items log.runs.items)) _ c.if-number-self.false
    (rw (c.reserve.ensures.items, c.reserve-2.ensures.items) refl))

pub returns-then-is_err-3 : goal.returns-then-is_err-3
returns-then-is_err-3 c =
    let log = c.self.inside in
    rw (← c.self.view_is)
    (answers-wanting log.max_number _ (entries log.last (kept_legs log.ids.items log.window.items log.runs.items)) log.last (length-entries log.last (kept_legs log.ids.items log.window.items log.runs.items)) _ c.if-number-self.false
    (rw (c.reserve.ensures.items, c.reserve-2.ensures.items, c.reserve-3.ensures.items) refl))

pub invariant_of-self-2 : goal.invariant_of-self-2
invariant_of-self-2 c =
    let log = c.self.inside in
    let legs = (kept_legs log.ids.items log.window.items log.runs.items) in
    let above = rw (← c.self.view_is, last_ordinal-entries log.last legs c.self.invariant.0.rising) at c.requires in
    let rises = rising-push log.last legs (record { ordinal = c.args.ordinal; id = c.args.id; state = Doubt }) c.self.invariant.0.rising above in
    let said = pushed_said (log.last + 1) (log.last + 1) c.args.ordinal c.args.id log.ids.items log.window.items log.runs.items rises c.self.invariant.0.in_doubt c.self.invariant.1.settled in
    rw (c.push_reserved.ensures.items, c.push_reserved-2.ensures.items, c.reserve.ensures.items, c.reserve-2.ensures.items, c.reserve-3.ensures.items, said) (
      record {
        fits = omega arith;
        rising = rises;
        ordinal_is = last_ordinal-leg log.last legs (record { ordinal = c.args.ordinal; id = c.args.id; state = Doubt }) rises;
        in_doubt = doubts-push log.window.items legs _ _ _ c.self.invariant.0.in_doubt;
      },
      record {
        settled = c.self.invariant.1.settled ∙ ap joined (sym (singles_doubt legs _ _ refl));
        kept = c.self.invariant.1.kept;
        room = room_pushed log.window.items _ _ _ _ (on_ok _ _ c.reserve-3.ensures.ok (sym c.is_err-3.ensures.value ∙ c.if-is_err-3.false)) (omega (arith, c.len.ensures, c.reserve-2.ensures.len, log.window.ok.0));
      },
    )

pub returns : goal.returns
returns c =
    let log = c.self.inside in
    let legs = (kept_legs log.ids.items log.window.items log.runs.items) in
    let above = rw (← c.self.view_is, last_ordinal-entries log.last legs c.self.invariant.0.rising) at c.requires in
    let rises = rising-push log.last legs (record { ordinal = c.args.ordinal; id = c.args.id; state = Doubt }) c.self.invariant.0.rising above in
    let said = pushed_said (log.last + 1) (log.last + 1) c.args.ordinal c.args.id log.ids.items log.window.items log.runs.items rises c.self.invariant.0.in_doubt c.self.invariant.1.settled in
    let more = entries-leg log.last legs c.args.ordinal c.args.id c.self.invariant.0.rising (omega (arith, above)) in
    rw (← c.self.view_is, c.push_reserved.ensures.items, c.push_reserved-2.ensures.items, c.reserve.ensures.items, c.reserve-2.ensures.items, c.reserve-3.ensures.items, said, more)
    (answers-ok log.max_number _ (entries log.last legs) log.last (length-entries log.last legs) c.if-number-self.false)
