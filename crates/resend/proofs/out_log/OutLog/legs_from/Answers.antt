use Rattle.resend.specs.Kept.{kept_legs}
use Rattle.resend.specs.declared.sent.Sent.{Sent}
use Rattle.std.proofs.Common.{nat_lt, drop, length, ap, ◌∙◌, arith}
use Rattle.std.proofs.lemmas.List.{length-map}
use Rattle.resend.proofs.Leading.{leading-le}
use Rattle.resend.proofs.Looking.{doubts_rise, doubt_from-found}
use Rattle.resend.proofs.out_log.OutLog.legs_from.Goals as goal

pub doubts_below-place-requires : goal.doubts_below-place-requires
doubts_below-place-requires c = rw (c.as_slice-window.ensures.value, c.self.invariant.0.in_doubt) (doubts_rise 0 0 _ _ c.self.invariant.0.rising)

pub after-requires : goal.after-requires
after-requires c = omega (arith, leading-le (λ (sent : Sent). nat_lt sent.number c.args.number) c.as_slice-window.result.now, c.doubts_below-place.ensures)

pub returns-in-Ok-clause-ok : goal.returns-in-Ok-clause-ok
returns-in-Ok-clause-ok c =
    let log = c.self.inside in
    rw (← c.self.view_is, doubt_from-found c.args.number log.last (kept_legs log.ids.items log.window.items log.runs.items) _ _ c.self.invariant.0.rising (c.as_slice-window.ensures.value ∙ c.self.invariant.0.in_doubt) c.doubts_below-place.ensures)
    (rw c.after.ensures at c.in-Ok.ensures.ok)

pub returns-in-Err-clause-some : goal.returns-in-Err-clause-some
returns-in-Err-clause-some c =
    let log = c.self.inside in
    let legs = kept_legs log.ids.items log.window.items log.runs.items in
    let in_doubt = c.as_slice-window.ensures.value ∙ c.self.invariant.0.in_doubt in
    let rising = c.self.invariant.0.rising in
    let found = doubt_from-found c.args.number log.last legs _ _ rising in_doubt c.doubts_below-place.ensures in
    let behind = drop c.doubts_below-place.result c.as_slice-window.result.now in
    let as_many = length-map behind (λ (sent : Sent). sent.id) in
    rw (← c.self.view_is)
    (omega (arith, c.in-Err.ensures.some, ap length c.after.ensures, ap length found, as_many))
