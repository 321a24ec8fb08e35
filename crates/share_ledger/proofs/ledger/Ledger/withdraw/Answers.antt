use Rattle.std.proofs.Common.{not, Ok, refl, ap, sym, ◌∙◌, arith}
use Rattle.share_ledger.specs.declared.booked_leg.BookedLeg.{BookedLeg}
use Rattle.share_ledger.specs.Kept.{ledger_seen}
use Rattle.share_ledger.proofs.KeptChanged.{sound_kept}
use Rattle.share_ledger.proofs.KeptWithdrawn.{withdraw_test, withdraw_refused, withdraw_done, withdraw_changes, withdraw_due}
use Rattle.share_ledger.proofs.ledger.Ledger.withdraw.Goals as goal

pub returns-then-is_err-clause-answer : goal.returns-then-is_err-clause-answer
returns-then-is_err-clause-answer c =
    let was = c.in-Some.leg in
    let kept = sym c.leg.ensures.value ∙ c.in-Some.is in
    let test = withdraw_test was.parts c.withdraw.result c.withdraw.new.self c.withdraw.ensures.step
    ∙ ap not (sym c.is_err.ensures.value ∙ c.if-is_err.true) in
    withdraw_refused (ledger_seen c.args.self.now) (sound_kept c.args.self.now c.requires.kept) c.args.id was kept test

pub settle-requires-clause-change : goal.settle-requires-clause-change
settle-requires-clause-change c =
    let was = c.in-Some.leg in
    let kept = sym c.leg.ensures.value ∙ c.in-Some.is in
    let test = withdraw_test was.parts c.withdraw.result c.withdraw.new.self c.withdraw.ensures.step
    ∙ ap not (sym c.is_err.ensures.value ∙ c.if-is_err.false) in
    let now : BookedLeg = record { venue = was.venue; parts = c.withdraw.new.self } in
    withdraw_changes (ledger_seen c.args.self.now)
    (sound_kept c.args.self.now c.requires.kept) c.args.id was kept test now refl
    (ap (λ r. r.1) c.withdraw.ensures.step)

pub settle-requires-clause-room : goal.settle-requires-clause-room
settle-requires-clause-room c =
    let old = c.args.self.now in
    let was = c.in-Some.leg in
    let kept = sym c.leg.ensures.value ∙ c.in-Some.is in
    let test = withdraw_test was.parts c.withdraw.result c.withdraw.new.self c.withdraw.ensures.step
    ∙ ap not (sym c.is_err.ensures.value ∙ c.if-is_err.false) in
    let now : BookedLeg = record { venue = was.venue; parts = c.withdraw.new.self } in
    let range = c.in-Some.ensures.in_range in
    let due = withdraw_due (ledger_seen old) (sound_kept old c.requires.kept) c.args.id was kept test now
    (ap (λ r. r.1) c.withdraw.ensures.step) c.withdraw.ensures.kept (let shares = range.shares in shares.low) in
    let room = c.requires.kept.room in
    omega (arith, due, room)

pub returns-clause-answer : goal.returns-clause-answer
returns-clause-answer c =
    let was = c.in-Some.leg in
    let kept = sym c.leg.ensures.value ∙ c.in-Some.is in
    let test = withdraw_test was.parts c.withdraw.result c.withdraw.new.self c.withdraw.ensures.step
    ∙ ap not (sym c.is_err.ensures.value ∙ c.if-is_err.false) in
    (λ n. (Ok tt, c.settle.ensures.seen n))
    ∙ withdraw_done (ledger_seen c.args.self.now) (sound_kept c.args.self.now c.requires.kept) c.args.id was kept test
