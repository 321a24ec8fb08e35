use Rattle.std.proofs.Common.{ap, sym, ◌∙◌, subst}
use Rattle.sweep_release.specs.History.{without_room}
use Rattle.sweep_release.specs.Place.{kept, place_kept, PlaceAnswers}
use Rattle.sweep_release.proofs.Answered.{err_is}
use Rattle.sweep_release.proofs.PlaceAnswered.{desk_answers, book_answers, both_answer}
use Rattle.sweep_release.proofs.PlaceWanting.{desk_wanting, book_wanting, both_wanting}
use Rattle.sweep_release.proofs.placement.place.Goals as goal

pub returns-in_err-ready-clause-answer : goal.returns-in_err-ready-clause-answer
returns-in_err-ready-clause-answer c =
    let before = kept c.args.desk.now c.args.book.now in
    let legs = c.args.sweep.legs in
    let handed_on = err_is c.from_residual.result _ c.from_residual.ensures.0 c.from_residual.ensures.1 in
    subst (λ r. PlaceAnswers before (place_kept before legs) r (kept c.ready.new.self c.args.book.now)) (sym handed_on)
    (desk_answers before legs _ (without_room c.ready.new.self) c.in_err-ready.ensures.answer)

pub returns-in_err-open_sweep-clause-answer : goal.returns-in_err-open_sweep-clause-answer
returns-in_err-open_sweep-clause-answer c =
    let before = kept c.args.desk.now c.args.book.now in
    let legs = c.args.sweep.legs in
    let from = c.from_residual-in_err-open_sweep in
    let handed_on = err_is from.result _ from.ensures.0 from.ensures.1 in
    subst (λ r. PlaceAnswers before (place_kept before legs) r (kept c.ready.new.self c.open_sweep.new.self)) (sym handed_on)
    (book_answers before legs (without_room c.ready.new.self) c.next_number.result _ c.open_sweep.new.self tt
    c.in_ok-ready.ensures.answer c.next_number.ensures.value c.in_err-open_sweep.ensures)

pub returns-clause-answer : goal.returns-clause-answer
returns-clause-answer c =
    both_answer (kept c.args.desk.now c.args.book.now) c.args.sweep.legs
    (without_room c.ready.new.self) (without_room c.release.new.self)
    c.next_number.result c.release.result c.open_sweep.new.self tt tt
    c.in_ok-ready.ensures.answer c.next_number.ensures.value c.in_ok-open_sweep.ensures
    c.release.ensures.answer (c.release.ensures.reserved c.in_ok-ready.ensures.reserved)

pub returns-in_err-ready-clause-there : goal.returns-in_err-ready-clause-there
returns-in_err-ready-clause-there c = λ room wants.
    let handed_on = err_is c.from_residual.result _ c.from_residual.ensures.0 c.from_residual.ensures.1 in
    let said = c.in_err-ready.ensures.there room in
    let same = sym handed_on ∙ wants in
    absurd (desk_wanting c.args.desk.now.desk c.args.sweep.legs _ said cc)

pub returns-in_err-open_sweep-clause-there : goal.returns-in_err-open_sweep-clause-there
returns-in_err-open_sweep-clause-there c = λ room wants.
    let from = c.from_residual-in_err-open_sweep in
    let handed_on = err_is from.result _ from.ensures.0 from.ensures.1 in
    let same = sym handed_on ∙ wants in
    book_wanting (kept c.args.desk.now c.args.book.now) c.args.sweep.legs (without_room c.ready.new.self)
    c.next_number.result _ c.open_sweep.new.self tt c.in_ok-ready.ensures.answer c.next_number.ensures.value
    c.in_err-open_sweep.ensures cc

pub returns-clause-there : goal.returns-clause-there
returns-clause-there c = λ room wants.
    absurd (both_wanting (kept c.args.desk.now c.args.book.now) c.args.sweep.legs (without_room c.ready.new.self)
    c.release.result tt c.in_ok-ready.ensures.answer (c.release.ensures.reserved c.in_ok-ready.ensures.reserved) wants)
