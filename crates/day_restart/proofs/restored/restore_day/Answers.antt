use Rattle.std.proofs.Common.{ℕ, List, ◌≡◌, ◌++◌, drop, length, map, take, refl, ap, sym, subst, ◌∙◌, arith}
use Rattle.std.proofs.lemmas.List.{length-map}
use Rattle.release_lock.specs.Noted.{numbers_from}
use Rattle.session_worker.specs.Restoring.{StartParts, TakesMore}
use Rattle.day_restart.specs.Placing.{AllTakeMore, parts_of}
use Rattle.day_restart.specs.Redoing.{AllEnd, AllRedo, Ends}
use Rattle.day_restart.specs.Restored.{AllGoOn, Past, legs_in, up_to_most}
use Rattle.day_restart.specs.Told.{IsToldOf}
use Rattle.day_restart.proofs.Places.{all_go_on, written, zip_long}
use Rattle.day_restart.proofs.Sweeps.{noted_again, one_each}
use Rattle.day_restart.proofs.restored.restore_day.Goals as goal

pub returns-clause-noted : goal.returns-clause-noted
returns-clause-noted g c = (
  refl,
  noted_again c.args.names.now (map (λ l. l.items) c.args.lines.now) c.place_again.new.desk.desk
      (parts_of c.in_ok-again.again) c.in_ok-again.ensures.placed
      ∙ ap (numbers_from 1) (sym c.lower_all.ensures),
)

pub returns-clause-starts : goal.returns-clause-starts
returns-clause-starts g c =
    let pasts : List Past =
    map (λ p. ((g.D.Dialect.wording p.dialect).decoding, map (λ l. l.items) p.lines.now)) c.args.pasts.now in
    let first : List StartParts = c.args.starts.items in
    let n = c.args.starts.len in
    let was : List StartParts = c.place_again.new.starts in
    let now : List StartParts = c.redo_all.new.starts in
    let ends : List StartParts = c.end_each.new.starts in
    let count : length first ≡ n = omega (arith, c.args.starts.ok.0) in
    let takes : AllTakeMore first was =
    subst (λ l. AllTakeMore l was) c.as_mut_slice.ensures.value c.in_ok-again.ensures.starts in
    let was_long : length was ≡ n = zip_long TakesMore first was takes ∙ count in
    let then_was = drop (length was) first in
    let back : take n (was ++ then_was) ≡ was = written n was then_was was_long in
    let redo : AllRedo pasts was now =
    subst (λ l. AllRedo pasts l now) (c.as_mut_slice-2.ensures.value ∙ back) c.in_ok-redo_all.ensures.redo in
    let now_long : length now ≡ n = redo.after_each ∙ was_long in
    let then_now = drop (length now) (take n (was ++ then_was)) in
    let back_2 : take n (now ++ then_now) ≡ now = written n now then_now now_long in
    let ended : AllEnd now ends =
    subst (λ l. AllEnd l ends) (c.as_mut_slice-3.ensures.value ∙ back_2) c.in_ok-end_each.ensures.ended in
    let ends_long : length ends ≡ n = zip_long Ends now ends ended ∙ now_long in
    let then_ends = drop (length ends) (take n (now ++ then_now)) in
    let back_3 : take n (ends ++ then_ends) ≡ ends = written n ends then_ends ends_long in
    subst (λ l. AllGoOn pasts first l) (sym back_3)
    (all_go_on pasts first was now ends
    (c.requires.each ∙ sym (length-map c.args.pasts.now
    (λ p. ((g.D.Dialect.wording p.dialect).decoding, map (λ l. l.items) p.lines.now))))
    c.requires.starts takes redo ended)

pub returns-clause-told : goal.returns-clause-told
returns-clause-told g c =
    let are = c.in_ok-again.ensures.placed in
    let lines : List (List ℕ) = map (λ l. l.items) c.args.lines.now in
    let venues : List (List ℕ) = map (λ p. p.name.now) c.args.pasts.now in
    let starts : List StartParts = c.as_slice-4.result.now in
    let told = c.in_ok-told.told in
    let sweeps : length c.args.lines.now ≡ length are.submissions =
    sym (length-map c.args.lines.now (λ l. l.items)) ∙ one_each c.args.names.now 1 lines are.submissions are.said in
    let legs : IsToldOf venues starts (length c.args.lines.now) (up_to_most (legs_in are.submissions)) told =
    subst (λ legs. IsToldOf venues starts (length c.args.lines.now) legs told) are.legs c.in_ok-told.ensures in
    let both : IsToldOf venues starts (length are.submissions) (up_to_most (legs_in are.submissions)) told =
    subst (λ n. IsToldOf venues starts n (up_to_most (legs_in are.submissions)) told) sweeps legs in
    record {
      submissions = are.submissions;
      said = are.said;
      entries = are.entries;
      shares_are = are.shares;
      said_of = subst (λ l. IsToldOf venues l (length are.submissions) (up_to_most (legs_in are.submissions)) told)
          c.as_slice-4.ensures.value both;
    }
