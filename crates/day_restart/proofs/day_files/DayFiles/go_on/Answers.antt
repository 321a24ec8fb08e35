use Rattle.std.proofs.Common.{◌+◌, length, ap, ◌∙◌, arith}
use Rattle.std.proofs.lemmas.List.{length_push}
use Rattle.day_restart.specs.DayJournal.{GoesBehind}
use Rattle.day_restart.proofs.Places.{zip_more}
use Rattle.day_restart.proofs.day_files.DayFiles.go_on.Goals as goal

pub loop-place-preserved : goal.loop-place-preserved
loop-place-preserved g c =
    let venues = c.args.self.now.venues.items in
    let place = c.loop-place.place in
    let each = c.requires.venues in
    record {
      behind = zip_more (λ f. f.lines) GoesBehind venues c.loop-place.journals.items place c.index-found.result.now
          c.in_ok-behind-in-Ok-2.field-0 c.push-in-Ok-2.new.self.items (omega (arith, c.loop-place-test.true, each))
          c.index-found.ensures c.loop-place.invariant.behind c.in_ok-behind-in-Ok-2.ensures
          c.in_ok-push-in-Ok-2.ensures.items;
      flags = ap length c.in_ok-push-2.ensures.items
          ∙ (length_push c.loop-place.failing.items c.in_ok-clone-2.field-0 ∙ ap (λ n. n + 1) c.loop-place.invariant.flags);
    }
