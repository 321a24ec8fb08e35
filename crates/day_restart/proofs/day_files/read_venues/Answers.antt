use Rattle.std.proofs.Common.{◌≡◌, ◌∙◌, ◌+◌, ◌∷◌, List, ℕ, length, map, ap, subst, arith}
use Rattle.std.specs.Prelude.{string_bytes}
use Rattle.std.proofs.lemmas.List.{length_push}
use Rattle.journal_folder.specs.Reads.{ReadAs}
use Rattle.day_restart.specs.Files.{HasWords}
use Rattle.day_restart.proofs.Opened.{found_more, names_more}
use Rattle.day_restart.proofs.Places.{zip_more}
use Rattle.day_restart.proofs.day_files.read_venues.Goals as goal

pub loop-place-preserved : goal.loop-place-preserved
loop-place-preserved g c =
    let so_far = c.loop-place.invariant in
    let place = c.loop-place.place in
    let found = c.in-Ok.lines in
    let read = c.in-Ok.ensures in
    let pushed = c.in_ok-push-in-Ok.ensures.items in
    let each = c.requires.names in
    let old : List ReadAs = c.loop-place.folder.reads.journals in
    record {
      long = ap length pushed
          ∙ (length_push c.loop-place.found.items found ∙ ap (λ n. n + 1) so_far.long);
      names = names_more (λ v. v.name) c.args.venues.now place c.index-venues-place.result _ _ _ c.loop-place-test.true
          c.index-venues-place.is so_far.names
          (ap (map (λ (r : ReadAs). r.name)) read.1
          ∙ ap (λ (n : List ℕ). n ∷ map (λ (r : ReadAs). r.name) old) c.as_str.ensures);
      found = found_more found c.loop-place.found.items c.push.new.self.items _ _ _ so_far.found
          (ap (map (λ (r : ReadAs). r.found)) read.1) pushed;
      words = zip_more string_bytes HasWords c.args.names.now.venues.items c.loop-place.found.items place c.index.result.now
          found c.push.new.self.items (omega (arith, c.loop-place-test.true, each)) c.index.ensures so_far.words
          (subst (λ (w : List ℕ). HasWords w found) c.as_str-in-loop-place.ensures.value read.0) pushed;
    }
