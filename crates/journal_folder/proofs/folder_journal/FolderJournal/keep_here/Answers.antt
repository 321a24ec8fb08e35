use Rattle.std.proofs.Common.{◌≡◌, ◌+◌, ◌-◌, ◌∷◌, List, ℕ, length, map, drop, refl, sym, ap, ◌∙◌, arith}
use Rattle.std.specs.Prelude.{Vec}
use Rattle.std.specs.declared.alloc.Global.{Global}
use Rattle.journal_tape.specs.Told.{LinesTold, all_kept}
use Rattle.journal_folder.specs.Head.{head_text}
use Rattle.journal_folder.proofs.Files.{all_waiting, counted_more, gone_past, kept_behind}
use Rattle.journal_folder.proofs.folder_journal.FolderJournal.keep_here.Goals as goal

pub invariant_of-self : goal.invariant_of-self
invariant_of-self g c =
    let old = c.args.self.now in
    let new = c.keep_lines.new.self in
    let told = old.told.lines in
    let head = head_text old.file old.start old.place.words.now in
    let is : c.all_kept-self.result.lines ≡ all_kept told = c.all_kept-self.ensures in
    let kept_is : new.told.lines ≡ all_kept old.writer.told.lines = c.in-Ok.ensures.kept in
    let count : c.len.result ≡ length old.waiting.items = c.len.ensures ∙ old.waiting.ok.0 in
    let sum_is : c.in-Some.kept ≡ old.kept + length old.waiting.items =
    c.in-Some.ensures.1 ∙ ap (λ (n : ℕ). old.kept + n) count in
    let waits : length told.unkept ≡ length old.waiting.items =
    all_waiting old.waiting.items told.unkept (old.waiting_is ∙ sym old.told_is) in
    let started = old.started in
    record {
      told_is = ap (λ (t : LinesTold). t.unkept) is ∙ sym (ap (λ (t : LinesTold). t.unkept) kept_is);
      waiting_is = ap (λ (l : List (Vec ℕ Global)). map (λ (v : Vec ℕ Global). v.items) l) c.clear.ensures.items
          ∙ sym (ap (λ (t : LinesTold). t.unkept) kept_is);
      counted = sum_is
          ∙ counted_more old.before old.kept (length old.waiting.items) told.kept told.unkept old.counted waits
          ∙ ap (λ (t : LinesTold). old.before + length t.kept) (sym is);
      begins = old.begins;
      started = omega (arith, sum_is, started);
      next_number = gone_past old.next_file.number c.go_past.new.self.number old.file old.start old.kept c.in-Some.kept _
          old.next_number old.started (omega (arith, sum_is)) refl c.go_past.ensures.past c.go_past.ensures.here;
      file_has = ap (λ (t : LinesTold). t.kept) kept_is
          ∙ kept_behind old.before old.start old.kept head told old.writer.told.lines old.begins old.started old.counted
          old.told_is old.file_has
          ∙ ap (λ (t : LinesTold). head ∷ drop (old.start - old.before) t.kept) (sym is);
    }
