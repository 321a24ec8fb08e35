use Rattle.std.proofs.Common.{◌≡◌, ◌++◌, ◌∷◌, List, ℕ, map, refl, sym, ap, ◌∙◌, arith}
use Rattle.std.specs.Prelude.{Vec}
use Rattle.std.specs.declared.alloc.Global.{Global}
use Rattle.journal_folder.specs.Head.{head_text}
use Rattle.journal_folder.proofs.Files.{none_behind}
use Rattle.journal_folder.proofs.folder_journal.FolderJournal.begin_next.Goals as goal

pub invariant_of-self-2 : goal.invariant_of-self-2
invariant_of-self-2 g c =
    let old = c.args.self.now in
    let new = c.tell_all.new.writer in
    let waits : List (List ℕ) = map (λ (v : Vec ℕ Global). v.items) old.waiting.items in
    let all : new.told.lines.unkept ≡ waits =
    c.in_ok-tell_all.ensures.told
    ∙ ap (λ (l : List (List ℕ)). l ++ map (λ (v : Vec ℕ Global). v.items) c.as_slice-2.result.now) c.in_ok-writer.ensures.unkept
    ∙ ap (λ (l : List (Vec ℕ Global)). map (λ (v : Vec ℕ Global). v.items) l) c.as_slice-2.ensures.value in
    let begins = old.begins in
    let started = old.started in
    record {
      told_is = old.told_is ∙ sym old.waiting_is ∙ sym all;
      waiting_is = sym all;
      counted = old.counted;
      begins = omega (arith, begins, started);
      started = omega arith;
      next_number = record { past = λ less. absurd (omega (arith, less)); here = λ same. refl };
      file_has = c.tell_all.ensures.kept ∙ c.in_ok-writer.ensures.head
          ∙ ap (λ (l : List (List ℕ)). head_text old.next_file.number old.kept old.place.words.now ∷ l)
          (sym (none_behind old.before old.kept old.told.lines.kept old.counted));
    }
