use Rattle.std.proofs.Common.{rules, ◌+◌, List, drop, subst}
use Rattle.std.specs.Io.KnownBytes.{Appends}
use Rattle.std.proofs.lemmas.List.{at_drop_more}
use Rattle.day_rules.specs.declared.sentence.Sentence.{Sentence}
use Rattle.check_command.specs.DayRead.{all_sentences}
use Rattle.check_command.specs.Sentences.{day_read}
use Rattle.check_command.proofs.DayJudged.{ToldSoFar, none_told, one_told}
use Rattle.check_command.proofs.sentences.judge_day.Goals as goal

pub loop-place-init : goal.loop-place-init
loop-place-init g c =
    none_told c.args.printing.now.is_json (day_read c.args.printing.now c.args.day.now c.args.desk.now)
    (g.W.Write.contents c.args.out.now)

pub loop-place-preserved : goal.loop-place-preserved
loop-place-preserved g c =
    let p = c.args.printing.now in
    let d = day_read p c.args.day.now c.args.desk.now in
    let start = g.W.Write.contents c.args.out.now in
    let here = c.loop-place in
    let out = g.W.Write.contents here.out in
    let told = c.in_ok-text.ensures.told in
    one_told p.is_json d _ (drop (here.place + 1) all_sentences) start out (g.W.Write.contents c.print.new.out) here.is_broken
    c.is_broken_by-is_by.result c.in_ok-said.said told.0 c.in_ok-text.text.items (search rules) c.is_broken_by-is_by.ensures told.1
    (subst (Appends out (g.W.Write.contents c.print.new.out)) c.deref-in-loop-place.ensures.value c.in_ok-print.ensures.ok)
    (subst (λ (rest : List Sentence). ToldSoFar p.is_json d rest start out here.is_broken)
    (at_drop_more (λ (rest : List Sentence). rest) all_sentences here.place _ (search rules)) here.invariant)
