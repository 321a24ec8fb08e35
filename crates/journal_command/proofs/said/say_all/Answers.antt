use Rattle.std.proofs.Common.{rules, ◌≡◌, List, ℕ, map, sym, ap, subst}
use Rattle.std.specs.Prelude.{string_bytes}
use Rattle.std.specs.Map.Iter.{deref_pair}
use Rattle.std.proofs.lemmas.Map.Iter.{rest_all, rest_more}
use Rattle.journal_command.specs.Judged.{Says}
use Rattle.journal_command.proofs.Say.{says_all, says_none, says_step}
use Rattle.journal_command.proofs.said.say_all.Goals as goal

pub loop-name-init : goal.loop-name-init
loop-name-init g c =
    let tells = c.args.request.now.tells_lines in
    let all : c.into_iter-name-iterator.result ≡ c.args.journals.now.entries = search rules in
    subst (λ left. Says tells (map (λ j. (string_bytes j.0, j.1)) c.args.journals.now.entries)
    (map (λ j. (string_bytes j.0, j.1)) left) c.new-said.result.text.items c.new-said.result.is_broken) (sym all)
    (says_none tells _ c.new-said.result.text.items c.new-said.result.is_broken c.new-said.ensures.text
    c.new-said.ensures.is_broken)

pub loop-name-preserved : goal.loop-name-preserved
loop-name-preserved g c =
    let more = rest_more deref_pair c.loop-name.name-iterator c.next.new.self c.next.result
    (c.in-Some.name, c.in-Some.last) c.in-Some.is c.next.ensures.steps in
    says_step (λ j. (string_bytes j.0, j.1)) c.args.request.now.tells_lines _ c.loop-name.name-iterator c.next.new.self
    (deref_pair (c.in-Some.name, c.in-Some.last)) c.as_str-in-loop-name.result.now c.in-Some.last.now c.loop-name.said.text.items
    c.say.new.self.text.items c.loop-name.said.is_broken c.say.new.self.is_broken more
    (ap (λ (n : List ℕ). (n, c.in-Some.last.now)) c.as_str-in-loop-name.ensures.value)
    (c.in_ok-say.ensures.said c.in-Some.last.now c.read_journal-read.ensures) c.loop-name.invariant

pub returns-clause-said : goal.returns-clause-said
returns-clause-said g c =
    let none = rest_all deref_pair c.loop-name.name-iterator c.next.new.self c.next.result c.in-None.is
    c.next.ensures.steps in
    says_all (λ j. (string_bytes j.0, j.1)) c.args.request.now.tells_lines _ c.loop-name.name-iterator
    c.loop-name.said.text.items c.loop-name.said.is_broken none c.loop-name.invariant
