use Rattle.journal_command.proofs.Say.{broken_said}
use Rattle.journal_command.proofs.said.Said.say.Goals as goal

pub returns-in_ok-say_broken-in-Err-clause-said : goal.returns-in_ok-say_broken-in-Err-clause-said
returns-in_ok-say_broken-in-Err-clause-said c = λ files said.
    broken_said c.args.request.now.tells_lines c.args.self.now.text.items c.add_title.new.text.items
    c.say_broken.new.self.text.items c.args.name.now c.args.read c.in-Err.fault c.args.self.now.is_broken
    c.say_broken.new.self.is_broken c.in-Err.is c.in_ok-add_title.ensures c.in_ok-say_broken-in-Err.ensures.text
    c.in_ok-say_broken-in-Err.ensures.broken files said
