use Rattle.std.proofs.Common.{◌≡◌, ◌+◌, ◌++◌, inr, List, ℕ, length, take, drop, refl, sym, ap, ◌∙◌, subst}
use Rattle.journal_tape.specs.Tape.{MixesAt}
use Rattle.journal_tape.proofs.Contents.{elapses_to}
use Rattle.journal_tape.proofs.Texts.{written_mixes}
use Rattle.journal_tape.proofs.memory_tape.MemoryTapeTape.write_at.Goals as goal

pub returns-in-Ok-replace-clause-crash : goal.returns-in-Ok-replace-clause-crash
returns-in-Ok-replace-clause-crash c =
    let old = c.args.self.now.bytes.items in
    let bytes = c.args.bytes.now in
    let is : c.replace.new.bytes.items ≡ take c.args.at old ++ bytes ++ drop (c.args.at + length bytes) old =
    c.in-Ok-replace.ensures.ok
    ∙ c.in-Ok.ensures
    ∙ ap (λ (l : List ℕ). take c.args.at l ++ bytes ++ drop (c.args.at + length bytes) l) c.deref.ensures.value in
    λ f now. inr (old, refl, written_mixes c.args.at bytes old f c.requires (now ∙ is))

pub returns-in-Ok-replace-clause-time : goal.returns-in-Ok-replace-clause-time
returns-in-Ok-replace-clause-time c =
    let past = c.in-Ok-replace.ensures.past in
    elapses_to c.args.self.now.past.items c.replace.new.past.items past.0 c.args.self.now.bytes.items c.replace.new.bytes.items past.1 past.2
