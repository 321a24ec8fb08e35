use Rattle.fix_text.proofs.Waits.{fed_keeps}
use Rattle.fix_text.proofs.reader.FrameReader.feed.Goals as goal

pub invariant_of-self : goal.invariant_of-self
invariant_of-self c =
    let keeps = c.self.invariant in
    fed_keeps _ _ 64 _ _ _ _ c.args.bytes.now keeps.0 c.feed.result c.feed.ensures.ok c.feed.ensures.err c.feed.ensures.room c.feed.ensures.no_less keeps.1 keeps.2 keeps.3
