use Rattle.std.proofs.Common.{◌≡◌, ◌≤◌, List, length, sym, subst}
use Rattle.std.specs.List.{AllByRecursion}
use Rattle.dialect.specs.declared.words.Extra.{Extra}
use Rattle.dialect.specs.Words.{extra_of}
use Rattle.dialect.specs.Lemmas.WordedLaws.{are_taken, beside, extra_values}
use Rattle.dialect.proofs.worded.WordedSpelling.push_extra.Goals as goal

pub push_extra-requires : goal.push_extra-requires
push_extra-requires g c =
    let w = c.self.inside.words in
    let short = (beside w.mark_tag (extra_of w) (are_taken w c.self.invariant).extra).short in
    subst (λ (es : List Extra). AllByRecursion (λ (e : Extra). length e.value.items ≤ 24) es)
    (sym c.as_slice.ensures.value) (extra_values w.extra.items short)
