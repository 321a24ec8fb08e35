-- An entry that is noted stands behind the others, and none of these has its reference.
use Rattle.std.proofs.Common.{◌≡◌, List, ◌++◌, ◌∷◌, [], None, ◌∙◌, sym, subst, ap}
use Rattle.std.specs.Str.{bytes_eq}
use Rattle.indexmap.proofs.CallerLemmas.{insert_entry-new}
use Rattle.sweep_refs.specs.Placed.{AreDistinct, Entry, RefBookParts, placed_under}
use Rattle.sweep_refs.proofs.Distinct.{distinct_push}
use Rattle.sweep_refs.proofs.ref_book.RefBook.note.Goals as goal

-- the entries as they were, by the fields
were : (c : goal.Joined-unwrap) → c.self.inside.placed.entries ≡ c.args.self.now.placed
were c = ap (λ (book : RefBookParts). book.placed) c.self.view_is

-- and the new ones
added : (c : goal.Joined-unwrap)
    → c.insert.new.self.entries ≡ c.self.inside.placed.entries ++ (c.args.reference, c.args.placement) ∷ []
added c =
    let free : placed_under c.self.inside.placed.entries c.args.reference ≡ None =
    ap (λ (entries : List Entry). placed_under entries c.args.reference) (were c) ∙ c.requires.free in
    rw c.unwrap.ensures at c.insert.ensures.entries
    ∙ insert_entry-new bytes_eq c.self.inside.placed c.args.reference c.args.placement free

pub returns-clause-placed : goal.returns-clause-placed
returns-clause-placed c =
    added c
    ∙ ap (λ (entries : List Entry). entries ++ (c.args.reference, c.args.placement) ∷ []) (were c)

distinct : (c : goal.Joined-unwrap) → AreDistinct c.insert.new.self.entries
distinct c =
    let free : placed_under c.self.inside.placed.entries c.args.reference ≡ None =
    ap (λ (entries : List Entry). placed_under entries c.args.reference) (were c) ∙ c.requires.free in
    subst AreDistinct (sym (added c))
    (distinct_push c.self.inside.placed.entries c.args.reference c.args.placement c.self.invariant free)

pub invariant_of-self : goal.invariant_of-self
invariant_of-self c = distinct c

pub returns-clause-distinct : goal.returns-clause-distinct
returns-clause-distinct c = distinct c
