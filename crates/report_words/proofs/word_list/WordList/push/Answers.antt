use Rattle.std.proofs.Common.{◌≡◌, ℕ, ◌≤◌, List, [], ◌∷◌, ◌++◌, length, rules, sym, subst, ◌∙◌, ap}
use Rattle.std.specs.List.{All}
use Rattle.report_words.specs.declared.placed.Placed.{Placed}
use Rattle.report_words.specs.declared.report_words.ReportWords.{ReportWords}
use Rattle.report_words.specs.Placing.{IsPlaced, bytes_of, end_of, placed_at, all_at}
use Rattle.report_words.proofs.Pieces.{placed_pushed, all_pushed}
use Rattle.report_words.proofs.word_list.WordList.push.Goals as goal

pub invariant_of-self-2 : goal.invariant_of-self-2
invariant_of-self-2 c =
    let old : List ℕ = c.self.inside.bytes.items in
    let w : ReportWords = c.args.words.now in
    let start : c.len.result ≡ length old = search rules in
    let placed : c.new-placed.result ≡ placed_at (length old) w =
    c.new-placed.ensures.value ∙ ap (λ (n : ℕ). placed_at n w) start in
    let bytes : c.append_words.new.bytes.items ≡ old ++ bytes_of w =
    c.append_words.ensures ∙ ap (λ (l : List ℕ). l ++ bytes_of w) c.reserve-2.ensures.items in
    let places : c.push_reserved.new.self.items ≡ c.self.inside.places.items ++ placed_at (length old) w ∷ [] =
    c.push_reserved.ensures.items ∙ (λ i. c.reserve.ensures.items i ++ placed i ∷ []) in
    let last : (count : ℕ) → end_of (placed_at (length old) w) ≤ count → IsPlaced count (placed_at (length old) w) =
    subst (λ (n : ℕ). (count : ℕ) → end_of (placed_at n w) ≤ count → IsPlaced count (placed_at n w)) start
    c.new-placed.ensures.placed in
    subst (λ (l : List ℕ). All (IsPlaced (length l)) c.push_reserved.new.self.items) (sym bytes)
    (subst (λ (ps : List Placed). All (IsPlaced (length (old ++ bytes_of w))) ps) (sym places)
    (placed_pushed old w c.self.inside.places.items last c.self.invariant))

pub returns-clause-ok : goal.returns-clause-ok
returns-clause-ok c =
    let old : List ℕ = c.self.inside.bytes.items in
    let w : ReportWords = c.args.words.now in
    let start : c.len.result ≡ length old = search rules in
    let placed : c.new-placed.result ≡ placed_at (length old) w =
    c.new-placed.ensures.value ∙ ap (λ (n : ℕ). placed_at n w) start in
    let bytes : c.append_words.new.bytes.items ≡ old ++ bytes_of w =
    c.append_words.ensures ∙ ap (λ (l : List ℕ). l ++ bytes_of w) c.reserve-2.ensures.items in
    let places : c.push_reserved.new.self.items ≡ c.self.inside.places.items ++ placed_at (length old) w ∷ [] =
    c.push_reserved.ensures.items ∙ (λ i. c.reserve.ensures.items i ++ placed i ∷ []) in
    (λ i. all_at (bytes i) (places i))
    ∙ (all_pushed old w c.self.inside.places.items c.self.invariant
    ∙ ap (λ (l : List ReportWords). l ++ w ∷ []) c.self.view_is)
