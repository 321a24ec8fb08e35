-- Words that lie in a text, when more is appended to it.
use Rattle.std.proofs.Common.{◌≡◌, ℕ, ◌+◌, ◌≤◌, Bool, List, [], ◌∷◌, ◌++◌, length, take, drop, refl, ap, sym, ◌∙◌, arith}
use Rattle.std.specs.List.{All}
use Rattle.std.proofs.lemmas.List.{append-nil, append_assoc, length-append, length-drop, take-append-le, drop-append-le, map-append}
use Rattle.std.proofs.lemmas.List.Elements.{All-weaker, All-head, All-push, All-tail}
use Rattle.report_words.specs.declared.placed.Part.{Part}
use Rattle.report_words.specs.declared.placed.Placed.{Placed}
use Rattle.report_words.specs.declared.report_words.ReportWords.{ReportWords}
use Rattle.report_words.specs.Words.{Words}
use Rattle.report_words.specs.Placing.{piece, part_at, words_at, exec_type_at, order_at, shares_at, price_at, time_at, text_at, reason_at, refused_at, message_at, end_of, IsPlaced, bytes_of, placed_at, all_at}

-- ---- what lay there before

piece_more : (xs more : List ℕ) (start count : ℕ) → start + count ≤ length xs
    → piece (xs ++ more) start count ≡ piece xs start count
piece_more xs more start count within =
    let left = length-drop start xs in
    ap (take count) (drop-append-le start xs more (omega (arith, within)))
    ∙ take-append-le count (drop start xs) more (omega (arith, within, left))

part_more : (xs more : List ℕ) (start : ℕ) (part : Part) → start + part.len ≤ length xs
    → part_at (xs ++ more) start part ≡ part_at xs start part
part_more xs more start part within = ap (λ (text : List ℕ). let w : Words = record
    { text = text; is_cut = part.is_cut } in w) (piece_more xs more start part.len within)

words_more : (xs more : List ℕ) (p : Placed) → IsPlaced (length xs) p → words_at (xs ++ more) p ≡ words_at xs p
words_more xs more p placed =
    let within = placed.within in
    let id = part_more xs more p.start p.id (omega (arith, within)) in
    let exec_type = part_more xs more (exec_type_at p) p.exec_type (omega (arith, within)) in
    let order = part_more xs more (order_at p) p.order (omega (arith, within)) in
    let shares = part_more xs more (shares_at p) p.shares (omega (arith, within)) in
    let price = part_more xs more (price_at p) p.price (omega (arith, within)) in
    let time = part_more xs more (time_at p) p.time (omega (arith, within)) in
    let text = part_more xs more (text_at p) p.text (omega (arith, within)) in
    let reason = part_more xs more (reason_at p) p.reason (omega (arith, within)) in
    let refused = part_more xs more (refused_at p) p.refused (omega (arith, within)) in
    let message = part_more xs more (message_at p) p.message (omega (arith, within)) in
    λ i. record {
      id = id i;
      exec_type = exec_type i;
      order = order i;
      shares = shares i;
      price = price i;
      time = time i;
      text = text i;
      reason = reason i;
      refused = refused i;
      message = message i;
    }

all_more : (xs more : List ℕ) (places : List Placed) → All (IsPlaced (length xs)) places
    → all_at (xs ++ more) places ≡ all_at xs places
all_more xs more [] placed = refl
all_more xs more (p ∷ places) placed =
    let first = words_more xs more p (All-head (IsPlaced (length xs)) p places placed) in
    let rest = all_more xs more places (All-tail (IsPlaced (length xs)) p places placed) in
    λ i. first i ∷ rest i

-- ---- the words that are appended

-- a part that lies behind a text and before another one
piece_is : (front x back : List ℕ) → piece (front ++ (x ++ back)) (length front) (length x) ≡ x
piece_is [] [] back = refl
piece_is [] (c ∷ x) back = ap (λ l. c ∷ l) (piece_is [] x back)
piece_is (c ∷ front) x back = piece_is front x back

part_is : (bytes front x back : List ℕ) (start : ℕ) (is_cut : Bool) → bytes ≡ front ++ (x ++ back)
    → start ≡ length front
    → (let w : Words = record { text = x; is_cut = is_cut } in
    part_at bytes start (record { len = length x; is_cut = is_cut }) ≡ w)
part_is bytes front x back start is_cut lies begins =
    ap (λ (text : List ℕ). let w : Words = record { text = text; is_cut = is_cut } in w)
    ((λ i. piece (lies i) (begins i) (length x)) ∙ piece_is front x back)

-- the next part lies behind the text and the part before it
lies_next : (bytes front x rest : List ℕ) → bytes ≡ front ++ (x ++ rest) → bytes ≡ (front ++ x) ++ rest
lies_next bytes front x rest lies = lies ∙ sym (append_assoc front x rest)

begins_next : (front x : List ℕ) (start : ℕ) → start ≡ length front → start + length x ≡ length (front ++ x)
begins_next front x start begins = omega (arith, begins, length-append front x)

-- words whose bytes are behind a text lie there
pub words_pushed : (xs : List ℕ) (w : ReportWords) → words_at (xs ++ bytes_of w) (placed_at (length xs) w) ≡ w
words_pushed xs w =
    let bytes = xs ++ bytes_of w in
    let p = placed_at (length xs) w in
    let r9 = w.refused.text ++ w.message.text in
    let r8 = w.reason.text ++ r9 in
    let r7 = w.text.text ++ r8 in
    let r6 = w.time.text ++ r7 in
    let r5 = w.price.text ++ r6 in
    let r4 = w.shares.text ++ r5 in
    let r3 = w.order.text ++ r4 in
    let r2 = w.exec_type.text ++ r3 in
    let f2 = xs ++ w.id.text in
    let f3 = f2 ++ w.exec_type.text in
    let f4 = f3 ++ w.order.text in
    let f5 = f4 ++ w.shares.text in
    let f6 = f5 ++ w.price.text in
    let f7 = f6 ++ w.time.text in
    let f8 = f7 ++ w.text.text in
    let f9 = f8 ++ w.reason.text in
    let f10 = f9 ++ w.refused.text in
    let l2 = lies_next bytes xs w.id.text r2 refl in
    let l3 = lies_next bytes f2 w.exec_type.text r3 l2 in
    let l4 = lies_next bytes f3 w.order.text r4 l3 in
    let l5 = lies_next bytes f4 w.shares.text r5 l4 in
    let l6 = lies_next bytes f5 w.price.text r6 l5 in
    let l7 = lies_next bytes f6 w.time.text r7 l6 in
    let l8 = lies_next bytes f7 w.text.text r8 l7 in
    let l9 = lies_next bytes f8 w.reason.text r9 l8 in
    let l10 = lies_next bytes f9 w.refused.text w.message.text l9
    ∙ ap (λ (l : List ℕ). f10 ++ l) (sym (append-nil w.message.text)) in
    let b2 = begins_next xs w.id.text (length xs) refl in
    let b3 = begins_next f2 w.exec_type.text (exec_type_at p) b2 in
    let b4 = begins_next f3 w.order.text (order_at p) b3 in
    let b5 = begins_next f4 w.shares.text (shares_at p) b4 in
    let b6 = begins_next f5 w.price.text (price_at p) b5 in
    let b7 = begins_next f6 w.time.text (time_at p) b6 in
    let b8 = begins_next f7 w.text.text (text_at p) b7 in
    let b9 = begins_next f8 w.reason.text (reason_at p) b8 in
    let b10 = begins_next f9 w.refused.text (refused_at p) b9 in
    let id = part_is bytes xs w.id.text r2 (length xs) w.id.is_cut refl refl in
    let exec_type = part_is bytes f2 w.exec_type.text r3 (exec_type_at p) w.exec_type.is_cut l2 b2 in
    let order = part_is bytes f3 w.order.text r4 (order_at p) w.order.is_cut l3 b3 in
    let shares = part_is bytes f4 w.shares.text r5 (shares_at p) w.shares.is_cut l4 b4 in
    let price = part_is bytes f5 w.price.text r6 (price_at p) w.price.is_cut l5 b5 in
    let time = part_is bytes f6 w.time.text r7 (time_at p) w.time.is_cut l6 b6 in
    let text = part_is bytes f7 w.text.text r8 (text_at p) w.text.is_cut l7 b7 in
    let reason = part_is bytes f8 w.reason.text r9 (reason_at p) w.reason.is_cut l8 b8 in
    let refused = part_is bytes f9 w.refused.text w.message.text (refused_at p) w.refused.is_cut l9 b9 in
    let message = part_is bytes f10 w.message.text [] (message_at p) w.message.is_cut l10 b10 in
    λ i. record {
      id = id i;
      exec_type = exec_type i;
      order = order i;
      shares = shares i;
      price = price i;
      time = time i;
      text = text i;
      reason = reason i;
      refused = refused i;
      message = message i;
    }

-- and end where the text ends
pub end_pushed : (xs : List ℕ) (w : ReportWords) → end_of (placed_at (length xs) w) ≡ length (xs ++ bytes_of w)
end_pushed xs w = simp length-append (omega arith)

-- ---- the list

placed_more : (count more : ℕ) (p : Placed) → count ≤ more → IsPlaced count p → IsPlaced more p
placed_more count more p longer placed =
    let within = placed.within in record {
      within = omega (arith, within, longer);
      id = placed.id;
      exec_type = placed.exec_type;
      order = placed.order;
      shares = placed.shares;
      price = placed.price;
      time = placed.time;
      text = placed.text;
      reason = placed.reason;
      refused = placed.refused;
      message = placed.message;
    }

pub placed_pushed : (xs : List ℕ) (w : ReportWords) (places : List Placed)
    → ((count : ℕ) → end_of (placed_at (length xs) w) ≤ count → IsPlaced count (placed_at (length xs) w))
    → All (IsPlaced (length xs)) places
    → All (IsPlaced (length (xs ++ bytes_of w))) (places ++ placed_at (length xs) w ∷ [])
placed_pushed xs w places last before =
    let longer = length-append xs (bytes_of w) in
    let ends = end_pushed xs w in
    All-push (IsPlaced (length (xs ++ bytes_of w))) places (placed_at (length xs) w)
    (All-weaker (IsPlaced (length xs)) (IsPlaced (length (xs ++ bytes_of w)))
    (λ p placed. placed_more (length xs) (length (xs ++ bytes_of w)) p (omega (arith, longer)) placed) places before)
    (last (length (xs ++ bytes_of w)) (omega (arith, ends)))

pub all_pushed : (xs : List ℕ) (w : ReportWords) (places : List Placed) → All (IsPlaced (length xs)) places
    → all_at (xs ++ bytes_of w) (places ++ placed_at (length xs) w ∷ []) ≡ all_at xs places ++ w ∷ []
all_pushed xs w places placed =
    let bytes = xs ++ bytes_of w in
    map-append (words_at bytes) places (placed_at (length xs) w ∷ [])
    ∙ (λ i. all_more xs (bytes_of w) places placed i ++ words_pushed xs w i ∷ [])
