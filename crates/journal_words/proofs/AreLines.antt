-- No line has a NUL or an end of line in it.
use Rattle.std.proofs.Common.{◌≡◌, ◌==◌, nat_le, ℕ, ◌/◌, ◌%◌, ◌^◌, ◌<◌, ◌≤◌, Bool, true, false, not, cond, ◌&&◌, List, [], ◌∷◌, ◌++◌, codes, decimal, refl, sym, ap, ap₂, ◌∙◌, subst, arith}
use Rattle.std.specs.List.{AllByRecursion, list_all}
use Rattle.std.proofs.lemmas.Bool.{and_parts}
use Rattle.std.proofs.lemmas.Bool.Decides.{nat_tests}
use Rattle.std.proofs.lemmas.List.Folds.{list_all-append}
use Rattle.std.proofs.lemmas.List.Sums.{list_all-from_AllPass}
use Rattle.desk_words.specs.Printable.{byte_shown, hex_digit, is_printable_byte}
use Rattle.fix_tags.specs.Price.{price_short}
use Rattle.fix_tags.specs.Stamp.{StampParts, stamp_text}
use Rattle.fix_tags.proofs.Written.{IsValueByte, IsValueText, IsValueText-stamp_text}
use Rattle.journal_record.specs.Record.{is_line, is_line_byte}
use Rattle.leg.specs.LegId.{LegIdParts, IsLegId, leg_id_text}
use Rattle.leg.specs.Side.{side_text}
use Rattle.leg.specs.Symbol.{symbol_text}
use Rattle.leg.specs.Terms.{TermsParts, IsTerms}
use Rattle.leg.specs.declared.placed_leg.PlacedLeg.{PlacedLeg}
use Rattle.message_log.specs.Line.{byte_logged, logged}
use Rattle.sweep_text.specs.Written.{terms_text}
use Rattle.sweep_text.proofs.WordsBack.{IsWord}
use Rattle.sweep_text.proofs.WordsWritten.{number_word, price_word, side_word, symbol_word}
use Rattle.journal_words.specs.declared.act.Act.{Act}
use Rattle.journal_words.specs.declared.act.Act.TheVariants.{Connected, Confirmed, Quieted, Silenced, Closed, Broke, Abandoned}
use Rattle.journal_words.specs.declared.leg_act.LegAct.{LegAct}
use Rattle.journal_words.specs.declared.leg_act.LegAct.TheVariants.{Sent, Dropped, Failed}
use Rattle.journal_words.specs.Deed.{DeedSaid, Timed}
use Rattle.journal_words.specs.Deed.DeedSaid.{Acts, OfLeg, Hears}
use Rattle.journal_words.specs.Words.{act_word, leg_word, leg_words, deed_text, deed_line}
use Rattle.journal_words.specs.Desk.{DeskSaid, desk_words, desk_text}
use Rattle.journal_words.specs.Desk.DeskSaid.{Places, Settles, Pauses, Resumes, Halts, Ends}
use Rattle.journal_words.specs.Laws.{IsPlaced, IsSpelled, SaysLines}

-- two lines in one
both : (a b : List ℕ) → is_line a ≡ true → is_line b ≡ true → is_line (a ++ b) ≡ true
both a b is_a is_b = list_all-append is_line_byte a b ∙ ap₂ (λ x y. x && y) is_a is_b

-- a space between them
spaced : (a b : List ℕ) → is_line a ≡ true → is_line b ≡ true → is_line (a ++ codes " " ++ b) ≡ true
spaced a b is_a is_b = both (a ++ codes " ") b (both a (codes " ") is_a refl) is_b

word_line : (text : List ℕ) → IsWord text → is_line text ≡ true
word_line text is =
    list_all-from_AllPass is_line_byte text (λ k d within. let byte = is.bytes k d within in grind (arith, nat_tests))

value_byte : (c : ℕ) → IsValueByte c → is_line_byte c ≡ true
value_byte c is = let low = is.0 in grind (arith, nat_tests)

value_line : (text : List ℕ) → IsValueText text → is_line text ≡ true
value_line [] is = refl
value_line (c ∷ cs) is = ap₂ (λ x y. x && y) (value_byte c is.0) (value_line cs is.1)

stamp_line : (stamp : StampParts) → is_line (stamp_text stamp) ≡ true
stamp_line stamp = value_line (stamp_text stamp) (IsValueText-stamp_text stamp)

number_line : (n : ℕ) → n < 2 ^ 64 → is_line (decimal n) ≡ true
number_line n small = word_line (decimal n) (number_word n small)

-- a call
act_is_line : (act : Act) → is_line (act_word act) ≡ true
act_is_line Connected = refl
act_is_line Confirmed = refl
act_is_line Quieted = refl
act_is_line Silenced = refl
act_is_line Closed = refl
act_is_line Broke = refl
act_is_line Abandoned = refl

-- a leg
leg_word_line : (act : LegAct) → is_line (leg_word act) ≡ true
leg_word_line Sent = refl
leg_word_line Dropped = refl
leg_word_line Failed = refl

id_line : (id : LegIdParts) → IsLegId id → is_line (leg_id_text id) ≡ true
id_line id is =
    let sweep : id.sweep < 2 ^ 64 = let high = is.sweep_high in omega arith in
    let place : id.place < 2 ^ 64 = let high = is.place_high in omega arith in
    both (codes "S" ++ decimal id.sweep ++ codes "L") (decimal id.place)
    (both (codes "S" ++ decimal id.sweep) (codes "L") (both (codes "S") (decimal id.sweep) refl (number_line id.sweep sweep)) refl)
    (number_line id.place place)

terms_line : (terms : TermsParts) → IsTerms terms → is_line (terms_text terms) ≡ true
terms_line terms is =
    let shares : terms.shares < 2 ^ 64 = omega (arith, is.shares.high) in
    let price : terms.price < 2 ^ 64 = omega (arith, is.price.high) in
    let symbol = symbol_text terms.symbol in
    let side = side_text terms.side in
    spaced (symbol ++ codes " " ++ side ++ codes " " ++ decimal terms.shares) (price_short terms.price)
    (spaced (symbol ++ codes " " ++ side) (decimal terms.shares)
    (spaced symbol side (word_line symbol (symbol_word terms.symbol is.symbol)) (word_line side (side_word terms.side)))
    (number_line terms.shares shares))
    (word_line (price_short terms.price) (price_word terms.price price))

leg_line : (placed : PlacedLeg) → IsPlaced placed → is_line (leg_words placed) ≡ true
leg_line placed is =
    let ordinal : placed.ordinal < 2 ^ 64 = let high = is.ordinal in omega arith in
    let id = leg_id_text placed.leg.id in
    spaced (decimal placed.ordinal ++ codes " " ++ id) (terms_text placed.leg.terms)
    (spaced (decimal placed.ordinal) id (number_line placed.ordinal ordinal) (id_line placed.leg.id is.leg.id))
    (terms_line placed.leg.terms is.leg.terms)

-- a message
digit_line : (value : ℕ) → is_line_byte (hex_digit value) ≡ true
digit_line value = grind (arith, nat_tests)

shown_by : (c : ℕ) (b : Bool) → is_printable_byte c ≡ b
    → is_line (cond b (c ∷ []) (codes "\\x" ++ hex_digit (c / 16) ∷ hex_digit (c % 16) ∷ [])) ≡ true
shown_by c true is =
    let within = and_parts (nat_le 32 c) (nat_le c 126) is in
    let byte : is_line_byte c ≡ true = grind (arith, nat_tests, within.0) in
    ap (λ x. x && true) byte
shown_by c false is =
    ap₂ (λ x y. x && (y && true)) (digit_line (c / 16)) (digit_line (c % 16))

escaped_by : (c : ℕ) (b : Bool)
    → is_line (cond b (codes "\\\\") (cond (is_printable_byte c) (c ∷ []) (codes "\\x" ++ hex_digit (c / 16) ∷ hex_digit (c % 16) ∷ []))) ≡ true
escaped_by c true = refl
escaped_by c false = shown_by c (is_printable_byte c) refl

byte_shown_line : (c : ℕ) → is_line (byte_shown c) ≡ true
unfolding byte_shown
byte_shown_line c = escaped_by c (c == 92)

bar_by : (c : ℕ) (b : Bool) → is_line (cond b (codes "\\|") (byte_shown c)) ≡ true
bar_by c true = refl
bar_by c false = byte_shown_line c

delimiter_by : (c : ℕ) (b : Bool) → is_line (cond b (codes "|") (cond (c == 124) (codes "\\|") (byte_shown c))) ≡ true
delimiter_by c true = refl
delimiter_by c false = bar_by c (c == 124)

byte_line : (c : ℕ) → is_line (byte_logged c) ≡ true
unfolding byte_logged
byte_line c = delimiter_by c (c == 1)

logged_line : (message : List ℕ) → is_line (logged message) ≡ true
logged_line [] = refl
logged_line (c ∷ cs) = both (byte_logged c) (logged cs) (byte_line c) (logged_line cs)

text_line : (said : DeedSaid) → IsSpelled said → is_line (deed_text said) ≡ true
text_line (Acts act) is = act_is_line act
text_line (OfLeg act placed) is = spaced (leg_word act) (leg_words placed) (leg_word_line act) (leg_line placed is)
text_line (Hears fields) is = both (codes "< ") (logged fields) refl (logged_line fields)

pub deed_is_line : (t : Timed) → IsSpelled t.deed → is_line (deed_line t) ≡ true
deed_is_line t is = spaced (stamp_text t.stamp) (deed_text t.deed) (stamp_line t.stamp) (text_line t.deed is)

words_line : (said : DeskSaid) → SaysLines said → is_line (desk_words said) ≡ true
words_line (Places number line) is =
    spaced (codes "place " ++ decimal number) line (both (codes "place ") (decimal number) refl (number_line number is.0)) is.1
words_line (Settles line) is = both (codes "settle ") line refl is
words_line (Pauses venue) is = both (codes "pause ") venue refl is
words_line (Resumes venue) is = both (codes "resume ") venue refl is
words_line Halts is = refl
words_line Ends is = refl

pub desk_is_line : (stamp : StampParts) (said : DeskSaid) → SaysLines said → is_line (desk_text stamp said) ≡ true
desk_is_line stamp said is =
    spaced (stamp_text stamp) (desk_words said) (stamp_line stamp) (words_line said is)
