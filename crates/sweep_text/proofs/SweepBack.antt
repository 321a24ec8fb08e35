-- The line that is written of a sweep is read as that sweep.
use Rattle.std.proofs.Common.{◌≡◌, ℕ, ◌*◌, ◌<◌, ◌≤◌, ◌^◌, true, ◌&&◌, leb, List, [], ◌∷◌, ◌++◌, length, refl, ap, ap₂, ◌∙◌, arith, decimal, codes, length-append, append_assoc}
use Rattle.std.specs.Prelude.{Option, Some, None, Ok, if◌then◌else◌}
use Rattle.std.specs.List.{AllByRecursion, list_all}
use Rattle.std.proofs.lemmas.Bool.Decides.{nat_tests}
use Rattle.std.proofs.lemmas.Fmt.{length-decimal-le}
use Rattle.std.proofs.lemmas.List.{append-nil}
use Rattle.std.proofs.lemmas.List.Elements.{recursion_from_All}
use Rattle.std.proofs.lemmas.List.Folds.{list_all-append}
use Rattle.std.proofs.lemmas.List.Sums.{list_all-from_AllPass}
use Rattle.fix_tags.specs.Price.{price_short}
use Rattle.fix_tags.proofs.Written.{length-price_short}
use Rattle.leg.specs.Side.{side_text}
use Rattle.leg.specs.Symbol.{symbol_text}
use Rattle.leg.specs.declared.side.Side.{Side}
use Rattle.leg.specs.declared.side.Side.TheVariants.{Buy, Sell}
use Rattle.leg.specs.declared.sweep.Routed.{Routed}
use Rattle.leg.proofs.SymbolText.{length-joined_text}
use Rattle.desk_words.specs.Printable.{is_printable_byte, shown}
use Rattle.sweep_refs.specs.Ref.{IsRef}
use Rattle.sweep_text.specs.declared.line_fault.LineFault.TheVariants.{BadReference}
use Rattle.sweep_text.specs.Legs.{and_then, before, legs_of, more_legs, or_fault}
use Rattle.sweep_text.specs.Line.{legs_say, line_says, ref_in, sweep_of, sweep_says, words_say}
use Rattle.sweep_text.specs.Words.{words_of}
use Rattle.sweep_text.specs.Written.{AreNames, IsNamed, IsUnder, ReadsBack, leg_text, legs_text, name_of, ref_text, sweep_line}
use Rattle.sweep_text.proofs.LegBack.{leg_back}
use Rattle.sweep_text.proofs.LegsRead.{legs_of_five}
use Rattle.sweep_text.proofs.RefBack.{no_name_begins_so, ref_back, ref_word}
use Rattle.sweep_text.proofs.WordsBack.{IsWord, word_then, last_word, next_word}
use Rattle.sweep_text.proofs.WordsWritten.{name_at, word_bytes, venue_word, symbol_word, side_word, number_word, price_word}

-- each leg is for a venue with a name
abbrev AreNamed : List (List ℕ) → List Routed → Type 0
AreNamed names legs = AllByRecursion (IsNamed names) legs

-- the five words of a leg, before others
abbrev leg_words : List (List ℕ) → Routed → List (List ℕ) → List (List ℕ)
leg_words names leg rest =
    name_of names leg.venue ∷ symbol_text leg.terms.symbol ∷ side_text leg.terms.side ∷ decimal leg.terms.shares
    ∷ price_short leg.terms.price ∷ rest

-- the words of the legs behind the first
abbrev more_words : List (List ℕ) → List Routed → List (List ℕ)
more_words names [] = []
more_words names (leg ∷ legs) = codes "+" ∷ leg_words names leg (more_words names legs)

-- the last word of a leg, before the legs behind it
word_before : (names : List (List ℕ)) (word : List ℕ) (legs : List Routed) → IsWord word
    → words_of (word ++ legs_text (codes " + ") names legs) ≡ word ∷ words_of (legs_text (codes " + ") names legs)
word_before names word [] is = ap words_of (append-nil word) ∙ last_word word is
word_before names word (leg ∷ legs) is =
    word_then word (43 ∷ 32 ∷ (leg_text names leg ++ legs_text (codes " + ") names legs)) is

-- four words, and a last one
five_words : (a b c d e rest : List ℕ) → IsWord a → IsWord b → IsWord c → IsWord d
    → words_of ((a ++ 32 ∷ (b ++ 32 ∷ (c ++ 32 ∷ (d ++ 32 ∷ e)))) ++ rest) ≡ a ∷ b ∷ c ∷ d ∷ words_of (e ++ rest)
five_words a b c d e rest is_a is_b is_c is_d =
    next_word a (b ++ 32 ∷ (c ++ 32 ∷ (d ++ 32 ∷ e))) rest is_a
    ∙ ap (λ words. a ∷ words) (next_word b (c ++ 32 ∷ (d ++ 32 ∷ e)) rest is_b)
    ∙ ap (λ words. a ∷ b ∷ words) (next_word c (d ++ 32 ∷ e) rest is_c)
    ∙ ap (λ words. a ∷ b ∷ c ∷ words) (next_word d e rest is_d)

-- a leg's text, from the right
by_parts : (a b c d e : List ℕ)
    → a ++ codes " " ++ (b ++ codes " " ++ c ++ codes " " ++ d ++ codes " " ++ e)
    ≡ a ++ 32 ∷ (b ++ 32 ∷ (c ++ 32 ∷ (d ++ 32 ∷ e)))
by_parts a b c d e = simp append_assoc

leg_by_parts : (names : List (List ℕ)) (leg : Routed) → leg_text names leg
    ≡ name_of names leg.venue ++ 32 ∷ (symbol_text leg.terms.symbol ++ 32 ∷ (side_text leg.terms.side
    ++ 32 ∷ (decimal leg.terms.shares ++ 32 ∷ price_short leg.terms.price)))
leg_by_parts names leg =
    by_parts (name_of names leg.venue) (symbol_text leg.terms.symbol) (side_text leg.terms.side)
    (decimal leg.terms.shares) (price_short leg.terms.price)

-- the words of a leg, before those of the legs behind it
words_of_leg : (names : List (List ℕ)) (leg : Routed) (legs : List Routed) → AreNames names → IsNamed names leg
    → words_of (leg_text names leg ++ legs_text (codes " + ") names legs)
    ≡ leg_words names leg (words_of (legs_text (codes " + ") names legs))
words_of_leg names leg legs are is =
    let terms = leg.terms in
    let range = is.in_range.terms in
    let small : terms.shares < 2 ^ 64 = omega (arith, range.shares.high) in
    let cheap : terms.price < 2 ^ 64 = omega (arith, range.price.high) in
    let name = name_of names leg.venue in
    let symbol = symbol_text terms.symbol in
    let side = side_text terms.side in
    let shares = decimal terms.shares in
    ap (λ text. words_of (text ++ legs_text (codes " + ") names legs)) (leg_by_parts names leg)
    ∙ five_words name symbol side shares (price_short terms.price) (legs_text (codes " + ") names legs)
    (venue_word names leg.venue are is.venue) (symbol_word terms.symbol range.symbol) (side_word terms.side)
    (number_word terms.shares small)
    ∙ ap (λ words. name ∷ symbol ∷ side ∷ shares ∷ words)
    (word_before names (price_short terms.price) legs (price_word terms.price cheap))

words_of_more : (names : List (List ℕ)) (legs : List Routed) → AreNames names → AreNamed names legs
    → words_of (legs_text (codes " + ") names legs) ≡ more_words names legs
words_of_more names [] are each = refl
words_of_more names (leg ∷ legs) are each =
    ap (λ words. codes "+" ∷ words) (words_of_leg names leg legs are each.0)
    ∙ ap (λ words. codes "+" ∷ leg_words names leg words) (words_of_more names legs are each.1)

-- the legs that the words behind a leg ask for
more_back : (names : List (List ℕ)) (legs : List Routed) → AreNames names → AreNamed names legs
    → more_legs names (more_words names legs) ≡ Ok legs
more_back names [] are each = refl
more_back names (leg ∷ legs) are each =
    legs_of_five names _ _ _ _ _ (more_words names legs)
    ∙ ap₂ before (leg_back names leg are each.0) (more_back names legs are each.1)

legs_back : (names : List (List ℕ)) (leg : Routed) (legs : List Routed) → AreNames names → AreNamed names (leg ∷ legs)
    → legs_of names (words_of (leg_text names leg ++ legs_text (codes " + ") names legs)) ≡ Ok (leg ∷ legs)
legs_back names leg legs are each =
    ap (legs_of names) (words_of_leg names leg legs are each.0
    ∙ ap (leg_words names leg) (words_of_more names legs are each.1))
    ∙ more_back names (leg ∷ legs) are each

-- a word is printable, and so is one behind another
word_printable : (text : List ℕ) → IsWord text → list_all is_printable_byte text ≡ true
word_printable text is =
    list_all-from_AllPass is_printable_byte text
    (λ k d within. let byte = is.bytes k d within in grind (arith, nat_tests))

both_printable : (a b : List ℕ) → list_all is_printable_byte a ≡ true → list_all is_printable_byte b ≡ true
    → list_all is_printable_byte (a ++ b) ≡ true
both_printable a b is_a is_b = list_all-append is_printable_byte a b ∙ ap₂ (λ x y. x && y) is_a is_b

then_printable : (a b : List ℕ) → IsWord a → list_all is_printable_byte b ≡ true
    → list_all is_printable_byte (a ++ 32 ∷ b) ≡ true
then_printable a b is_a is_b = both_printable a (32 ∷ b) (word_printable a is_a) is_b

leg_printable : (names : List (List ℕ)) (leg : Routed) → AreNames names → IsNamed names leg
    → list_all is_printable_byte (leg_text names leg) ≡ true
leg_printable names leg are is =
    let terms = leg.terms in
    let range = is.in_range.terms in
    let small : terms.shares < 2 ^ 64 = omega (arith, range.shares.high) in
    let cheap : terms.price < 2 ^ 64 = omega (arith, range.price.high) in
    ap (list_all is_printable_byte) (leg_by_parts names leg)
    ∙ then_printable (name_of names leg.venue) _ (venue_word names leg.venue are is.venue)
    (then_printable (symbol_text terms.symbol) _ (symbol_word terms.symbol range.symbol)
    (then_printable (side_text terms.side) _ (side_word terms.side)
    (then_printable (decimal terms.shares) (price_short terms.price) (number_word terms.shares small)
    (word_printable (price_short terms.price) (price_word terms.price cheap)))))

legs_printable : (mark : List ℕ) (names : List (List ℕ)) (legs : List Routed) → list_all is_printable_byte mark ≡ true
    → AreNames names → AreNamed names legs → list_all is_printable_byte (legs_text mark names legs) ≡ true
legs_printable mark names [] is are each = refl
legs_printable mark names (leg ∷ legs) is are each =
    both_printable (mark ++ leg_text names leg) (legs_text (codes " + ") names legs)
    (both_printable mark (leg_text names leg) is (leg_printable names leg are each.0))
    (legs_printable (codes " + ") names legs refl are each.1)

side_short : (side : Side) → length (side_text side) ≤ 4
side_short Buy = omega arith
side_short Sell = omega arith

name_short : (names : List (List ℕ)) (venue : ℕ) → AreNames names → venue < length names
    → length (name_of names venue) ≤ 16
name_short names venue are within =
    omega (arith, ap length (name_at names venue within), (are.each venue [] within).short)

-- five words and the spaces between them
five_short : (a b c d e : List ℕ) → length a ≤ 16 → length b ≤ 10 → length c ≤ 4 → length d ≤ 7 → length e ≤ 11
    → length (a ++ codes " " ++ (b ++ codes " " ++ c ++ codes " " ++ d ++ codes " " ++ e)) ≤ 52
five_short a b c d e short_a short_b short_c short_d short_e = simp length-append (omega arith)

-- a leg takes at most 52 bytes
leg_short : (names : List (List ℕ)) (leg : Routed) → AreNames names → IsNamed names leg
    → length (leg_text names leg) ≤ 52
leg_short names leg are is =
    let terms = leg.terms in
    let range = is.in_range.terms in
    let name : length (name_of names leg.venue) ≤ 16 = name_short names leg.venue are is.venue in
    let symbol : length (symbol_text terms.symbol) ≤ 10 = (length-joined_text 46 terms.symbol range.symbol).short in
    let side : length (side_text terms.side) ≤ 4 = side_short terms.side in
    let high = range.shares.high in
    let shares : length (decimal terms.shares) ≤ 7 =
    length-decimal-le 7 terms.shares (omega arith) (omega arith) (omega arith) in
    let price : length (price_short terms.price) ≤ 11 = length-price_short terms.price range.price.high in
    five_short (name_of names leg.venue) (symbol_text terms.symbol) (side_text terms.side) (decimal terms.shares)
    (price_short terms.price) name symbol side shares price

legs_short : (mark : List ℕ) (names : List (List ℕ)) (legs : List Routed) → length mark ≤ 3 → AreNames names
    → AreNamed names legs
    → length (legs_text mark names legs) ≤ 55 * length legs
legs_short mark names [] short are each = omega arith
legs_short mark names (leg ∷ legs) short are each =
    let first : length (leg_text names leg) ≤ 52 = leg_short names leg are each.0 in
    let others : length (legs_text (codes " + ") names legs) ≤ 55 * length legs =
    legs_short (codes " + ") names legs (omega arith) are each.1 in
    let front = length-append mark (leg_text names leg) in
    let whole = length-append (mark ++ leg_text names leg) (legs_text (codes " + ") names legs) in
    omega arith

-- a line that isn't too long and is printable says what its words say
line_says_words : (names : List (List ℕ)) (line : List ℕ) → length line ≤ 65_536
    → list_all is_printable_byte line ≡ true
    → line_says names line ≡ words_say names (words_of line)
unfolding line_says
line_says_words names line short printable =
    let fits : leb (length line) 65_536 ≡ true = grind (arith, nat_tests) in
    rw (fits, printable) refl

-- the words of legs, none where there are none
abbrev all_words : List (List ℕ) → List Routed → List (List ℕ)
all_words names [] = []
all_words names (leg ∷ legs) = leg_words names leg (more_words names legs)

-- the words of legs behind a space
words_of_legs : (names : List (List ℕ)) (legs : List Routed) → AreNames names → AreNamed names legs
    → words_of (legs_text (codes " ") names legs) ≡ all_words names legs
words_of_legs names [] are each = refl
words_of_legs names (leg ∷ legs) are each =
    words_of_leg names leg legs are each.0 ∙ ap (leg_words names leg) (words_of_more names legs are each.1)

-- a word before legs
word_then_legs : (names : List (List ℕ)) (word : List ℕ) (legs : List Routed) → IsWord word → AreNames names
    → AreNamed names legs
    → words_of (word ++ legs_text (codes " ") names legs) ≡ word ∷ all_words names legs
word_then_legs names word [] is are each = ap words_of (append-nil word) ∙ last_word word is
word_then_legs names word (leg ∷ legs) is are each =
    word_then word (leg_text names leg ++ legs_text (codes " + ") names legs) is
    ∙ ap (λ words. word ∷ words) (words_of_legs names (leg ∷ legs) are each)

-- the words of legs ask for them
legs_asked : (names : List (List ℕ)) (reference : Option (List ℕ)) (legs : List Routed) → AreNames names
    → AreNamed names legs → legs_say names reference (all_words names legs) ≡ Ok (sweep_of reference legs)
legs_asked names reference [] are each = refl
legs_asked names reference (leg ∷ legs) are each =
    ap (λ said. and_then said (λ (read : List Routed). Ok (sweep_of reference read)))
    (more_back names (leg ∷ legs) are each)

-- `sweep` is a word
sweep_word : IsWord (codes "sweep")
sweep_word = record { some = omega arith; bytes = word_bytes (codes "sweep") refl }

-- words that ask for a sweep, with its reference before its legs
under_ref : (names : List (List ℕ)) (reference : List ℕ) (words : List (List ℕ)) → IsRef reference
    → sweep_says names ((codes "ref=" ++ reference) ∷ words) ≡ legs_say names (Some reference) words
unfolding sweep_says
under_ref names reference words is =
    ap (λ read. and_then (or_fault (BadReference (shown 200 (codes "ref=" ++ reference))) read)
    (λ (r : List ℕ). legs_say names (Some r) words)) (ref_back reference is)

-- no leg's first word begins as a reference does
no_ref : (names : List (List ℕ)) (legs : List Routed) → AreNames names → AreNamed names legs
    → sweep_says names (all_words names legs) ≡ legs_say names None (all_words names legs)
unfolding sweep_says
no_ref names [] are each = refl
no_ref names (leg ∷ legs) are each =
    ap (λ begins. if begins
    then and_then (ref_in (name_of names leg.venue)) (λ (r : List ℕ). legs_say names (Some r)
    (symbol_text leg.terms.symbol ∷ side_text leg.terms.side ∷ decimal leg.terms.shares
    ∷ price_short leg.terms.price ∷ more_words names legs))
    else legs_say names None (all_words names (leg ∷ legs)))
    (no_name_begins_so names leg.venue are each.0.venue)

-- the words of a written line ask for its sweep
words_back : (names : List (List ℕ)) (reference : Option (List ℕ)) (legs : List Routed) → AreNames names
    → IsUnder reference → AreNamed names legs
    → words_say names (words_of (sweep_line names reference legs)) ≡ Ok (sweep_of reference legs)
words_back names None legs are under each =
    ap (words_say names) (word_then_legs names (codes "sweep") legs sweep_word are each)
    ∙ no_ref names legs are each ∙ legs_asked names None legs are each
words_back names (Some reference) legs are under each =
    ap (λ words. words_say names (codes "sweep" ∷ words))
    (word_then_legs names (codes "ref=" ++ reference) legs (ref_word reference under) are each)
    ∙ under_ref names reference (all_words names legs) under ∙ legs_asked names (Some reference) legs are each

-- a reference takes at most 69 bytes, and is printable
ref_short : (reference : Option (List ℕ)) → IsUnder reference → length (ref_text reference) ≤ 69
ref_short None under = omega arith
ref_short (Some reference) under = omega (arith, under.short)

ref_printable : (reference : Option (List ℕ)) → IsUnder reference
    → list_all is_printable_byte (ref_text reference) ≡ true
ref_printable None under = refl
ref_printable (Some reference) under = word_printable (codes "ref=" ++ reference) (ref_word reference under)

pub sweep_back : (names : List (List ℕ)) (reference : Option (List ℕ)) (legs : List Routed)
    → ReadsBack names reference legs
sweep_back names reference legs are under each few =
    let named : AreNamed names legs = recursion_from_All (IsNamed names) legs each in
    let short : length (legs_text (codes " ") names legs) ≤ 55 * length legs =
    legs_short (codes " ") names legs (omega arith) are named in
    let head : length (ref_text reference) ≤ 69 = ref_short reference under in
    let whole = length-append (codes "sweep" ++ ref_text reference) (legs_text (codes " ") names legs) in
    line_says_words names (sweep_line names reference legs) (omega arith)
    (both_printable (codes "sweep" ++ ref_text reference) (legs_text (codes " ") names legs)
    (ref_printable reference under) (legs_printable (codes " ") names legs refl are named))
    ∙ words_back names reference legs are under named
