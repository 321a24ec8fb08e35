-- Bytes that are split into messages, one message after the other.
use Rattle.std.proofs.Common.{◌≡◌, ℕ, ◌+◌, ◌<◌, Bool, true, false, List, [], ◌∷◌, ◌++◌, length, take, drop, get_or, refl, sym, ap, ◌∙◌, append_assoc, if◌then◌else◌}
use Rattle.std.specs.List.{concat}
use Rattle.std.proofs.lemmas.List.{append-nil, drop_more, take_more}
use Rattle.std.proofs.lemmas.List.Folds.{concat-append}
use Rattle.day_log.specs.declared.field.Field.{Field}
use Rattle.day_log.specs.declared.field.Field.TheVariants.{Empty}
use Rattle.day_log.specs.Messages.{Split, field_after, is_end, is_one_frame, last_message, messages_in, split, split_on, with_message}

-- the next byte is read, and ends a message or doesn't
pub split_byte : (ends : Bool) (f : Field) (text : List ℕ) (c : ℕ) (cs : List ℕ) → is_end f c ≡ ends
    → split_on f text (c ∷ cs)
    ≡ (if ends then with_message (text ++ c ∷ []) (split cs) else split_on (field_after f c) (text ++ c ∷ []) cs)
split_byte ends f text c cs is = rw is refl

-- no message ends with the byte at a place
pub split_on_more : (i : ℕ) (f : Field) (bytes : List ℕ) → i < length bytes → is_end f (get_or bytes i 0) ≡ false
    → split_on f (take i bytes) (drop i bytes)
    ≡ split_on (field_after f (get_or bytes i 0)) (take (i + 1) bytes) (drop (i + 1) bytes)
split_on_more i f bytes within goes_on =
    let c = get_or bytes i 0 in
    ap (split_on f (take i bytes)) (drop_more bytes i 0 within)
    ∙ split_byte false f (take i bytes) c (drop (i + 1) bytes) goes_on
    ∙ ap (λ (text : List ℕ). split_on (field_after f c) text (drop (i + 1) bytes)) (sym (take_more bytes i 0 within))

-- a message ends with the byte at a place
pub split_on_end : (i : ℕ) (f : Field) (bytes : List ℕ) → i < length bytes → is_end f (get_or bytes i 0) ≡ true
    → split_on f (take i bytes) (drop i bytes) ≡ with_message (take (i + 1) bytes) (split (drop (i + 1) bytes))
split_on_end i f bytes within ends =
    let c = get_or bytes i 0 in
    ap (split_on f (take i bytes)) (drop_more bytes i 0 within)
    ∙ split_byte true f (take i bytes) c (drop (i + 1) bytes) ends
    ∙ ap (λ (text : List ℕ). with_message text (split (drop (i + 1) bytes))) (sym (take_more bytes i 0 within))

-- all bytes of a split, in order
abbrev pub all_of : Split → List ℕ
all_of s = concat s.messages ++ s.rest

split_keeps_at : (ends : Bool) (f : Field) (text more : List ℕ) (cs : List ℕ)
    → all_of (split cs) ≡ cs → all_of (split_on f more cs) ≡ more ++ cs → more ≡ text
    → all_of (if ends then with_message text (split cs) else split_on f more cs) ≡ more ++ cs
split_keeps_at true f text more cs behind on same =
    append_assoc text (concat (split cs).messages) (split cs).rest
    ∙ ap (λ (l : List ℕ). text ++ l) behind ∙ ap (λ (t : List ℕ). t ++ cs) (sym same)
split_keeps_at false f text more cs behind on same = on

-- a split has all bytes, in order
pub split_on_keeps : (f : Field) (text bytes : List ℕ) → all_of (split_on f text bytes) ≡ text ++ bytes
split_on_keeps f text [] = sym (append-nil text)
split_on_keeps f text (c ∷ cs) =
    split_keeps_at (is_end f c) (field_after f c) (text ++ c ∷ []) (text ++ c ∷ []) cs (split_on_keeps Empty [] cs)
    (split_on_keeps (field_after f c) (text ++ c ∷ []) cs) refl
    ∙ append_assoc text (c ∷ []) cs

keep_last : (rest : List ℕ) → concat (last_message rest) ≡ rest
keep_last [] = refl
keep_last (c ∷ cs) = append-nil (c ∷ cs)

messages_keep_at : (is_one : Bool) (bytes : List ℕ)
    → concat (if is_one then bytes ∷ [] else (split bytes).messages ++ last_message (split bytes).rest) ≡ bytes
messages_keep_at true bytes = append-nil bytes
messages_keep_at false bytes =
    concat-append (split bytes).messages (last_message (split bytes).rest)
    ∙ ap (λ (l : List ℕ). concat (split bytes).messages ++ l) (keep_last (split bytes).rest)
    ∙ split_on_keeps Empty [] bytes

-- messages have all bytes, in order
pub messages_keep : (bytes : List ℕ) → concat (messages_in bytes) ≡ bytes
messages_keep bytes = messages_keep_at (is_one_frame bytes) bytes
