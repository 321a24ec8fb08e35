-- A word that isn't UTF-8 is no name.
use Rattle.std.proofs.Common.{◌≡◌, ℕ, false, List, [], ◌∷◌, codes, Option, Some, None, refl, sym, ap, ◌∙◌, inl, inr}
use Rattle.std.specs.Option.{option_map, option_and_then}
use Rattle.std.specs.Str.{IsUtf8, bytes_eq}
use Rattle.std.proofs.lemmas.Bool.{cases_Bool}
use Rattle.std.proofs.lemmas.Slice.Eq.{bytes_eq-Decides}
use Rattle.dialect.specs.DialectName.{dialect_named}
use Rattle.schedule.specs.declared.event.Event.{Event}
use Rattle.schedule.specs.Script.{venue_event, count_event, event_of, event_of_words, venue_word, count_word}

other : (name word : List ℕ) → (IsUtf8 name → ⊥) → IsUtf8 word → bytes_eq name word ≡ false
other name word none is =
    elim (cases_Bool (bytes_eq name word)) [
      | inl same ↦ let e : name ≡ word = (bytes_eq-Decides name word).0 same in absurd (none (rw e is))
      | inr differs ↦ differs
    ]

pub no_dialect : (name : List ℕ) → (IsUtf8 name → ⊥) → dialect_named name ≡ None
unfolding lib.Utf8.encode
no_dialect name none =
    rw (
      other name (codes "plain") none (codes "plain", (refl, refl)),
      other name (codes "split") none (codes "split", (refl, refl)),
      other name (codes "coded") none (codes "coded", (refl, refl)),
    ) refl

of_venue : (name : List ℕ) (v : ℕ) → (IsUtf8 name → ⊥) → venue_event name v ≡ None
unfolding lib.Utf8.encode
of_venue name v none =
    rw (
      other name (codes "up") none (codes "up", (refl, refl)),
      other name (codes "down") none (codes "down", (refl, refl)),
      other name (codes "drop") none (codes "drop", (refl, refl)),
      other name (codes "take") none (codes "take", (refl, refl)),
      other name (codes "connect") none (codes "connect", (refl, refl)),
      other name (codes "break") none (codes "break", (refl, refl)),
      other name (codes "xbreak") none (codes "xbreak", (refl, refl)),
      other name (codes "test") none (codes "test", (refl, refl)),
      other name (codes "quiet") none (codes "quiet", (refl, refl)),
      other name (codes "silent") none (codes "silent", (refl, refl)),
      other name (codes "close") none (codes "close", (refl, refl)),
      other name (codes "abandon") none (codes "abandon", (refl, refl)),
    ) refl

of_count : (name : List ℕ) (v k : ℕ) → (IsUtf8 name → ⊥) → count_event name v k ≡ None
unfolding lib.Utf8.encode
of_count name v k none =
    rw (
      other name (codes "to") none (codes "to", (refl, refl)),
      other name (codes "from") none (codes "from", (refl, refl)),
      other name (codes "cancel") none (codes "cancel", (refl, refl)),
      other name (codes "reject") none (codes "reject", (refl, refl)),
    ) refl

never : {A B : Type 0} (f : A → Option B) → ((x : A) → f x ≡ None) → (read : Option A) → option_and_then f read ≡ None
never f none None = refl
never f none (Some x) = none x

call_of : (venues : ℕ) (name : List ℕ) (words : List (List ℕ)) → (IsUtf8 name → ⊥) → event_of venues name words ≡ None
unfolding lib.Utf8.encode
call_of venues name [] none = refl
call_of venues name (v ∷ []) none = never (venue_event name) (λ venue. of_venue name venue none) (venue_word venues v)
call_of venues name (v ∷ k ∷ []) none =
    never (λ venue. option_and_then (count_event name venue) (count_word k))
    (λ venue. never (count_event name venue) (λ count. of_count name venue count none) (count_word k)) (venue_word venues v)
call_of venues name (v ∷ i ∷ j ∷ []) none = rw (other name (codes "bust") none (codes "bust", (refl, refl))) refl
call_of venues name (v ∷ i ∷ n ∷ px ∷ []) none = rw (other name (codes "trade") none (codes "trade", (refl, refl))) refl
call_of venues name (v ∷ i ∷ n ∷ px ∷ more ∷ words) none = refl

pub no_event : (venues : ℕ) (name : List ℕ) (words : List (List ℕ)) → (IsUtf8 name → ⊥) → event_of_words venues (name ∷ words) ≡ None
unfolding lib.Utf8.encode
no_event venues name words none =
    rw (other name (codes "release") none (codes "release", (refl, refl))) (call_of venues name words none)
