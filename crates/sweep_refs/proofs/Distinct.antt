-- Entries of which no two have one reference, and one more.
use Rattle.std.proofs.Common.{◌≡◌, ◌≢◌, ℕ, suc, zero, ◌<◌, List, [], ◌∷◌, ◌++◌, length, get_or, None, sym, arith}
use Rattle.std.specs.Str.{bytes_eq}
use Rattle.std.proofs.lemmas.Bool.Decides.{not_from_Decides}
use Rattle.std.proofs.lemmas.List.Quantifiers.{all_pairs_push}
use Rattle.std.proofs.lemmas.Map.{none_passes_from_lookup, NonePasses}
use Rattle.std.proofs.lemmas.Slice.Eq.{bytes_eq-Decides}
use Rattle.sweep_refs.specs.declared.placement.Placement.{Placement}
use Rattle.sweep_refs.specs.Placed.{Entry, AreDistinct, placed_under}

-- where a look-up passes over each entry, none has the reference
others : (entries : List Entry) (reference : List ℕ) → NonePasses (bytes_eq reference) entries
    → (k : ℕ) (d : Entry) → k < length entries → (get_or entries k d).0 ≢ reference
others [] reference passes k d within same = absurd (omega arith)
others (entry ∷ entries) reference passes zero d within same =
    not_from_Decides (bytes_eq reference entry.0) (bytes_eq-Decides reference entry.0) passes.0 (sym same)
others (entry ∷ entries) reference passes (suc k) d within same =
    others entries reference passes.1 k d (omega arith) same

-- an entry of a free reference keeps all apart
pub distinct_push : (entries : List Entry) (reference : List ℕ) (placement : Placement) → AreDistinct entries
    → placed_under entries reference ≡ None → AreDistinct (entries ++ (reference, placement) ∷ [])
distinct_push entries reference placement distinct free =
    all_pairs_push (λ one other. one.0 ≢ other.0) entries (reference, placement) distinct
    (others entries reference (none_passes_from_lookup (bytes_eq reference) entries free))
