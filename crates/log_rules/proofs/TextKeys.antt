-- Look-ups by texts, in a table whose keys are lists of bytes.
use Rattle.std.proofs.Common.{◌≡◌, ℕ, Bool, true, false, inl, inr, List, [], ◌∷◌, ap, sym, ◌∙◌, refl, subst}
use Rattle.std.specs.Prelude.{Option, Some, None, if◌then◌else◌}
use Rattle.std.specs.Cmp.Lexicographic.{nat_list_eq_equiv}
use Rattle.std.specs.Global.{Vec}
use Rattle.std.specs.HashMap as table
use Rattle.std.specs.HashMap.{HashMap}
use Rattle.std.specs.Map.{AreApart, KeepsOthers, lookup}
use Rattle.std.specs.Str.{bytes_eq}
use Rattle.std.proofs.lemmas.Bool.{cases_Bool}
use Rattle.std.proofs.lemmas.Map.Entries.{place_from_lookup}
use Rattle.std.proofs.lemmas.Slice.Eq.{bytes_eq-Decides}

-- two keys are equal where they have the same bytes
abbrev pub same_key : Vec ℕ → Vec ℕ → Bool
same_key x y = bytes_eq x.items y.items

-- the key of a text
abbrev pub has_text : List ℕ → Vec ℕ → Bool
has_text text key = bytes_eq text key.items

-- tests that say the same find the same
alike : {X : Type 0} (test other : Vec ℕ → Bool) → ((k : Vec ℕ) → test k ≡ other k) → (es : List (Vec ℕ × X))
    → lookup test es ≡ lookup other es
alike test other same [] = refl
alike test other same (e ∷ es) =
    ap (λ b. if b then Some e.1 else lookup test es) (same e.0)
    ∙ ap (λ rest. if other e.0 then Some e.1 else rest) (alike test other same es)

-- a text that is that of a key is looked up as the key is
by_key : {X : Type 0} (text : List ℕ) (k : Vec ℕ) (es : List (Vec ℕ × X)) → has_text text k ≡ true
    → lookup (has_text text) es ≡ lookup (same_key k) es
by_key text k es has = alike (has_text text) (same_key k) (λ q. nat_list_eq_equiv.congr text k.items q.items has) es

-- if a text is found in one of two lists in which each key is looked up alike, it is looked up alike
alike_where_found : {X : Type 0} (text : List ℕ) (es fs : List (Vec ℕ × X)) (x : X)
    → ((k : Vec ℕ) → lookup (same_key k) fs ≡ lookup (same_key k) es) → lookup (has_text text) es ≡ Some x
    → lookup (has_text text) fs ≡ lookup (has_text text) es
alike_where_found text es fs x same found =
    let at = place_from_lookup (has_text text) es x found in
    let has : has_text text at.1 ≡ true = at.3 in
    by_key text at.1 fs has ∙ same at.1 ∙ sym (by_key text at.1 es has)

both : {X : Type 0} (text : List ℕ) (es fs : List (Vec ℕ × X))
    → ((k : Vec ℕ) → lookup (same_key k) fs ≡ lookup (same_key k) es)
    → (a b : Option X) → lookup (has_text text) es ≡ a → lookup (has_text text) fs ≡ b → b ≡ a
both text es fs same None None old new = refl
both text es fs same (Some x) b old new = sym new ∙ alike_where_found text es fs x same old ∙ old
both text es fs same None (Some y) old new =
    sym new ∙ sym (alike_where_found text fs es y (λ k. sym (same k)) new) ∙ old

-- where each key is looked up alike, each text is
pub texts_alike : {X S : Type 0} (m n : HashMap (Vec ℕ) X S) → ((k : Vec ℕ) → table.get same_key n k ≡ table.get same_key m k)
    → (text : List ℕ) → table.get_by (has_text text) n ≡ table.get_by (has_text text) m
texts_alike m n same text = both text m.entries n.entries same _ _ refl refl

-- a text that isn't that of a key passes no key that does
apart : (own text : List ℕ) → bytes_eq own text ≡ false → AreApart (has_text own) (has_text text)
apart own text other k has =
    nat_list_eq_equiv.symm text k.items ∙ sym (nat_list_eq_equiv.congr own k.items text has)
    ∙ other

-- and is looked up as before
others_keep : {X : Type 0} (own text : List ℕ) (old new : List (Vec ℕ × X)) → KeepsOthers same_key (has_text own) old new
    → bytes_eq own text ≡ false → lookup (has_text text) new ≡ lookup (has_text text) old
unfolding KeepsOthers
others_keep own text old new keeps other =
    keeps (has_text text) (λ x y. nat_list_eq_equiv.congr text x.items y.items) (apart own text other)

-- what a table has under each text once something is put under one
pub text_put : {X S : Type 0} (m n : HashMap (Vec ℕ) X S) (own : Vec ℕ) (x : Option X)
    → table.Updates same_key m n own x → (text : List ℕ)
    → table.get_by (has_text text) n ≡ (if bytes_eq own.items text then x else table.get_by (has_text text) m)
text_put m n own x put text =
    elim (cases_Bool (bytes_eq own.items text)) [
      | inl same ↦ rw same (subst (λ t. lookup (has_text t) n.entries ≡ x) ((bytes_eq-Decides own.items text).0 same) put.1)
      | inr other ↦ rw other (others_keep own.items text m.entries n.entries put.3 other)
    ]
