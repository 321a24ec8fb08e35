-- Legs that are withdrawn, one after another.
use Rattle.std.proofs.Common.{◌≡◌, ℕ, ◌+◌, ◌<◌, ◌≤◌, List, [], ◌∷◌, ◌++◌, length, take, get_or, refl, sym, ap, subst, ◌∙◌}
use Rattle.std.proofs.lemmas.List.{append-nil, append_assoc, take_all, take_more}
use Rattle.leg.specs.LegId.{LegIdParts}
use Rattle.session_worker.specs.Linking.{WorkerStateParts, BesideShares, asked_too}
use Rattle.session_worker.specs.Withdrawing.{Withdraws, WithdrawsAll}

-- one leg behind others
withdraws_last : (ids : List LegIdParts) (id : LegIdParts) (a b c : WorkerStateParts) → WithdrawsAll ids a b
    → Withdraws id b c → WithdrawsAll (ids ++ id ∷ []) a c
withdraws_last [] id a b c all one = (c, subst (λ (x : WorkerStateParts). Withdraws id x c) all one, refl)
withdraws_last (first ∷ ids) id a b c all one = (all.0, all.1, withdraws_last ids id all.0 b c all.2 one)

-- one leg more
pub withdraws_more : (ids : List LegIdParts) (i : ℕ) (id : LegIdParts) → i < length ids → id ≡ get_or ids i id
    → (a b c : WorkerStateParts) → WithdrawsAll (take i ids) a b → Withdraws id b c
    → WithdrawsAll (take (i + 1) ids) a c
withdraws_more ids i id below is a b c first next =
    let more : take (i + 1) ids ≡ take i ids ++ id ∷ [] =
    take_more ids i id below ∙ ap (λ (x : LegIdParts). take i ids ++ x ∷ []) (sym is) in
    subst (λ (l : List LegIdParts). WithdrawsAll l a c) (sym more) (withdraws_last (take i ids) id a b c first next)

-- all of them
pub withdraws_all : (ids : List LegIdParts) (i : ℕ) (a b : WorkerStateParts) → length ids ≤ i
    → WithdrawsAll (take i ids) a b → WithdrawsAll ids a b
withdraws_all ids i a b past first =
    subst (λ (l : List LegIdParts). WithdrawsAll l a b) (take_all i ids past) first

-- the same of what was asked
pub asks_none : (told : BesideShares) → told ≡ asked_too [] told
asks_none told = ap (λ asked. record told { asked = asked }) (sym (append-nil told.asked))

pub asked_both : (ids more : List LegIdParts) (told : BesideShares)
    → asked_too more (asked_too ids told) ≡ asked_too (ids ++ more) told
asked_both ids more told = ap (λ asked. record told { asked = asked }) (append_assoc told.asked ids more)

pub asks_more : (ids : List LegIdParts) (i : ℕ) (id : LegIdParts) → i < length ids → id ≡ get_or ids i id
    → (a b c : BesideShares) → b ≡ asked_too (take i ids) a → c ≡ asked_too (id ∷ []) b → c ≡ asked_too (take (i + 1) ids) a
asks_more ids i id below is a b c first next =
    let more : take (i + 1) ids ≡ take i ids ++ id ∷ [] =
    take_more ids i id below ∙ ap (λ (x : LegIdParts). take i ids ++ x ∷ []) (sym is) in
    next ∙ (ap (asked_too (id ∷ [])) first ∙ (asked_both (take i ids) (id ∷ []) a
    ∙ ap (λ (l : List LegIdParts). asked_too l a) (sym more)))

pub asks_all : (ids : List LegIdParts) (i : ℕ) (a b : BesideShares) → length ids ≤ i → b ≡ asked_too (take i ids) a
    → b ≡ asked_too ids a
asks_all ids i a b past first = first ∙ ap (λ (l : List LegIdParts). asked_too l a) (take_all i ids past)
