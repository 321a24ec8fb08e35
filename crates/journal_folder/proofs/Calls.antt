-- One call more on a file.
use Rattle.std.proofs.Common.{◌≡◌, ◌⊎◌, inl, inr, ℕ, ◌+◌, List, ◌∷◌, ◌++◌, length, take, drop, Option, sym, ap, ◌∙◌, subst, arith}
use Rattle.journal_tape.specs.Tape.{Elapses, Follows, MixesAt, Only}
use Rattle.journal_folder.specs.FileCalls.{FileCalls, Leaves, LeftSince, end_after, put_over, seen_after, with_sync, with_write}

elapses_more : (room : ℕ) (call : Option (List ℕ)) (calls : FileCalls)
    → Elapses (length calls) (length (call ∷ calls)) (LeftSince room calls) (LeftSince room (call ∷ calls))
    (Leaves room (call ∷ calls))
elapses_more room call calls = record {
  later = omega arith;
  nothing_else = λ t c le left. split t c left;
  keeps = λ t c le left. inr (le, left);
}
  where
    split : (t : ℕ) (c : List ℕ) → LeftSince room (call ∷ calls) t c → LeftSince room calls t c ⊎ Leaves room (call ∷ calls) c
    split t c (inl now) = inr now
    split t c (inr early) = inl early.1

pub time_same : (room : ℕ) (calls : FileCalls)
    → Elapses (length calls) (length calls) (LeftSince room calls) (LeftSince room calls) (Leaves room calls)
time_same room calls = record { later = omega arith; nothing_else = λ t c le left. inl left; keeps = λ t c le left. left }

pub time_more : (room : ℕ) (call : Option (List ℕ)) (calls new : FileCalls) → new ≡ call ∷ calls
    → Elapses (length calls) (length new) (LeftSince room calls) (LeftSince room new) (Leaves room new)
time_more room call calls new is =
    subst (λ (n : FileCalls). Elapses (length calls) (length n) (LeftSince room calls) (LeftSince room n) (Leaves room n))
    (sym is) (elapses_more room call calls)

-- what a read gives after a write
pub written : (room at : ℕ) (bytes : List ℕ) (calls new : FileCalls) → at ≡ end_after calls → new ≡ with_write bytes calls
    → seen_after room new
    ≡ take at (seen_after room calls) ++ bytes ++ drop (at + length bytes) (seen_after room calls)
written room at bytes calls new is made =
    ap (seen_after room) made ∙ ap (λ (n : ℕ). put_over n bytes (seen_after room calls)) (sym is)

-- what a crash may leave after it
pub mixes : (room at : ℕ) (bytes : List ℕ) (calls new : FileCalls) → at ≡ end_after calls → new ≡ with_write bytes calls
    → Follows (MixesAt at bytes) (Leaves room calls) (Leaves room new)
mixes room at bytes calls new is made c left =
    let of : Leaves room (with_write bytes calls) c = subst (λ (n : FileCalls). Leaves room n c) made left in
    inr (of.0, of.1, subst (λ (n : ℕ). MixesAt n bytes of.0 c) (sym is) of.2)

pub end_more : (at : ℕ) (bytes : List ℕ) (calls new : FileCalls) → at ≡ end_after calls → new ≡ with_write bytes calls
    → at + length bytes ≡ end_after new
end_more at bytes calls new is made = ap (λ (n : ℕ). n + length bytes) is ∙ sym (ap end_after made)

-- after a sync
pub synced_seen : (room : ℕ) (calls new : FileCalls) → new ≡ with_sync calls → seen_after room new ≡ seen_after room calls
synced_seen room calls new made = ap (seen_after room) made

pub synced_only : (room : ℕ) (calls new : FileCalls) → new ≡ with_sync calls → Only (seen_after room calls) (Leaves room new)
synced_only room calls new made c left =
    let of : Leaves room (with_sync calls) c = subst (λ (n : FileCalls). Leaves room n c) made left in of.1

pub synced_leaves : (room : ℕ) (calls new : FileCalls) → new ≡ with_sync calls → (c : List ℕ) → Leaves room new c
    → Leaves room calls c
synced_leaves room calls new made c left =
    let of : Leaves room (with_sync calls) c = subst (λ (n : FileCalls). Leaves room n c) made left in of.0

pub synced_end : (calls new : FileCalls) → new ≡ with_sync calls → end_after calls ≡ end_after new
synced_end calls new made = sym (ap end_after made)
