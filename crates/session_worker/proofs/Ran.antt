-- Threads that were joined, and what their workers left.
use Rattle.std.proofs.lemmas.List.{append-nil, append_assoc, map-append}
use Rattle.std.proofs.Common.{◌≡◌, ℕ, suc, ◌+◌, ◌<◌, ◌≤◌, false, List, [], ◌∷◌, ◌++◌, length, map, drop, refl, sym, ap, subst, ◌∙◌, arith}
use Rattle.std.specs.Prelude.{Option, Some, None, option_to_list, slice_index_or, Result, Ok, Err, OnOk}
use Rattle.std.specs.Result.{is_err}
use Rattle.std.specs.PromisedHandle.{KeepsAt}
use Rattle.std.specs.declared.thread.PromisedHandle.{PromisedHandle}
use Rattle.std.specs.declared.thread.Promise as Promise
use Rattle.dialect.specs.Wording.{Wording}
use Rattle.session_worker.specs.Ends.{WorkerStart, WorkerLeft, Runs, AllRan}

module _ {A P : Type 0} (g : Promise.Ghosts P WorkerLeft) (wording : A → Wording) (worker : P → WorkerStart A)
    (keeps : (p : P) (left : WorkerLeft) → g.kept_by p left → Runs (wording (worker p).dialect) (worker p).parts left)
  where
    -- each result keeps the promise of the handle at its place, so each worker ran
    pub all_ran : (handles : List (PromisedHandle WorkerLeft P)) (ends : List WorkerLeft) → length ends ≡ length handles
        → ((i : ℕ) (d : WorkerLeft) → i < length handles → KeepsAt g handles i (slice_index_or ends i d))
        → AllRan wording (map (λ h. worker h.promise) handles) ends
    all_ran [] [] same each = tt
    all_ran [] (left ∷ ends) same each = absurd (omega arith)
    all_ran (h ∷ handles) [] same each = absurd (omega arith)
    all_ran (h ∷ handles) (left ∷ ends) same each =
        let first = each 0 left (omega arith) in
        let kept : g.kept_by h.promise left =
        subst (λ (x : PromisedHandle WorkerLeft P). g.kept_by x.promise left) first.handle_is first.kept in (
          keeps h.promise left kept,
          all_ran handles ends (omega arith) (λ i d below. (let next = each (suc i) d (omega (arith, below)) in
              record { handle = next.handle; handle_is = next.handle_is; kept = next.kept })),
        )

-- a worker that is seen as another one
pub runs_as : {D : Type 0} (wording : D → Wording) (seen worker : WorkerStart D) (left : WorkerLeft) → seen ≡ worker
    → Runs (wording seen.dialect) seen.parts left → Runs (wording worker.dialect) worker.parts left
runs_as {D} wording seen worker left is runs =
    subst (λ (x : WorkerStart D). Runs (wording x.dialect) x.parts left) is runs

-- there is room after a growth that wasn't refused
pub has_room : {T E : Type 0} (result : Result T E) (len capacity : ℕ) → OnOk result (len + 1 ≤ capacity)
    → is_err result ≡ false → len < capacity
has_room (Ok x) len capacity ok none = omega (arith, ok)
has_room (Err e) len capacity ok none = absurd cc

-- all workers were started
pub all_started : {A B : Type 0} (f : A → B) (handles : List A) (rest first workers : List B)
    → map f handles ++ rest ≡ first → rest ≡ [] → first ≡ workers → map f handles ≡ workers
all_started f handles rest first workers so_far none from =
    sym (append-nil (map f handles))
    ∙ (ap (λ l. map f handles ++ l) (sym none) ∙ (so_far ∙ from))

-- one more was started, and is waiting no more
pub one_started : {A B : Type 0} (f : A → B) (handles more : List A) (h : A) (waiting rest first : List B) (w : B)
    → more ≡ handles ++ h ∷ [] → waiting ≡ w ∷ rest → f h ≡ w → map f handles ++ waiting ≡ first
    → map f more ++ rest ≡ first
one_started f handles more h waiting rest first w so next is before =
    ap (λ l. map f l ++ rest) so
    ∙ (ap (λ l. l ++ rest) (map-append f handles (h ∷ []))
    ∙ (append_assoc (map f handles) (f h ∷ []) rest
    ∙ (ap (λ l. map f handles ++ l) (ap (λ x. x ∷ rest) is ∙ sym next) ∙ before)))

nothing_first : {A : Type 0} (xs : List A) → xs ≡ drop 1 xs → xs ≡ []
nothing_first [] e = refl
nothing_first (x ∷ xs) e = let same = ap length e in absurd (omega (arith, same))

-- a list of which nothing was taken
pub nothing_left : {A : Type 0} (result : Option A) (old new : List A) → ((x : A) → result ≡ Some x → ⊥)
    → old ≡ option_to_list result ++ new → new ≡ drop 1 old → old ≡ []
nothing_left None old new not items rest = nothing_first old (items ∙ rest)
nothing_left (Some x) old new not items rest = absurd (not x refl)
