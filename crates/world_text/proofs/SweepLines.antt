-- The lines of the sweeps, one entry of the desk's history further.
use Rattle.std.proofs.Common.{◌≡◌, ◌+◌, ◌<◌, ℕ, suc, List, ◌∷◌, ◌++◌, length, drop, get_or, refl, sym, ap, ◌∙◌, arith}
use Rattle.std.proofs.lemmas.List.{append_assoc, at_drop_more}
use Rattle.leg.specs.declared.sweep.Routed.{Routed}
use Rattle.leg.specs.declared.sweep.Sweep.{Sweep}
use Rattle.sweep_release.specs.declared.desk_entry.DeskEntry.{DeskEntry}
use Rattle.sweep_release.specs.declared.desk_entry.DeskEntry.TheVariants as entry
use Rattle.sweep_release.specs.Kept.{released_sweeps}
use Rattle.schedule.specs.World.{World}
use Rattle.schedule.specs.Printed.{sweep_line, sweep_lines}

-- an entry that is no release has no sweep
pub no_sweep : (e : DeskEntry) (entries : List DeskEntry) → ((sweep : Sweep) → e ≡ entry.Released sweep → ⊥)
    → released_sweeps (e ∷ entries) ≡ released_sweeps entries
no_sweep (entry.Released sweep) entries other = absurd (other sweep refl)
no_sweep (entry.Up venue) entries other = refl
no_sweep (entry.Down venue) entries other = refl
no_sweep (entry.Shut venue) entries other = refl
no_sweep (entry.Taken venue) entries other = refl
no_sweep (entry.Dropped venue) entries other = refl

-- what is left of the sweeps at an entry
pub sweep_at : (entries : List DeskEntry) (at : ℕ) (e : DeskEntry) (sweep : Sweep) → at < length entries
    → e ≡ get_or entries at e
    → e ≡ entry.Released sweep
    → released_sweeps (drop at entries) ≡ sweep.legs ∷ released_sweeps (drop (at + 1) entries)
sweep_at entries at e sweep there is released =
    at_drop_more released_sweeps entries at e there
    ∙ ap (λ (x : DeskEntry). released_sweeps (x ∷ drop (at + 1) entries)) (sym is ∙ released)

pub no_sweep_at : (entries : List DeskEntry) (at : ℕ) (e : DeskEntry) → at < length entries → e ≡ get_or entries at e
    → ((sweep : Sweep) → e ≡ entry.Released sweep → ⊥)
    → released_sweeps (drop at entries) ≡ released_sweeps (drop (at + 1) entries)
no_sweep_at entries at e there is other =
    at_drop_more released_sweeps entries at e there
    ∙ (ap (λ (x : DeskEntry). released_sweeps (x ∷ drop (at + 1) entries)) (sym is)
    ∙ no_sweep e (drop (at + 1) entries) other)

-- the lines, once that of one more sweep was written
pub one_sweep : (w : World) (number after : ℕ) (sweeps next : List (List Routed)) (legs : List Routed)
    (text now start : List ℕ) → after ≡ number + 1
    → sweeps ≡ legs ∷ next
    → now ≡ text ++ sweep_line w after legs
    → text ++ sweep_lines w (suc number) sweeps ≡ start
    → now ++ sweep_lines w (suc after) next ≡ start
one_sweep w number after sweeps next legs text now start same is written before =
    let one : after ≡ suc number = omega (arith, same) in
    ap (λ (t : List ℕ). t ++ sweep_lines w (suc after) next) written
    ∙ (append_assoc text (sweep_line w after legs) (sweep_lines w (suc after) next)
    ∙ (ap (λ (n : ℕ). text ++ sweep_lines w n (legs ∷ next)) one
    ∙ (ap (λ (l : List (List Routed)). text ++ sweep_lines w (suc number) l) (sym is) ∙ before)))
