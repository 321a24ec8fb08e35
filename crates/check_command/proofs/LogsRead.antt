-- Logs that are read one after the other.
use Rattle.std.proofs.Common.{◌≡◌, ℕ, Bool, true, false, List, [], ◌∷◌, ◌++◌, map, Option, refl, sym, ap, subst, ◌∙◌}
use Rattle.std.specs.Prelude.{◌||◌, if◌then◌else◌}
use Rattle.std.specs.Io.KnownBytes.{Appends}
use Rattle.day_rules.specs.VenueDay.{VenueParts}
use Rattle.day_check.specs.LogText.{ChecksLog, Style, checked, log_text, style_of}
use Rattle.day_check.specs.Tallies.{breaks_a_rule}
use Rattle.day_check.specs.declared.finding.Printing.{Printing}
use Rattle.day_check.specs.declared.checked_log.CheckedLog.{CheckedLog}
use Rattle.day_check.proofs.LinesRead.{behind, nothing}
use Rattle.check_command.specs.PathName.{is_sweeps, venue_paths}
use Rattle.check_command.specs.Runs.{ChecksExactly, ChecksLogs, ChecksPath, LogRead, ReadsNext, any_broken, holds_exactly, logs_text, paths_asked, paths_before, read_text, style_asked, text_of_exact, venues_of}
use Rattle.check_command.specs.declared.command.Request.{Request}
use Rattle.check_command.specs.declared.day.Day.{Day}

pub none_read : (r : Request) (of_day : Bool) (out : Option (List ℕ)) (day : Day) → day.paths.items ≡ []
    → day.venues.items ≡ [] → day.is_broken ≡ false → ChecksLogs r of_day (paths_asked r) out out day
none_read r of_day out day paths venues broken = record {
  logs = [];
  read = record { paths = refl; held = tt };
  broken = broken;
  venues = λ on. venues;
  named = λ on. ap (map (λ path. path.now)) paths;
  printed = λ off. nothing out;
}

-- a path behind others
behind_paths : (logs : List LogRead) (paths : List (List ℕ)) (path : List ℕ)
    → paths_before logs (paths ++ path ∷ []) ≡ paths_before logs paths ++ path ∷ []
behind_paths [] paths path = refl
behind_paths (log ∷ earlier) paths path = behind_paths earlier (log.path ∷ paths) path

-- the paths that are left, of which the first is that of a venue, or isn't
abbrev pub LeftAre : Request → List LogRead → List ℕ → List (List ℕ) → Bool → Type 0
LeftAre r logs path rest b =
    paths_before logs (if b then venue_paths rest else path ∷ venue_paths rest) ≡ venue_paths (paths_asked r)

pub one_passed : (r : Request) (of_day : Bool) (path : List ℕ) (out : Option (List ℕ)) (day : Day)
    → is_sweeps path ≡ true → ReadsNext r of_day path out out day day
one_passed r of_day path out day is rest start so_far = record {
  logs = so_far.logs;
  read = record {
    paths = subst (LeftAre r so_far.logs path rest) is so_far.read.paths;
    held = so_far.read.held;
  };
  broken = so_far.broken;
  venues = so_far.venues;
  named = so_far.named;
  printed = so_far.printed;
}

pub one_read : (r : Request) (of_day : Bool) (path : List ℕ) (out after : Option (List ℕ)) (day later : Day)
    (log : CheckedLog) → is_sweeps path ≡ false → ChecksPath r of_day path out after log
    → later.is_broken ≡ (day.is_broken || log.is_broken)
    → (of_day ≡ true → later.venues.items ≡ day.venues.items ++ log.day ∷ [])
    → (of_day ≡ true → map (λ path. path.now) later.paths.items ≡ map (λ path. path.now) day.paths.items ++ path ∷ [])
    → ReadsNext r of_day path out after day later
one_read r of_day path out after day later log other reads noted pushed pathed rest start so_far =
    let s = style_asked r of_day in record {
      logs = reads.read ∷ so_far.logs;
      read = record {
        paths = subst (λ (p : List ℕ). paths_before so_far.logs (p ∷ venue_paths rest) ≡ venue_paths (paths_asked r))
            (sym reads.path_is) (subst (LeftAre r so_far.logs path rest) other so_far.read.paths);
        held = (reads.held, so_far.read.held);
      };
      broken = noted ∙ (ap (λ (b : Bool). b || log.is_broken) so_far.broken
          ∙ ap (λ (b : Bool). any_broken s so_far.logs || b) reads.broken);
      venues = λ on. pushed on ∙ (ap (λ (vs : List VenueParts). vs ++ log.day ∷ []) (so_far.venues on)
          ∙ ap (λ (v : VenueParts). venues_of s so_far.logs ++ v ∷ []) reads.day);
      named = λ on. pathed on ∙ (ap (λ (ps : List (List ℕ)). ps ++ path ∷ []) (so_far.named on)
          ∙ (sym (behind_paths so_far.logs [] path)
          ∙ ap (λ (p : List ℕ). paths_before so_far.logs (p ∷ [])) (sym reads.path_is)));
      printed = λ off. behind start out after (logs_text s so_far.logs) (read_text s reads.read) (so_far.printed off)
          (reads.printed off);
    }

-- a log that was read, and what is said of it exactly
pub log_read : {input : Option (List ℕ)} (r : Request) (of_day : Bool) (p : Printing) (path : List ℕ)
    (before between after : Option (List ℕ)) (first : CheckedLog) (asked other : Bool) → style_of p ≡ style_asked r of_day → p.log.now ≡ path → p.is_json ≡ r.is_json
    → ChecksLog p input before between first → asked ≡ holds_exactly r of_day first.is_own
    → ChecksExactly p asked between after other
    → ChecksPath r of_day path before after
    (record { day = first.day; is_broken = first.is_broken || other; is_own = first.is_own })
log_read r of_day p path before between after first asked other style is_path json checks is_asked exactly =
    let read : LogRead = record { path = path; lines = checks.lines; is_cut = checks.is_cut; exact = exactly.said } in
    let s = style_asked r of_day in record {
      read = read;
      path_is = refl;
      held = exactly.held ∙ (is_asked ∙ ap (holds_exactly r of_day)
          (checks.own ∙ ap (λ (t : Style). (checked t checks.lines).is_own) style));
      day = checks.day ∙ ap (λ (t : Style). (checked t checks.lines).day) style;
      broken = ap (λ (b : Bool). b || other)
          (checks.broken ∙ ap (λ (t : Style). breaks_a_rule (checked t checks.lines).tallies) style)
          ∙ ap (λ (b : Bool). breaks_a_rule (checked s checks.lines).tallies || b) exactly.is_so;
      printed = λ off. let on = json ∙ off in
          behind before between after (log_text s path checks.lines checks.is_cut) (text_of_exact exactly.said)
          (subst (λ (t : Style). Appends before between (log_text t path checks.lines checks.is_cut)) style
          (subst (λ (n : List ℕ). Appends before between (log_text (style_of p) n checks.lines checks.is_cut)) is_path
          (checks.printed on)))
          (exactly.printed on);
    }
