-- A day that is judged sentence by sentence, behind its logs.
use Rattle.std.proofs.Common.{◌≡◌, ℕ, Bool, true, false, List, [], ◌∷◌, ◌++◌, map, Option, Ok, Err, refl, ap, subst, ◌∙◌}
use Rattle.std.specs.Prelude.{◌||◌, IfErr, IfOk, Result}
use Rattle.std.specs.Io.KnownBytes.{Appends}
use Rattle.day_rules.specs.DeskDay.{DeskParts, new_desk}
use Rattle.day_rules.specs.Judged.{judged}
use Rattle.day_rules.specs.VenueDay.{VenueParts}
use Rattle.day_rules.specs.declared.judged.SentenceVerdict.{SentenceVerdict}
use Rattle.day_rules.specs.declared.sentence.Sentence.{Sentence}
use Rattle.day_check.specs.DayText.{sweeps_text}
use Rattle.day_check.specs.LogText.{Style, path_line, style_of}
use Rattle.day_check.specs.SweepsLog.{lines_heard}
use Rattle.day_check.specs.declared.finding.Printing.{Printing}
use Rattle.day_check.specs.declared.form.Form.{Form}
use Rattle.day_check.proofs.LinesRead.{behind, nothing}
use Rattle.check_command.specs.DayRead.{DayRead, Told, all_sentences, any_broken_by, day_text, is_broken_by, told_before, told_text, verdict_text}
use Rattle.clap.specs.declared.parser.matches.ArgMatches.{ArgMatches}
use Rattle.check_command.specs.PathName.{AreNames, sweeps_paths}
use Rattle.check_command.specs.Request.{IsRequest}
use Rattle.check_command.specs.Runs.{ChecksLogs, any_broken, logs_text, paths_asked, paths_before, style_asked, venues_of}
use Rattle.check_command.specs.Running.{ChecksAsked, ChecksDay, ChecksEach, EndsCheck, KeepsWhereRefused, day_of}
use Rattle.check_command.specs.Sentences.{JudgesDay, TellsDay, asked_day, day_read, paths_of}
use Rattle.check_command.specs.declared.command.Request.{Request}
use Rattle.check_command.specs.declared.day.Day.{Day}
use Rattle.check_command.specs.declared.fault.CommandFault.{CommandFault}

-- the sentences that were told so far, and those that are left
pub record ToldSoFar (is_json : Bool) (d : DayRead) (rest : List Sentence) (before after : Option (List ℕ)) (broken : Bool)
    : Type 0 where
  pub told : List Told
  pub all_told : told_before told rest ≡ all_sentences
  pub is_so : broken ≡ any_broken_by d told
  pub printed : is_json ≡ false → Appends before after (told_text d told)

pub none_told : (is_json : Bool) (d : DayRead) (out : Option (List ℕ)) → ToldSoFar is_json d all_sentences out out false
none_told is_json d out = record { told = []; all_told = refl; is_so = refl; printed = λ off. nothing out }

pub one_told : (is_json : Bool) (d : DayRead) (sentence : Sentence) (rest : List Sentence)
    (before out after : Option (List ℕ)) (broken more : Bool) (said : SentenceVerdict) (line text : List ℕ)
    → said ≡ judged d.desk d.venues sentence → more ≡ is_broken_by said
    → (is_json ≡ false
    → text ≡ verdict_text d.form d.paths d.path (record { sentence = sentence; line = line }) said)
    → Appends out after text → ToldSoFar is_json d (sentence ∷ rest) before out broken
    → ToldSoFar is_json d rest before after (broken || more)
one_told is_json d sentence rest before out after broken more said line text is is_more is_text appends so_far =
    let told : Told = record { sentence = sentence; line = line } in record {
      told = told ∷ so_far.told;
      all_told = so_far.all_told;
      is_so = ap (λ (b : Bool). b || more) so_far.is_so
          ∙ ap (λ (b : Bool). any_broken_by d so_far.told || b) (is_more ∙ ap is_broken_by is);
      printed = λ off. behind before out after (told_text d so_far.told)
          (verdict_text d.form d.paths d.path told (judged d.desk d.venues sentence)) (so_far.printed off)
          (subst (Appends out after) (is_text off ∙ ap (verdict_text d.form d.paths d.path told) is) appends);
    }

-- the desk's log, what became of its sweeps, and the sentences
pub day_told : (d : DayRead) (told : List Told) (a b c e : Option (List ℕ)) → Appends a b (path_line d.path)
    → Appends b c (sweeps_text d.venues d.desk) → Appends c e (told_text d told) → Appends a e (day_text d told)
day_told d told a b c e first body last =
    behind a c e (path_line d.path ++ sweeps_text d.venues d.desk) (told_text d told)
    (behind a b c (path_line d.path) (sweeps_text d.venues d.desk) first body) last

pub each_checked : (r : Request) (before after : Option (List ℕ)) (day : Day) → ChecksLogs r false [] before after day
    → ChecksEach r before after day.is_broken
each_checked r before after day checks =
    record { logs = checks.logs; read = checks.read; is_so = checks.broken; printed = checks.printed }

made : Request → List ℕ → DeskParts → List (List ℕ) → List VenueParts → DayRead
made r path desk paths venues =
    record { form = r.form; paths = paths; venues = venues; path = path; desk = desk }

same_day : (r : Request) (path : List ℕ) (desk : DeskParts) (paths others : List (List ℕ)) (venues more : List VenueParts)
    → paths ≡ others → venues ≡ more → made r path desk paths venues ≡ made r path desk others more
same_day r path desk paths others venues more same alike =
    ap (λ (ps : List (List ℕ)). made r path desk ps venues) same ∙ ap (made r path desk others) alike

pub day_checked : (r : Request) (path : List ℕ) (names : List (List ℕ)) (before between after : Option (List ℕ)) (day : Day)
    (more : Bool) → ChecksLogs r true [] before between day
    → AreNames names (paths_asked r) → JudgesDay r day path names between after more
    → ChecksDay r path before after (day.is_broken || more)
unfolding made
day_checked r path names before between after day more checks are_names judges =
    let s = style_asked r true in
    let desk = lines_heard (new_desk names) judges.lines in
    let same : asked_day r day path desk ≡ day_of r checks.logs path desk =
    same_day r path desk (map (λ path. path.now) day.paths.items) (paths_before checks.logs []) day.venues.items
    (venues_of s checks.logs) (checks.named refl) (checks.venues refl) in record {
      logs = checks.logs;
      read = checks.read;
      names = names;
      are_names = are_names;
      lines = judges.lines;
      told = judges.told;
      all_told = judges.all_told;
      is_so = ap (λ (b : Bool). b || more) checks.broken
          ∙ ap (λ (b : Bool). any_broken s checks.logs || b)
          (judges.is_so ∙ ap (λ (d : DayRead). any_broken_by d judges.told) same);
      printed = λ off. behind before between after (logs_text s checks.logs)
          (day_text (day_of r checks.logs path desk) judges.told) (checks.printed off)
          (subst (λ (d : DayRead). Appends between after (day_text d judges.told)) same (judges.printed off));
    }

-- the day that was told is the one that was asked for
read_day : Day → Form → List ℕ → DeskParts → DayRead
read_day day form path desk =
    record { form = form; paths = paths_of day; venues = day.venues.items; path = path; desk = desk }

same_read : (day : Day) (form other : Form) (path more : List ℕ) (desk heard : DeskParts) → form ≡ other → path ≡ more
    → desk ≡ heard → read_day day form path desk ≡ read_day day other more heard
same_read day form other path more desk heard is_form is_path is_desk =
    ap (λ (f : Form). read_day day f path desk) is_form
    ∙ (ap (λ (p : List ℕ). read_day day other p desk) is_path ∙ ap (read_day day other more) is_desk)

pub day_as_asked : (r : Request) (p : Printing) (day : Day) (path : List ℕ) (names : List (List ℕ))
    (lines : List (List ℕ)) (desk : DeskParts) (a b c e : Option (List ℕ)) (broken : Bool)
    → style_of p ≡ style_asked r true → p.log.now ≡ path → p.is_json ≡ r.is_json
    → desk ≡ lines_heard (new_desk names) lines → TellsDay p (day_read p day desk) c e broken
    → (p.is_json ≡ false → Appends a b (path_line p.log.now))
    → (p.is_json ≡ false → Appends b c (sweeps_text day.venues.items desk))
    → JudgesDay r day path names a e broken
unfolding read_day
day_as_asked r p day path names lines desk a b c e broken style is_path json heard tells first body =
    let same : day_read p day desk ≡ asked_day r day path (lines_heard (new_desk names) lines) =
    same_read day p.form.now r.form p.log.now path desk (lines_heard (new_desk names) lines)
    (ap (λ (s : Style). s.form) style) is_path heard in record {
      lines = lines;
      told = tells.told;
      all_told = tells.all_told;
      is_so = tells.is_so ∙ ap (λ (d : DayRead). any_broken_by d tells.told) same;
      printed = λ off. let on = json ∙ off in
          subst (λ (d : DayRead). Appends a e (day_text d tells.told)) same
          (day_told (day_read p day desk) tells.told a b c e (first on) (body on) (tells.printed on));
    }

-- how a run ends whose words were read
pub ends_of : (matches : ArgMatches) (request : Request) → IsRequest matches request → (before after : Option (List ℕ))
    (result : Result Bool CommandFault)
    → IfOk result (ChecksAsked request (sweeps_paths (paths_asked request)) before after)
    → IfErr result (KeepsWhereRefused before after) → EndsCheck before after result
ends_of matches request asked before after (Ok broken) done kept =
    record { matches = matches; request = request; asked = asked; checked = done }
ends_of matches request asked before after (Err fault) done kept = kept
