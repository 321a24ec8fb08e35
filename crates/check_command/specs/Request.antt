-- What the words of `dispatch check` ask for.
use Rattle.std.specs.Prelude.{◌≡◌, ℕ, Bool, true, false, List, [], length, map, Option, Some, None, codes, is_some}
use Rattle.std.specs.Option.{option_map, unwrap_or}
use Rattle.clap.specs.Matches.{first_value, found_of, matched_of, one_text, raw_values}
use Rattle.clap.specs.declared.parser.matches.ArgMatches.{ArgMatches}
use Rattle.clap.specs.declared.parser.matches.MatchedArg.{MatchedArg}
use Rattle.fix_tags.specs.CompId.{comp_id_of}
use Rattle.day_check.specs.declared.form.Form.{Form}
use Rattle.day_check.specs.declared.form.Form.TheVariants.{Own, Quickfix}
use Rattle.check_command.specs.declared.command.Request.{Request}

-- this is whether a flag was given
abbrev pub IsFlag : ArgMatches → List ℕ → Bool → Type 0
IsFlag matches name on =
    let given = one_text (found_of matches) name in
    (given ≡ Some (codes "true") → on ≡ true) × (given ≡ Some (codes "false") → on ≡ false)

abbrev pub values_of : Option MatchedArg → List (List ℕ)
values_of matched = unwrap_or (option_map raw_values matched) []

-- the logs are those of a desk of this name, or this program's where none is given
abbrev pub IsForm : Option (List ℕ) → Form → Type 0
IsForm None Own = Unit {0}
IsForm None (Quickfix desk) = ⊥
IsForm (Some text) Own = ⊥
IsForm (Some text) (Quickfix desk) = comp_id_of text ≡ Some desk

-- the logs are those that were named, in their order, and of this form; there are words for each rule; each flag is
-- whether it was given; and logs are held against what the session writes where that is asked for
pub record IsRequest (matches : ArgMatches) (r : Request) : Type 0 where
  pub paths : map (λ path. path.now) r.paths.items ≡ values_of (matched_of (found_of matches) (codes "LOG"))
  pub form : IsForm (first_value (found_of matches) (codes "desk")) r.form
  pub words : length r.words.items ≡ 22
  pub is_json : IsFlag matches (codes "json") r.is_json
  pub tells_legs : IsFlag matches (codes "legs") r.tells_legs
  pub tells_executions : IsFlag matches (codes "executions") r.tells_executions
  pub exact : is_some r.exact ≡ is_some (first_value (found_of matches) (codes "exact"))
