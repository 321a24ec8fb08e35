-- What `dispatch run` prints last, where it ends well.
use Rattle.std.specs.Prelude.{◌≡◌, ◌⊎◌, ℕ, true, List, length, Option, None, is_some, Ok}
use Rattle.std.specs.Io.KnownBytes.{Appends}
use Rattle.desk_config.specs.Config.{AnswersText}
use Rattle.desk_config.specs.declared.config.DeskConfig.{DeskConfig}
use Rattle.desk_day.specs.Told.{IsToldDay, IsToldKept, IsToldOver}
use Rattle.desk_day.specs.Whole.{IsWhole}
use Rattle.desk_day.specs.declared.day.DeskDay.{DeskDay}
use Rattle.json_lines.specs.declared.form.Form.{Form}
use Rattle.json_lines.specs.declared.form.Form.TheVariants.{Words, Json}
use Rattle.config_check.specs.Checked.{check_text}
use Rattle.run_command.specs.JsonText.{json_text}
use Rattle.run_command.specs.Text.{day_text}

-- what is told of a day in this form
abbrev pub end_text : Form → DeskDay → List ℕ
end_text Words day = day_text day
end_text Json day = json_text day

-- a day of this configuration, which may have had lives before if it keeps a journal, was audited and is told with the
-- rest of what its book and its workers left; where the configuration asks for a journal each worker tells one; and
-- its text is printed behind what the output held then
pub record PrintsDay (config : DeskConfig) (after : Option (List ℕ)) : Type 0 where
  pub day : DeskDay
  pub told : IsToldOver config.venues.items day
  pub new : config.journal ≡ None → IsToldDay config.venues.items day
  pub kept : is_some config.journal ≡ true → IsToldKept config.venues.items day
  pub form : Form
  pub held : Option (List ℕ)
  pub printed : Appends held after (end_text form day)

-- such a day of which nothing is left: nothing is told to have broken its lines off; each session was closed, no leg
-- stays in doubt, and of no venue is a report on the list of what that book didn't take
pub record PrintsWholeDay (config : DeskConfig) (after : Option (List ℕ)) : Type 0 where
  pub prints : PrintsDay config after
  pub taken : prints.day.broken_off ≡ None
  pub whole :
      IsWhole (length config.venues.items) prints.told.desk_day.ends prints.told.desk_day.audited.day.unbooked

-- a run ends well with the configuration that some bytes spell: what it says is printed, or its day is
pub record EndsWell (before after : Option (List ℕ)) : Type 0 where
  pub bytes : List ℕ
  pub config : DeskConfig
  pub says : AnswersText bytes (Ok config)
  pub prints : Appends before after (check_text config) ⊎ PrintsWholeDay config after

-- a run whose day leaves something open prints the day, with the configuration that some bytes spell
pub record EndsOpen (after : Option (List ℕ)) : Type 0 where
  pub bytes : List ℕ
  pub config : DeskConfig
  pub says : AnswersText bytes (Ok config)
  pub prints : PrintsDay config after
