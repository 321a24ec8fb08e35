-- A text whose table was read.
use Rattle.std.proofs.Common.{◌≡◌, ℕ, List, Some, refl, sym, ap, ◌∙◌}
use Rattle.std.specs.Prelude.{Result, Ok, Err}
use Rattle.toml.specs.Data.{Data, Members, table}
use Rattle.toml.specs.Parse.{parse_document}
use Rattle.desk_config.specs.declared.config.DeskConfig.{DeskConfig}
use Rattle.desk_config.specs.declared.fault.ConfigFault.{ConfigFault}
use Rattle.desk_config.specs.declared.fault.ConfigFault.TheVariants as fault
use Rattle.desk_config.specs.Config.{Answers, AnswersText, config_in}

-- what answers a text's table answers the text
pub answers_text : (text : List ℕ) (file : Members) (given : Data) (answer : Result DeskConfig ConfigFault)
    → parse_document text ≡ Some file → given ≡ table file → Answers (config_in given) answer → AnswersText text answer
answers_text text file given (Ok config) read same says =
    rw read (ap Some (ap config_in (sym same) ∙ says))
answers_text text file given (Err (fault.Key key_fault)) read same says =
    rw read (ap Some (ap config_in (sym same) ∙ says))
answers_text text file given (Err fault.OutOfMemory) read same says = rw read refl
answers_text text file given (Err (fault.Toml error)) read same says = absurd says
