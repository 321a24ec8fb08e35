-- What a client is told beside the answers to its lines.
use Rattle.std.specs.Prelude.{ℕ, List, ◌++◌, codes}
use Rattle.desk_news.specs.Day.{day_text}
use Rattle.json_lines.specs.Lines.{totals_json}
use Rattle.desk_talk.specs.Rights.{right_text}
use Rattle.desk_talk.specs.declared.said.Said.{Said}
use Rattle.desk_talk.specs.declared.said.Said.TheVariants as said

-- what it is told in words; a name is printable text
abbrev pub said_text : Said → List ℕ
said_text (said.Known name) = codes "ok " ++ name.now
said_text said.WrongToken = codes "refused: wrong token"
said_text said.NoToken = codes "refused: the first line has to be token TOKEN"
said_text said.Full = codes "full: 32 connections, try again later"
said_text (said.MayNot right) = codes "refused: this token may not " ++ right_text right
said_text said.Follows = codes "following"
said_text said.Closes = codes "closing"
said_text (said.Over totals) = day_text totals

-- the same as an object of JSON
abbrev pub said_json : Said → List ℕ
said_json (said.Known name) = codes "{\"ok\":\"" ++ name.now ++ codes "\"}"
said_json said.WrongToken = codes "{\"refused\":\"token\",\"text\":\"wrong token\"}"
said_json said.NoToken = codes "{\"refused\":\"token\",\"text\":\"the first line has to be token TOKEN\"}"
said_json said.Full = codes "{\"full\":32,\"text\":\"32 connections, try again later\"}"
said_json (said.MayNot right) =
    codes "{\"refused\":\"right\",\"text\":\"this token may not " ++ right_text right ++ codes "\"}"
said_json said.Follows = codes "{\"following\":true}"
said_json said.Closes = codes "{\"closing\":true}"
said_json (said.Over totals) = totals_json totals
