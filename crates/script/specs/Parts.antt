-- The parts of a script, as they are handed out.
use Rattle.schedule.specs.Script.{ScriptParts}
use Rattle.script.specs.declared.parts.Parts.{Parts}

-- the script of these parts
abbrev pub parts_of : Parts → ScriptParts
parts_of parts = record {
  max_number = parts.max_number;
  dialects = parts.dialects.items;
  next = parts.next.items;
  events = parts.events.items;
}
