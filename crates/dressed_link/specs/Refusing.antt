-- Why bytes can't be dressed.
use Rattle.fix_text.specs.declared.fault.TextFault.{TextFault}
use Rattle.fix_text.specs.declared.fault.TextFault.TheVariants as text
use Rattle.dressed_link.specs.declared.dress_fault.DressFault.{DressFault}
use Rattle.dressed_link.specs.declared.dress_fault.DressFault.TheVariants.{NoFrame, OutOfMemory}

-- what a refusal to write means
abbrev pub dress_fault_of : TextFault → DressFault
dress_fault_of text.BadTag = NoFrame
dress_fault_of text.BadValue = NoFrame
dress_fault_of text.TooLong = NoFrame
dress_fault_of text.OutOfMemory = OutOfMemory
