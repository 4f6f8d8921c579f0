-- The line of a command. Assumes nothing.
use Rattle.std.specs.Prelude.{◌≡◌, ℕ, ◌^◌, ◌<◌, List, ◌++◌, Some, codes, Option}
use Rattle.script.specs.declared.commands.Command.{Command}
use Rattle.script.specs.declared.commands.Command.TheVariants.{Write, Read, Trim, Flush, Turn, Cut, Seed}
use Rattle.script.specs.Fields.{field_text, byte_text}
use Rattle.script.specs.Readings.{Whole}

-- the line that gives a command
abbrev pub text : Command → List ℕ
text (Write tag from many fill) = codes "write" ++ (field_text tag ++ (field_text from ++ (field_text many ++ byte_text fill)))
text (Read tag from many) = codes "read" ++ (field_text tag ++ (field_text from ++ field_text many))
text (Trim tag from many) = codes "trim" ++ (field_text tag ++ (field_text from ++ field_text many))
text (Flush tag) = codes "flush" ++ field_text tag
text (Turn count) = codes "turn" ++ field_text count
text (Cut asks) = codes "cut" ++ field_text asks
text (Seed seed) = codes "seed" ++ field_text seed

-- the fields within their types
abbrev pub Fits : Command → Type 0
Fits (Write tag from many fill) = (tag < 256) × (from < 2 ^ 32) × (many < 2 ^ 32) × (fill < 256)
Fits (Read tag from many) = (tag < 256) × (from < 2 ^ 32) × (many < 2 ^ 32)
Fits (Trim tag from many) = (tag < 256) × (from < 2 ^ 32) × (many < 2 ^ 32)
Fits (Flush tag) = tag < 256
Fits (Turn count) = count < 2 ^ 32
Fits (Cut asks) = asks < 2 ^ 32
Fits (Seed seed) = seed < 2 ^ 32

-- no line gives two commands
abbrev pub OneReading : Type 0
OneReading = (c d : Command) → Fits c → Fits d → text c ≡ text d → c ≡ d

-- what is found on the line of a command is that command
abbrev pub ReadsBack : Type 0
ReadsBack = (c : Command) (r : Option Command) → Fits c → Whole text Fits (text c) r → r ≡ Some c
