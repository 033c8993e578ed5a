-- The records of a sheet by what they say.
use Rattle.std.specs.Prelude.{ℕ, ◌+◌, List, map, length}
use Rattle.sheet.specs.declared.kind.Kind.{Kind}
use Rattle.sheet.specs.declared.kind.Kind.TheVariants.{Poll as OfPoll, Lane as OfLane}
use Rattle.sheet.specs.declared.record.Record.{Record}
use Rattle.sheet.specs.declared.record.Record.TheVariants.{Poll, Lane}

-- a record: the bytes of its name, its numbers, and `at`, the byte at which it begins
pub data Entry : Type 0 where
  poll : (name : List ℕ) (phase period budget at : ℕ) → Entry
  lane : (name : List ℕ) (span quota at : ℕ) → Entry

-- what a record of the code, whose name is a part of the sheet, says
abbrev pub seen : Record → Entry
seen (Poll name phase period budget at) = poll name.now phase period budget at
seen (Lane name span quota at) = lane name.now span quota at

abbrev pub kind_of : Entry → Kind
kind_of (poll name phase period budget at) = OfPoll
kind_of (lane name span quota at) = OfLane

abbrev pub name_of : Entry → List ℕ
name_of (poll name phase period budget at) = name
name_of (lane name span quota at) = name

abbrev pub names_of : List Entry → List (List ℕ)
names_of entries = map name_of entries

abbrev pub place_of : Entry → ℕ
place_of (poll name phase period budget at) = at
place_of (lane name span quota at) = at

-- the first byte past it: letter, name length, name and two bytes for each number
abbrev pub end_of : Entry → ℕ
end_of (poll name phase period budget at) = at + 2 + length name + 6
end_of (lane name span quota at) = at + 2 + length name + 4
