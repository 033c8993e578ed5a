-- The two kinds of records by name.
use Rattle.std.specs.Prelude.{ℕ, List, codes}
use Rattle.sheet.specs.declared.kind.Kind.{Kind}
use Rattle.sheet.specs.declared.kind.Kind.TheVariants.{Poll as OfPoll, Lane as OfLane}

abbrev pub kind_name : Kind → List ℕ
kind_name OfPoll = codes "poll"
kind_name OfLane = codes "lane"
