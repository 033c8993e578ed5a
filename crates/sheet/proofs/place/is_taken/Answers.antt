-- The closure tests a record's name, and the names of the records are tested alike.
use Rattle.std.proofs.Common.{◌∙◌, rules}
use borrow.Author.Tests.{tests}
use Rattle.std.specs.Str.{bytes_eq}
use Rattle.std.proofs.lemmas.Iterator.{YieldsList-from_slice}
use Rattle.std.proofs.lemmas.Iterator.Search.{any_from_yields_List}
use Rattle.sheet.specs.Entries.{seen, name_of}
use Rattle.sheet.proofs.Names.{taken_lem}
use Rattle.sheet.proofs.place.is_taken.Goals as goal

pub returns : goal.returns
returns c = record {
  value = any_from_yields_List (λ record'. bytes_eq (name_of (seen record')) c.args.name.now) _ _ _ c.any.ensures.ran (YieldsList-from_slice c.args.earlier.now cc) (λ x b q k. search (rules, tests))
      ∙ taken_lem c.args.name.now c.args.earlier.now;
}
