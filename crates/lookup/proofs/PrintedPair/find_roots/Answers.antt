use Rattle.text.specs.Bytes.{bytes}
use Rattle.lookup.proofs.PrintedPair.find_roots.Goals as goal

pub returns : goal.returns
unfolding bytes
returns c = record {
  first_required = c.find_name.ensures.found;
  second_required = c.find_name-2.ensures.found;
  first_ranked = c.find_name-3.ensures.found;
  second_ranked = c.find_name-4.ensures.found;
}
