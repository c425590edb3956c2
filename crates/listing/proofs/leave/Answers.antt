use Rattle.listing.proofs.Rule.{leave_lists, grows_one}
use Rattle.listing.proofs.leave.Goals as goal

pub returns : goal.returns
returns c = record {
  rule = λ G ta ma fl a. leave_lists a _ _ _ c.back_from.ensures c.requires.2;
  room = grows_one _ _ _ c.requires.2;
}
