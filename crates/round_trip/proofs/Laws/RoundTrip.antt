-- ROUND TRIP: reading the print of a tree gives the tree. Assumes nothing.
use Rattle.std.specs.Prelude.{◌≤◌, ◌≡◌, length}
use Rattle.std.proofs.Common.{le-ltb}
use Rattle.syntax.specs.Bounds.{text_bytes}
use Rattle.syntax.specs.Tree.{Ad}
use Rattle.syntax.specs.Reader.{accepted, parse, read}
use Rattle.syntax.specs.Print.{printed_ad}
use Rattle.syntax.proofs.Laws.Accepts.{accepts}
use Rattle.round_trip.specs.Bounded.{Bounded}
use Rattle.round_trip.specs.Printed.{ad_tokens}
use Rattle.round_trip.proofs.Laws.Derives.{derives}
use Rattle.round_trip.proofs.Laws.Lexing.{printed_tokens}

-- FOR EVERY TREE WITHIN THE BOUNDS, READING ITS PRINT, were its length not bounded, GIVES THE SAME TREE
pub round_trip : (a : Ad) → Bounded a → parse (printed_ad a) ≡ accepted a
round_trip a h = (accepts (printed_ad a) a).1 (ad_tokens a, printed_tokens a h.writable, derives a h.shallow, h.within)

-- AND A PRINT OF AT MOST 16,384 BYTES IS READ BACK
pub read_back : (a : Ad) → Bounded a → length (printed_ad a) ≤ text_bytes → read (printed_ad a) ≡ accepted a
unfolding read
read_back a h l = rw (le-ltb text_bytes (length (printed_ad a)) l) (round_trip a h)
