-- A stored ad is well formed exactly if its tree keeps the bounds: which text reads as it does not matter. Assumes nothing.
use Rattle.std.specs.Prelude.{ℕ, ◌≤◌, ◌≡◌, refl, List, length}
use Rattle.syntax.specs.Tree.{Ad}
use Rattle.syntax.specs.Reader.{accepted, read}
use Rattle.syntax.specs.Print.{printed_ad}
use Rattle.ad.specs.Layout.{ad_bytes, ad_bytes_room, stored_words, stored_bytes}
use Rattle.round_trip.specs.Bounded.{Bounded}
use Rattle.round_trip.proofs.Laws.RoundTrip.{round_trip}
use Rattle.round_trip.proofs.Laws.Readable.{accepted_bounded, read_fits}
use Rattle.well_formed.specs.WellFormed.{Holds}

-- A WELL-FORMED AD KEEPS THE BOUNDS, levels of its printed text included
pub bounded : {w b : List ℕ} {a : Ad} → Holds w b a → Bounded a
bounded {a = a} h = accepted_bounded h.text a h.reads

-- AND ONE THAT KEEPS THEM IS WELL FORMED: its own print is a text that leaves it so
pub holds : {w b : List ℕ} {a : Ad} → Bounded a → length (ad_bytes a) ≤ ad_bytes_room → w ≡ stored_words a → b ≡ stored_bytes a → Holds w b a
holds {a = a} h f p q = record { text = printed_ad a; reads = round_trip a h; fits = f; words = p; bytes = q }

-- WHAT READING A TEXT LEAVES IS WELL FORMED
pub read_holds : (s : List ℕ) (a : Ad) → read s ≡ accepted a → Holds (stored_words a) (stored_bytes a) a
read_holds s a h = let x = read_fits s a h in record { text = s; reads = x.0; fits = x.1; words = refl; bytes = refl }
