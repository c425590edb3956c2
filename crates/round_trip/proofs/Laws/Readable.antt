-- Which trees some text gives. Assumes nothing.
use Rattle.std.specs.Prelude.{ℕ, ◌≤◌, ◌≡◌, refl, ◌↔◌, Bool, true, false, List, length, ltb}
use Rattle.std.proofs.Common.{arith, ltb-false}
use Rattle.syntax.specs.Bounds.{text_bytes}
use Rattle.syntax.specs.Tree.{Ad}
use Rattle.syntax.specs.Token.{pick}
use Rattle.syntax.specs.Reader.{accepted, denied, parse, read}
use Rattle.syntax.specs.Print.{printed_ad}
use Rattle.syntax.proofs.Laws.Accepts.{accepts}
use Rattle.syntax.proofs.Laws.FrontTokens.{tokens_written}
use Rattle.ad.specs.Layout.{ad_bytes, ad_bytes_room}
use Rattle.round_trip.specs.Bounded.{Bounded}
use Rattle.round_trip.proofs.Laws.RoundTrip.{round_trip}
use Rattle.round_trip.proofs.Laws.Deepest.{shallow_ad}
use Rattle.round_trip.proofs.Laws.Fits.{accepted_fits}
use Rattle.round_trip.proofs.Laws.Written.{writable_ad}

-- EVERY ACCEPTED TREE IS WITHIN THE BOUNDS, levels of its printed text included
pub accepted_bounded : (s : List ℕ) (a : Ad) → parse s ≡ accepted a → Bounded a
accepted_bounded s a e =
    let x = (accepts s a).0 e in
    record { within = x.3; writable = writable_ad x.2 (tokens_written s x.0 x.1.1); shallow = shallow_ad x.2 }

-- SOME TEXT READS AS THE TREE EXACTLY IF IT IS WITHIN THE BOUNDS
pub readable : (a : Ad) → ((s : List ℕ) × (parse s ≡ accepted a)) ↔ Bounded a
readable a = ((λ x. accepted_bounded x.0 a x.1), λ h. (printed_ad a, round_trip a h))

-- AN ACCEPTED TREE'S PRINT READS BACK AS THE SAME TREE
pub accepted_round_trip : (s : List ℕ) (a : Ad) → parse s ≡ accepted a → parse (printed_ad a) ≡ accepted a
accepted_round_trip s a e = round_trip a (accepted_bounded s a e)

-- what `read` accepts has at most 16,384 bytes, and `parse` accepts it
read_parse : (s : List ℕ) (a : Ad) → read s ≡ accepted a → (length s ≤ text_bytes) × (parse s ≡ accepted a)
unfolding read
read_parse s a h = go (ltb text_bytes (length s)) refl h
  where
    never : denied 2 0 ≡ accepted a → ⊥
    never e = let z : ◌≡◌ {A = ℕ} 0 1 = cc in omega arith

    go : (t : Bool) → ltb text_bytes (length s) ≡ t → pick t (λ _. denied 2 0) (λ _. parse s) ≡ accepted a → (length s ≤ text_bytes) × (parse s ≡ accepted a)
    go true e h = absurd (never h)
    go false e h = (ltb-false text_bytes (length s) e, h)

-- and its names and strings have room: '16,384 bytes of names and strings'
pub read_fits : (s : List ℕ) (a : Ad) → read s ≡ accepted a → (parse s ≡ accepted a) × (length (ad_bytes a) ≤ ad_bytes_room)
read_fits s a h = let x = read_parse s a h in (x.1, omega (arith, accepted_fits s a x.1, x.0))
