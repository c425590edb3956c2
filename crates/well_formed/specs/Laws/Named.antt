-- No name of an accepted ad is empty, and so its memory says which ad it holds. Assumes nothing.
use Rattle.std.specs.Prelude.{ℕ, ◌≡◌, true, ◌&&◌, List, [], ◌∷◌}
use Rattle.text.specs.Laws.Booleans.{and_left, and_right}
use Rattle.syntax.specs.Tree.{Ad}
use Rattle.syntax.specs.Reader.{accepted, parse}
use Rattle.syntax.specs.Inner.Lexeme.{is_name}
use Rattle.syntax.proofs.Laws.Accepts.{accepts}
use Rattle.syntax.proofs.Laws.FrontTokens.{name_some}
use Rattle.ad.specs.Layout.{Named, stored_words, stored_bytes}
use Rattle.ad.specs.Laws.Content.{content_tree}
use Rattle.round_trip.specs.Bounded.{is_writable, are_writable, Bounded}
use Rattle.round_trip.proofs.Laws.Readable.{accepted_bounded}

pub writable_named : (a : Ad) → are_writable a ≡ true → Named a
unfolding are_writable Named
writable_named [] h = tt
writable_named (d ∷ a) h =
    let n = is_name d.name in
    let w = is_writable d.expression in
    let r = and_right n (w && are_writable a) h in
    (name_some d.name (and_left n (w && are_writable a) h), writable_named a (and_right w (are_writable a) r))

pub bounded_named : (a : Ad) → Bounded a → Named a
bounded_named a b = writable_named a b.writable

-- AN ACCEPTED AD HAS NO EMPTY NAME: 'Name: a letter or `_`, then ..'
pub accepted_named : (s : List ℕ) (a : Ad) → parse s ≡ accepted a → Named a
accepted_named s a e = bounded_named a (accepted_bounded s a e)

-- THE MEMORY OF AN ACCEPTED AD SAYS WHICH AD IT HOLDS: two accepted ads of equal content are the same tree
pub accepted_content : (s s' : List ℕ) (a a' : Ad) → parse s ≡ accepted a → parse s' ≡ accepted a' → stored_words a ≡ stored_words a' → stored_bytes a ≡ stored_bytes a' → a ≡ a'
accepted_content s s' a a' e e' =
    content_tree a a' (accepted_named s a e) (accepted_named s' a' e') ((accepts s a).0 e).3.few_nodes ((accepts s' a').0 e').3.few_nodes
