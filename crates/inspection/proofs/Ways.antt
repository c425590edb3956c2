-- What each way through the printer of a node's expression gives. Assumes nothing.
use Prim.Native.Nat.{ℕ, ◌≤◌, ◌<◌}
use native.Mathlib.Omega.{arith}
use mathlib.Core.Path.{◌≡◌, sym, ◌∙◌, ap}
use mathlib.Core.List.{List, [], ◌∷◌}
use lib.ListN.{length}
use lib.Seq.{sets}
use Rattle.syntax.specs.Tree.{Ad, nodes, size}
use Rattle.syntax.specs.Print.{printed}
use Rattle.ad.specs.Layout.{expr_bytes}
use Rattle.well_formed.specs.WellFormed.{Answers}
use Rattle.well_formed.specs.Laws.Bounds.{bounded}
use Rattle.tree_check.specs.Laws.Runs.{Stands, stands_inside}
use Rattle.tree_check.specs.Laws.Prints.{print_short}
use Rattle.std.proofs.Common.{Some, Ok, Err}
use Rattle.syntax.specs.declared.Reason.TheVariants.{PrintTooLong}
use Rattle.well_formed.specs.declared.Checked.{Checked}
use Rattle.tree_printer.specs.Inner.Post.{Fits, Written}
use Rattle.printer.specs.Prints.{PrintsText}
use Rattle.printer.proofs.Ads.{table, print_put, print_long, print_longer}
use Rattle.inspection.specs.Inspection.{node_text}
use Rattle.inspection.proofs.Reached.{Reached, text_none, all_length, reach_ad}

module _ (w b : List ℕ) (hw : length w ≡ 4864) (hb : length b ≡ 16384) (c : Checked) (node : ℕ) (h : Answers w b (Some c)) where
  -- the text that is to be written
  abbrev t : Ad → List ℕ
  t a = node_text a node

  pub no_node : (o : List ℕ) → c.counts.nodes ≤ node → PrintsText t w b o o (Ok 0)
  no_node o g =
      let e : t h.0 ≡ [] = text_none _ node (omega (arith, all_length h.0, h.3)) in
      print_put w b o hw hb t 0 c h (ap length (sym e)) o (omega arith) (omega arith) (ap (sets o 0) (sym e))

  module _ (lt : node < c.counts.nodes) where
    at : Reached w b node (t h.0)
    at = reach_ad h.0 w b 0 0 0 node node (table w b [] hw hb c h) (omega (arith, h.3)) (omega arith)

    inside : (l : List ℕ) (o : ℕ) → Stands b o l → length l ≤ 16384
    inside [] o s = omega arith
    inside (x ∷ l) o s = omega (arith, stands_inside b (x ∷ l) o s (omega arith))

    pub node_fits : Fits printed w b node 0
    node_fits =
        let r = at.stands in
        let f : nodes h.0 ≤ 1024 = (bounded h.1).within.few_nodes in
        let s : size at.tree ≤ 1024 = omega (arith, r.long, h.3) in
        record {
          words = omega arith;
          node = omega (arith, h.3);
          tree = at.tree;
          first = at.first;
          byte = at.byte;
          stands = r;
          near = omega (arith, print_short at.tree r.writable, inside (expr_bytes at.tree) at.byte r.bytes);
        }

    module _ (x x' : List ℕ) (m : ℕ) (put : Written printed w b node 0 x x' m) where
      long : m ≡ length (t h.0)
      long = omega (arith, (put at.tree at.first at.byte at.stands).behind, ap length at.text)

      pub too_long : (o : List ℕ) → length o < m → PrintsText t w b o o (Err (record { reason = PrintTooLong; place = 0 }))
      too_long o g = print_long w b o hw hb t m c h long g

      pub longer : (o : List ℕ) → 16384 < m → PrintsText t w b o o (Err (record { reason = PrintTooLong; place = 0 }))
      longer o g = print_longer w b o hw hb t m c h long g

      pub put_node : (o o₁ : List ℕ) (r : ℕ) → m ≤ length o → m ≤ 16384 → Written printed w b node 0 o o₁ r → PrintsText t w b o o₁ (Ok m)
      put_node o o₁ r g f p =
          print_put w b o hw hb t m c h long o₁ g f ((p at.tree at.first at.byte at.stands).written ∙ ap (sets o 0) (sym at.text))
