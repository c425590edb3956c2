-- The loop of the run: what holds before each step, and what is then asked and had. Assumes nothing.
use Prim.Native.Nat.{ℕ, ◌+◌, ◌-◌, ◌<◌, min}
use native.Mathlib.Omega.{arith}
use mathlib.Core.Path.{◌≡◌, sym, ap, ◌∙◌, subst}
use mathlib.Core.List.{List}
use lib.ListN.{length, get_or, take, length-map, get_or-map}
use lib.Seq.{length-take-le, get_or-take}
use native.Mathlib.Decide.{dec_lt}
use Rattle.links.specs.Laws.Numbering.{stands_small}
use Rattle.evaluation.specs.Evaluation.{entries, Stepped, RunTo}
use Rattle.evaluation.specs.Marked.{needs_of, rule_of_node}
use Rattle.evaluation.specs.declared.Marked.{Marked}
use Rattle.evaluation.specs.Inner.Asked.{AtStep, AtRun}
use Rattle.evaluation.specs.Laws.Words.{Run, run_first, run_next, run_spent, run_over, run_long}

entries_long : (list : List ℕ) → length (entries (length list) list) ≡ length list
unfolding entries
entries_long list = length-map (take (length list) list) (λ e. e - 1) ∙ length-take-le (length list) list (omega arith)

entries_at : (list : List ℕ) (i : ℕ) → i < length list → get_or (entries (length list) list) i 0 ≡ get_or list i 0 - 1
unfolding entries
entries_at list i h =
    get_or-map (λ (e : ℕ). e - 1) (take (length list) list) i 0
    ∙ ap (λ (e : ℕ). e - 1) (get_or-take (length list) list i 0 h)

module _ (m : Marked) (list : List ℕ) (k : ℕ) (table₀ : List ℕ) where
  -- before a step, n having been made
  abbrev pub Turn : ℕ → List ℕ → Type 0
  Turn n table = Run (needs_of m) (rule_of_node m) (entries (length list) list) k n table₀ table

  pub turn_first : Turn 0 table₀
  turn_first = run_first (needs_of m) (rule_of_node m) (entries (length list) list) k table₀

  module _ (a : AtRun m.sides.first.words.now m.sides.second.words.now m.target.now m.flag.now list table₀) {n : ℕ} (h : n < length list - k) where
    pub turn_step : AtStep m.sides.first.words.now m.sides.second.words.now m.target.now m.flag.now (get_or list (k + n) 0 - 1)
    turn_step =
        let s = (a.listed (k + n) (omega arith)).1 in
        let l = stands_small m.sides.first.words.now m.sides.second.words.now _ s in
        let p = a.target_room in
        let q = a.flag_room in
        record { node = s; target_room = omega arith; flag_room = omega arith }

    pub turn_next : {table after : List ℕ} → Turn n table → Stepped (needs_of m) (rule_of_node m) (get_or list (k + n) 0 - 1) table after → Turn (n + 1) after
    turn_next t s =
        let l = stands_small m.sides.first.words.now m.sides.second.words.now _ turn_step.node in
        let r = a.table_room_lem in
        let long = run_long (needs_of m) (rule_of_node m) t in
        let el = entries_long list in
        run_next (needs_of m) (rule_of_node m) t (omega arith) (sym (entries_at list (k + n) (omega arith))) (omega arith) s

  -- the run is over
  pub turn_end : {budget steps n : ℕ} {table : List ℕ} → steps ≡ min budget (length list - k) → n ≡ steps → Turn n table →
      RunTo (needs_of m) (rule_of_node m) (entries (length list) list) k budget table₀ table steps
  turn_end {budget} {steps} {n} {table} e q t =
      let el = entries_long list in
      go (dec_lt budget (length list - k))
    where
      t' : Turn steps table
      t' = subst (λ (u : ℕ). Turn u table) q t

      go : Dec (budget < length list - k) → RunTo (needs_of m) (rule_of_node m) (entries (length list) list) k budget table₀ table steps
      go (yes l) = let el = entries_long list in run_spent (needs_of m) (rule_of_node m) t' (omega arith) (omega arith)
      go (no l) = let el = entries_long list in run_over (needs_of m) (rule_of_node m) t' (omega arith) (omega arith)
