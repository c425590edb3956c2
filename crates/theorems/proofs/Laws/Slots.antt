-- The words that a run leaves stand for the slots that it leaves: the rules' values are packed and read back. Assumes nothing.
use Rattle.std.specs.Prelude.{ℕ, ◌+◌, ◌*◌, ◌<◌, ◌≡◌, set}
use Rattle.std.proofs.Common.{arith, ◌∙◌}
use Rattle.std.proofs.Math.Path.{refl, ap}
use mathlib.Core.List.{List, [], ◌∷◌, map}
use Rattle.std.proofs.Math.ListN.{length, length-set}
use Rattle.graph.specs.Members.{here, there, Each}
use Rattle.slots.specs.declared.Slot.{Slot}
use Rattle.slots.specs.declared.Slot.TheVariants.{Held}
use Rattle.slots.specs.Packed.{slot_at, put_at, Stored}
use Rattle.slots.specs.Inner.Packing.{SizedSlot}
use Rattle.slots.proofs.Round.{unpack_pack, same_slot, other_slot}
use Rattle.valuation.specs.Run.{step_table, steps}
use Rattle.evaluation.specs.Evaluation.{rule_at, seen, step_words, steps_words}
use Rattle.evaluation.specs.Laws.Words.{step_stored}
use Rattle.theorems.proofs.Laws.Sizes.{rule_sized}

put_stored : (t : List ℕ) (x : ℕ) (s : Slot) → SizedSlot s → Stored t (put_at t x s) x s
put_stored t x s h = record { whole = refl; holds = λ k. same_slot t x s k (unpack_pack s h); keeps = other_slot t x s }

module _ (need : ℕ → List ℕ) (v b w c : List ℕ) where
  step_slots : (t : List ℕ) (x : ℕ) → x * 2 + 1 < length t → slot_at (step_words need (rule_at v b w c) t x) ≡ step_table Held seen need (rule_at v b w c) (slot_at t) x
  unfolding step_words
  step_slots t x h = (step_stored need (rule_at v b w c) refl (put_stored t x (Held (rule_at v b w c x (map (λ y. seen (slot_at t y)) (need x)))) (rule_sized v b w c t (need x) x))).slots h

  step_long : (t : List ℕ) (x : ℕ) → length (step_words need (rule_at v b w c) t x) ≡ length t
  unfolding step_words
  step_long t x = length-set (set t (x * 2) _) (x * 2 + 1) _ ∙ length-set t (x * 2) _

  -- all slots, after a step for each entry
  pub steps_slots : (xs t : List ℕ) → Each (λ x. x * 2 + 1 < length t) xs → slot_at (steps_words need (rule_at v b w c) xs t) ≡ steps Held seen need (rule_at v b w c) xs (slot_at t)
  unfolding steps_words steps
  steps_slots [] t h = refl
  steps_slots (x ∷ xs) t h =
      steps_slots xs (step_words need (rule_at v b w c) t x) (λ y m. let e = step_long t x in let k : y * 2 + 1 < length t = h y (there m) in omega arith)
      ∙ ap (steps Held seen need (rule_at v b w c) xs) (step_slots t x (h x (here refl)))
