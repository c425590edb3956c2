-- Two ads are refused in one way, or admitted. Assumes nothing.
use Rattle.std.specs.Prelude.{ℕ, ◌≡◌, refl, Result, Ok, Err, List}
use Rattle.std.proofs.Common.{sym, ◌∙◌, subst, true≢false}
use Rattle.syntax.specs.Refusals.{number_of}
use Rattle.syntax.specs.declared.Reason.{Reason}
use Rattle.links.specs.declared.pair.AdPair.{AdPair}
use Rattle.admission.specs.Inner.Admitting.{AdmitsWith, Admitting}
use Rattle.admission.specs.Admission.{Refuses, no_room, first_malformed, second_malformed, Admits}

module _ {v b w c : List ℕ} {lent room entries : ℕ} where
  pub refuses_one : {k l : ℕ} → Refuses v b w c lent room entries k → Refuses v b w c lent room entries l → k ≡ l
  refuses_one (no_room e) (no_room f) = refl
  refuses_one (no_room e) (first_malformed f n) = absurd (true≢false (sym e ∙ f))
  refuses_one (no_room e) (second_malformed f h n) = absurd (true≢false (sym e ∙ f))
  refuses_one (first_malformed e m) (no_room f) = absurd (true≢false (sym f ∙ e))
  refuses_one (first_malformed e m) (first_malformed f n) = refl
  refuses_one (first_malformed e m) (second_malformed f h n) = refl
  refuses_one (second_malformed e g m) (no_room f) = absurd (true≢false (sym f ∙ e))
  refuses_one (second_malformed e g m) (first_malformed f n) = refl
  refuses_one (second_malformed e g m) (second_malformed f h n) = refl

  pub refused_not_admitted : {k : ℕ} → Refuses v b w c lent room entries k → ¬ (Admits v b w c lent room entries)
  refused_not_admitted (no_room e) a = true≢false (sym e ∙ a.roomy)
  refused_not_admitted (first_malformed e n) a = n a.first_well
  refused_not_admitted (second_malformed e h n) a = n a.second_well

  -- what an answer says
  pub refusal_told : {r : Result AdPair Reason} {k : Reason} → Admitting v b w c lent room entries r → r ≡ Err k → Refuses v b w c lent room entries (number_of k)
  refusal_told h e = subst (Admitting v b w c lent room entries) e h

  pub admission_told : {r : Result AdPair Reason} {p : AdPair} → Admitting v b w c lent room entries r → r ≡ Ok p → AdmitsWith v b w c lent room entries p
  admission_told h e = subst (Admitting v b w c lent room entries) e h
