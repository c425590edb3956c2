-- The transitions of a list search do what the depth-first search says. Assumes nothing.
use Rattle.std.specs.Prelude.{◌≡◌, ◌≢◌, ◌⊎◌, Bool, true, ltb}
use Rattle.std.proofs.Math.Path.{refl, ap, subst}
use Rattle.std.proofs.Common.{sym, ◌∙◌, inl, inr}
use mathlib.Core.List.{List, [], ◌∷◌, ◌++◌, map, map-append}
use Prim.Native.Nat.{ℕ, suc, ◌+◌, ◌<◌}
use Rattle.std.proofs.Math.Decide.{ℕ_discrete}
use Rattle.std.proofs.Math.ListN.{drop}
use Rattle.graph.specs.Members.{◌∈◌, here, there, Each, put}
use Rattle.graph.proofs.Laws.Members.{mem_cons, mem_cast, put_same, put_other, drop_tail, mem_drop}
use Rattle.graph.specs.Graph.{Graph}
use Rattle.graph.proofs.Laws.DepthFirst.{Dfs, stop, seen, new, grows}
use Rattle.graph.specs.declared.Place.TheVariants.{Between, Inside}
use Rattle.graph.specs.Transition.{State, start, searches, needed, back, enter, pass, leave, transition, transitions}
use Rattle.graph.proofs.Laws.Transitions.{named_of, named_none, transitions_add, transition_leave, transition_pass, transition_enter, transition_begin}

-- what the marks and the list say, with v seen and l left
pub record Listed (G : Graph) (need : ℕ → List ℕ) (target stamp : ℕ → ℕ) (flag : ℕ → Bool) (list v l : List ℕ) : Type 0 where
  pub agree : (z : ℕ) → needed G target flag z ≡ need z
  pub seen_in : (y : ℕ) → y ∈ v → stamp y ≡ 2
  pub seen_out : (y : ℕ) → stamp y ≡ 2 → y ∈ v
  pub listed : list ≡ map suc l

abbrev pub ListedOf : Graph → (ℕ → List ℕ) → State → List ℕ → List ℕ → Type 0
ListedOf G need s v l = Listed G need s.target s.stamp s.flag s.list v l

-- Search k stands at x, and xs are the needs of x that are left to follow.
record Pre (G : Graph) (k : ℕ) (need : ℕ → List ℕ) (s : State) (x : ℕ) (v l xs : List ℕ) : Type 0 where
  place : s.place ≡ Inside k x
  rest : drop (s.followed x) (need x) ≡ xs
  mine : x ∈ v
  slot : x < G.slots
  marks : ListedOf G need s v l

-- what stays between s and s'
record Did (s s' : State) (x : ℕ) (v : List ℕ) : Type 0 where
  target_kept : s'.target ≡ s.target
  flag_kept : s'.flag ≡ s.flag
  -- the marks of what was seen before stand, but for how many links of x are done
  from_kept : (y : ℕ) → y ∈ v → s'.from y ≡ s.from y
  followed_kept : (y : ℕ) → y ∈ v → x ≢ y → s'.followed y ≡ s.followed y

-- what a node needs are slots
module _ (G : Graph) (k : ℕ) (need : ℕ → List ℕ) (slots : (x : ℕ) → Each (λ y. y < G.slots) (need x)) where
  left_to : {s : State} {x : ℕ} {v l xs : List ℕ} → Pre G k need s x v l xs → drop (s.followed x) (needed G s.target s.flag x) ≡ xs
  left_to {s} {x} p = ap (drop (s.followed x)) (p.marks.agree x) ∙ p.rest

  pre_pass : {s : State} {x y : ℕ} {v l ys : List ℕ} → Pre G k need s x v l (y ∷ ys) → Pre G k need (pass s x) x v l ys
  pre_pass {s} {x} p = record {
    place = p.place;
    rest = ap (λ (i : ℕ). drop i (need x)) (put_same s.followed x _ refl) ∙ drop_tail (s.followed x) (need x) p.rest;
    mine = p.mine;
    slot = p.slot;
    marks = p.marks;
  }

  pre_enter : (s : State) (y p : ℕ) {v l : List ℕ} → y < G.slots → ¬ (y ∈ v) → ListedOf G need s v l → Pre G k need (enter s k y p) y (y ∷ v) l (need y)
  pre_enter s y p {v} {l} h f m = record {
    place = refl;
    rest = ap (λ (i : ℕ). drop i (need y)) (put_same s.followed y _ refl);
    mine = here refl;
    slot = h;
    marks = record {
      agree = m.agree;
      seen_in = λ z i. inside z (mem_cons i);
      seen_out = λ z h. outside z h (ℕ_discrete y z);
      listed = m.listed;
    };
  }
    where
      inside : (z : ℕ) → (z ≡ y) ⊎ (z ∈ v) → put s.stamp y 2 z ≡ 2
      inside z (inl e) = put_same s.stamp y 2 (sym e)
      inside z (inr i) = put_other s.stamp y 2 (λ e. f (mem_cast e i)) ∙ m.seen_in z i

      outside : (z : ℕ) → put s.stamp y 2 z ≡ 2 → Dec (y ≡ z) → z ∈ (y ∷ v)
      outside z h (yes e) = here (sym e)
      outside z h (no ne) = there (m.seen_out z (sym (put_other s.stamp y 2 ne) ∙ h))

  -- y is left, with its entry
  marks_leave : (s : State) (y : ℕ) {v l : List ℕ} → ListedOf G need s v l → ListedOf G need (leave G s k y) v (l ++ y ∷ [])
  marks_leave s y {v} {l} m = record {
    agree = m.agree;
    seen_in = m.seen_in;
    seen_out = m.seen_out;
    listed = ap (λ (u : List ℕ). u ++ suc y ∷ []) m.listed ∙ sym (map-append suc l (y ∷ []));
  }

  record Post (s s' : State) (x : ℕ) (v v' l' : List ℕ) : Type 0 where
    pre : Pre G k need s' x v' l' []
    did : Did s s' x v

  did_none : {s : State} {x : ℕ} {v : List ℕ} → Did s s x v
  did_none = record { target_kept = refl; flag_kept = refl; from_kept = λ y m. refl; followed_kept = λ y m ne. refl }

  -- after a pass, the rest
  did_pass : {s s' : State} {x : ℕ} {v : List ℕ} → Did (pass s x) s' x v → Did s s' x v
  did_pass {s} {s'} {x} d = record {
    target_kept = d.target_kept;
    flag_kept = d.flag_kept;
    from_kept = d.from_kept;
    followed_kept = λ z m ne. d.followed_kept z m ne ∙ put_other s.followed x _ ne;
  }

  -- y is entered from x, searched and left, and then the rest
  did_new : {s s₂ s' : State} {x y : ℕ} {v v₁ : List ℕ} → ¬ (y ∈ v) → ((z : ℕ) → z ∈ (y ∷ v) → z ∈ v₁) → Did (enter s k y (suc x)) s₂ y (y ∷ v) → Did (leave G s₂ k y) s' x v₁ → Did s s' x v
  did_new {s} {s₂} {s'} {x} {y} {v} f g d d' = record {
    target_kept = d'.target_kept ∙ d.target_kept;
    flag_kept = d'.flag_kept ∙ d.flag_kept;
    from_kept = λ z m. d'.from_kept z (g z (there m)) ∙ d.from_kept z (there m) ∙ put_other s.from y _ (off z m);
    followed_kept = λ z m ne. d'.followed_kept z (g z (there m)) ne ∙ d.followed_kept z (there m) (off z m) ∙ put_other s.followed y _ (off z m);
  }
    where
      off : (z : ℕ) → z ∈ v → y ≢ z
      off z m e = f (mem_cast e m)

  sim : {v l xs v' l' : List ℕ} {c : ℕ} → Dfs need v l xs v' l' c → (s : State) (x : ℕ) → Pre G k need s x v l xs → Post s (transitions G c s) x v v' l'
  unfolding transitions
  sim stop s x p = record { pre = p; did = did_none }
  sim (seen {v = v} {v' = v'} {l' = l'} {x = y} {c = c} m d) s x p =
      let q : Post (pass s x) (transitions G c (pass s x)) x v v' l' = sim d (pass s x) x (pre_pass p) in
      let e : transition G s ≡ pass s x = transition_pass G s k x p.place (left_to p) (p.marks.seen_in y m) in
      subst (λ (u : State). Post s (transitions G c u) x v v' l') (sym e) (record { pre = q.pre; did = did_pass q.did })
  sim (new {v = v} {l = l} {xs = xs} {v₁ = v₁} {l₁ = l₁} {v' = v'} {l' = l'} {x = y} {c = c} {c' = c'} f d d') s x p =
      let s₁ : State = enter s k y (suc x) in
      let q₁ : Post s₁ (transitions G c s₁) y (y ∷ v) v₁ l₁ = sim d s₁ y (pre_enter s y (suc x) (slots x y (mem_drop (s.followed x) (need x) y (subst (λ (u : List ℕ). y ∈ u) (sym p.rest) (here refl)))) f p.marks) in
      let s₂ : State = transitions G c s₁ in
      let off : y ≢ x = λ e. f (mem_cast e p.mine) in
      let followed₂ : s₂.followed x ≡ s.followed x = q₁.did.followed_kept x (there p.mine) off ∙ put_other s.followed y _ off in
      let from₂ : s₂.from y ≡ suc x = q₁.did.from_kept y (here refl) ∙ put_same s.from y _ refl in
      let s₃ : State = leave G s₂ k y in
      let pre₃ : Pre G k need s₃ x v₁ (l₁ ++ y ∷ []) (y ∷ xs) = record {
        place = ap (back k) (named_of G from₂ p.slot);
        rest = ap (λ (i : ℕ). drop i (need x)) followed₂ ∙ p.rest;
        mine = grows d x (there p.mine);
        slot = p.slot;
        marks = marks_leave s₂ y q₁.pre.marks;
      } in
      let s₄ : State = pass s₃ x in
      let q₄ : Post s₄ (transitions G c' s₄) x v₁ v' l' = sim d' s₄ x (pre_pass pre₃) in
      let e₁ : transition G s ≡ s₁ = transition_enter G s k x p.place (left_to p) (λ h. f (p.marks.seen_out y h)) in
      let e₃ : transition G s₂ ≡ s₃ = transition_leave G s₂ k y q₁.pre.place (left_to q₁.pre) in
      let e₄ : transition G s₃ ≡ s₄ = transition_pass G s₃ k x pre₃.place (left_to pre₃) (pre₃.marks.seen_in y (grows d y (here refl))) in
      let e : transitions G (c + suc (suc c')) (transition G s) ≡ transitions G c' s₄ =
      ap (transitions G (c + suc (suc c'))) e₁ ∙ transitions_add G c (suc (suc c')) s₁ ∙ ap (λ (u : State). transitions G c' (transition G u)) e₃ ∙ ap (transitions G c') e₄ in
      subst (λ (u : State). Post s u x v v' l') (sym e) (record { pre = q₄.pre; did = did_new f (grows d) q₁.did (did_pass q₄.did) })

  -- LIST SEARCH k, from its beginning to the next one's
  pub record Worked (s s' : State) (v' l' : List ℕ) : Type 0 where
    pub place : s'.place ≡ Between (suc k)
    pub marks : ListedOf G need s' v' l'
    pub target_kept : s'.target ≡ s.target
    pub flag_kept : s'.flag ≡ s.flag

  pub one_search : {v l v' l' : List ℕ} {c : ℕ} → Dfs need (start G k ∷ v) l (need (start G k)) v' l' c → (s : State) → s.place ≡ Between k → ltb k (searches G) ≡ true →
      start G k < G.slots → ¬ (start G k ∈ v) → ListedOf G need s v l → Worked s (transitions G (suc (c + 1)) s) v' (l' ++ start G k ∷ [])
  unfolding transitions
  one_search {v} {l} {v'} {l'} {c} d s p h j f m =
      let x = start G k in
      let s₁ : State = enter s k x 0 in
      let q : Post s₁ (transitions G c s₁) x (x ∷ v) v' l' = sim d s₁ x (pre_enter s x 0 j f m) in
      let s₂ : State = transitions G c s₁ in
      let e₁ : transition G s ≡ s₁ = transition_begin G s k p h (λ e. f (m.seen_out x e)) in
      let e₂ : transition G s₂ ≡ leave G s₂ k x = transition_leave G s₂ k x q.pre.place (left_to q.pre) in
      let e : transitions G (c + 1) (transition G s) ≡ leave G s₂ k x = ap (transitions G (c + 1)) e₁ ∙ transitions_add G c 1 s₁ ∙ e₂ in
      subst (λ (u : State). Worked s u v' (l' ++ x ∷ [])) (sym e) (record {
        place = ap (back k) (named_none G (q.did.from_kept x (here refl) ∙ put_same s.from x _ refl));
        marks = marks_leave s₂ x q.pre.marks;
        target_kept = q.did.target_kept;
        flag_kept = q.did.flag_kept;
      })
