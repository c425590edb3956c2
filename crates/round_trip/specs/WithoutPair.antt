-- The texts that are left of a print when one pair of its parentheses is taken away. Assumes nothing.
use Rattle.std.specs.Prelude.{ℕ, ◌+◌, ◌<◌, List, [], ◌∷◌, ◌++◌}
use Prim.Native.Char.{code}
use Rattle.text.specs.Bytes.{bytes}
use Rattle.syntax.specs.Tree.{Expr, unary, binary, conditional, Definition, Ad}
use Rattle.syntax.specs.Grammar.{binds_of}
use Rattle.syntax.specs.Print.{binary_text, unary_text, binds, wrap, printed, definition_text, definitions_text}
use Rattle.syntax.specs.declared.Binary.{Binary}
use Rattle.syntax.specs.declared.Unary.{Unary}

-- WithoutPair k e t: where one that binds at k or tighter can stand, e is written `wrap k (binds e) (printed e)`, and t is this
-- without one pair of its parentheses: those that `wrap` writes around e, or those around an expression inside e
pub data WithoutPair : ℕ → Expr → List ℕ → Type 0 where
  pair_here : {k : ℕ} {e : Expr} → binds e < k → WithoutPair k e (printed e)
  pair_operand : {k : ℕ} {u : Unary} {a : Expr} {t : List ℕ} →
      WithoutPair 7 a t →
      WithoutPair k (unary u a) (wrap k 7 (unary_text u ++ t))
  pair_left : {k : ℕ} {j : Binary} {a b : Expr} {t : List ℕ} →
      WithoutPair (binds_of j) a t →
      WithoutPair k (binary j a b) (wrap k (binds_of j) (t ++ (code " " ∷ (binary_text j ++ (code " " ∷ wrap (binds_of j + 1) (binds b) (printed b))))))
  pair_right : {k : ℕ} {j : Binary} {a b : Expr} {t : List ℕ} →
      WithoutPair (binds_of j + 1) b t →
      WithoutPair k (binary j a b) (wrap k (binds_of j) (wrap (binds_of j) (binds a) (printed a) ++ (code " " ∷ (binary_text j ++ (code " " ∷ t)))))
  pair_condition : {k : ℕ} {a b c : Expr} {t : List ℕ} →
      WithoutPair 1 a t →
      WithoutPair k (conditional a b c) (wrap k 0 (t ++ (bytes " ? " ++ (printed b ++ (bytes " : " ++ printed c)))))
  pair_then : {k : ℕ} {a b c : Expr} {t : List ℕ} →
      WithoutPair 0 b t →
      WithoutPair k (conditional a b c) (wrap k 0 (wrap 1 (binds a) (printed a) ++ (bytes " ? " ++ (t ++ (bytes " : " ++ printed c)))))
  pair_else : {k : ℕ} {a b c : Expr} {t : List ℕ} →
      WithoutPair 0 c t →
      WithoutPair k (conditional a b c) (wrap k 0 (wrap 1 (binds a) (printed a) ++ (bytes " ? " ++ (printed b ++ (bytes " : " ++ t)))))

-- the printed definitions without one pair, which stands in one of them
pub data DefinitionsWithoutPair : Ad → List ℕ → Type 0 where
  pair_in_last : {d : Definition} {t : List ℕ} →
      WithoutPair 0 d.expression t →
      DefinitionsWithoutPair (d ∷ []) (d.name ++ (bytes " = " ++ t))
  pair_in_first : {d e : Definition} {ds : Ad} {t : List ℕ} →
      WithoutPair 0 d.expression t →
      DefinitionsWithoutPair (d ∷ e ∷ ds) ((d.name ++ (bytes " = " ++ t)) ++ (bytes "; " ++ definitions_text (e ∷ ds)))
  pair_in_later : {d e : Definition} {ds : Ad} {t : List ℕ} →
      DefinitionsWithoutPair (e ∷ ds) t →
      DefinitionsWithoutPair (d ∷ e ∷ ds) (definition_text d ++ (bytes "; " ++ t))

-- the printed ad without one pair, t being its definitions
abbrev pub in_brackets : List ℕ → List ℕ
in_brackets t = code "[" ∷ (t ++ code "]" ∷ [])
