-- The kinds and their numbers: each number is one kind's at most, and says what the kind is. Assumes nothing.
use Rattle.std.specs.Prelude.{ℕ, zero, suc, ◌≤◌, ◌<◌, ◌≡◌, refl, Option, Some, None, IsSome}
use Rattle.std.proofs.Common.{arith, sym, ◌∙◌, ap}
use Rattle.std.proofs.lemmas.Option.{slice_get_past}
use native.Mathlib.Decide.{dec_lt}
use Rattle.syntax.specs.declared.Binary.{Binary}
use Rattle.syntax.specs.declared.Binary.TheVariants.{Or, And, Equal, NotEqual, Is, Isnt, Less, LessOrEqual, Greater, GreaterOrEqual, Add, Subtract, Multiply, Divide, Remainder}
use Rattle.syntax.specs.declared.Unary.{Unary}
use Rattle.syntax.specs.declared.Unary.TheVariants.{Not, Plus, Minus}
use Rattle.ad.specs.declared.kind.Kind.{Kind}
use Rattle.ad.specs.declared.kind.Kind.TheVariants as K
use Rattle.ad.specs.Layout.{unary_kind, binary_kind, code_of}
use Rattle.ad.specs.Stored.{kinds, kind_of, unary_of, binary_of}

-- the number of a kind, 0 where there is none
abbrev number : Option Kind → ℕ
number (Some x) = code_of x
number None = 0

round : (k : ℕ) → k < 28 → number (kind_of k) ≡ k
unfolding kind_of
round zero h = refl
round (suc zero) h = refl
round (suc (suc zero)) h = refl
round (suc (suc (suc zero))) h = refl
round (suc (suc (suc (suc zero)))) h = refl
round (suc (suc (suc (suc (suc zero))))) h = refl
round (suc (suc (suc (suc (suc (suc zero)))))) h = refl
round (suc (suc (suc (suc (suc (suc (suc zero))))))) h = refl
round (suc (suc (suc (suc (suc (suc (suc (suc zero)))))))) h = refl
round (suc (suc (suc (suc (suc (suc (suc (suc (suc zero))))))))) h = refl
round (suc (suc (suc (suc (suc (suc (suc (suc (suc (suc zero)))))))))) h = refl
round (suc (suc (suc (suc (suc (suc (suc (suc (suc (suc (suc zero))))))))))) h = refl
round (suc (suc (suc (suc (suc (suc (suc (suc (suc (suc (suc (suc zero)))))))))))) h = refl
round (suc (suc (suc (suc (suc (suc (suc (suc (suc (suc (suc (suc (suc zero))))))))))))) h = refl
round (suc (suc (suc (suc (suc (suc (suc (suc (suc (suc (suc (suc (suc (suc zero)))))))))))))) h = refl
round (suc (suc (suc (suc (suc (suc (suc (suc (suc (suc (suc (suc (suc (suc (suc zero))))))))))))))) h = refl
round (suc (suc (suc (suc (suc (suc (suc (suc (suc (suc (suc (suc (suc (suc (suc (suc zero)))))))))))))))) h = refl
round (suc (suc (suc (suc (suc (suc (suc (suc (suc (suc (suc (suc (suc (suc (suc (suc (suc zero))))))))))))))))) h = refl
round (suc (suc (suc (suc (suc (suc (suc (suc (suc (suc (suc (suc (suc (suc (suc (suc (suc (suc zero)))))))))))))))))) h = refl
round (suc (suc (suc (suc (suc (suc (suc (suc (suc (suc (suc (suc (suc (suc (suc (suc (suc (suc (suc zero))))))))))))))))))) h = refl
round (suc (suc (suc (suc (suc (suc (suc (suc (suc (suc (suc (suc (suc (suc (suc (suc (suc (suc (suc (suc zero)))))))))))))))))))) h = refl
round (suc (suc (suc (suc (suc (suc (suc (suc (suc (suc (suc (suc (suc (suc (suc (suc (suc (suc (suc (suc (suc zero))))))))))))))))))))) h = refl
round (suc (suc (suc (suc (suc (suc (suc (suc (suc (suc (suc (suc (suc (suc (suc (suc (suc (suc (suc (suc (suc (suc zero)))))))))))))))))))))) h = refl
round (suc (suc (suc (suc (suc (suc (suc (suc (suc (suc (suc (suc (suc (suc (suc (suc (suc (suc (suc (suc (suc (suc (suc zero))))))))))))))))))))))) h = refl
round (suc (suc (suc (suc (suc (suc (suc (suc (suc (suc (suc (suc (suc (suc (suc (suc (suc (suc (suc (suc (suc (suc (suc (suc zero)))))))))))))))))))))))) h = refl
round (suc (suc (suc (suc (suc (suc (suc (suc (suc (suc (suc (suc (suc (suc (suc (suc (suc (suc (suc (suc (suc (suc (suc (suc (suc zero))))))))))))))))))))))))) h = refl
round (suc (suc (suc (suc (suc (suc (suc (suc (suc (suc (suc (suc (suc (suc (suc (suc (suc (suc (suc (suc (suc (suc (suc (suc (suc (suc zero)))))))))))))))))))))))))) h = refl
round (suc (suc (suc (suc (suc (suc (suc (suc (suc (suc (suc (suc (suc (suc (suc (suc (suc (suc (suc (suc (suc (suc (suc (suc (suc (suc (suc zero))))))))))))))))))))))))))) h = refl
round (suc (suc (suc (suc (suc (suc (suc (suc (suc (suc (suc (suc (suc (suc (suc (suc (suc (suc (suc (suc (suc (suc (suc (suc (suc (suc (suc (suc k)))))))))))))))))))))))))))) h = absurd (omega arith)

past : (k : ℕ) → 28 ≤ k → kind_of k ≡ None
unfolding kind_of
past zero h = absurd (omega arith)
past (suc k) h = slice_get_past kinds k (omega arith)

-- a number that stands for a kind is that kind's
pub coded : (k : ℕ) (x : Kind) → kind_of k ≡ Some x → k ≡ code_of x
coded k x e = go (dec_lt k 28)
  where
    go : Dec (k < 28) → k ≡ code_of x
    go (yes h) = sym (round k h) ∙ ap number e
    go (no h) = let f = past k (omega arith) in cc

-- and a kind's number stands for it
pub uncoded : (x : Kind) → kind_of (code_of x) ≡ Some x
unfolding kind_of
uncoded K.Undefined = refl
uncoded K.Error = refl
uncoded K.Boolean = refl
uncoded K.Integer = refl
uncoded K.Real = refl
uncoded K.String = refl
uncoded K.Own = refl
uncoded K.Other = refl
uncoded (K.Unary Not) = refl
uncoded (K.Unary Plus) = refl
uncoded (K.Unary Minus) = refl
uncoded K.Conditional = refl
uncoded (K.Binary Or) = refl
uncoded (K.Binary And) = refl
uncoded (K.Binary Equal) = refl
uncoded (K.Binary NotEqual) = refl
uncoded (K.Binary Is) = refl
uncoded (K.Binary Isnt) = refl
uncoded (K.Binary Less) = refl
uncoded (K.Binary LessOrEqual) = refl
uncoded (K.Binary Greater) = refl
uncoded (K.Binary GreaterOrEqual) = refl
uncoded (K.Binary Add) = refl
uncoded (K.Binary Subtract) = refl
uncoded (K.Binary Multiply) = refl
uncoded (K.Binary Divide) = refl
uncoded (K.Binary Remainder) = refl

pub some_kind : (k : ℕ) (x : Kind) → k ≡ code_of x → (r : Option Kind) → r ≡ kind_of k → IsSome r
some_kind k x e (Some y) h = refl
some_kind k x e None h = let f : None ≡ Some x = h ∙ ap kind_of e ∙ uncoded x in cc

-- a kind's number is no other kind's
pub other_code : (k : ℕ) (x y : Kind) → kind_of k ≡ Some x → (x ≡ y → ⊥) → k ≡ code_of y → ⊥
other_code k x y e n h =
    let f = uncoded y in
    let g : Some x ≡ Some y = sym e ∙ ap kind_of h ∙ f in
    n (let r : x ≡ y = cc in r)

-- 9 to 11 stand for operators of one operand, 13 to 27 for those of two
pub unary_range : (u : Unary) → (9 ≤ unary_kind u) × (unary_kind u < 12)
unary_range Not = (omega arith, omega arith)
unary_range Plus = (omega arith, omega arith)
unary_range Minus = (omega arith, omega arith)

pub binary_range : (j : Binary) → (13 ≤ binary_kind j) × (binary_kind j < 28)
binary_range Or = (omega arith, omega arith)
binary_range And = (omega arith, omega arith)
binary_range Equal = (omega arith, omega arith)
binary_range NotEqual = (omega arith, omega arith)
binary_range Is = (omega arith, omega arith)
binary_range Isnt = (omega arith, omega arith)
binary_range Less = (omega arith, omega arith)
binary_range LessOrEqual = (omega arith, omega arith)
binary_range Greater = (omega arith, omega arith)
binary_range GreaterOrEqual = (omega arith, omega arith)
binary_range Add = (omega arith, omega arith)
binary_range Subtract = (omega arith, omega arith)
binary_range Multiply = (omega arith, omega arith)
binary_range Divide = (omega arith, omega arith)
binary_range Remainder = (omega arith, omega arith)

-- and which operator it is
pub unary_coded : (u : Unary) → unary_of (unary_kind u) ≡ u
unfolding unary_of
unary_coded Not = refl
unary_coded Plus = refl
unary_coded Minus = refl

pub binary_coded : (j : Binary) → binary_of (binary_kind j) ≡ j
unfolding binary_of
binary_coded Or = refl
binary_coded And = refl
binary_coded Equal = refl
binary_coded NotEqual = refl
binary_coded Is = refl
binary_coded Isnt = refl
binary_coded Less = refl
binary_coded LessOrEqual = refl
binary_coded Greater = refl
binary_coded GreaterOrEqual = refl
binary_coded Add = refl
binary_coded Subtract = refl
binary_coded Multiply = refl
binary_coded Divide = refl
binary_coded Remainder = refl

-- 13 to 27 stand for an operator of two operands
pub binary_told : (k : ℕ) → 12 < k → k < 28 → kind_of k ≡ Some (K.Binary (binary_of k))
unfolding kind_of binary_of
binary_told zero h g = absurd (omega arith)
binary_told (suc zero) h g = absurd (omega arith)
binary_told (suc (suc zero)) h g = absurd (omega arith)
binary_told (suc (suc (suc zero))) h g = absurd (omega arith)
binary_told (suc (suc (suc (suc zero)))) h g = absurd (omega arith)
binary_told (suc (suc (suc (suc (suc zero))))) h g = absurd (omega arith)
binary_told (suc (suc (suc (suc (suc (suc zero)))))) h g = absurd (omega arith)
binary_told (suc (suc (suc (suc (suc (suc (suc zero))))))) h g = absurd (omega arith)
binary_told (suc (suc (suc (suc (suc (suc (suc (suc zero)))))))) h g = absurd (omega arith)
binary_told (suc (suc (suc (suc (suc (suc (suc (suc (suc zero))))))))) h g = absurd (omega arith)
binary_told (suc (suc (suc (suc (suc (suc (suc (suc (suc (suc zero)))))))))) h g = absurd (omega arith)
binary_told (suc (suc (suc (suc (suc (suc (suc (suc (suc (suc (suc zero))))))))))) h g = absurd (omega arith)
binary_told (suc (suc (suc (suc (suc (suc (suc (suc (suc (suc (suc (suc zero)))))))))))) h g = absurd (omega arith)
binary_told (suc (suc (suc (suc (suc (suc (suc (suc (suc (suc (suc (suc (suc zero))))))))))))) h g = refl
binary_told (suc (suc (suc (suc (suc (suc (suc (suc (suc (suc (suc (suc (suc (suc zero)))))))))))))) h g = refl
binary_told (suc (suc (suc (suc (suc (suc (suc (suc (suc (suc (suc (suc (suc (suc (suc zero))))))))))))))) h g = refl
binary_told (suc (suc (suc (suc (suc (suc (suc (suc (suc (suc (suc (suc (suc (suc (suc (suc zero)))))))))))))))) h g = refl
binary_told (suc (suc (suc (suc (suc (suc (suc (suc (suc (suc (suc (suc (suc (suc (suc (suc (suc zero))))))))))))))))) h g = refl
binary_told (suc (suc (suc (suc (suc (suc (suc (suc (suc (suc (suc (suc (suc (suc (suc (suc (suc (suc zero)))))))))))))))))) h g = refl
binary_told (suc (suc (suc (suc (suc (suc (suc (suc (suc (suc (suc (suc (suc (suc (suc (suc (suc (suc (suc zero))))))))))))))))))) h g = refl
binary_told (suc (suc (suc (suc (suc (suc (suc (suc (suc (suc (suc (suc (suc (suc (suc (suc (suc (suc (suc (suc zero)))))))))))))))))))) h g = refl
binary_told (suc (suc (suc (suc (suc (suc (suc (suc (suc (suc (suc (suc (suc (suc (suc (suc (suc (suc (suc (suc (suc zero))))))))))))))))))))) h g = refl
binary_told (suc (suc (suc (suc (suc (suc (suc (suc (suc (suc (suc (suc (suc (suc (suc (suc (suc (suc (suc (suc (suc (suc zero)))))))))))))))))))))) h g = refl
binary_told (suc (suc (suc (suc (suc (suc (suc (suc (suc (suc (suc (suc (suc (suc (suc (suc (suc (suc (suc (suc (suc (suc (suc zero))))))))))))))))))))))) h g = refl
binary_told (suc (suc (suc (suc (suc (suc (suc (suc (suc (suc (suc (suc (suc (suc (suc (suc (suc (suc (suc (suc (suc (suc (suc (suc zero)))))))))))))))))))))))) h g = refl
binary_told (suc (suc (suc (suc (suc (suc (suc (suc (suc (suc (suc (suc (suc (suc (suc (suc (suc (suc (suc (suc (suc (suc (suc (suc (suc zero))))))))))))))))))))))))) h g = refl
binary_told (suc (suc (suc (suc (suc (suc (suc (suc (suc (suc (suc (suc (suc (suc (suc (suc (suc (suc (suc (suc (suc (suc (suc (suc (suc (suc zero)))))))))))))))))))))))))) h g = refl
binary_told (suc (suc (suc (suc (suc (suc (suc (suc (suc (suc (suc (suc (suc (suc (suc (suc (suc (suc (suc (suc (suc (suc (suc (suc (suc (suc (suc zero))))))))))))))))))))))))))) h g = refl
binary_told (suc (suc (suc (suc (suc (suc (suc (suc (suc (suc (suc (suc (suc (suc (suc (suc (suc (suc (suc (suc (suc (suc (suc (suc (suc (suc (suc (suc k)))))))))))))))))))))))))))) h g = absurd (omega arith)
