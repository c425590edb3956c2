use mathlib.Core.Path.{refl, sym, ◌∙◌, ap}
use mathlib.Core.List.{◌++◌, List}
use Prim.Native.Nat.{ℕ}
use lib.ListN.{length, length-append}
use Rattle.syntax.specs.Print.{literal_text}
use Rattle.text.specs.Bytes.{bytes}
use Rattle.writer.proofs.Laws.{puts_as, puts_join}
use Rattle.leaf_printer.proofs.Leaves.{leaf_kind, near_as, text_1, text_2, text_3, text_4, text_5, text_6, text_7, text_8}
use Rattle.syntax.specs.Tree.{string}
use Rattle.std.proofs.Common.{Some}
use Rattle.ad.specs.declared.kind.Kind.TheVariants as K
use Rattle.ad.specs.Stored.{kind_at, bytes_at}
use Rattle.ad.specs.Laws.Coding.{coded, other_code}
use native.Mathlib.Omega.{arith}
use Rattle.leaf_printer.proofs.put_leaf.Goals as goal

pub unwrap-requires : goal.unwrap-requires
unwrap-requires c = leaf_kind c.args.ad.words.now c.args.ad.bytes.now c.args.i c.requires.byte c.requires.tree c.requires.found c.kind.result c.kind.ensures

pub put-requires : goal.put-requires
unfolding literal_text bytes
put-requires c = near_as c.args.at _ _ (text_1 c.args.ad.words.now c.args.ad.bytes.now
    c.args.i (kind_at c.args.ad.words.now c.args.i) c.operand-x.result c.operand-y.result
    refl c.operand-x.ensures c.operand-y.ensures c.requires.tree
    c.requires.byte c.requires.found (coded _ K.Undefined (sym c.kind.ensures ∙ c.unwrap.ensures ∙ ap Some c.in-Undefined.is))) c.requires.near

pub put-requires-in-Error : goal.put-requires-in-Error
unfolding literal_text bytes
put-requires-in-Error c = near_as c.args.at _ _ (text_2 c.args.ad.words.now c.args.ad.bytes.now
    c.args.i (kind_at c.args.ad.words.now c.args.i) c.operand-x.result c.operand-y.result
    refl c.operand-x.ensures c.operand-y.ensures c.requires.tree
    c.requires.byte c.requires.found (coded _ K.Error (sym c.kind.ensures ∙ c.unwrap.ensures ∙ ap Some c.in-Error.is))) c.requires.near

pub put_boolean-requires : goal.put_boolean-requires
put_boolean-requires c = near_as c.args.at _ _ (text_3 c.args.ad.words.now c.args.ad.bytes.now
    c.args.i (kind_at c.args.ad.words.now c.args.i) c.operand-x.result c.operand-y.result
    refl c.operand-x.ensures c.operand-y.ensures c.requires.tree
    c.requires.byte c.requires.found (coded _ K.Boolean (sym c.kind.ensures ∙ c.unwrap.ensures ∙ ap Some c.in-Boolean.is))) c.requires.near

pub put_decimal-requires : goal.put_decimal-requires
put_decimal-requires c = near_as c.args.at _ _ (text_4 c.args.ad.words.now c.args.ad.bytes.now
    c.args.i (kind_at c.args.ad.words.now c.args.i) c.operand-x.result c.operand-y.result
    refl c.operand-x.ensures c.operand-y.ensures c.requires.tree
    c.requires.byte c.requires.found (coded _ K.Integer (sym c.kind.ensures ∙ c.unwrap.ensures ∙ ap Some c.in-Integer.is))) c.requires.near

pub put_real-requires : goal.put_real-requires
put_real-requires c = near_as c.args.at _ _ (text_5 c.args.ad.words.now c.args.ad.bytes.now
    c.args.i (kind_at c.args.ad.words.now c.args.i) c.operand-x.result c.operand-y.result
    refl c.operand-x.ensures c.operand-y.ensures c.requires.tree
    c.requires.byte c.requires.found (coded _ K.Real (sym c.kind.ensures ∙ c.unwrap.ensures ∙ ap Some c.in-Real.is))) c.requires.near

pub put_string-requires : goal.put_string-requires
put_string-requires c = rw c.part.ensures (near_as c.args.at _ _ (text_6 c.args.ad.words.now
    c.args.ad.bytes.now c.args.i (kind_at c.args.ad.words.now c.args.i) c.operand-x.result
    c.operand-y.result refl c.operand-x.ensures
    c.operand-y.ensures c.requires.tree c.requires.byte c.requires.found
    (coded _ K.String (sym c.kind.ensures ∙ c.unwrap.ensures ∙ ap Some c.in-String.is))) c.requires.near)

pub put-requires-in-Own : goal.put-requires-in-Own
put-requires-in-Own c = rw c.part-in-Own.ensures (near_as c.args.at _ _ (text_7 c.args.ad.words.now
    c.args.ad.bytes.now c.args.i (kind_at c.args.ad.words.now c.args.i) c.operand-x.result
    c.operand-y.result refl c.operand-x.ensures
    c.operand-y.ensures c.requires.tree c.requires.byte c.requires.found
    (coded _ K.Own (sym c.kind.ensures ∙ c.unwrap.ensures ∙ ap Some c.in-Own.is))) c.requires.near)

pub put-m-requires : goal.put-m-requires
unfolding bytes
put-m-requires c = let n = near_as c.args.at _ _ (text_8 c.args.ad.words.now
    c.args.ad.bytes.now c.args.i (kind_at c.args.ad.words.now c.args.i)
    c.operand-x.result c.operand-y.result refl
    c.operand-x.ensures c.operand-y.ensures c.requires.tree c.requires.byte
    c.requires.found (other_code _ c.unwrap.result K.Undefined (sym c.kind.ensures ∙ c.unwrap.ensures) c.in_default.not-Undefined) (other_code _ c.unwrap.result K.Error (sym c.kind.ensures ∙ c.unwrap.ensures) c.in_default.not-Error)
    (other_code _ c.unwrap.result K.Boolean (sym c.kind.ensures ∙ c.unwrap.ensures) c.in_default.not-Boolean) (other_code _ c.unwrap.result K.Integer (sym c.kind.ensures ∙ c.unwrap.ensures) c.in_default.not-Integer) (other_code _ c.unwrap.result K.Real (sym c.kind.ensures ∙ c.unwrap.ensures) c.in_default.not-Real)
    (other_code _ c.unwrap.result K.String (sym c.kind.ensures ∙ c.unwrap.ensures) c.in_default.not-String) (other_code _ c.unwrap.result K.Own (sym c.kind.ensures ∙ c.unwrap.ensures) c.in_default.not-Own)) c.requires.near in
    omega (
      arith,
      length-append (bytes "other.") (bytes_at c.args.ad.bytes.now
          c.operand-x.result c.operand-y.result),
    )

pub put-requires-in_default : goal.put-requires-in_default
unfolding bytes
put-requires-in_default c = let n = near_as c.args.at _ _ (text_8 c.args.ad.words.now
    c.args.ad.bytes.now c.args.i (kind_at c.args.ad.words.now c.args.i)
    c.operand-x.result c.operand-y.result refl
    c.operand-x.ensures c.operand-y.ensures c.requires.tree c.requires.byte
    c.requires.found (other_code _ c.unwrap.result K.Undefined (sym c.kind.ensures ∙ c.unwrap.ensures) c.in_default.not-Undefined) (other_code _ c.unwrap.result K.Error (sym c.kind.ensures ∙ c.unwrap.ensures) c.in_default.not-Error)
    (other_code _ c.unwrap.result K.Boolean (sym c.kind.ensures ∙ c.unwrap.ensures) c.in_default.not-Boolean) (other_code _ c.unwrap.result K.Integer (sym c.kind.ensures ∙ c.unwrap.ensures) c.in_default.not-Integer) (other_code _ c.unwrap.result K.Real (sym c.kind.ensures ∙ c.unwrap.ensures) c.in_default.not-Real)
    (other_code _ c.unwrap.result K.String (sym c.kind.ensures ∙ c.unwrap.ensures) c.in_default.not-String) (other_code _ c.unwrap.result K.Own (sym c.kind.ensures ∙ c.unwrap.ensures) c.in_default.not-Own)) c.requires.near in
    let q = ap length c.part-in_default.ensures in
    omega (
      arith,
      length-append (bytes "other.") (bytes_at c.args.ad.bytes.now
          c.operand-x.result c.operand-y.result),
    )

pub returns-in-Undefined : goal.returns-in-Undefined
unfolding literal_text bytes
returns-in-Undefined c = λ e k h. puts_as (sym (text_1 c.args.ad.words.now c.args.ad.bytes.now c.args.i
    (kind_at c.args.ad.words.now c.args.i) c.operand-x.result c.operand-y.result
    refl c.operand-x.ensures c.operand-y.ensures e k h
    (coded _ K.Undefined (sym c.kind.ensures ∙ c.unwrap.ensures ∙ ap Some c.in-Undefined.is)))) c.put.ensures

pub returns-in-Error : goal.returns-in-Error
unfolding literal_text bytes
returns-in-Error c = λ e k h. puts_as (sym (text_2 c.args.ad.words.now c.args.ad.bytes.now c.args.i
    (kind_at c.args.ad.words.now c.args.i) c.operand-x.result c.operand-y.result
    refl c.operand-x.ensures c.operand-y.ensures e k h
    (coded _ K.Error (sym c.kind.ensures ∙ c.unwrap.ensures ∙ ap Some c.in-Error.is)))) c.put-in-Error.ensures

pub returns-in-Boolean : goal.returns-in-Boolean
returns-in-Boolean c = λ e k h. puts_as (sym (text_3 c.args.ad.words.now c.args.ad.bytes.now c.args.i
    (kind_at c.args.ad.words.now c.args.i) c.operand-x.result c.operand-y.result
    refl c.operand-x.ensures c.operand-y.ensures e k h
    (coded _ K.Boolean (sym c.kind.ensures ∙ c.unwrap.ensures ∙ ap Some c.in-Boolean.is)))) c.put_boolean.ensures

pub returns-in-Integer : goal.returns-in-Integer
returns-in-Integer c = λ e k h. puts_as (sym (text_4 c.args.ad.words.now c.args.ad.bytes.now c.args.i
    (kind_at c.args.ad.words.now c.args.i) c.operand-x.result c.operand-y.result
    refl c.operand-x.ensures c.operand-y.ensures e k h
    (coded _ K.Integer (sym c.kind.ensures ∙ c.unwrap.ensures ∙ ap Some c.in-Integer.is)))) c.put_decimal.ensures

pub returns-in-Real : goal.returns-in-Real
returns-in-Real c = λ e k h. puts_as (sym (text_5 c.args.ad.words.now c.args.ad.bytes.now c.args.i
    (kind_at c.args.ad.words.now c.args.i) c.operand-x.result c.operand-y.result
    refl c.operand-x.ensures c.operand-y.ensures e k h
    (coded _ K.Real (sym c.kind.ensures ∙ c.unwrap.ensures ∙ ap Some c.in-Real.is)))) c.put_real.ensures

pub returns-in-String : goal.returns-in-String
returns-in-String c = λ e k h. puts_as (ap (λ (l : List ℕ). literal_text (string l)) c.part.ensures
    ∙ sym (text_6 c.args.ad.words.now c.args.ad.bytes.now c.args.i (kind_at c.args.ad.words.now c.args.i)
    c.operand-x.result c.operand-y.result refl
    c.operand-x.ensures c.operand-y.ensures e k h (coded _ K.String (sym c.kind.ensures ∙ c.unwrap.ensures ∙ ap Some c.in-String.is))))
    c.put_string.ensures

pub returns-in-Own : goal.returns-in-Own
returns-in-Own c = λ e k h. puts_as (c.part-in-Own.ensures
    ∙ sym (text_7 c.args.ad.words.now c.args.ad.bytes.now c.args.i (kind_at c.args.ad.words.now c.args.i)
    c.operand-x.result c.operand-y.result refl
    c.operand-x.ensures c.operand-y.ensures e k h (coded _ K.Own (sym c.kind.ensures ∙ c.unwrap.ensures ∙ ap Some c.in-Own.is))))
    c.put-in-Own.ensures

pub returns-in_default : goal.returns-in_default
unfolding bytes
returns-in_default c = λ e k h. puts_as (ap (◌++◌ (bytes "other.")) c.part-in_default.ensures
    ∙ sym (text_8 c.args.ad.words.now c.args.ad.bytes.now c.args.i (kind_at c.args.ad.words.now c.args.i)
    c.operand-x.result c.operand-y.result refl
    c.operand-x.ensures c.operand-y.ensures e k h
    (other_code _ c.unwrap.result K.Undefined (sym c.kind.ensures ∙ c.unwrap.ensures) c.in_default.not-Undefined) (other_code _ c.unwrap.result K.Error (sym c.kind.ensures ∙ c.unwrap.ensures) c.in_default.not-Error)
    (other_code _ c.unwrap.result K.Boolean (sym c.kind.ensures ∙ c.unwrap.ensures) c.in_default.not-Boolean) (other_code _ c.unwrap.result K.Integer (sym c.kind.ensures ∙ c.unwrap.ensures) c.in_default.not-Integer) (other_code _ c.unwrap.result K.Real (sym c.kind.ensures ∙ c.unwrap.ensures) c.in_default.not-Real)
    (other_code _ c.unwrap.result K.String (sym c.kind.ensures ∙ c.unwrap.ensures) c.in_default.not-String) (other_code _ c.unwrap.result K.Own (sym c.kind.ensures ∙ c.unwrap.ensures) c.in_default.not-Own)))
    (puts_join c.put-m.ensures c.put-in_default.ensures)
