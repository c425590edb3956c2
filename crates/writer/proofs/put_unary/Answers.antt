use Rattle.syntax.specs.Print.{unary_text}
use Rattle.text.specs.Bytes.{bytes}
use native.Mathlib.Omega.{arith}
use Rattle.writer.proofs.put_unary.Goals as goal

pub put-requires : goal.put-requires
unfolding unary_text bytes
put-requires c = let h = rw c.in-Not.is at
    c.requires in
    omega arith

pub put-requires-in-Plus : goal.put-requires-in-Plus
unfolding unary_text bytes
put-requires-in-Plus c = let h = rw c.in-Plus.is at
    c.requires in
    omega arith

pub put-requires-in-Minus : goal.put-requires-in-Minus
unfolding unary_text bytes
put-requires-in-Minus c = let h = rw c.in-Minus.is at
    c.requires in
    omega arith

pub returns-in-Not : goal.returns-in-Not
unfolding unary_text bytes
returns-in-Not c = rw c.in-Not.is c.put.ensures

pub returns-in-Plus : goal.returns-in-Plus
unfolding unary_text bytes
returns-in-Plus c = rw c.in-Plus.is c.put-in-Plus.ensures

pub returns-in-Minus : goal.returns-in-Minus
unfolding unary_text bytes
returns-in-Minus c = rw c.in-Minus.is c.put-in-Minus.ensures
