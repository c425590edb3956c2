-- One outcome more among the rows. Assumes nothing.
use Rattle.std.specs.Prelude.{ℕ, Result, Ok, Err, ◌+◌, ◌-◌, ◌*◌, ◌≤◌, ◌≡◌, refl, List, [], ◌∷◌, ◌++◌, length, drop, replicate}
use Rattle.std.proofs.Common.{arith, sym, ap, ◌∙◌, append_assoc, append-nil, length-append, take_at, drop_at}
use Rattle.std.proofs.lemmas.List.{length-replicate, replicate-append-replicate}
use Rattle.std.proofs.lemmas.List.Edits.{sets, sets-eq}
use Rattle.std.proofs.Math.Seq.{drop-append-add}
use Rattle.ad.specs.Layout.{padded}
use Rattle.matching.specs.declared.Outcome.{Outcome}
use Rattle.syntax.specs.declared.Refusal.{Refusal}
use Rattle.matching.specs.declared.Outcome.TheVariants.{Finished, Unfinished}
use Rattle.tally.specs.Tally.{row_of, rows_of}

pub row_length : (o : Result Outcome Refusal) → length (row_of o) ≡ 8
row_length (Err r) = refl
row_length (Ok (Finished matched i j steps count)) = refl
row_length (Ok (Unfinished steps count)) = refl

pub rows_length_lem : (os : List (Result Outcome Refusal)) → length (rows_of os) ≡ 8 * length os
unfolding rows_of
rows_length_lem [] = refl
rows_length_lem (o ∷ os) = let h = rows_length_lem os in omega (arith, length-append (row_of o) (rows_of os), row_length o)

pub rows_more : (os : List (Result Outcome Refusal)) (o : Result Outcome Refusal) → rows_of (os ++ o ∷ []) ≡ rows_of os ++ row_of o
unfolding rows_of
rows_more [] o = append-nil (row_of o)
rows_more (x ∷ os) o = ap (λ (l : List ℕ). row_of x ++ l) (rows_more os o) ∙ sym (append_assoc (row_of x) (rows_of os) (row_of o))

-- what is written behind xs, over zeros
pub padded_more : (n : ℕ) (xs ys : List ℕ) → length xs + length ys ≤ n → sets (padded n xs) (length xs) ys ≡ padded n (xs ++ ys)
padded_more n xs ys h =
    ap (λ (l : List ℕ). sets l (length xs) ys) split
    ∙ sets-eq ys memory (length xs) (omega (arith, length-append xs (zeros ++ rest), length-append zeros rest, long))
    ∙ (λ i. (take_at xs (zeros ++ rest) (length xs) refl i ++ ys) ++ behind i)
  where
    zeros : List ℕ
    zeros = replicate (length ys) 0

    rest : List ℕ
    rest = replicate (n - length (xs ++ ys)) 0

    memory : List ℕ
    memory = xs ++ (zeros ++ rest)

    long : length zeros ≡ length ys
    long = length-replicate (length ys) 0

    split : padded n xs ≡ memory
    split =
        let q : length ys + (n - length (xs ++ ys)) ≡ n - length xs = omega (arith, length-append xs ys) in
        ap (λ (l : List ℕ). xs ++ l) (sym (replicate-append-replicate (length ys) (n - length (xs ++ ys)) 0 ∙ ap (λ (k : ℕ). replicate k 0) q))

    behind : drop (length xs + length ys) memory ≡ rest
    behind = drop-append-add xs (zeros ++ rest) (length ys) ∙ drop_at zeros rest (length ys) long

-- ONE ROW MORE
pub rows_stored : (n : ℕ) (os : List (Result Outcome Refusal)) (o : Result Outcome Refusal) → 8 * length os + 8 ≤ n → sets (padded n (rows_of os)) (8 * length os) (row_of o) ≡ padded n (rows_of (os ++ o ∷ []))
rows_stored n os o h =
    ap (λ (k : ℕ). sets (padded n (rows_of os)) k (row_of o)) (sym (rows_length_lem os))
    ∙ padded_more n (rows_of os) (row_of o) (omega (arith, rows_length_lem os, row_length o))
    ∙ ap (padded n) (sym (rows_more os o))
