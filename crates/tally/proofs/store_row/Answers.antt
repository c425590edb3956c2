use borrow.Rule.Slice.PartMut.{put_mid}
use Rattle.std.proofs.Common.{arith, sym, ◌∙◌, ◌≡◌, ◌+◌, ◌-◌, ◌*◌, ◌≤◌, ℕ, List, ◌++◌, length, take, drop, append_assoc, drop-drop}
use Rattle.std.proofs.lemmas.List.Edits.{sets, sets-eq}
use Rattle.tally.proofs.Laws.Rows.{row_length}
use Rattle.tally.proofs.store_row.Goals as goal

-- a row put over as many words
stored : (b xs y : List ℕ) (k : ℕ) → length xs ≡ 8 → k + 8 ≤ length b → y ≡ xs → put_mid k (k + 8 - k) b y ≡ sets b k xs
stored b xs y k l h e =
    let n : k + 8 - k ≡ length xs = omega arith in
    let z : sets b k xs ≡ take k b ++ (xs ++ drop (k + length xs) b) = sets-eq xs b k (omega arith) ∙ append_assoc (take k b) xs (drop (k + length xs) b) in
    rw (e, n, drop-drop (length xs) k b) (sym z)

pub returns : goal.returns
returns c = stored c.args.rows.now _ _ (8 * c.args.i) (row_length c.args.outcome) c.requires (c.copy_from_slice.ensures.after ∙ c.row_of.ensures)
