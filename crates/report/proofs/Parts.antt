-- A write to the rest of a row is a write to the row.
use Rattle.std.proofs.Common.{◌≡◌, ℕ, ◌+◌, ◌-◌, ◌≤◌, List, [], ◌++◌, length, take, drop, sym, ap, ◌∙◌, append_assoc, append-nil, arith, length-append, length-drop}
use Rattle.std.proofs.lemmas.List.{take_at, drop_at, take_all, drop_all, drop-drop, take-append-drop, length-take-le}
use borrow.Rule.Slice.PartMut.{put_mid, mid_of, post_of}
use Rattle.text.specs.Writing.{Wrote}

module _ (b row' bs : List ℕ) (at k : ℕ) (le : at ≤ length b) (w : Wrote (mid_of at (length b - at) b) 0 bs row' k) where
  rest_is : mid_of at (length b - at) b ≡ drop at b
  rest_is = take_all (length b - at) (drop at b) (omega (arith, length-drop at b))

  none_after : post_of at (length b - at) b ≡ []
  none_after = drop_all _ (drop at b) (omega (arith, length-drop at b))

  front_length : length (take at b ++ bs) ≡ at + k
  front_length = omega (arith, length-append (take at b) bs, length-take-le at b le, w.ends)

  whole : put_mid at (length b - at) b row' ≡ (take at b ++ bs) ++ drop k row'
  whole =
      ap (λ z. take at b ++ (row' ++ z)) none_after ∙ ap (λ z. take at b ++ z) (append-nil row')
      ∙ ap (λ z. take at b ++ z) (sym (take-append-drop k row') ∙ ap (λ z. z ++ drop k row') w.front) ∙ sym (append_assoc (take at b) bs (drop k row'))

  pub in_part : Wrote b at bs (put_mid at (length b - at) b row') (at + k)
  in_part = record {
    ends = omega (arith, w.ends);
    front = ap (take (at + k)) whole ∙ take_at (take at b ++ bs) (drop k row') (at + k) front_length;
    past = ap (drop (at + k)) whole ∙ drop_at (take at b ++ bs) (drop k row') (at + k) front_length ∙ w.past ∙ ap (drop k) rest_is ∙ drop-drop k at b;
  }
