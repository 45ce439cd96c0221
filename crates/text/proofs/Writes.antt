-- One write after another.
use Rattle.std.proofs.Common.{◌≡◌, ℕ, ◌+◌, ◌-◌, ◌<◌, ◌≤◌, List, [], ◌∷◌, ◌++◌, length, take, drop, set, sym, refl, ap, ◌∙◌, subst, append_assoc, append-nil, arith, length-append}
use Rattle.std.proofs.lemmas.List.{take_more_set, drop-set-lt, drop-drop}
use Rattle.std.proofs.lemmas.Slice.{take-put_mid, drop-put_mid}
use borrow.Rule.Slice.PartMut.{put_mid}
use Rattle.text.specs.Writing.{Wrote}

-- what is equal from a place on is equal from a later place on
pub past_later : (xs ys : List ℕ) (i j : ℕ) → i ≤ j → drop i xs ≡ drop i ys → drop j xs ≡ drop j ys
past_later xs ys i j h e =
    let s : i + (j - i) ≡ j = omega arith in
    subst (λ (k : ℕ). drop k xs ≡ drop k ys) s (sym (drop-drop (j - i) i xs) ∙ ap (drop (j - i)) e ∙ drop-drop (j - i) i ys)

pub then : {a b c bs cs : List ℕ} {i j k : ℕ} → Wrote a i bs b j → Wrote b j cs c k → Wrote a i (bs ++ cs) c k
then {a} {b} {c} {bs} {cs} {i} {j} {k} p q = record {
  ends = omega (arith, p.ends, q.ends, length-append bs cs);
  front = q.front ∙ ap (λ xs. xs ++ cs) p.front ∙ append_assoc (take i a) bs cs;
  past = q.past ∙ past_later b a j k (omega (arith, q.ends)) p.past;
}

-- one byte
pub byte : (row : List ℕ) (at b : ℕ) → at < length row → Wrote row at (b ∷ []) (set row at b) (at + 1)
byte row at b h = record {
  ends = refl;
  front = take_more_set row at b h;
  past = drop-set-lt (at + 1) row at b (omega arith);
}

-- nothing
pub none : (row : List ℕ) (at : ℕ) → Wrote row at [] row at
none row at = record { ends = omega arith; front = simp append-nil; past = refl }

pub text : (row : List ℕ) (at k : ℕ) (bs ys : List ℕ) → ys ≡ bs → k ≡ length bs → at + length bs ≤ length row → Wrote row at bs (put_mid at k row ys) (at + length bs)
text row at k bs ys e l h =
    let n : length ys ≡ length bs = ap length e in
    let le : at ≤ length row = omega arith in
    record {
      ends = refl;
      front = take-put_mid at k row ys (at + length bs) (omega (arith, n)) le ∙ ap (λ zs. take at row ++ zs) e;
      past = drop-put_mid at k row ys (at + length bs) (omega arith) le (omega arith);
    }

-- what stands in a row after a first write
pub begins : (row bs row' : List ℕ) (end : ℕ) → Wrote row 0 bs row' end → take end row' ≡ bs
begins row bs row' end w = w.front
