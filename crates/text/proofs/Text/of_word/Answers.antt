use Rattle.std.proofs.Common.{◌≡◌, ℕ, zero, suc, ◌+◌, ◌-◌, ◌/◌, ◌%◌, ◌<◌, ◌≤◌, true, List, [], ◌∷◌, ◌++◌, length, drop, set, sym, refl, ap, ◌∙◌, append_assoc, arith, length-set}
use Rattle.std.specs.Fmt.{digit_glyph}
use Rattle.std.proofs.lemmas.List.{drop-set}
use Rattle.text.specs.Writing.{hex}
use Rattle.text.proofs.Text.of_word.Goals as goal

hex_none : (k w : ℕ) → k ≡ 0 → hex k w ≡ []
unfolding hex
hex_none k w e = rw e refl

hex_more : (k w : ℕ) → 0 < k → hex k w ≡ hex (k - 1) (w / 16) ++ (digit_glyph true (w % 16) ∷ [])
unfolding hex
hex_more zero w h = absurd (omega arith)
hex_more (suc k) w h = let e : suc k - 1 ≡ k = omega arith in rw e refl

-- one digit less to come and one more at its place
one_more : (k w d : ℕ) (ds : List ℕ) → 0 < k → k ≤ length ds → d ≡ digit_glyph true (w % 16) → hex (k - 1) (w / 16) ++ drop (k - 1) (set ds (k - 1) d) ≡ hex k w ++ drop k ds
one_more k w d ds h l e =
    let s : k - 1 + 1 ≡ k = omega arith in
    rw (drop-set ds (k - 1) d (omega arith), s, hex_more k w h, e, append_assoc) refl

all_digits : (k w : ℕ) (ds : List ℕ) → k ≤ 0 → hex k w ++ drop k ds ≡ ds
all_digits zero w ds h = ap (λ (xs : List ℕ). xs ++ ds) (hex_none zero w refl)
all_digits (suc k) w ds h = absurd (omega arith)

pub loop-i-preserved : goal.loop-i-preserved
loop-i-preserved c = (
  omega (arith, length-set {A = ℕ}),
  one_more c.loop-i.i c.loop-i.left _ c.loop-i.digits (omega arith) (omega arith) c.hex_digit.ensures ∙ c.loop-i.invariant.1,
)

pub returns : goal.returns
returns c = c.of_bytes.ensures ∙ sym (all_digits c.loop-i.i c.loop-i.left c.loop-i.digits c.loop-i-test.false) ∙ c.loop-i.invariant.1
