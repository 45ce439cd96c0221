-- One more word in hexadecimal, and rows of totals.
use Rattle.std.proofs.Common.{◌≡◌, ℕ, zero, suc, ◌+◌, ◌-◌, ◌/◌, ◌%◌, ◌<◌, ◌≤◌, true, List, [], ◌∷◌, ◌++◌, length, get_or, take, codes, Ok, ◌⊎◌, inl, inr, sym, refl, ap, ◌∙◌, subst, append_assoc, arith, length-append}
use Rattle.std.specs.Fmt.{digit_glyph}
use Rattle.std.proofs.lemmas.List.{take_more, length-take-le, get_or-map, get_or-take}
use Rattle.text.specs.Writing.{hex, Wrote}
use Rattle.kind.specs.Meaning.{Meaning}
use Rattle.search.specs.Records.{On}
use Rattle.search.specs.Settled.{offset}
use Rattle.report.specs.declared.fault.Good.{Good}
use Rattle.report.specs.declared.fault.Good.TheVariants.{Offsets, Schedule}
use Rattle.report.specs.Doing.{Near, Backed, lent_of, outcome_of}
use Rattle.report.specs.Lines.{hexes, Holds, listed, told}

pub hexes-++ : (xs ys : List ℕ) → hexes (xs ++ ys) ≡ hexes xs ++ hexes ys
hexes-++ [] ys = refl
hexes-++ (x ∷ xs) ys = ap (λ zs. 32 ∷ (hex 8 x ++ zs)) (hexes-++ xs ys) ∙ ap (λ zs. 32 ∷ zs) (sym (append_assoc (hex 8 x) (hexes xs) (hexes ys)))

pub hexes_more : (xs : List ℕ) (i : ℕ) → i < length xs → hexes (take (i + 1) xs) ≡ hexes (take i xs) ++ hexes (get_or xs i 0 ∷ [])
hexes_more xs i h = ap hexes (take_more xs i 0 h) ∙ hexes-++ (take i xs) (get_or xs i 0 ∷ [])

pub length-hex : (k w : ℕ) → length (hex k w) ≡ k
unfolding hex
length-hex zero w = refl
length-hex (suc k) w = omega (arith, length-append (hex k (w / 16)) (digit_glyph true (w % 16) ∷ []), length-hex k (w / 16))

-- the total at a place of a row, for the switch after it
pub held : {L T : Type 0} (M : Meaning L T) (c : ℕ → M.quantities.Q) (row : List T) (i : ℕ) (t : T) → t ≡ get_or row i t → i < length row → Holds M c row
    → M.within 16777216 t × (M.total t ≡ c (suc i))
held M c row i t e l h =
    let q : suc i - 1 ≡ i = omega arith in
    let x = h (suc i) (omega arith, omega arith) t in
    let s : get_or row (suc i - 1) t ≡ t = ap (λ k. get_or row k t) q ∙ sym e in
    (subst (M.within 16777216) s x.0, ap M.total (sym s) ∙ x.1)

-- the first k totals of a row mean the offsets that the row means, and those that its first k mean
module _ {L T : Type 0} (M : Meaning L T) (k : ℕ) (row : List T) (le : k ≤ length row) (near : Near M k row) where
  at_start : (v : ℕ) → On (length (take k row)) v → (t : T) → (get_or (take k row) (v - 1) t ≡ get_or row (v - 1) t) × On k v
  at_start v o t = let n = length-take-le k row le in (get_or-take k row (v - 1) t (omega (arith, o.0, o.1)), (o.0, omega (arith, o.1)))

  pub holds_least : Holds M (offset M row) (take k row)
  holds_least v o t =
      let s = at_start v o t in
      (subst (M.within 16777216) (sym s.0) (near v s.1 t), ap M.total s.0 ∙ sym (get_or-map M.total row (v - 1) t M.quantities.zero (omega (arith, o.0, s.1.1))))

  pub holds_carrying : Holds M (offset M (take k row)) (take k row)
  holds_carrying v o t = ((holds_least v o t).0, sym (get_or-map M.total (take k row) (v - 1) t M.quantities.zero (omega (arith, o.0, o.1))))

-- the bytes of the first k totals, whichever offsets they mean
pub row_listed : {L T : Type 0} (M : Meaning L T) (c : ℕ → M.quantities.Q) (k n : ℕ) (ts : List T) (a b : List ℕ) (at end : ℕ) → k ≤ length ts → k ≡ n → Holds M c (take k ts)
    → ((d : ℕ → M.quantities.Q) → Holds M d (take (k - 0) ts) → Wrote a at (listed M d (length (take (k - 0) ts))) b end) → Wrote a at (listed M c n) b end
row_listed M c k n ts a b at end le e h w =
    let z : k - 0 ≡ k = omega arith in
    let l : length (take (k - 0) ts) ≡ n = ap (λ m. length (take m ts)) z ∙ length-take-le k ts le ∙ e in
    subst (λ m. Wrote a at (listed M c m) b end) l (w c (subst (λ m. Holds M c (take m ts)) (sym z) h))

-- the first k totals are listed alike as offsets that carry the links and as the least ones
pub alike : {L T : Type 0} (M : Meaning L T) (k n : ℕ) (good : Good T) (row : List T) (ss : List ℕ) (Put : List ℕ → Type 0) → (good ≡ Offsets k) ⊎ (good ≡ Schedule k)
    → ((c : ℕ → M.quantities.Q) → Holds M c (take k row) → Put (codes " OK" ++ listed M c (length (take k row))))
    → Backed M n (Ok good) (lent_of row [] ss) → Put (told M n (outcome_of M (Ok good) (lent_of row [] ss)))
alike M k n _ row ss Put (inl e) put = rw e (λ h. subst (λ m. Put (codes " OK" ++ listed M (offset M (take k row)) m)) (length-take-le k row h.2 ∙ h.0) (put _ (holds_carrying M k row h.2 h.3)))
alike M k n _ row ss Put (inr e) put = rw e (λ h. subst (λ m. Put (codes " OK" ++ listed M (offset M row) m)) (length-take-le k row h.2 ∙ h.0) (put _ (holds_least M k row h.2 h.3)))
