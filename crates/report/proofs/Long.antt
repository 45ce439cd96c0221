-- The words of an entry are there.
use Rattle.std.proofs.Common.{◌≡◌, ℕ, zero, suc, ◌+◌, ◌-◌, ◌*◌, ◌≤◌, Bool, true, false, cond, List, [], ◌∷◌, length, Some, None, Ok, refl, arith}
use Rattle.std.proofs.lemmas.Bool.Decides.{nat_tests}
use Rattle.std.proofs.lemmas.List.{length-take}
use Rattle.report.specs.Words.{words_of, body}
use Rattle.report.specs.Entries.{entry_of, word_of, bare_of, link_of, walk_of, headed, opening, upcoming, width, taken, Item}
use Rattle.report.specs.Reading.{Reading, ahead}
use Rattle.report.specs.declared.file.FileKind.{FileKind}
use Rattle.report.proofs.Front.{words_count}

pub words_fit : (xs : List ℕ) → 4 * length (words_of xs) ≤ length xs
words_fit xs = omega (arith, words_count xs)

pub link_fits : (p w : ℕ) (ws : List ℕ) (e : Item) → link_of p w ws ≡ Ok (Some e) → width e ≤ suc (length ws)
link_fits p w [] e h = grind (arith, nat_tests)
link_fits p w (m ∷ []) e h = grind (arith, nat_tests)
link_fits p w (m ∷ v ∷ ws) e h = grind (arith, nat_tests)

pub walk_fits : (p n : ℕ) (ws : List ℕ) (e : Item) → walk_of p n ws ≡ Ok (Some e) → width e ≤ suc (length ws)
walk_fits p n ws e h = let k = length-take n ws in grind (arith, nat_tests)

bare_fits : (p w : ℕ) (e : Item) → bare_of p w ≡ Ok (Some e) → width e ≤ 1
bare_fits p w e h = grind (arith, nat_tests)

word_fits : (p w : ℕ) (e : Item) → word_of p w ≡ Ok (Some e) → width e ≤ 1
word_fits p w e h = let b = bare_fits p w e in grind (arith, nat_tests)

pub entry_fits : (p : ℕ) (ws : List ℕ) (e : Item) → entry_of p ws ≡ Ok (Some e) → width e ≤ length ws
entry_fits p [] e h = grind (arith, nat_tests)
entry_fits p (w ∷ ws) e h = let k = link_fits p w ws e in let l = walk_fits p (body w) ws e in let b = word_fits p w e in grind (arith, nat_tests)

pub headed_fits : (kind : FileKind) (ws : List ℕ) (e : Item) → headed kind ws ≡ Ok (Some e) → 1 + width e ≤ length ws
headed_fits kind [] e h = grind (arith, nat_tests)
headed_fits kind (w ∷ ws) e h = let k = entry_fits 2 ws e in grind (arith, nat_tests)

opening_fits : (kind : FileKind) (bs : List ℕ) (e : Item) → opening kind bs ≡ Ok (Some e) → (4 * (1 + width e) ≤ length bs) × (length bs ≤ 65536)
opening_fits kind bs e h =
    let w = words_fit bs in
    let i = headed_fits kind (words_of bs) e in
    (grind (arith, nat_tests), grind (arith, nat_tests))

-- an entry's words are there, and the first is of a file that is not too long
fits_at : (kind : FileKind) (z : Bool) (read : ℕ) (bs : List ℕ) (e : Item) → cond z (Ok None) (upcoming kind read bs) ≡ Ok (Some e) → (4 * taken read e ≤ length bs) × (read ≡ 0 → length bs ≤ 65536)
fits_at kind true read bs e h = absurd (let z : ◌≡◌ {A = ℕ} 0 1 = cc in omega arith)
fits_at kind false zero bs e h = let o = opening_fits kind bs e h in (omega arith, λ _. o.1)
fits_at kind false (suc n) bs e h =
    let k = entry_fits (suc n + 1) (words_of bs) e in
    let w = words_fit bs in
    (grind (arith, nat_tests), λ z. absurd (omega arith))

pub ahead_fits : (r : Reading) (e : Item) → ahead r ≡ Ok (Some e) → (4 * taken r.read e ≤ length r.bytes) × (r.read ≡ 0 → length r.bytes ≤ 65536)
ahead_fits r e h = fits_at r.kind r.ended r.read r.bytes e h

pub within : (read k n m : ℕ) → (1 ≤ read → 4 * read + n ≤ 65536) → (read ≡ 0 → n ≤ 65536) → 4 * k ≤ n → m ≡ n - 4 * k → 4 * (read + k) + m ≤ 65536
within zero k n m f g h e = omega (arith, g refl)
within (suc read) k n m f g h e = omega (arith, f (omega arith))

pub bounded : (r : Reading) (e : Item) (k : ℕ) → ahead r ≡ Ok (Some e) → (1 ≤ r.read → 4 * r.read + length r.bytes ≤ 65536) → k ≡ taken r.read e → 4 * (r.read + k) ≤ 65536
bounded r e k h p q =
    let f = ahead_fits r e h in
    omega (arith, within r.read k (length r.bytes) (length r.bytes - 4 * k) p f.1 (omega (arith, f.0)) refl)

-- a walk in a file has no more than 1,024 words
walk_short : (p n : ℕ) (ws : List ℕ) (e : Item) → walk_of p n ws ≡ Ok (Some e) → width e ≤ 1025
walk_short p n ws e h = let k = length-take n ws in grind (arith, nat_tests)

link_short : (p w : ℕ) (ws : List ℕ) (e : Item) → link_of p w ws ≡ Ok (Some e) → width e ≤ 3
link_short p w [] e h = grind (arith, nat_tests)
link_short p w (m ∷ []) e h = grind (arith, nat_tests)
link_short p w (m ∷ v ∷ ws) e h = grind (arith, nat_tests)

entry_short : (p : ℕ) (ws : List ℕ) (e : Item) → entry_of p ws ≡ Ok (Some e) → width e ≤ 1025
entry_short p [] e h = grind (arith, nat_tests)
entry_short p (w ∷ ws) e h = let k = link_short p w ws e in let l = walk_short p (body w) ws e in let b = word_fits p w e in grind (arith, nat_tests)

headed_short : (kind : FileKind) (ws : List ℕ) (e : Item) → headed kind ws ≡ Ok (Some e) → width e ≤ 1025
headed_short kind [] e h = grind (arith, nat_tests)
headed_short kind (w ∷ ws) e h = let k = entry_short 2 ws e in grind (arith, nat_tests)

opening_short : (kind : FileKind) (bs : List ℕ) (e : Item) → opening kind bs ≡ Ok (Some e) → width e ≤ 1025
opening_short kind bs e h = let i = headed_short kind (words_of bs) e in grind (arith, nat_tests)

pub ahead_short : (r : Reading) (e : Item) → ahead r ≡ Ok (Some e) → width e ≤ 1025
ahead_short r e h = let o = opening_short r.kind r.bytes e in let k = entry_short (r.read + 1) (words_of r.bytes) e in grind (arith, nat_tests)
