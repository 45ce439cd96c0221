-- The words of a call, as the format writes them.
use Rattle.std.specs.Prelude.{◌≡◌, ℕ, ◌+◌, ◌*◌, ◌^◌, ◌<◌, ◌≤◌, List, [], ◌∷◌, ◌++◌, length, Some, Ok}
use Rattle.report.specs.Words.{signed28}
use Rattle.report.specs.Entries.{Item, size, link, strike, offset, all_offsets, realise, issue, recall, walk, entry_of}

-- a word of a kind
abbrev pub kinded : ℕ → ℕ → ℕ
kinded k n = k * 2 ^ 28 + n

pub data Coded : Item → List ℕ → Type 0 where
  of_size : (n : ℕ) → n < 2 ^ 28 → Coded (size n) (kinded 2 n ∷ [])
  of_link : (i j m w : ℕ) → i < 2 ^ 14 → j < 2 ^ 14 → m < 2 ^ 28 → w < 2 ^ 28
      → Coded (link i j (signed28 m) (signed28 w)) (kinded 3 (i * 2 ^ 14 + j) ∷ kinded 4 m ∷ kinded 5 w ∷ [])
  of_strike : (i j : ℕ) → i < 2 ^ 14 → j < 2 ^ 14 → Coded (strike i j) (kinded 6 (i * 2 ^ 14 + j) ∷ [])
  of_offset : (i j : ℕ) → i < 2 ^ 14 → j < 2 ^ 14 → Coded (offset i j) (kinded 7 (i * 2 ^ 14 + j) ∷ [])
  of_offsets : Coded all_offsets (kinded 8 0 ∷ [])
  of_realise : Coded realise (kinded 9 0 ∷ [])
  of_issue : Coded issue (kinded 12 0 ∷ [])
  of_recall : Coded recall (kinded 13 0 ∷ [])
  of_walk : (ws : List ℕ) → length ws ≤ 1024 → Coded (walk ws) (kinded 14 (length ws) ∷ ws)

-- a call's words are read back as the call, whatever follows
abbrev pub ReadsBack : Type 0
ReadsBack = (p : ℕ) (e : Item) (c rest : List ℕ) → Coded e c → entry_of p (c ++ rest) ≡ Ok (Some e)
