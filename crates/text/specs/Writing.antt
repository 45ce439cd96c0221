-- Bytes written into a row, and the text of a word.
use Rattle.std.specs.Prelude.{◌≡◌, ℕ, zero, suc, ◌+◌, ◌/◌, ◌%◌, true, List, [], ◌∷◌, ◌++◌, length, take, drop}
use Rattle.std.specs.Fmt.{digit_glyph}
use Rattle.text.specs.declared.Text.{Text}

-- row' is row with bs written from the place at, up to the place end
pub record Wrote (row : List ℕ) (at : ℕ) (bs row' : List ℕ) (end : ℕ) : Type 0 where
  pub ends : end ≡ at + length bs
  pub front : take end row' ≡ take at row ++ bs
  pub past : drop end row' ≡ drop end row

-- the lowest k hexadecimal digits of w
unfoldable pub hex : ℕ → ℕ → List ℕ
hex zero w = []
hex (suc k) w = hex k (w / 16) ++ (digit_glyph true (w % 16) ∷ [])

-- the bytes that a text holds
abbrev pub bytes_of : Text → List ℕ
bytes_of t = take t.len t.bytes
