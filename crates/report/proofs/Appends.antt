-- One put of a writer after another.
use Rattle.std.proofs.Common.{◌≡◌, ℕ, ◌≤◌, List, [], ◌++◌, length, take, refl, ap, ◌∙◌, subst, arith, length-append, length-drop}
use Rattle.std.proofs.lemmas.List.{length-take}
use Rattle.text.specs.Writing.{Wrote}
use Rattle.text.proofs.Writes as writes
use Rattle.report.specs.Appending.{SameRow, Appended}
use Rattle.report.specs.declared.writer.RowWriter.{RowWriter}

pub still : {u v w : RowWriter} → SameRow u v → SameRow v w → SameRow u w
still p q = record { name = q.name ∙ p.name; length = q.length ∙ p.length }

pub unmoved : (w : RowWriter) → SameRow w w
unmoved w = record { name = refl; length = refl }

pub none : (w : RowWriter) → Appended w [] w
none w = record { same = unmoved w; wrote = writes.none _ _ }

pub then : {u v w : RowWriter} {bs cs : List ℕ} → Appended u bs v → Appended v cs w → Appended u (bs ++ cs) w
then p q = record { same = still p.same q.same; wrote = writes.then p.wrote q.wrote }

pub as_long : (a bs b : List ℕ) (i j : ℕ) → Wrote a i bs b j → j ≤ length a → length b ≡ length a
as_long a bs b i j w h =
    omega (arith, w.ends, ap length w.front, ap length w.past, length-take j b, length-take i a, length-drop j a, length-drop j b, length-append (take i a) bs)

-- what a new writer leaves in its row
pub whole : (u w : RowWriter) (bs row row' : List ℕ) (end : ℕ) → Appended u bs w → u.row.now ≡ row → u.len ≡ 0 → row' ≡ w.row.now → end ≡ w.len → Wrote row 0 bs row' end
whole u w bs row row' end p a b c d = rw (c, d, ← a) (subst (λ (i : ℕ). Wrote u.row.now i bs w.row.now w.len) b p.wrote)

pub landed : (a bs b b' : List ℕ) (k k' : ℕ) → Wrote a 0 bs b k → b' ≡ b → k' ≡ k → Wrote a 0 bs b' k'
landed a bs b b' k k' w p q = rw (p, q) w
