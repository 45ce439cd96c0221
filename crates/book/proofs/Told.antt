-- The steps that a row tells are those that were written.
use Rattle.std.proofs.Common.{◌≡◌, ℕ, ◌≤◌, List, [], ◌∷◌, ◌++◌, map, length, take, Some, Ok, Err, Result, sym, refl, ap, ◌∙◌, arith}
use Rattle.std.proofs.lemmas.Bool.Decides.{nat_tests}
use Rattle.std.proofs.lemmas.List.{length-take}
use Rattle.kind.specs.Group.{Quantities}
use Rattle.calls.specs.declared.Refusal.TheVariants.{Contradicts, NegativeLoop}
use Rattle.calls.specs.State.{refused}
use Rattle.book.specs.declared.store.Refused.{Refused}
use Rattle.kind.specs.Meaning.{Meaning}
use Rattle.book.specs.Memory.{shown, shown_answer, shown_offsets}
use Rattle.network.specs.declared.Step.{Step}
use Rattle.network.specs.declared.Step.TheVariants.{Forward, Backward}
use Rattle.network.specs.Graph.{Graph, place, end, Walk}
use Rattle.network.specs.Offsets.{Link, graph, Positions}
use Rattle.network.specs.Theorems.{Linked, Joins}
use Rattle.network.specs.Words.{word, decode, one, steps_of}
use Rattle.network.proofs.Graph.{near_dec}
use Rattle.search.specs.Written.{Written}
use Rattle.search.specs.Verdict.{WayBack}

decode_word : (s : Step) → place s ≤ 8192 → decode (word s) ≡ Some s
decode_word (Forward p) h = grind (arith, nat_tests)
decode_word (Backward p) h = grind (arith, nat_tests)

pub read_back : (g : Graph) (A : ℕ → Type 0) → ((p : ℕ) → A p → p ≤ 8192) → (i : ℕ) (ss : List Step) (j : ℕ) → Walk g A i ss j → steps_of (map word ss) ≡ ss
read_back g A f i [] j w = refl
read_back g A f i (s ∷ ss) j (e, a, w) = ap (λ o. one o ++ steps_of (map word ss)) (decode_word s (f (place s) a)) ∙ ap (λ ts. s ∷ ts) (read_back g A f (end g s) ss j w)

-- a refusal shows fewer steps than a walk may have words
pub shown_few : {X : Type 0} (r : Result X Refused) (row : List ℕ) (n : ℕ) → shown r ≤ n → n ≤ 1024 → length (take (shown r) row) ≤ 65536
shown_few r row n few small = omega (arith, length-take (shown r) row)

module _ (K : Quantities) (links : List (Link K.Q)) (l : Link K.Q) (row row' : List ℕ) (m : ℕ) (ss : List Step) (few : length links ≤ 8192) (b : WayBack K links l ss) (w : Written row row' m ss) where
  pub told : steps_of (take m row') ≡ ss
  told = ap steps_of w.front ∙ go (near_dec (graph K links) (length links) l.to l.from)
    where
      go : Dec (Linked K links l.to l.from) → steps_of (map word ss) ≡ ss
      go (yes c) = read_back (graph K links) (Joins K links) (λ p j. let h = j.1 in omega arith) l.to ss l.from (b.0 c).0
      go (no n) = let e = b.1 n in ap (λ ts. steps_of (map word ts)) e ∙ sym e

  pub words_told : take m row' ≡ map word (steps_of (take m row'))
  words_told = w.front ∙ ap (map word) (sym told)

-- the words of a refusal that shows steps are those of the steps
pub shown_words : {Q : Type 0} (r : Result (Unit {0}) Refused) (row : List ℕ) → take (shown r) row ≡ map word (steps_of (take (shown r) row))
    → (ss : List Step) → shown_answer {Q = Q} r row ≡ refused Contradicts ss → take (shown r) row ≡ map word ss
shown_words (Ok u) row w ss e = absurd (cc)
shown_words (Err x) row w ss e = let q : steps_of (take x.shown row) ≡ ss = cc in w ∙ ap (map word) q

pub shown_loop : {L T : Type 0} (M : Meaning L T) (r : Result (Unit {0}) Refused) (ts : List T) (row : List ℕ) → take (shown r) row ≡ map word (steps_of (take (shown r) row))
    → (ss : List Step) → shown_offsets M r ts row ≡ refused NegativeLoop ss → take (shown r) row ≡ map word ss
shown_loop M (Ok u) ts row w ss e = absurd (cc)
shown_loop M (Err x) ts row w ss e = let q : steps_of (take x.shown row) ≡ ss = cc in w ∙ ap (map word) q

-- the steps of a walk over standing links, written as words, are told by the row
module _ (K : Quantities) (links : List (Link K.Q)) (v u : ℕ) (row row' : List ℕ) (m : ℕ) (ss : List Step) (few : length links ≤ 8192) (w : Walk (graph K links) (Positions K links) v ss u) (x : Written row row' m ss) where
  pub walk_told : steps_of (take m row') ≡ ss
  walk_told = ap steps_of x.front ∙ read_back (graph K links) (Positions K links) (λ p h. let a = h.1 in omega arith) v ss u w

  pub walk_words : take m row' ≡ map word (steps_of (take m row'))
  walk_words = x.front ∙ ap (map word) (sym walk_told)
