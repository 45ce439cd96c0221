-- Records and the network that they draw.
use Rattle.std.proofs.Common.{◌≡◌, ℕ, zero, suc, ◌-◌, ◌<◌, ◌≤◌, List, [], ◌∷◌, map, length, get_or, sym, refl, ap, ◌∙◌, arith}
use Rattle.std.proofs.lemmas.List.{get_or-map}
use Rattle.kind.specs.Meaning.{Meaning}
use Rattle.network.specs.Offsets.{nowhere, at, graph}
use Rattle.network.specs.Graph.{Graph, Joining, place, end}
use Rattle.network.specs.declared.Step.{Step}
use Rattle.network.specs.declared.Step.TheVariants.{Forward, Backward}
use Rattle.search.specs.Records.{link_of, first, second, graph_of, On, Sound}
use Rattle.search.specs.declared.link.Link.{Link as Record}

-- the number that f reads of the record at position p
pub read_at : {L : Type 0} (f : Record L → ℕ) (links : List (Record L)) (p : ℕ) (r : Record L) → 1 ≤ p → p ≤ length links → r ≡ get_or links (p - 1) r → f r ≡ get_or (0 ∷ map f links) p 0
read_at f links zero r a b e = absurd (omega arith)
read_at f links (suc p) r a b e =
    let q : suc p - 1 ≡ p = omega arith in
    ap f (e ∙ ap (λ i. get_or links i r) q) ∙ sym (get_or-map f links p r 0 (omega arith))

pub some : {X : Type 0} (xs : List X) → 0 < length xs → X
some [] h = absurd (omega arith)
some (x ∷ xs) h = x

-- the ends of the links up to k are switches
abbrev pub Wired : Graph → ℕ → ℕ → Type 0
Wired g k n = (p : ℕ) → 1 ≤ p → p ≤ k → On n (g.from p) × On n (g.to p)

pub wired : {L : Type 0} (n k : ℕ) (links : List (Record L)) → k ≤ length links → Sound n links → Wired (graph_of links) k n
wired n k links h s zero a b = absurd (omega arith)
wired n k links h s (suc p) a b =
    let l : p < length links = omega arith in
    let d = some links (omega arith) in
    let w = s p l d in
    let x : get_or (map first links) p 0 ≡ (get_or links p d).from = get_or-map first links p d 0 l in
    let y : get_or (map second links) p 0 ≡ (get_or links p d).to = get_or-map second links p d 0 l in
    ((omega (arith, w.0), omega (arith, w.1)), (omega (arith, w.2), omega (arith, w.3)))

pub end_on : (g : Graph) (k n : ℕ) → Wired g k n → (s : Step) → Joining g k (place s) → On n (end g s)
end_on g k n z (Forward p) j = (z p j.0 j.1).1
end_on g k n z (Backward p) j = (z p j.0 j.1).0

-- the link that a record means stands at its position
pub link_at : {L T : Type 0} (M : Meaning L T) (links : List (Record L)) (p : ℕ) (r : Record L) → 1 ≤ p → p ≤ length links → r ≡ get_or links (p - 1) r → at M.quantities (map (link_of M) links) p ≡ link_of M r
link_at M links zero r a b e = absurd (omega arith)
link_at M links (suc p) r a b e =
    let q : suc p - 1 ≡ p = omega arith in
    get_or-map (link_of M) links p r (nowhere M.quantities) (omega arith) ∙ sym (ap (link_of M) (e ∙ ap (λ i. get_or links i r) q))

froms : {L T : Type 0} (M : Meaning L T) (links : List (Record L)) (p : ℕ) → get_or (map first links) p 0 ≡ (get_or (map (link_of M) links) p (nowhere M.quantities)).from
froms M [] p = refl
froms M (x ∷ xs) zero = refl
froms M (x ∷ xs) (suc p) = froms M xs p

tos : {L T : Type 0} (M : Meaning L T) (links : List (Record L)) (p : ℕ) → get_or (map second links) p 0 ≡ (get_or (map (link_of M) links) p (nowhere M.quantities)).to
tos M [] p = refl
tos M (x ∷ xs) zero = refl
tos M (x ∷ xs) (suc p) = tos M xs p

pub from_at : {L T : Type 0} (M : Meaning L T) (links : List (Record L)) (p : ℕ) → (graph_of links).from p ≡ (graph M.quantities (map (link_of M) links)).from p
from_at M links zero = refl
from_at M links (suc p) = froms M links p

pub to_at : {L T : Type 0} (M : Meaning L T) (links : List (Record L)) (p : ℕ) → (graph_of links).to p ≡ (graph M.quantities (map (link_of M) links)).to p
to_at M links zero = refl
to_at M links (suc p) = tos M links p

-- the two charts are one
pub one_graph : {L T : Type 0} (M : Meaning L T) (links : List (Record L)) → graph_of links ≡ graph M.quantities (map (link_of M) links)
one_graph M links = λ i. record { from = λ p. from_at M links p i; to = λ p. to_at M links p i }

pub link_here : {L T : Type 0} (M : Meaning L T) (links : List (Record L)) (k : ℕ) (r : Record L) → k < length links → r ≡ get_or links k r → at M.quantities (map (link_of M) links) (suc k) ≡ link_of M r
link_here M links k r l e = get_or-map (link_of M) links k r (nowhere M.quantities) l ∙ sym (ap (link_of M) e)
