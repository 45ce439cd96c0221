use Rattle.std.proofs.Common.{◌≡◌, ℕ, suc, ◌+◌, ◌-◌, ◌≤◌, List, length, set, Some, None, sym, ap, ◌∙◌, subst, add-one, arith}
use Rattle.network.specs.Graph.{Graph, place, start, end, reverse, Connected, Upto}
use Rattle.network.specs.declared.Step.{Step}
use Rattle.network.specs.declared.Step.TheVariants.{Forward, Backward}
use Rattle.network.specs.Climb.{Forest}
use Rattle.network.proofs.Turning.{Put}
use Rattle.network.specs.Words.{decode}
use Rattle.search.specs.Parents.{parents}
use Rattle.search.specs.Records.{graph_of, On}
use Rattle.search.proofs.Wiring.{Wired, wired}
use Rattle.search.proofs.Climbs.{put_word}
use Rattle.search.proofs.Hanging.{hang}
use Rattle.search.proofs.forest.hang.Goals as goal

place_turned : (s t : Step) → t ≡ reverse s → place t ≡ place s
place_turned (Forward p) t e = ap place e
place_turned (Backward p) t e = ap place e

end_turned : (g : Graph) (s t : Step) → t ≡ reverse s → end g t ≡ start g s
end_turned g (Forward p) t e = ap (end g) e
end_turned g (Backward p) t e = ap (end g) e

start_on : (g : Graph) (k n : ℕ) → Wired g k n → (s : Step) → 1 ≤ place s → place s ≤ k → On n (start g s)
start_on g k n z (Forward p) a b = (z p a b).0
start_on g k n z (Backward p) a b = (z p a b).1

at_start : (g : Graph) (k n : ℕ) → Wired g (suc k) n → (s t : Step) (i : ℕ) → place s ≡ k + 1 → t ≡ reverse s → i ≡ end g t → (i ≡ start g s) × On n i
at_start g k n z s t i h q e = let r : i ≡ start g s = e ∙ end_turned g s t q in (r, subst (On n) (sym r) (start_on g (suc k) n z s (omega arith) (omega arith)))

pub reroot-requires : goal.reroot-requires
reroot-requires g c =
    let z = wired c.args.net.now.n (suc c.args.k) c.args.net.now.links.now (omega (arith, c.requires.room)) c.args.net.now.sound in
    let a = at_start (graph_of c.args.net.now.links.now) c.args.k c.args.net.now.n z c.args.s c.reversed.result c.far_end-i.result c.requires.next c.reversed.ensures c.far_end-i.ensures in
    record { forest = c.requires.forest; size = c.requires.size; count = omega (arith, c.requires.room); inside = a.1 }

pub overflow_sub-up : goal.overflow_sub-up
overflow_sub-up g c =
    let z = wired c.args.net.now.n (suc c.args.k) c.args.net.now.links.now (omega (arith, c.requires.room)) c.args.net.now.sound in
    (at_start (graph_of c.args.net.now.links.now) c.args.k c.args.net.now.n z c.args.s c.reversed.result c.far_end-i.result c.requires.next c.reversed.ensures c.far_end-i.ensures).1.0

pub bounds-up-i : goal.bounds-up-i
bounds-up-i g c =
    let z = wired c.args.net.now.n (suc c.args.k) c.args.net.now.links.now (omega (arith, c.requires.room)) c.args.net.now.sound in
    let a = at_start (graph_of c.args.net.now.links.now) c.args.k c.args.net.now.n z c.args.s c.reversed.result c.far_end-i.result c.requires.next c.reversed.ensures c.far_end-i.ensures in
    omega (arith, a.1.0, a.1.1, c.requires.size)

-- the forest after the write, over plain values
hung : (g : Graph) (k n : ℕ) (row : List ℕ) (s : Step) (i w : ℕ) → length row ≡ n → Forest g k (parents row) → place s ≡ k + 1 → i ≡ start g s → On n i → parents row i ≡ None → decode w ≡ Some s → (Connected g (Upto k) (start g s) (end g s) → ⊥) → Forest g (k + 1) (parents (set row (i - 1) w))
hung g k n row s i w e f h q o r d a =
    let put : Put (parents row) (parents (set row (i - 1) w)) i (Some s) = subst (Put (parents row) (parents (set row (i - 1) w)) i) d (put_word row i w (o.0, omega (arith, o.1))) in
    let put' : Put (parents row) (parents (set row (i - 1) w)) (start g s) (Some s) = subst (λ i'. Put (parents row) (parents (set row (i - 1) w)) i' (Some s)) q put in
    subst (λ m. Forest g m (parents (set row (i - 1) w))) (sym (add-one k)) (hang g k (parents row) f s (h ∙ add-one k) (parents (set row (i - 1) w)) (ap (parents row) (sym q) ∙ r) a put')

pub returns : goal.returns
returns g c =
    let z = wired c.args.net.now.n (suc c.args.k) c.args.net.now.links.now (omega (arith, c.requires.room)) c.args.net.now.sound in
    let a = at_start (graph_of c.args.net.now.links.now) c.args.k c.args.net.now.n z c.args.s c.reversed.result c.far_end-i.result c.requires.next c.reversed.ensures c.far_end-i.ensures in
    hung (graph_of c.args.net.now.links.now) c.args.k c.args.net.now.n c.reroot.new.up c.args.s c.far_end-i.result c.word.result (c.reroot.auto.up ∙ c.requires.size) c.reroot.ensures.still c.requires.next a.0 a.1 c.reroot.ensures.root (c.word.ensures.back (omega (arith, c.requires.next, c.requires.room, c.args.net.now.few))) c.requires.apart
