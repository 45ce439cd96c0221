-- Logical synchrony networks: a directed graph of switches with a latency on every edge.
use Rattle.std.specs.Prelude.{◌≡◌, ℕ, List, [], ◌∷◌, map}
use Rattle.kind.specs.Group.{Quantities}
use Rattle.network.specs.Offsets.{Link}

pub record Edge (Q : Type 0) : Type 0 where
  pub from : ℕ
  pub to : ℕ
  pub latency : Q

abbrev pub Network : Type 0 → Type 0
Network Q = List (Edge Q)

module _ (K : Quantities) where
  -- Both networks have the same edges; where the first has the latency m from i to j, the second has m + c(j) − c(i).
  abbrev pub Relabels : (ℕ → K.Q) → Network K.Q → Network K.Q → Type 0
  Relabels c [] [] = Unit {0}
  Relabels c [] (b ∷ ws) = ⊥
  Relabels c (a ∷ ms) [] = ⊥
  Relabels c (a ∷ ms) (b ∷ ws) =
      (b.from ≡ a.from) × (b.to ≡ a.to) × (b.latency ≡ K.plus (K.plus a.latency (c a.to)) (K.minus (c a.from)))
      × Relabels c ms ws

  -- one set of offsets turns the one into the other
  abbrev pub Equivalent : Network K.Q → Network K.Q → Type 0
  Equivalent a b = (c : ℕ → K.Q) × Relabels c a b

  -- the network of a list of links as it was measured, and as it is wanted
  abbrev pub as_measured : Link K.Q → Edge K.Q
  as_measured l = record { from = l.from; to = l.to; latency = l.measured }

  abbrev pub as_wanted : Link K.Q → Edge K.Q
  as_wanted l = record { from = l.from; to = l.to; latency = l.wanted }

  abbrev pub measured_network : List (Link K.Q) → Network K.Q
  measured_network links = map as_measured links

  abbrev pub wanted_network : List (Link K.Q) → Network K.Q
  wanted_network links = map as_wanted links
