-- Offsets read off the forest: what lies between a switch and its root. They carry every link if any offsets do.
use Rattle.std.proofs.Common.{◌≡◌, ℕ, ◌∷◌, Some, Option, sym, ap, ◌∙◌, inl, inr}
use Rattle.network.specs.declared.Step.{Step}
use Rattle.network.specs.declared.Step.TheVariants.{Forward, Backward}
use Rattle.kind.specs.Group.{Quantities}
use Rattle.network.specs.Graph.{Graph, end, Upto, Joining}
use Rattle.network.specs.Climb.{Held, Forest}
use Rattle.network.specs.Offsets.{tally}
use Rattle.network.proofs.Sums.{sums}
use Rattle.network.proofs.Climb.{one_climb}
use Rattle.network.proofs.Carry.{Moves, joining_suffice}

module _ (K : Quantities) (g : Graph) (d : ℕ → K.Q) (k : ℕ) (up : ℕ → Option Step) (f : Forest g k up) where
  abbrev pub potential : ℕ → K.Q
  potential v = K.minus (tally K d (f.climbs v).0)

  on_the_way : (v : ℕ) (s : Step) → up v ≡ Some s → (f.climbs v).0 ≡ s ∷ (f.climbs (end g s)).0
  on_the_way v s e = let a = f.climbs v in let b = f.climbs (end g s) in (one_climb g up v a.0 a.1 (s ∷ b.0) b.1 a.2 (e, b.2)).0

  pub potential_moves : Moves K g d (Joining g k) potential
  potential_moves p j = go (f.held p j)
    where
      go : Held g up p → potential (g.to p) ≡ K.plus (potential (g.from p)) (d p)
      go (inl a) = sym (ap (λ ss. K.plus (K.minus (tally K d ss)) (d p)) (on_the_way (g.from p) (Forward p) a) ∙ simp sums)
      go (inr a) = ap (λ ss. K.minus (tally K d ss)) (on_the_way (g.to p) (Backward p) a) ∙ simp sums

  pub potential_carries : (c : ℕ → K.Q) → Moves K g d (Upto k) c → Moves K g d (Upto k) potential
  potential_carries c m = joining_suffice K g d k c m potential potential_moves
