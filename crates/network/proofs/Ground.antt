-- Offsets with the lowest switch of each group at zero: from any that carry the links, take away at each switch what its lowest has.
use Rattle.std.proofs.Common.{◌≡◌, ℕ, ◌≤◌, sym, refl, ap, ◌∙◌, arith}
use Rattle.network.specs.declared.Step.TheVariants.{Forward}
use Rattle.kind.specs.Group.{Quantities}
use Rattle.network.specs.Graph.{Graph, Connected, Upto}
use Rattle.network.proofs.Sums.{sums}
use Rattle.network.proofs.Graph.{same, ahead, trans, back}
use Rattle.network.proofs.Carry.{Moves, Grounded}

-- u is the lowest switch that v is connected with
pub record Least (g : Graph) (k v u : ℕ) : Type 0 where
  pub switch : 1 ≤ u
  pub near : Connected g (Upto k) v u
  pub least : (w : ℕ) → 1 ≤ w → Connected g (Upto k) v w → u ≤ w

module _ (K : Quantities) (g : Graph) (d : ℕ → K.Q) (k : ℕ) where
  one_least : (v w a b : ℕ) → Connected g (Upto k) v w → Least g k v a → Least g k w b → a ≡ b
  one_least v w a b c p q =
      let x : a ≤ b = p.least b q.switch (trans g (Upto k) v w b c q.near) in
      let y : b ≤ a = q.least a p.switch (trans g (Upto k) w v a (back g (Upto k) v w c) p.near) in
      omega arith

  module _ (low : ℕ → ℕ) (is-low : (v : ℕ) → 1 ≤ v → Least g k v (low v)) (c : ℕ → K.Q) where
    abbrev pub grounded : ℕ → K.Q
    grounded v = K.plus (c v) (K.minus (c (low v)))

    pub grounded_moves : ((p : ℕ) → Upto k p → (1 ≤ g.from p) × (1 ≤ g.to p)) → Moves K g d (Upto k) c → Moves K g d (Upto k) grounded
    grounded_moves b m p u =
        let e : low (g.from p) ≡ low (g.to p) = one_least (g.from p) (g.to p) (low (g.from p)) (low (g.to p)) (ahead g (Upto k) (Forward p) u) (is-low (g.from p) (b p u).0) (is-low (g.to p) (b p u).1) in
        ap (λ x. K.plus x (K.minus (c (low (g.to p))))) (m p u) ∙ ap (λ x. K.plus (K.plus (c (g.from p)) (d p)) (K.minus (c x))) (sym e) ∙ simp sums

    pub grounded_zero : Grounded K g d k grounded
    grounded_zero v h lowest =
        let e : low v ≡ v = one_least v v (low v) v (same g (Upto k) v v refl) (is-low v h) (record { switch = h; near = same g (Upto k) v v refl; least = lowest }) in
        ap (λ x. K.plus (c v) (K.minus (c x))) e ∙ simp sums
