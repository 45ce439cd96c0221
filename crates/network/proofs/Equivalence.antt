-- A list of links fits exactly when its network as measured and its network as wanted are equivalent.
use Rattle.std.proofs.Common.{ℕ, zero, suc, ◌↔◌, List, [], ◌∷◌, refl, arith}
use Rattle.kind.specs.Group.{Quantities}
use Rattle.network.specs.Offsets.{Link, Carries, Fits}
use Rattle.network.specs.Network.{Relabels, Equivalent, measured_network, wanted_network}

module _ (K : Quantities) where
  open K use {Q}

  later : (c : ℕ → Q) (l : Link Q) (links : List (Link Q)) → Carries K c (l ∷ links) → Carries K c links
  later c l links m zero u = absurd (omega arith)
  later c l links m (suc p) u = m (suc (suc p)) (omega arith, omega arith)

  pub relabelled : (c : ℕ → Q) (links : List (Link Q)) → Carries K c links → Relabels K c (measured_network K links) (wanted_network K links)
  relabelled c [] m = tt
  relabelled c (l ∷ links) m = (refl, refl, m 1 (omega arith, omega arith), relabelled c links (later c l links m))

  pub carried_by : (c : ℕ → Q) (links : List (Link Q)) → Relabels K c (measured_network K links) (wanted_network K links) → Carries K c links
  carried_by c [] r p u = absurd (omega arith)
  carried_by c (l ∷ links) r zero u = absurd (omega arith)
  carried_by c (l ∷ links) r (suc zero) u = r.2
  carried_by c (l ∷ links) r (suc (suc p)) u = carried_by c links r.3 (suc p) (omega arith, omega arith)

  pub equivalence : (links : List (Link Q)) → Fits K links ↔ Equivalent K (measured_network K links) (wanted_network K links)
  equivalence links = (λ f. (f.0, relabelled f.0 links f.1), λ e. (e.0, carried_by e.0 links e.1))
